-- What the program prints. In order: a forest's line, which is what checks 2 to 10 and 16 say of it and where its subtrees
-- end; a row of the list; the lines of its rows.
-- Assumes nothing.
use Rattle.std.specs.Prelude.{◌≡◌, ℕ, zero, suc, ◌+◌, Bool, true, false, ◌&&◌, List, [], ◌∷◌, ◌++◌, leb, length, take, drop, Option, None, Some}
use Rattle.std.specs.Io.KnownBytes.{Appends}
use Rattle.model.specs.Bytes.{u32}
use Rattle.model.specs.Answer.{Answer, refused, good}
use Rattle.model.specs.Tree.{Trees}
use Rattle.model.specs.Accept.{accept}
use Rattle.model.specs.Ends.{ends_of}
use Rattle.model.specs.Text.{text}
use Rattle.model.specs.Lister.{numeral, refusal}

-- numbers in decimal, each after a space
unfoldable pub spaced : List ℕ → List ℕ
spaced [] = []
spaced (n ∷ ns) = text " " ++ numeral n ++ spaced ns

-- of an accepted forest, whose records' subtrees end there
unfoldable pub accepted : List ℕ → List ℕ
accepted ends = text "accepted" ++ spaced ends ++ text "\n"

unfoldable pub line_of : Answer Trees → List ℕ
line_of (refused n p) = refusal n p
line_of (good ts) = accepted (ends_of (good ts))

abbrev pub line : List ℕ → List ℕ
line bs = line_of (accept bs)

-- ---- rows

-- the forest of the row that a list begins with, a 32-bit length and so many bytes; none where the list ends within the
-- row, or the forest has more than `room` bytes
unfoldable pub forest_of : ℕ → List ℕ → Option (List ℕ)
forest_of room bs =
    elim (leb 4 (length bs) && leb (u32 bs) room && leb (4 + u32 bs) (length bs)) [
      | true ↦ Some (take (u32 bs) (drop 4 bs))
      | false ↦ None
    ]

-- the list's row was answered, and what is left of the list stands behind it; or there is none, and nothing was printed
abbrev pub Answered : Option (List ℕ) → List ℕ → Bool → Option (List ℕ) → Option (List ℕ) → Option (List ℕ) → Type 0
Answered None bs more left old new = (more ≡ false) × Appends old new []
Answered (Some f) bs more left old new =
    (more ≡ true) × (left ≡ Some (drop (4 + length f) bs)) × Appends old new (line f)

-- the lines of up to n rows
unfoldable pub lines : ℕ → ℕ → List ℕ → List ℕ
lines room zero bs = []
lines room (suc n) bs =
    elim (forest_of room bs) [ None ↦ [] | Some f ↦ line f ++ lines room n (drop (4 + length f) bs) ]
