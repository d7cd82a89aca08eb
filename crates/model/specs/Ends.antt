-- Where a subtree ends (request A.12): "The check of a forest now also hands out, for each record, the number of the first
-- record after its subtree." Records are numbered over the whole forest; of the last one that number is the record count.
-- That these subtrees are those of the file's child counts is `file_extents` in `theory`.
-- In order: the ends of records; the 256 entries; the check as a call of its own.
-- Assumes nothing.
use Rattle.std.specs.Prelude.{ℕ, suc, ◌+◌, ◌-◌, List, [], ◌∷◌, ◌++◌, length, replicate}
use Rattle.model.specs.Answer.{Answer, refused, good, unless}
use Rattle.model.specs.Tree.{Trees}
use Rattle.model.specs.Accept.{accept}
use Rattle.model.specs.Call.{check1}
use Rattle.model.specs.Nesting.{extents_in}

-- ---- ends

-- of records from number i on, whose subtrees have so many records: `end_of` of each (Nesting)
unfoldable pub ends_from : ℕ → List ℕ → List ℕ
ends_from i [] = []
ends_from i (n ∷ ns) = (i + n) ∷ ends_from (suc i) ns

-- of the records of accepted trees
unfoldable pub ends_of : Answer Trees → List ℕ
ends_of (refused n p) = []
ends_of (good ts) = ends_from 0 (extents_in ts)

-- ---- "Of its 256 entries those past the last record, and all after a refusal, are zero"

unfoldable pub entries_of : Answer Trees → List ℕ
entries_of a = ends_of a ++ replicate (256 - length (ends_of a)) 0

abbrev pub entries : List ℕ → List ℕ
entries forest = entries_of (accept forest)

-- ---- the check as a call: it refuses with 1 to 10 and 16

-- of a forest, with so many work words
unfoldable pub checking : ℕ → List ℕ → Answer Trees
checking words forest = unless 1 (check1 words) (accept forest)

-- its number and place
unfoldable pub told : Answer Trees → ℕ × ℕ
told (refused n p) = (n, p)
told (good ts) = (0, 0)
