-- "Trees to compare": those marked M, in one table with one proposition about it; h as bytes, both ways; the lister's
-- lines of p(z,z), and of forests that tell what is counted; constants with marks.
-- Assumes nothing.
use Rattle.std.specs.Prelude.{ℕ, ◌+◌, ◌*◌, ◌≡◌, refl, Bool, true, false, ◌&&◌, List, [], ◌∷◌, ◌++◌, eqb}
use Rattle.model.specs.Lists.{same}
use Rattle.model.specs.Bytes.{put32}
use Rattle.model.specs.Answer.{Answer, refused, good}
use Rattle.model.specs.Tree.{rec, Tree, Trees, node, nil, cons, serialise}
use Rattle.model.specs.Accept.{accept}
use Rattle.model.specs.Materialize.{val_use_of, val_def_of}
use Rattle.model.specs.Call.{Written, ample, run}
use Rattle.model.specs.Text.{text}
use Rattle.model.specs.Lister.{lister}
use Rattle.model.specs.Computing.{computing}

-- ---- the paper's letters

-- Zero under FE
abbrev pub z : Tree
z = node (rec 2 0xFE 0 []) nil

-- HEIGHT
abbrev pub h : Tree
h = node (rec 2 0xA3 0 []) nil

-- an SInt, with a mark
abbrev pub k_of : ℕ → Tree
k_of m = node (rec 0 0 (3 + 7 * m) (4 ∷ 2 ∷ [])) nil

abbrev pub k : Tree
k = k_of 0

-- an other-class constant, with a mark
abbrev pub x_of : ℕ → Tree
x_of m = node (rec 0 0 (6 + 7 * m) (7 ∷ 1 ∷ [])) nil

abbrev pub x : Tree
x = x_of 0

-- One under F0
abbrev pub n : Tree → Tree
n a = node (rec 3 0xF0 0 []) (cons a nil)

-- Two under 9A
abbrev pub p : Tree → Tree → Tree
p a b = node (rec 4 0x9A 0 []) (cons a (cons b nil))

abbrev pub if : Tree → Tree → Tree → Tree
if a b c = node (rec 5 0x95 0 []) (cons a (cons b (cons c nil)))

-- field 1
abbrev pub s1 : Tree → Tree
s1 a = node (rec 17 0x8C 0 (1 ∷ [])) (cons a nil)

abbrev pub tuple : Tree → Tree → Tree
tuple a b = node (rec 16 0x86 0 []) (cons a (cons b nil))

-- a lambda, its argument without type
abbrev pub L : ℕ → Tree → Tree
L i b = node (rec 12 0xD9 1 (put32 i ++ (0 ∷ []))) (cons b nil)

-- a use, in the paper a bare number
abbrev pub u : ℕ → Tree
u = val_use_of

-- a block, in the paper braces: {i=a; r} and {i=a; j=b; r}
abbrev pub block1 : ℕ → Tree → Tree → Tree
block1 i a r = node (rec 11 0xD8 0 []) (cons (val_def_of i a) (cons r nil))

abbrev pub block2 : ℕ → Tree → ℕ → Tree → Tree → Tree
block2 i a j b r = node (rec 11 0xD8 0 []) (cons (val_def_of i a) (cons (val_def_of j b) (cons r nil)))

-- ---- the table

-- the written tree and the readings, or a refusal's number and place
pub data Want : Type 0 where
  tree : Tree → ℕ → Want
  no : ℕ → ℕ → Want

abbrev pub one : Tree → Trees
one t = cons t nil

pub table : List (Trees × Want)
table =
    (one h, tree h 1) ∷
    (one (p h h), tree (p h h) 3) ∷
    (one (p k k), tree (p k k) 3) ∷
    (one (p z z), tree (block1 1 z (p (u 1) (u 1))) 3) ∷
    (one (p x x), tree (block1 1 x (p (u 1) (u 1))) 3) ∷
    (one (p (n z) (n z)), tree (block1 1 (n z) (p (u 1) (u 1))) 5) ∷
    (one (if z (n z) (n z)), tree (block1 1 z (if (u 1) (n (u 1)) (n (u 1)))) 6) ∷
    (cons (n z) (one (if z (n z) (n z))), tree (block2 1 z 2 (n (u 1)) (if (u 1) (u 2) (u 2))) 8) ∷
    (one (if z (s1 z) (s1 z)), tree (block1 1 z (if (u 1) (block1 2 (s1 (u 1)) (u 2)) (s1 (u 1)))) 6) ∷
    (one (L 7 (p (n (u 7)) (n (u 7)))), tree (L 1 (block1 3 (n (u 1)) (p (u 3) (u 3)))) 6) ∷
    (one (L 7 (p (n z) (n z))), tree (block1 1 (n z) (L 2 (p (u 1) (u 1)))) 6) ∷
    (one (s1 (tuple z z)), tree (block1 1 z (s1 (tuple (u 1) (u 1)))) 7) ∷
    (one (u 3), no 10 0) ∷
    (one (L 1 (L 1 (u 1))), no 9 1) ∷
    []

-- with marks (request A.5): scalars of two marks; others of equal marks, of two, of 0 and the greatest; aux 251 and 252
pub marked : List (Trees × Want)
marked =
    (one (p (k_of 1) (k_of 1)), tree (p (k_of 1) (k_of 1)) 3) ∷
    (one (p (k_of 1) (k_of 2)), tree (p (k_of 1) (k_of 2)) 3) ∷
    (one (p (x_of 1) (x_of 1)), tree (block1 1 (x_of 1) (p (u 1) (u 1))) 3) ∷
    (one (p (x_of 1) (x_of 2)), tree (p (x_of 1) (x_of 2)) 3) ∷
    (one (p x (x_of 35)), tree (p x (x_of 35)) 3) ∷
    (one (p z (node (rec 0 0 251 (7 ∷ [])) nil)), tree (p z (node (rec 0 0 251 (7 ∷ [])) nil)) 3) ∷
    (one (p z (node (rec 0 0 252 (7 ∷ [])) nil)), no 4 2) ∷
    []

-- an answer is what is wanted: the bytes of the wanted tree and its readings, or the refusal
pub holds : Answer Written → Want → Bool
holds (good w) (tree t rs) = same w.bytes (serialise (one t)) && eqb w.readings rs
holds (good w) (no m at) = false
holds (refused m at) (tree t rs) = false
holds (refused m at) (no m' at') = eqb m m' && eqb at at'

pub right : Trees × Want → Bool
unfolding computing holds
right r = holds (run (ample (serialise r.0))) r.1

pub all : List (Trees × Want) → Bool
unfolding right
all [] = true
all (r ∷ rs) = right r && all rs

pub examples : all table ≡ true
unfolding all table
examples = refl

pub examples_marked : all marked ≡ true
unfolding all marked
examples_marked = refl

-- ---- h as bytes, both ways

abbrev h_bytes : List ℕ
h_bytes = 0x01 ∷ 0x00 ∷ 0x01 ∷ 0x00 ∷ 0x08 ∷ 0x00 ∷ 0x05 ∷ 0x00 ∷ 0x02 ∷ 0xA3 ∷ 0x00 ∷ 0x00 ∷ 0x00 ∷ []

pub h-written : serialise (one h) ≡ h_bytes
unfolding computing
h-written = refl

pub h-read : accept h_bytes ≡ good (one h)
unfolding computing
h-read = refl

-- ---- the lister's lines

pub lines : lister (serialise (one (p z z))) ≡ text "symbols 2\n0 O FE 0 2 y\n1 O 9A 0 0 n\n1 -31\n0 hoisted in scope 0\n1 used at most once\n"
unfolding computing
lines = refl

-- the uses by an environment tree do not count, and its symbols have no rule
pub lines_unreached : lister (serialise (cons (n (p z z)) (one (n z)))) ≡
    text "symbols 4\n0 O FE 0 1 n\n1 O 9A 0 0 n\n2 O F0 0 0 n\n3 O F0 0 0 n\n0 used at most once\n3 used at most once\n"
unfolding computing
lines_unreached = refl

-- two marks, two symbols, and none has y
pub lines_marked : lister (serialise (one (p (x_of 1) (x_of 2)))) ≡
    text "symbols 3\n0 C 00 0 1 n\n1 C 00 0 1 n\n2 O 9A 0 0 n\n0 used at most once\n1 used at most once\n2 used at most once\n"
unfolding computing
lines_marked = refl

-- an argument that is used twice has y, though it gets no definition
pub lines_argument : lister (serialise (one (L 7 (p (u 7) (u 7))))) ≡
    text "symbols 3\n0 A 00 0 2 y\n1 O 9A 1 1 n\n2 O D9 0 0 n\n0 argument\n1 used at most once\n2 used at most once\n"
unfolding computing
lines_argument = refl
