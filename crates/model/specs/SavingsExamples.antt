-- Savings, computed: of the tree that is written for p(z,z), from the forest's bytes; over zero, of zero and of -1; where an
-- id is bound again. Each sum is the count over records. At the end, lines.
-- Assumes nothing.
use Rattle.std.specs.Prelude.{ℕ, ◌≡◌, refl, List, [], ◌∷◌, ℤ, pos, negsuc, replicate}
use Rattle.model.specs.Answer.{Answer, refused, good}
use Rattle.model.specs.Tree.{rec, Tree, node, nil, cons, serialise}
use Rattle.model.specs.Call.{Written, ample, run}
use Rattle.model.specs.Savings.{savings, SumIsCount}
use Rattle.model.specs.Text.{text}
use Rattle.model.specs.Lister.{saving_lines}
use Rattle.model.specs.Computing.{computing}
use Rattle.model.specs.Examples.{z, n, p, u, L, s1, block1, block2, one}

-- of the tree that a call writes
abbrev of_call : Answer Written → List (ℕ × ℤ)
of_call (refused m at) = []
of_call (good w) = savings (cons w.tree nil)

-- savings of a tree, with their sum
abbrev Saves : Tree → List (ℕ × ℤ) → Type 0
Saves t l = (savings (one t) ≡ l) × SumIsCount (one t)

-- "For p(z,z) the line is `1 -31`": -31 is `negsuc 30`
pub sum_saves : of_call (run (ample (serialise (one (p z z))))) ≡ (1, negsuc 30) ∷ []
unfolding computing
sum_saves = refl

-- a value of 45 bytes with its pairs: 2 × 45 - 45 - 14 - 26
pub above_zero : Saves (block1 1 (n (n (n (n z)))) (p (u 1) (u 1))) ((1, pos 5) ∷ [])
unfolding computing
above_zero = (refl, refl)

-- a constant whose literal has k bytes: with its pair 9 more
abbrev const : ℕ → Tree
const k = node (rec 0 0 6 (replicate k 7)) nil

-- of 40 bytes, which are saved exactly, and of 39
pub around_zero : Saves (block1 1 (const 31) (p (u 1) (u 1))) ((1, pos 0) ∷ []) ×
    Saves (block1 1 (const 30) (p (u 1) (u 1))) ((1, negsuc 0) ∷ [])
unfolding computing
around_zero = ((refl, refl), (refl, refl))

-- used once, as in {2=s1(1); 2}, and not at all: less than a definition costs
pub used_little : Saves (L 1 (block1 2 (s1 (u 1)) (u 2))) ((2, negsuc 26) ∷ []) × Saves (block1 1 z z) ((1, negsuc 22) ∷ [])
unfolding computing
used_little = ((refl, refl), (refl, refl))

-- an id written in two places has two lines, each with its own uses
pub two_places : Saves (p (block1 2 z (p (u 2) (u 2))) (block1 2 (n z) (u 2))) ((2, negsuc 30) ∷ (2, negsuc 26) ∷ [])
unfolding computing
two_places = (refl, refl)

-- a definition before those in its value
pub in_a_value : Saves (block2 3 (block1 1 z (n (u 1))) 2 z (p (u 3) (u 2))) ((3, negsuc 26) ∷ (1, negsuc 26) ∷ (2, negsuc 26) ∷ [])
unfolding computing
in_a_value = (refl, refl)

-- a lambda in the value binds the definition's own id, and one behind it binds it again: neither's body uses the definition
pub bound_again : Saves (block1 1 (L 1 (n (u 1))) (p (u 1) (L 1 (u 1)))) ((1, negsuc 26) ∷ [])
unfolding computing
bound_again = (refl, refl)

-- the line of p(z,z); 0 has no minus
pub lines_read : saving_lines ((1, negsuc 30) ∷ (2, negsuc 0) ∷ (2, pos 0) ∷ (3, pos 5) ∷ []) ≡ text "1 -31\n2 -1\n2 0\n3 5\n"
unfolding computing
lines_read = refl
