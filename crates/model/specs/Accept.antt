-- "Accepted now means none of 2 to 10, nor 16" (request A.9).
-- Assumes nothing.
use Rattle.std.specs.Prelude.{ℕ, List, [], ◌∷◌, Option}
use Rattle.model.specs.Answer.{Answer, checked}
use Rattle.model.specs.Tree.{Trees}
use Rattle.model.specs.Forest.{trees_of, check2, check3, check4, check5, check6, check7, check16}
use Rattle.model.specs.Binding.{check8, check9, check10}

-- checks 2 to 10 "go in that order, each over the whole forest before the next"; 16 is "checked after 7 and before 8"
unfoldable pub checks : List ℕ → List (ℕ × Option ℕ)
checks bs =
    (2, check2 bs) ∷
    (3, check3 bs) ∷
    (4, check4 bs) ∷
    (5, check5 bs) ∷
    (6, check6 bs) ∷
    (7, check7 bs) ∷
    (16, check16 bs) ∷
    (8, check8 (trees_of bs)) ∷
    (9, check9 (trees_of bs)) ∷
    (10, check10 (trees_of bs)) ∷
    []

-- the trees of an accepted forest: the environment trees and, last, the root
unfoldable pub accept : List ℕ → Answer Trees
accept bs = checked (checks bs) (trees_of bs)
