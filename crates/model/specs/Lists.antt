-- Functions on lists of numbers that several chapters share: membership, lists used as sets, the first place.
-- Not here: `length`, `get_or`, `take`, `drop` (lib.ListN); `◌++◌`, `map` (mathlib.Core.List).
-- Assumes nothing.
use Rattle.std.specs.Prelude.{ℕ, suc, Bool, true, false, ◌&&◌, ◌||◌, List, [], ◌∷◌, ◌++◌, eqb, Option, None, Some}

-- ---- membership

unfoldable pub is_in : ℕ → List ℕ → Bool
is_in n [] = false
is_in n (x ∷ xs) = eqb n x || is_in n xs

-- some number of the first list is in the second
unfoldable pub any_in : List ℕ → List ℕ → Bool
any_in [] ys = false
any_in (x ∷ xs) ys = is_in x ys || any_in xs ys

-- some number is in the list twice
unfoldable pub twice : List ℕ → Bool
twice [] = false
twice (x ∷ xs) = is_in x xs || twice xs

-- how often n is in the list
unfoldable pub count : ℕ → List ℕ → ℕ
count n [] = 0
count n (x ∷ xs) = elim (eqb n x) [ true ↦ suc (count n xs) | false ↦ count n xs ]

unfoldable pub same : List ℕ → List ℕ → Bool
same [] [] = true
same [] (y ∷ ys) = false
same (x ∷ xs) [] = false
same (x ∷ xs) (y ∷ ys) = eqb x y && same xs ys

-- ---- lists as sets, in the order in which the members came

-- n put at the end, unless it is there already
unfoldable pub add : List ℕ → ℕ → List ℕ
add xs n = elim (is_in n xs) [ true ↦ xs | false ↦ xs ++ (n ∷ []) ]

unfoldable pub union : List ℕ → List ℕ → List ℕ
union xs [] = xs
union xs (y ∷ ys) = union (add xs y) ys

-- the first list without what is in the second
unfoldable pub without : List ℕ → List ℕ → List ℕ
without [] ys = []
without (x ∷ xs) ys = elim (is_in x ys) [ true ↦ without xs ys | false ↦ x ∷ without xs ys ]

-- ---- places

-- the last of a list; 0 of no list
unfoldable pub last : List ℕ → ℕ
last [] = 0
last (x ∷ []) = x
last (x ∷ y ∷ ys) = last (y ∷ ys)

-- the place of the first true, counted from 0
unfoldable pub first : List Bool → Option ℕ
first [] = None
first (true ∷ bs) = Some 0
first (false ∷ bs) = elim (first bs) [ None ↦ None | Some i ↦ Some (suc i) ]
