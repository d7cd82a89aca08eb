-- Lists that hold each number once: what is reached from a root does, and so do lists used as sets.
--
-- In order: one more at the end; `add` and `union`; `reach`; how often a number can be in a list
-- (`count_short`), and in two lists joined (`count-append`).
-- Assumes nothing.
use mathlib.Core.Path.{◌≡◌, refl, sym}
use mathlib.Core.Logic.{◌⊎◌, inl, inr}
use mathlib.Core.Bool.{Bool, true, false}
use mathlib.Core.List.{List, [], ◌∷◌, ◌++◌}
use Prim.Native.Nat.{ℕ, zero, suc, ◌+◌, ◌≤◌}
use native.Mathlib.Omega.{arith}
use lib.Dec.{eqb}
use lib.ListN.{length}
use Rattle.model.specs.Lists.{is_in, count, add, union}
use Rattle.model.specs.Intern.{Sym, sym_at}
use Rattle.model.specs.Gate.{reach}
use Rattle.laws.specs.Members.{In, Once}
use Rattle.laws.proofs.Members.{is_in_false, in_either}
use Rattle.laws.proofs.Walks.{if_holds}

pub snoc_once : (xs : List ℕ) (y : ℕ) → Once xs → (In y xs → ⊥) → Once (xs ++ (y ∷ []))
snoc_once [] y h new = (λ i. i, tt)
snoc_once (x ∷ xs) y h new = (λ i. go (in_either x xs (y ∷ []) i), snoc_once xs y h.1 (λ i. new (inr i)))
  where
    go : In x xs ⊎ In x (y ∷ []) → ⊥
    go (inl i) = h.0 i
    go (inr (inl e)) = new (inl (sym e))
    go (inr (inr i)) = i

pub add_once : (xs : List ℕ) (y : ℕ) → Once xs → Once (add xs y)
unfolding add
add_once xs y h = go (is_in y xs) refl
  where
    go : (b : Bool) → is_in y xs ≡ b → Once (elim b [ true ↦ xs | false ↦ xs ++ (y ∷ []) ])
    go true e = h
    go false e = snoc_once xs y h (is_in_false y xs e)

union_once : (xs ys : List ℕ) → Once xs → Once (union xs ys)
unfolding union
union_once xs [] h = h
union_once xs (y ∷ ys) h = union_once (add xs y) ys (add_once xs y h)

pub reach_once : (ss : List Sym) (n : ℕ) (seen : List ℕ) → Once seen → Once (reach ss n seen)
unfolding reach
reach_once ss zero seen h = h
reach_once ss (suc n) seen h =
    if_holds Once (is_in n seen) _ _
    (reach_once ss n (union seen (sym_at ss n).kids) (union_once seen (sym_at ss n).kids h)) (reach_once ss n seen h)

pub count_short : (n : ℕ) (xs : List ℕ) → count n xs ≤ length xs
unfolding count
count_short n [] = omega arith
count_short n (x ∷ xs) = go (eqb n x) (count_short n xs)
  where
    go : (b : Bool) → count n xs ≤ length xs → elim b [ true ↦ suc (count n xs) | false ↦ count n xs ] ≤ suc (length xs)
    go true l = omega arith
    go false l = omega arith

pub count-append : (s : ℕ) (xs ys : List ℕ) → count s (xs ++ ys) ≡ count s xs + count s ys
unfolding count
count-append s [] ys = omega arith
count-append s (x ∷ xs) ys = go (eqb s x) (count-append s xs ys)
  where
    go : (t : Bool) → count s (xs ++ ys) ≡ count s xs + count s ys →
        ◌≡◌ {A = ℕ} (elim t [ true ↦ suc (count s (xs ++ ys)) | false ↦ count s (xs ++ ys) ])
        (elim t [ true ↦ suc (count s xs) | false ↦ count s xs ] + count s ys)
    go true e = omega arith
    go false e = e
