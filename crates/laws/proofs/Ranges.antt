-- Consecutive numbers (`range`). In order: how many; one more; the one at a place; which numbers are among them.
-- Assumes nothing.
use mathlib.Core.Path.{◌≡◌, refl, ap, ◌∙◌}
use mathlib.Core.Logic.{inl, inr}
use mathlib.Core.Bool.{Bool, true, false}
use mathlib.Core.List.{List, [], ◌∷◌, ◌++◌}
use Prim.Native.Nat.{ℕ, zero, suc, ◌+◌, ◌≤◌, ◌<◌}
use native.Mathlib.Omega.{arith}
use lib.Dec.{eqb}
use lib.ListN.{length, get_or}
use borrow.Author.Tests.{eqb-true, eqb-false}
use Rattle.laws.specs.Range.{range}
use Rattle.laws.specs.Members.{In}

pub range_length : (first n : ℕ) → length (range first n) ≡ n
unfolding range
range_length first zero = refl
range_length first (suc n) = ap suc (range_length (suc first) n)

pub range-more : (a n : ℕ) → range a (suc n) ≡ range a n ++ ((a + n) ∷ [])
unfolding range
range-more a zero = let e : a + 0 ≡ a = omega arith in rw e
range-more a (suc n) =
    let e : a + suc n ≡ suc a + n = omega arith in
    rw e (ap (λ (l : List ℕ). a ∷ l) (range-more (suc a) n))

pub range_at : (a k j : ℕ) → j < k → get_or (range a k) j 0 ≡ a + j
unfolding range
range_at a zero j l = absurd (omega arith)
range_at a (suc k) zero l = omega arith
range_at a (suc k) (suc j) l = range_at (suc a) k j (omega arith) ∙ omega arith

pub in_range : (a n s : ℕ) → a ≤ s → s < a + n → In s (range a n)
unfolding range
in_range a zero s l k = absurd (omega arith)
in_range a (suc n) s l k = go (eqb s a) refl (in_range (suc a) n s)
  where
    go : (b : Bool) → eqb s a ≡ b → (suc a ≤ s → s < suc a + n → In s (range (suc a) n)) → In s (range a (suc n))
    go true e rest = inl (eqb-true s a e)
    go false e rest = let f = eqb-false s a e in inr (rest (omega arith) (omega arith))

pub range_in : (first n x : ℕ) → In x (range first n) → (i : ℕ) × (i < n) × (x ≡ first + i)
unfolding range
range_in first zero x h = absurd h
range_in first (suc n) x (inl e) = (0, omega arith, omega arith)
range_in first (suc n) x (inr h) =
    let w = range_in (suc first) n x h in (suc w.0, omega (arith, w.1), omega (arith, w.2))
