-- Laws of `stack_of`. In order: its newest entry, its length, its parts; the entries it hangs on; a search from the newest entry downwards.
-- Assumes nothing.
use Prim.Native.Nat.{ℕ, zero, suc, ◌+◌, ◌-◌, ◌<◌, ◌≤◌}
use mathlib.Core.Path.{◌≡◌, refl, ap}
use mathlib.Core.List.{List, [], ◌∷◌, ◌++◌}
use native.Mathlib.Omega.{arith}
use lib.ListN.{length}
use Rattle.laws.specs.Stack.{stack_of}

module _ {A : Type 0} where
  pub stack_newest : (f : ℕ → A) (k : ℕ) → 0 < k → stack_of f k ≡ f (k - 1) ∷ stack_of f (k - 1)
  unfolding stack_of
  stack_newest f zero lt = absurd (omega arith)
  stack_newest f (suc k) lt = let e : suc k - 1 ≡ k = omega arith in rw e

  pub stack_length : (f : ℕ → A) (n : ℕ) → length (stack_of f n) ≡ n
  unfolding stack_of
  stack_length f zero = refl
  stack_length f (suc n) = ap suc (stack_length f n)

  -- the entries from m on stand before those below it
  pub stack_split : (f : ℕ → A) (m n : ℕ) → stack_of f (m + n) ≡ stack_of (λ j. f (m + j)) n ++ stack_of f m
  unfolding stack_of
  stack_split f m zero = let e : m + 0 ≡ m = omega arith in rw e
  stack_split f m (suc n) =
      let e : m + suc n ≡ suc (m + n) = omega arith in
      rw e (ap (λ (xs : List A). f (m + n) ∷ xs) (stack_split f m n))

  -- the first n entries are the same
  pub stack_kept : (f g : ℕ → A) (n : ℕ) → ((j : ℕ) → j < n → f j ≡ g j) → stack_of f n ≡ stack_of g n
  unfolding stack_of
  stack_kept f g zero h = refl
  stack_kept f g (suc n) h =
      rw (stack_kept f g n (λ j lt. h j (omega arith))) (ap (λ (x : A). x ∷ stack_of g n) (h n (omega arith)))

-- a search R of a list whose newest entry is found where P holds of it, and is passed over where it does not
module _ {A B : Type 0} (f : ℕ → A) (R : List A → B) (P : A → Type 0) (found : A → B)
    (here : (x : A) (xs : List A) → P x → found x ≡ R (x ∷ xs))
    (there : (x : A) (xs : List A) → (P x → ⊥) → R xs ≡ R (x ∷ xs)) where
  pub search_none : (k : ℕ) → k ≤ 0 → R [] ≡ R (stack_of f k)
  unfolding stack_of
  search_none k le = let e : k ≡ 0 = omega arith in rw e

  pub search_hit : (k : ℕ) → 0 < k → P (f (k - 1)) → found (f (k - 1)) ≡ R (stack_of f k)
  search_hit k lt h = rw (stack_newest f k lt) (here (f (k - 1)) (stack_of f (k - 1)) h)

  pub search_miss : (k : ℕ) → 0 < k → (P (f (k - 1)) → ⊥) → R (stack_of f (k - 1)) ≡ R (stack_of f k)
  search_miss k lt h = rw (stack_newest f k lt) (there (f (k - 1)) (stack_of f (k - 1)) h)
