-- Recursion on a number, down to any lower number: the value at n is a step from the values below n. Symbols depend
-- on lower symbols only, so free lists, schedules and building are such recursions.
-- Assumes nothing.
use Rattle.std.specs.Prelude.{ℕ, zero, suc, true, false, ltb}

module _ {A : Type 0} where
  -- f below n, and z from n on
  unfoldable pub under : A → ℕ → (ℕ → A) → ℕ → A
  under z n f d = elim (ltb d n) [ true ↦ f d | false ↦ z ]

  unfoldable pub down_fuel : A → ((ℕ → A) → ℕ → A) → ℕ → ℕ → A
  down_fuel z step zero n = z
  down_fuel z step (suc k) n = step (under z n (λ d. down_fuel z step k d)) n

  -- `step` is given the values below n; asked for another it would get z
  unfoldable pub down : A → ((ℕ → A) → ℕ → A) → ℕ → A
  down z step n = down_fuel z step (suc n) n
