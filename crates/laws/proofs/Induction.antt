-- Induction over all lower numbers: what holds of n once it holds below n, holds of every number. The companion of
-- `down`.
-- Assumes nothing.
use Prim.Native.Nat.{ℕ, zero, suc, ◌<◌}
use native.Mathlib.Omega.{arith}

module _ (P : ℕ → Type 0) (step : (n : ℕ) → ((d : ℕ) → d < n → P d) → P n) where
  strong_below : (m n : ℕ) → n < m → P n
  strong_below zero n l = absurd (omega arith)
  strong_below (suc m) n l = step n (λ d k. strong_below m d (omega arith))

  pub strong : (n : ℕ) → P n
  strong n = strong_below (suc n) n (omega arith)
