-- Starts in an array of 64: those in use, and 0 in the others. Assumes nothing.
use Rattle.std.specs.Prelude.{ℕ, ◌-◌, ◌≤◌, ◌≡◌, List, length, drop, replicate}

-- `depth` starts in an array
pub record Starts (starts : List ℕ) (depth : ℕ) : Type 0 where
  pub long : length starts ≡ 64
  pub few : depth ≤ 64
  pub free : drop depth starts ≡ replicate (64 - depth) 0
