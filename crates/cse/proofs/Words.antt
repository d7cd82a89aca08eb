-- Work words after a call. Assumes nothing.
use Prim.Native.Nat.{ℕ, ◌<◌, ◌≤◌}
use mathlib.Core.Path.{◌≡◌, ap}
use mathlib.Core.List.{List, ◌++◌}
use borrow.Author.Tests.{lt-ltb, le-ltb}
use lib.ListN.{length, drop, replicate}
use Rattle.model.specs.Call.{work_after}
use Rattle.regions.specs.Regions.{WORDS}
use Rattle.cse.specs.Call.{cleared}

module _ (ws : List ℕ) where
  pub after_few : length ws < WORDS → ws ≡ work_after ws
  unfolding work_after
  after_few h = rw (lt-ltb (length ws) WORDS h, work_after)

  pub after_enough : WORDS ≤ length ws → cleared WORDS ws ≡ work_after ws
  unfolding work_after cleared
  after_enough h = rw (le-ltb (length ws) WORDS h, work_after)

  pub cleared_kept : (n : ℕ) (ws' : List ℕ) → drop n ws' ≡ drop n ws → cleared n ws' ≡ cleared n ws
  unfolding cleared
  cleared_kept n ws' e = ap (λ (l : List ℕ). replicate n 0 ++ l) e
