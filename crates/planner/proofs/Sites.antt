-- Where a tree is planned: the site of a tree that is planned next.
-- Assumes nothing.
use Prim.Native.Nat.{ℕ, ◌+◌, ◌≤◌}
use mathlib.Core.Path.{◌≡◌}
use mathlib.Core.List.{List}
use native.Mathlib.Omega.{arith}
use lib.ListN.{length}
use Rattle.planner.specs.declared.Plan.{Plan}
use Rattle.planner.specs.Planning.{Site}

-- the same symbol, and room that is left
pub site_on : {n s slack last above : ℕ} {p : Plan} {pl : List ℕ} → Site n s slack last above p pl
    → {slack₁ last₁ above₁ : ℕ} {q : Plan} {pl₁ : List ℕ} → last₁ + above₁ + slack₁ ≤ last + above + slack
    → q.rows ≤ 256 → length pl₁ ≡ length pl → Site n s slack₁ last₁ above₁ q pl₁
site_on at l few e = record {
  low = at.low;
  room = omega (arith, at.room);
  count = few;
  words = omega (arith, at.words, e);
}
