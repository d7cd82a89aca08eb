-- `planner::number` meets its contract. Assumes nothing.
use native.Mathlib.Omega.{arith}
use mathlib.Core.Path.{refl}
use Rattle.laws.specs.Range.{range}
use Rattle.planner.proofs.Ids.{number_more}
use Rattle.planner.proofs.number.Goals as goal

pub loop-j-init : goal.loop-j-init
unfolding range
loop-j-init c = refl

pub loop-j-preserved : goal.loop-j-preserved
loop-j-preserved c =
    number_more _ _ _ _ _ _ c.loop-j.invariant (omega arith)
