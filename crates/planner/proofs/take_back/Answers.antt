-- `planner::take_back` meets its contract. Assumes nothing.
use mathlib.Core.Path.{refl, ◌∙◌}
use native.Mathlib.Omega.{arith}
use Rattle.planner.specs.Building.{taken_back}
use Rattle.planner.proofs.Taken.{taken_high, taken_low}
use Rattle.planner.proofs.take_back.Goals as goal
use Rattle.planner.proofs.take_back.Goals.{then-last-ids, else-last-ids}

pub loop-s-init : goal.loop-s-init
unfolding taken_back
loop-s-init c = refl

pub loop-s-preserved : goal.loop-s-preserved
loop-s-preserved c =
    elim c.if-last-ids.branch [
      | then-last-ids w ↦
          w.ids-is
          ∙ taken_high c.args.order.now c.loop-s-test.true c.from-s.ensures _ _ c.loop-s.invariant w.if-last-ids.true
      | else-last-ids w ↦
          w.ids-is
          ∙ taken_low c.args.order.now c.loop-s-test.true c.from-s.ensures _ _ c.loop-s.invariant (omega (arith, w.if-last-ids.false))
    ]
