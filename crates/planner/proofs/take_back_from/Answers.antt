-- `planner::take_back_from` meets its contract. Assumes nothing.
use Rattle.planner.proofs.Taken.{run_more}
use Rattle.planner.proofs.take_back_from.Goals as goal

pub loop-j-preserved : goal.loop-j-preserved
loop-j-preserved c =
    run_more _ _ _ _ c.loop-j.invariant
