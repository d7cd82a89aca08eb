-- `planner::put` meets its contract. Assumes nothing.
use native.Mathlib.Omega.{arith}
use Rattle.planner.proofs.Growing.{put_stored, put_full}
use Rattle.planner.proofs.put.Goals as goal

pub returns-then-p-ge-ROWS : goal.returns-then-p-ge-ROWS
returns-then-p-ge-ROWS c =
    put_full _ _ _ _ (omega arith)

pub returns : goal.returns
returns c =
    put_stored _ _ _ _ c.requires.0 (omega arith) _ c.store.ensures _ c.max.ensures
