-- `intern::forest` meets its contract. Assumes nothing.
use mathlib.Core.Path.{refl, ap}
use Rattle.interner.specs.Step.{given}
use Rattle.intern.proofs.Roots.{Begun, forest_operands, forest_refused, forest_last}
use Rattle.intern.proofs.Roots.{forest_done}
use Rattle.intern.proofs.forest.Goals as goal
use Rattle.intern.proofs.forest.Goals.{After-new-t}

-- what holds where interning begins
begun : (c : After-new-t) →
    let a = c.args in
    Begun a.forest.now.formed.laid a.work.now c.start-st.new.work c.new-t.result c.start-st.result c.tree_count-count.result
begun c = record {
  sound = c.args.forest.now.formed.formed;
  passes = c.args.forest.now.passes;
  started = c.start-st.ensures;
  counted = c.tree_count-count.ensures.0;
  tables = c.new-t.ensures;
}

pub operands-requires : goal.operands-requires
operands-requires c =
    record { operands = forest_operands (begun (goal.at.operands-requires c).After-new-t) }

pub returns-in-Err : goal.returns-in-Err
returns-in-Err c =
    forest_refused (begun (goal.at.returns-in-Err c).After-new-t) (rw c.in-Err.is at c.operands.ensures) refl

pub last-requires : goal.last-requires
last-requires c =
    forest_last (begun (goal.at.last-requires c).After-new-t) (rw c.in-Ok.is at c.operands.ensures) refl

pub returns-in-Ok : goal.returns-in-Ok
returns-in-Ok c =
    forest_done (begun (goal.at.returns-in-Ok c).After-new-t) (rw c.in-Ok.is at c.operands.ensures) refl
    (ap (given c.operands.new.st) c.last.ensures)
