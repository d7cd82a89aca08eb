-- `sheet::put_trees` in its loop and its calls: what stays, and what falls. Assumes nothing.
use Prim.Native.Nat.{ℕ, ◌-◌, ◌≤◌}
use Rattle.model.specs.Tree.{many}
use Rattle.walk.specs.Walk.{trees_from}
use Rattle.output.specs.declared.Output.{Output}
use Rattle.sheet.specs.Shown.{Shown}
use Rattle.sheet.proofs.+put_trees.Given as goal

-- the trees that are left are there, and what shows them has shown all
abbrev pub invariant-loop : goal.invariant-loop
invariant-loop l = record {
  onward : l.first ≤ l.i;
  left : l.count - l.counter ≤ many (trees_from l.forest.laid l.i);
  rest : (o' : Output) (r : ℕ) → Shown l.forest.laid l.i l.depth (l.count - l.counter) l.out o' r →
      Shown l.forest.laid l.first l.depth l.count l.initial.out o' r;
}

abbrev pub decreases-put_trees : goal.decreases-put_trees
decreases-put_trees l =
    256 - l.first
