-- `sheet::write` meets its contract. Assumes nothing.
use native.Mathlib.Omega.{arith}
use Rattle.std.proofs.Common.{rules}
use Rattle.walk.proofs.Walking.{trees_there}
use Rattle.sheet.proofs.Clipping.{clipped_over}
use Rattle.sheet.proofs.Trees.{shown_all}
use Rattle.sheet.proofs.write.Goals as goal

pub put_trees-requires : goal.put_trees-requires
put_trees-requires c =
    let f = c.args.forest.now in
    let n = c.tree_count in
    record {
      count_bound = trees_there f.laid n.result f.formed n.ensures.0;
      depth_bound = omega arith;
    }

pub returns : goal.returns
returns c =
    let f = c.args.forest.now in
    let start = c.new-sheet.ensures.start in
    let lines = shown_all f.laid c.tree_count.result f.formed c.tree_count.ensures.0 c.put_trees.ensures in
    let w = clipped_over lines start.0 start.1 in
    search rules
