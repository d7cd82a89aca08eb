-- `walk::trees` meets its contract. Assumes nothing.
use Rattle.walk.proofs.Walking.{forest_checked}
use Rattle.walk.proofs.trees.Goals as goal

pub returns : goal.returns
returns c =
    let n = c.tree_count in
    forest_checked c.args.forest.now.laid n.result c.args.forest.now.formed n.ensures.0 c.args.test _ _ _ _ _ c.subtrees.ensures _
    c.err.ensures.value
