-- `graph::Graph::is_outsider` meets its contract. Assumes nothing.
use Rattle.graph.proofs.Laws.{outsider_arg, outsider_rel}
use Rattle.graph.proofs.held.Graph.is_outsider.Goals as goal

pub returns-else-not-is_arg : goal.returns-else-not-is_arg
returns-else-not-is_arg c = outsider_arg c.args.self.now _ _ _ c.is_arg.ensures c.if-not-is_arg.false

pub returns-then-not-is_arg : goal.returns-then-not-is_arg
returns-then-not-is_arg c =
    outsider_rel c.args.self.now _ _ _ c.is_arg.ensures c.if-not-is_arg.true
    c.relation.result c.relation.ensures _ c.is_outside.ensures
