-- `graph::Graph::is_arg` meets its contract. Assumes nothing.
use Rattle.graph.proofs.Laws.{arg_in, arg_not_in}
use Rattle.graph.proofs.held.Graph.is_arg.Goals as goal

pub returns-in-Arg : goal.returns-in-Arg
returns-in-Arg c = arg_in c.args.self.now _ _ c.load.ensures c.requires.s_lt_symbols _ c.in-Arg.is

pub returns-in_default : goal.returns-in_default
returns-in_default c = arg_not_in c.args.self.now _ _ c.load.ensures c.requires.s_lt_symbols c.in_default.not-Arg
