-- `graph::Graph::relation` meets its contract. Assumes nothing.
use Rattle.graph.proofs.Laws.{scope_inside, scope_nested, relation_is}
use Rattle.graph.proofs.held.Graph.relation.Goals as goal

pub classify-requires : goal.classify-requires
classify-requires c =
    let p = c.requires in
    record {
      sc_in_bounds = scope_inside c.args.self.now _ _ c.load-sc.ensures p.s_lt_symbols;
      nested = scope_nested c.args.self.now _ _ c.load-sc.ensures p.s_lt_symbols;
    }

pub returns : goal.returns
returns c = relation_is c.args.self.now _ _ c.load-sc.ensures c.requires.s_lt_symbols _ c.classify.result c.classify.ensures
