-- `materialize::plan_root` meets its contract. Assumes nothing.
use Rattle.planner.proofs.Lasting.{ids_none}
use Rattle.materialize.proofs.Root.{root_planned, root_labels}
use Rattle.materialize.proofs.plan_root.Goals as goal

pub define-requires-clause-ids : goal.define-requires-clause-ids
define-requires-clause-ids c = ids_none _ _

pub returns : goal.returns
returns c =
    let source = c.new-source.ensures in
    let x = c.new-source.result in
    record {
      plans = root_planned _ c.requires.counted x source.forest source.words source.many.0 source.many.1 source.uses
          c.define.ensures.plans;
      labels = root_labels _ c.requires.counted x source.forest source.words source.many.0 source.many.1 source.uses
          c.define.ensures.labels;
    }
