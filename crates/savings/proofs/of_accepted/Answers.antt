-- `savings::of_accepted` meets its contract. Assumes nothing.
use mathlib.Core.Path.{◌∙◌, ap}
use Rattle.model.specs.Savings.{savings}
use Rattle.savings.proofs.Siblings.{all_siblings}
use Rattle.savings.proofs.of_accepted.Goals as goal

pub add-requires-clause-siblings : goal.add-requires-clause-siblings
add-requires-clause-siblings c =
    let f = c.args.forest.now in
    rw c.record_count.ensures.0 (all_siblings f.formed.laid f.formed.formed.closed f.passes.fresh).0

pub returns : goal.returns
returns c =
    let f = c.args.forest.now in
    c.add.ensures ∙
    rw (c.new-list.ensures, c.record_count.ensures.0)
    (ap savings (all_siblings f.formed.laid f.formed.formed.closed f.passes.fresh).1)
