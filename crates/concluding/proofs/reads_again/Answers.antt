-- `concluding::reads_again` meets its contract. Assumes nothing.
use mathlib.Core.Path.{◌∙◌}
use Rattle.concluding.proofs.Selecting.{again_pair, again_other}
use Rattle.concluding.proofs.reads_again.Goals as goal

pub returns-then-of_pair : goal.returns-then-of_pair
returns-then-of_pair c n lt =
    let a = c.args in
    again_pair a.forest.now.laid a.work.now n a.i a.held c.field_of.ensures c.of_pair.ensures
    c.if-of_pair.true (c.is_tuple.ensures n lt)

pub returns-else-of_pair : goal.returns-else-of_pair
returns-else-of_pair c n lt =
    let a = c.args in
    c.if-of_pair.false
    ∙ again_other a.forest.now.laid a.work.now n a.i a.held c.field_of.ensures c.of_pair.ensures c.if-of_pair.false
