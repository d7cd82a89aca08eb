-- `concluding::field` meets its contract. Assumes nothing.
use Rattle.concluding.proofs.Selecting.{selects_projects, pair_answers, other_answers}
use Rattle.concluding.proofs.field.Goals as goal

pub pair_projection-requires : goal.pair_projection-requires
pair_projection-requires c =
    let p = c.requires in record { rep = p.rep; fact = p.fact; projects = selects_projects p.rep p.selects }

pub returns-then-of_pair : goal.returns-then-of_pair
returns-then-of_pair c env kids =
    let a = c.args in
    pair_answers a.forest.now.laid a.work.now a.t a.st.now a.i a.cur a.held env kids
    c.field_of-f.ensures c.of_pair.ensures c.requires.held_value c.if-of_pair.true
    c.pair_projection.ensures

pub returns : goal.returns
returns c env kids =
    let a = c.args in
    other_answers a.forest.now.laid a.work.now a.t a.st.now a.i a.cur a.held env kids
    c.field_of-f.ensures c.of_pair.ensures c.requires.selects.shape c.if-of_pair.false
    c.general.ensures
