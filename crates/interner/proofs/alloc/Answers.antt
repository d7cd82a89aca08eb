-- `interner::alloc` meets its contract. Assumes nothing.
use mathlib.Core.Path.{refl}
use Rattle.interner.proofs.Sharing.{shared_answers, full_answers, new_state}
use Rattle.interner.proofs.alloc.Goals as goal

pub returns-then-n-ge512-clause-answers : goal.returns-then-n-ge512-clause-answers
returns-then-n-ge512-clause-answers c =
    let g = c.requires in
    λ t opened. rw c.no_room.ensures (full_answers t g.rep g.fresh c.if-n-ge512.true)

pub returns-then-n-ge512-clause-state : goal.returns-then-n-ge512-clause-state
returns-then-n-ge512-clause-state c = refl

pub returns-clause-answers : goal.returns-clause-answers
returns-clause-answers c =
    let g = c.requires in
    λ t opened. shared_answers t g.rep g.fresh c.hint_of-hint.result c.if-n-ge512.false opened c.push.ensures
    c.parts_of-p.ensures c.hint_of-hint.ensures.0 c.enter.ensures

pub returns-clause-state : goal.returns-clause-state
returns-clause-state c = new_state _ _ c.push.ensures.state
