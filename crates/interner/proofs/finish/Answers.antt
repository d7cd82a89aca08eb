-- `interner::finish` meets its contract. Assumes nothing.
use Rattle.std.specs.Prelude.{None}
use Rattle.interner.proofs.Ready.{ready_levels}
use Rattle.interner.proofs.Keys.{found_answers, found_state, made_answers, found_is}
use Rattle.interner.proofs.finish.Goals as goal

pub alloc-requires-clause-levels : goal.alloc-requires-clause-levels
alloc-requires-clause-levels c =
    ready_levels _ _ _ _ _ _ _ _ c.requires.rep c.requires.ready c.key_levels-levels.ensures

pub returns-in-Some-clause-answers : goal.returns-in-Some-clause-answers
returns-in-Some-clause-answers c =
    let p = c.requires in
    found_answers p.rep p.fact p.ready _
    (found_is p.rep p.fact p.ready _ c.parts_of-p.ensures _ _ c.find.ensures c.in-Some.is)

pub returns-in-Some-clause-state : goal.returns-in-Some-clause-state
returns-in-Some-clause-state c =
    let p = c.requires in
    found_state p.rep p.fact p.ready _
    (found_is p.rep p.fact p.ready _ c.parts_of-p.ensures _ _ c.find.ensures c.in-Some.is)

pub returns-in-None-clause-answers : goal.returns-in-None-clause-answers
returns-in-None-clause-answers c =
    let p = c.requires in
    made_answers p.rep p.fact p.ready
    (found_is p.rep p.fact p.ready _ c.parts_of-p.ensures _ None c.find.ensures c.in-None.is)
    (c.alloc.ensures.answers c.args.t p.fact)

pub returns-in-None-clause-state : goal.returns-in-None-clause-state
returns-in-None-clause-state c = c.alloc.ensures.state
