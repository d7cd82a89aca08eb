-- `schedule::Scheduler::needs` meets its contract. Assumes nothing.
use native.Mathlib.Omega.{arith}
use Rattle.schedule.proofs.Bodies.{needs_local, needs_run, needs_none}
use Rattle.schedule.proofs.scheduler.Scheduler.needs.Goals as goal

pub offer_run-requires-clause-below : goal.offer_run-requires-clause-below
offer_run-requires-clause-below g c d i = let p = c.requires in omega (arith, p.near.below d i, p.s_lt_symbols)

pub returns-in-Local : goal.returns-in-Local
returns-in-Local g c = needs_local c.args.self.now _ _ _ c.relation.ensures c.in-Local.is c.offer_kids.ensures

pub returns-in-Deeper : goal.returns-in-Deeper
returns-in-Deeper g c =
    let p = c.requires in
    needs_run c.args.self.now _ _ _ c.relation.ensures p.order_value c.in-Deeper.is p.near (c.offer_run.ensures _)

pub returns-in-Outside : goal.returns-in-Outside
returns-in-Outside g c = needs_none c.args.self.now _ _ _ c.relation.ensures c.in-Outside.is c.requires.held
