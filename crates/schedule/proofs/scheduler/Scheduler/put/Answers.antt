-- `schedule::Scheduler::put` meets its contract. Assumes nothing.
use native.Mathlib.Omega.{arith}
use Rattle.schedule.proofs.Lending.{put_body, put_room, put_plain}
use Rattle.schedule.proofs.Walking.{few_symbols}
use Rattle.schedule.proofs.scheduler.Scheduler.put.Goals as goal

pub push-requires : goal.push-requires
push-requires g c =
    let p = c.requires in
    let w = c.args.self.now in (
      omega arith,
      put_room w _ (omega (arith, few_symbols w p.s_lt_symbols)) c.in-Schedule.is p.s_lt_symbols p.s_value p.lent,
    )

pub returns-in-Body : goal.returns-in-Body
returns-in-Body g c =
    let w = c.args.self.now in
    put_body w _ (omega (arith, few_symbols w c.requires.s_lt_symbols)) _ c.in-Body.is c.needs.ensures

pub returns-in-Schedule : goal.returns-in-Schedule
returns-in-Schedule g c =
    let p = c.requires in
    let w = c.args.self.now in
    put_plain w _ (omega (arith, few_symbols w p.s_lt_symbols)) c.in-Schedule.is p.s_lt_symbols p.s_value c.push.ensures.items
