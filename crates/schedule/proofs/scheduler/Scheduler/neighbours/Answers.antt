-- `schedule::Scheduler::neighbours` meets its contract. Assumes nothing.
use Rattle.schedule.proofs.Places.{rises, at_end, at_local, at_deeper, at_outside}
use Rattle.schedule.proofs.scheduler.Scheduler.neighbours.Goals as goal

pub returns-then-is_end : goal.returns-then-is_end
returns-then-is_end c =
    let p = c.requires in at_end c.args.self.now _ p.s_lt_symbols c.is_end.ensures c.if-is_end.true

pub stored-requires-clause-s_bound : goal.stored-requires-clause-s_bound
stored-requires-clause-s_bound c = let p = c.requires in rises c.args.self.now _ p.s_lt_symbols

pub returns-in-Local : goal.returns-in-Local
returns-in-Local c =
    let p = c.requires in
    at_local c.args.self.now _ p.s_lt_symbols c.is_end.ensures c.if-is_end.false _ c.scope.ensures _ c.relation.ensures
    c.in-Local.is c.load.ensures c.children.ensures

pub returns-in-Deeper : goal.returns-in-Deeper
returns-in-Deeper c =
    let p = c.requires in
    at_deeper c.args.self.now _ p.s_lt_symbols c.is_end.ensures c.if-is_end.false _ c.scope.ensures _ c.relation.ensures
    c.in-Deeper.is _ c.stored.ensures

pub returns-in-Outside : goal.returns-in-Outside
returns-in-Outside c =
    let p = c.requires in
    at_outside c.args.self.now _ p.s_lt_symbols c.is_end.ensures c.if-is_end.false _ c.scope.ensures _ c.relation.ensures
    c.in-Outside.is
