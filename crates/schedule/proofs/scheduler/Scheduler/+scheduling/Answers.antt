-- The functions of the cycle `scheduling` of `schedule` meet their contracts. Assumes nothing.
use mathlib.Core.Path.{refl, ◌∙◌}
use mathlib.Core.List.{[]}
use native.Mathlib.Omega.{arith}
use lib.Seq.{take_all}
use Rattle.laws.proofs.Falls.{under_at}
use Rattle.outsiders.proofs.Offers.{kids_below}
use Rattle.schedule.proofs.Places.{near_free}
use Rattle.schedule.proofs.Lending.{shows_empty, lent_empty, walked_lent}
use Rattle.schedule.proofs.Walking.{visit_seen, visit-passed, visit_goes, near_done, visit_done, walk_start, walk_next}
use Rattle.schedule.proofs.Bodies.{free_done}
use Rattle.schedule.proofs.scheduler.Scheduler.+scheduling.Goals as goal
use Rattle.schedule.proofs.scheduler.Scheduler.+scheduling.Goals.{across-then-not-seen-d, across-else-not-seen-d}
use Rattle.schedule.proofs.scheduler.Scheduler.+scheduling.Goals.{run-then-not-seen-d, run-else-not-seen-d}

-- ---- `across`

pub across-loop-entry-init : goal.across-loop-entry-init
across-loop-entry-init t c = walk_start

pub across-bounds-seen-d : goal.across-bounds-seen-d
across-bounds-seen-d t c =
    let p = c.requires in
    let near = near_free c.args.self.now _ p.deeper (c.as_slice-near.ensures.value ∙ c.free.ensures) in
    omega (
      arith,
      c.from-d.ensures,
      under_at _ _ near.below c.loop-entry.entry-index c.loop-entry-test.true,
      p.s_lt_symbols,
      c.args.self.now.graph.scoped.few,
    )

pub across-visit-requires : goal.across-visit-requires
across-visit-requires t c =
    let p = c.requires in
    let near = near_free c.args.self.now _ p.deeper (c.as_slice-near.ensures.value ∙ c.free.ensures) in
    let low = under_at _ _ near.below c.loop-entry.entry-index c.loop-entry-test.true in (
      omega (arith, c.decreases, c.from-d.ensures, low),
      (
        omega (arith, c.from-d.ensures, low, p.s_lt_symbols),
        (walked_lent c.loop-entry.invariant p.lent, c.if-not-seen-d.true),
      ),
    )

pub across-loop-entry-preserved : goal.across-loop-entry-preserved
across-loop-entry-preserved t c =
    let p = c.requires in
    let near = near_free c.args.self.now _ p.deeper (c.as_slice-near.ensures.value ∙ c.free.ensures) in
    let low = under_at _ _ near.below c.loop-entry.entry-index c.loop-entry-test.true in
    elim c.if-not-seen-d.branch [
      | across-then-not-seen-d w ↦
          rw (w.seen-is, w.list-is)
          (walk_next _ _ _ c.loop-entry-test.true c.from-d.ensures c.loop-entry.invariant w.visit.ensures)
      | across-else-not-seen-d w ↦
          rw (w.seen-is, w.list-is)
          (walk_next _ _ _ c.loop-entry-test.true c.from-d.ensures c.loop-entry.invariant (visit_seen c.args.self.now _
          (omega (arith, c.from-d.ensures, low, p.s_lt_symbols)) w.if-not-seen-d.false))
    ]

pub across-put-requires-clause-near : goal.across-put-requires-clause-near
across-put-requires-clause-near t c =
    let p = c.requires in near_free c.args.self.now _ p.deeper (c.as_slice-near.ensures.value ∙ c.free.ensures)

pub across-put-requires-clause-s_value : goal.across-put-requires-clause-s_value
across-put-requires-clause-s_value t c =
    let p = c.requires in
    let near = near_free c.args.self.now _ p.deeper (c.as_slice-near.ensures.value ∙ c.free.ensures) in
    let walked = rw (take_all _ _ c.loop-entry-test.false) at c.loop-entry.invariant in
    near_done c.args.self.now _ p.s_lt_symbols p.s_value near walked p.lent

pub across-returns : goal.across-returns
across-returns t c =
    let p = c.requires in
    let near = near_free c.args.self.now _ p.deeper (c.as_slice-near.ensures.value ∙ c.free.ensures) in
    let walked = rw (take_all _ _ c.loop-entry-test.false) at c.loop-entry.invariant in
    visit_done c.args.self.now _ p.s_lt_symbols p.s_value near walked c.put.ensures

-- ---- `free`

pub free-run-requires : goal.free-run-requires
free-run-requires t c =
    let p = c.requires in
    let below = kids_below _ c.args.self.now.graph _ c.args.self.now.stocked.arena p.c_lt_symbols _ c.load-y.ensures _ c.children.ensures in (
      omega (arith, c.decreases),
      ((p.c_lt_symbols, below), lent_empty _ refl p.empty),
    )

pub free-offer_kids-requires-clause-held : goal.free-offer_kids-requires-clause-held
free-offer_kids-requires-clause-held t c = (c.run.ensures.shows [] (shows_empty _ refl c.requires.empty)).held

pub free-returns : goal.free-returns
free-returns t c =
    let p = c.requires in
    free_done _ _ p.c_lt_symbols _ c.load-y.ensures refl c.children.ensures refl p.empty c.run.ensures
    (omega (arith, p.c_lt_symbols, c.args.self.now.graph.scoped.few)) c.offer_kids.ensures

-- ---- `run`

pub run-loop-entry-init : goal.run-loop-entry-init
run-loop-entry-init t c = walk_start

pub run-bounds-seen-d : goal.run-bounds-seen-d
run-bounds-seen-d t c =
    let p = c.requires in
    omega (
      arith,
      under_at _ _ p.top_lt_symbols.1 c.loop-entry.entry-index c.loop-entry-test.true,
      p.top_lt_symbols.0,
      c.args.self.now.graph.scoped.few,
    )

pub run-visit-requires : goal.run-visit-requires
run-visit-requires t c =
    let p = c.requires in
    let low = under_at _ _ p.top_lt_symbols.1 c.loop-entry.entry-index c.loop-entry-test.true in (
      omega (arith, c.decreases, low),
      (
        omega (arith, low, p.top_lt_symbols.0),
        (walked_lent c.loop-entry.invariant p.lent, c.if-not-seen-d.true),
      ),
    )

pub run-loop-entry-preserved : goal.run-loop-entry-preserved
run-loop-entry-preserved t c =
    let p = c.requires in
    let low = under_at _ _ p.top_lt_symbols.1 c.loop-entry.entry-index c.loop-entry-test.true in
    elim c.if-not-seen-d.branch [
      | run-then-not-seen-d w ↦
          rw (w.seen-is, w.list-is)
          (walk_next _ _ _ c.loop-entry-test.true refl c.loop-entry.invariant w.visit.ensures)
      | run-else-not-seen-d w ↦
          rw (w.seen-is, w.list-is)
          (walk_next _ _ _ c.loop-entry-test.true refl c.loop-entry.invariant (visit_seen c.args.self.now _
          (omega (arith, low, p.top_lt_symbols.0)) w.if-not-seen-d.false))
    ]

pub run-returns : goal.run-returns
run-returns t c = rw (take_all _ _ c.loop-entry-test.false) at c.loop-entry.invariant

-- ---- `visit`

pub visit-returns-then-is_passed : goal.visit-returns-then-is_passed
visit-returns-then-is_passed t c =
    let p = c.requires in visit-passed c.args.self.now _ p.s_lt_symbols c.is_passed.ensures c.if-is_passed.true

pub visit-put-requires-clause-s_value : goal.visit-put-requires-clause-s_value
visit-put-requires-clause-s_value t c =
    let p = c.requires in near_done c.args.self.now _ p.s_lt_symbols p.s_value c.in-Some.ensures c.run.ensures p.lent

pub visit-returns-in-Some : goal.visit-returns-in-Some
visit-returns-in-Some t c =
    let p = c.requires in
    visit_goes c.args.self.now _ p.s_lt_symbols c.is_passed.ensures c.if-is_passed.false
    (visit_done c.args.self.now _ p.s_lt_symbols p.s_value c.in-Some.ensures c.run.ensures c.put.ensures)

pub visit-returns-in-None : goal.visit-returns-in-None
visit-returns-in-None t c =
    let p = c.requires in
    visit_goes c.args.self.now _ p.s_lt_symbols c.is_passed.ensures c.if-is_passed.false c.across.ensures
