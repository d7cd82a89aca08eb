-- The functions of the cycle `giving` of `free_lists` meet their contracts. Assumes nothing.
use mathlib.Core.Path.{refl, sym, ◌∙◌}
use mathlib.Core.List.{[]}
use native.Mathlib.Omega.{arith}
use lib.Seq.{take_all}
use borrow.Author.Tests.{eqb-true}
use Rattle.laws.proofs.Falls.{under_at}
use Rattle.outsiders.proofs.Lists.{held_up}
use Rattle.free_lists.proofs.Giving.{filed_less, gives_none, gives_next, run_low, run_inside}
use Rattle.free_lists.proofs.Giving.{gives_empty, gives_arg, gives_outside, gives_local, gives_deeper}
use Rattle.free_lists.proofs.+giving.Goals as goal
use Rattle.free_lists.proofs.+giving.Goals.{give-then-is_empty-via-then-is_empty}
use Rattle.free_lists.proofs.+giving.Goals.{give-then-is_empty-via-else-is_empty+then-is_arg}

-- ---- `give`

pub give-returns-then-is_empty : goal.give-returns-then-is_empty
give-returns-then-is_empty t c bs =
    let p = c.requires in
    elim c.then-is_empty.branch [
      | give-then-is_empty-via-then-is_empty w ↦
          gives_empty c.args.g.now _ p.d_lt_symbols.1 _ c.list_at-own.ensures bs _ _
          (eqb-true _ 0 (sym c.is_empty.ensures ∙ w.if-is_empty.true)) p.held
      | give-then-is_empty-via-else-is_empty+then-is_arg w ↦
          gives_arg c.args.g.now _ p.d_lt_symbols.1 _ c.list_at-own.ensures bs _ _ _ w.is_arg.ensures w.if-is_arg.true p.held
    ]

pub give-add_run-requires : goal.give-add_run-requires
give-add_run-requires t c =
    let p = c.requires in
    record {
      below = run_inside c.args.g.now _ p.d_lt_symbols.1 _ c.list_at-own.ensures (omega (arith, c.args.g.now.scoped.few));
      held = held_up p.held c.args.g.now.scoped.few;
    }

pub give-give_run-requires : goal.give-give_run-requires
give-give_run-requires t c =
    let p = c.requires in (
      omega (arith, c.decreases),
      (
        (p.d_lt_symbols.0, filed_less (omega arith) p.d_lt_symbols.1),
        (run_low c.args.g.now _ p.d_lt_symbols.1 _ c.list_at-own.ensures, p.held),
      ),
    )

pub give-offer_run-requires : goal.give-offer_run-requires
give-offer_run-requires t c =
    let p = c.requires in
    record {
      below = run_inside c.args.g.now _ p.d_lt_symbols.1 _ c.list_at-own.ensures p.d_lt_symbols.0;
      held = (c.give_run.ensures []).held;
    }

pub give-returns-in-Local : goal.give-returns-in-Local
give-returns-in-Local t c bs =
    let p = c.requires in
    gives_local c.args.g.now _ p.d_lt_symbols.1 _ c.list_at-own.ensures bs _ _ _ c.is_arg.ensures c.if-is_arg.false _
    c.relation.ensures c.in-Local.is p.held p.d_lt_symbols.0 c.add_run.ensures

pub give-returns-in-Deeper : goal.give-returns-in-Deeper
give-returns-in-Deeper t c bs =
    let p = c.requires in
    gives_deeper c.args.g.now _ p.d_lt_symbols.1 _ c.list_at-own.ensures bs _ _ _ c.is_arg.ensures c.if-is_arg.false _
    c.relation.ensures c.in-Deeper.is (c.give_run.ensures bs) (c.offer_run.ensures bs)

pub give-returns-in-Outside : goal.give-returns-in-Outside
give-returns-in-Outside t c bs =
    let p = c.requires in
    gives_outside c.args.g.now _ p.d_lt_symbols.1 _ c.list_at-own.ensures bs _ _ _ c.is_arg.ensures c.if-is_arg.false _
    c.relation.ensures c.in-Outside.is p.held

-- ---- `give_run`

pub give_run-loop-d-init : goal.give_run-loop-d-init
give_run-loop-d-init t c bs = gives_none _ c.requires.held

pub give_run-give-requires : goal.give_run-give-requires
give_run-give-requires t c =
    let p = c.requires in
    let low = under_at _ _ p.below c.loop-d.d-index c.loop-d-test.true in (
      omega (arith, c.decreases, low),
      (
        (omega (arith, low, p.top_lt_symbols.0), filed_less (omega (arith, low)) p.top_lt_symbols.1),
        (c.loop-d.invariant []).held,
      ),
    )

pub give_run-loop-d-preserved : goal.give_run-loop-d-preserved
give_run-loop-d-preserved t c bs =
    gives_next _ _ _ _ c.loop-d-test.true refl (c.loop-d.invariant bs) (c.give.ensures bs)

pub give_run-returns : goal.give_run-returns
give_run-returns t c bs = rw (take_all _ c.args.run.now c.loop-d-test.false) at (c.loop-d.invariant bs)
