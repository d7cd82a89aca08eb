-- `tables::find` meets its contract. Assumes nothing.
use Prim.Native.Nat.{◌-◌}
use mathlib.Core.Path.{sym, ◌∙◌}
use native.Mathlib.Omega.{arith}
use Rattle.tables.proofs.Keys.{key_is, hints_differ, under_hint, off_hint}
use Rattle.tables.proofs.Search.{entries-end, entries_hit, entries_miss, tables_end, tables_hit, tables_miss}
use Rattle.tables.proofs.Stack.{depth_of, start_of}
use Rattle.tables.proofs.find.Goals as goal

pub loop-d-init : goal.loop-d-init
loop-d-init c = (omega arith, λ n b. rw (depth_of c.t.invariant c.t.view_is))

pub same_key-requires-clause-sound : goal.same_key-requires-clause-sound
same_key-requires-clause-sound c =
    rw (under_hint _ _ c.hint_of-hint.ensures.1 c.if-s-lt512.true)
    (c.requires.entries.sound (c.loop-k.k - 1) (omega arith))

pub loop-k-preserved-else-same_key : goal.loop-k-preserved-else-same_key
loop-k-preserved-else-same_key c n b =
    let k = c.loop-k.k in
    c.loop-k.invariant n b
    ∙ entries_miss _ _ _ c.args.work.now _ k c.loop-k-test.true
    (key_is _ _ _ _ _ _ n _ (b (k - 1) (omega arith))
    (rw (under_hint _ _ c.hint_of-hint.ensures.1 c.if-s-lt512.true) at c.same_key.ensures) ∙ c.if-same_key.false)

-- an entry with another hint
pub loop-k-preserved : goal.loop-k-preserved
loop-k-preserved c n b =
    let a = c.args in
    let k = c.loop-k.k in
    c.loop-k.invariant n b
    ∙ entries_miss _ _ _ a.work.now _ k c.loop-k-test.true
    (key_is _ _ _ _ _ _ n _ (b (k - 1) (omega arith))
    (sym (hints_differ a.forest.now a.work.now a.i a.field a.held a.count _
    c.hint_of-hint.ensures.0
    (λ e. off_hint _ _ c.hint_of-hint.ensures.1 c.if-s-lt512.false (c.requires.entries.hinted (k - 1) (omega arith) ∙ e)))))

pub loop-d-preserved : goal.loop-d-preserved
loop-d-preserved c =
    let o = c.loop-d in
    let start = c.from-start.ensures ∙ start_of c.t.invariant c.t.view_is (o.d - 1) (omega arith) in (
      rw start (c.requires.fact.starts (o.d - 1) (omega (arith, depth_of c.t.invariant c.t.view_is))),
      λ n b.
          o.invariant.1 n b
          ∙ tables_miss _ _ _ c.args.work.now c.args.t o.d o.end _ start c.loop-d-test.true
          (c.loop-k.invariant n b ∙ entries-end _ _ _ c.args.work.now _ c.loop-k.k c.loop-k-test.false),
    )

pub returns-after-loop-d : goal.returns-after-loop-d
returns-after-loop-d c n b =
    let o = c.loop-d in
    sym (o.invariant.1 n b ∙ tables_end _ _ _ c.args.work.now c.args.t o.d o.end c.loop-d-test.false)

pub returns-then-same_key : goal.returns-then-same_key
returns-then-same_key c n b =
    let o = c.loop-d in
    let k = c.loop-k.k in
    rw (under_hint _ _ c.hint_of-hint.ensures.1 c.if-s-lt512.true)
    (sym (o.invariant.1 n b
    ∙ tables_hit _ _ _ c.args.work.now c.args.t o.d o.end _
    (c.from-start.ensures ∙ start_of c.t.invariant c.t.view_is (o.d - 1) (omega arith)) c.loop-d-test.true _
    (c.loop-k.invariant n b
    ∙ entries_hit _ _ _ c.args.work.now _ k c.loop-k-test.true
    (key_is _ _ _ _ _ _ n _ (b (k - 1) (omega arith))
    (rw (under_hint _ _ c.hint_of-hint.ensures.1 c.if-s-lt512.true) at c.same_key.ensures) ∙ c.if-same_key.true))))
