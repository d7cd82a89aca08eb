-- `serialise::tree_length` meets its contract. Assumes nothing.
use mathlib.Core.Path.{sym, ap, subst, ◌∙◌}
use native.Mathlib.Omega.{arith}
use Rattle.laws.specs.Rows.{total}
use Rattle.plan.specs.Plan.{AllWritable}
use Rattle.serialise.proofs.Rows.{left_all, rows_all, total_none, next_row, tree_length, reads_start, reads_end, piece, one_more}
use Rattle.serialise.proofs.tree_length.Goals as goal

pub loop-row-init : goal.loop-row-init
loop-row-init c =
    let a = c.args in
    let same = c.into_iter-row-iterator.ensures.into_iter_gives in
    let rows = c.chunks_exact-row-items.ensures in (
      subst (AllWritable a.forest.now) (sym (left_all a.forest.now a.work.now a.at a.n)) c.requires.all_writable,
      omega arith,
      omega (arith, ap total (rows_all a.forest.now a.work.now a.at a.n)),
      reads_start _ _ _ c.requires.n_in_bounds (ap (λ x. x.rest.now) same ∙ rows.rest) (ap (λ x. x.size) same ∙ rows.size),
    )

pub row_len-sum-requires : goal.row_len-sum-requires
row_len-sum-requires c =
    let l = c.loop-row.invariant in
    let s = c.in-Some.ensures.steps in
    let x = piece _ _ _ c.requires.n_in_bounds l.3 _ _ s.1.0 s.1.1 s.0 in
    record { writable = (next_row _ _ _ _ _ _ x.within (c.load.ensures ∙ x.is) l.0).here }

pub overflow_add-sum-in-loop-row : goal.overflow_add-sum-in-loop-row
overflow_add-sum-in-loop-row c =
    let l = c.loop-row.invariant in
    let s = c.in-Some.ensures.steps in
    let x = piece _ _ _ c.requires.n_in_bounds l.3 _ _ s.1.0 s.1.1 s.0 in
    omega (arith, x.within, l.1, c.requires.n_bound, c.row_len-sum.ensures.1)

pub loop-row-preserved : goal.loop-row-preserved
loop-row-preserved c =
    let a = c.args in
    let l = c.loop-row.invariant in
    let s = c.in-Some.ensures.steps in
    let x = piece _ _ _ c.requires.n_in_bounds l.3 _ _ s.1.0 s.1.1 s.0 in
    let y = next_row a.forest.now a.work.now a.at a.n _ _ x.within (c.load.ensures ∙ x.is) l.0 in
    let more = one_more c.loop-row.yielded c.in-Some.row in
    rw more (y.after, omega (arith, l.1, c.row_len-sum.ensures.1), omega (arith, l.2, y.adds, c.row_len-sum.ensures.0), x.left)

pub returns : goal.returns
returns c =
    let a = c.args in
    let l = c.loop-row.invariant in
    let end = reads_end _ _ _ c.requires.n_in_bounds l.3 c.in-None.ensures.steps.1.0 in
    omega (arith, l.2, tree_length a.forest.now a.work.now a.at a.n, total_none a.forest.now a.work.now a.at a.n _ end)
