-- `serialise::put_directory` meets its contract. Assumes nothing.
use mathlib.Core.Path.{ap, ◌∙◌}
use native.Mathlib.Omega.{arith}
use Rattle.model.specs.Bytes.{put16}
use Rattle.serialise.proofs.Rows.{next_row, pairs_start, pairs_turn, pairs_end, reads_start, reads_end, piece, one_more}
use Rattle.serialise.proofs.put_directory.Goals as goal

pub loop-row-init : goal.loop-row-init
loop-row-init c =
    let same = c.into_iter-row-iterator.ensures.into_iter_gives in
    let rows = c.chunks_exact-row-items.ensures in (
      pairs_start _ _ _ _ _ c.requires.all_writable c.requires.room,
      reads_start _ _ _ c.requires.n_in_bounds (ap (λ x. x.rest.now) same ∙ rows.rest) (ap (λ x. x.size) same ∙ rows.size),
    )

pub row_len-size-requires : goal.row_len-size-requires
row_len-size-requires c =
    let l = c.loop-row.invariant in
    let s = c.in-Some.ensures.steps in
    let x = piece _ _ _ c.requires.n_in_bounds l.1 _ _ s.1.0 s.1.1 s.0 in
    record { writable = (next_row _ _ _ _ _ _ x.within (c.load.ensures ∙ x.is) l.0.writable).here }

pub put_16-requires : goal.put_16-requires
put_16-requires c =
    let l = c.loop-row.invariant in
    let s = c.in-Some.ensures.steps in
    let x = piece _ _ _ c.requires.n_in_bounds l.1 _ _ s.1.0 s.1.1 s.0 in
    record { room = omega (arith, l.0.room, x.within); n_bound = omega (arith, l.0.sum, c.requires.n_bound) }

pub put_16-requires-in-loop-row : goal.put_16-requires-in-loop-row
unfolding put16
put_16-requires-in-loop-row c =
    let l = c.loop-row.invariant in
    let s = c.in-Some.ensures.steps in
    let x = piece _ _ _ c.requires.n_in_bounds l.1 _ _ s.1.0 s.1.1 s.0 in
    let p = c.put_16.ensures in
    record { room = omega (arith, l.0.room, x.within, p.ends, p.len); n_bound = c.row_len-size.ensures.1 }

pub loop-row-preserved : goal.loop-row-preserved
loop-row-preserved c =
    let l = c.loop-row.invariant in
    let s = c.in-Some.ensures.steps in
    let x = piece _ _ _ c.requires.n_in_bounds l.1 _ _ s.1.0 s.1.1 s.0 in
    let more = one_more c.loop-row.yielded c.in-Some.row in
    rw more (
      pairs_turn _ _ _ _ _ _ _ _ l.0 _ x.within (c.load.ensures ∙ x.is) _ c.row_len-size.ensures.0 c.put_16.ensures
          c.put_16-in-loop-row.ensures,
      x.left,
    )

pub returns : goal.returns
returns c =
    let l = c.loop-row.invariant in
    pairs_end _ _ _ _ _ _ _ _ l.0 (reads_end _ _ _ c.requires.n_in_bounds l.1 c.in-None.ensures.steps.1.0)
