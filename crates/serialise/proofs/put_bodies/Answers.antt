-- `serialise::put_bodies` meets its contract. Assumes nothing.
use mathlib.Core.Path.{ap, ◌∙◌}
use Rattle.serialise.proofs.Rows.{next_row, bodies_start, body_room, bodies_turn, bodies_end}
use Rattle.serialise.proofs.Rows.{reads_start, reads_end, piece, one_more}
use Rattle.serialise.proofs.put_bodies.Goals as goal

pub loop-row-init : goal.loop-row-init
loop-row-init c =
    let same = c.into_iter-row-iterator.ensures.into_iter_gives in
    let rows = c.chunks_exact-row-items.ensures in (
      bodies_start _ _ _ _ _ c.requires.all_writable c.requires.room,
      reads_start _ _ _ c.requires.n_in_bounds (ap (λ x. x.rest.now) same ∙ rows.rest) (ap (λ x. x.size) same ∙ rows.size),
    )

pub put_row-requires : goal.put_row-requires
put_row-requires c =
    let l = c.loop-row.invariant in
    let s = c.in-Some.ensures.steps in
    let x = piece _ _ _ c.requires.n_in_bounds l.1 _ _ s.1.0 s.1.1 s.0 in
    record {
      writable = (next_row _ _ _ _ _ _ x.within (c.load.ensures ∙ x.is) l.0.writable).here;
      room = body_room _ _ _ _ _ _ _ l.0 _ x.within (c.load.ensures ∙ x.is);
    }

pub loop-row-preserved : goal.loop-row-preserved
loop-row-preserved c =
    let l = c.loop-row.invariant in
    let s = c.in-Some.ensures.steps in
    let x = piece _ _ _ c.requires.n_in_bounds l.1 _ _ s.1.0 s.1.1 s.0 in
    let more = one_more c.loop-row.yielded c.in-Some.row in
    rw more (bodies_turn _ _ _ _ _ _ _ l.0 _ x.within (c.load.ensures ∙ x.is) c.put_row.ensures, x.left)

pub returns : goal.returns
returns c =
    let l = c.loop-row.invariant in
    bodies_end _ _ _ _ _ _ _ l.0 (reads_end _ _ _ c.requires.n_in_bounds l.1 c.in-None.ensures.steps.1.0)
