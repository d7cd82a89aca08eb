-- `interner::alloc_args` meets its contract. Assumes nothing.
use mathlib.Core.Path.{refl}
use Rattle.interner.proofs.Arguments.{so_far_more, next_levels, args_done, args_refused}
use Rattle.interner.proofs.alloc_args.Goals as goal

pub returns-then-n-count-gt512 : goal.returns-then-n-count-gt512
returns-then-n-count-gt512 c =
    let p = c.requires in
    rw c.no_room.ensures (args_refused p.rep p.binds c.if-n-count-gt512.true refl)

pub push-requires-clause-levels : goal.push-requires-clause-levels
push-requires-clause-levels c =
    (next_levels c.requires.rep c.requires.binds c.level_inside-levels.ensures c.loop.invariant).1

pub loop-preserved : goal.loop-preserved
loop-preserved c =
    let g = c.requires in
    so_far_more g.rep g.binds c.level_inside-levels.ensures c.loop.invariant c.loop-test.true
    c.push.ensures

pub returns : goal.returns
returns c =
    let p = c.requires in
    args_done p.rep p.binds c.if-n-count-gt512.false c.loop.invariant c.loop-test.false refl
