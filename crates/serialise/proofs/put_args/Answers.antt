-- `serialise::put_args` meets its contract. Assumes nothing.
use Prim.Native.Nat.{◌+◌}
use mathlib.Core.Path.{ap, ◌∙◌}
use native.Mathlib.Omega.{arith}
use Rattle.shape.specs.Iterating.{args_left}
use Rattle.serialise.proofs.Args.{put32-length, lit_start, lit_room, lit_turn, lit_end}
use Rattle.serialise.proofs.put_args.Goals as goal

pub loop-arg-init : goal.loop-arg-init
loop-arg-init c =
    lit_start _ _ _ _ _ (ap args_left c.into_iter-arg-iterator.ensures.into_iter_gives ∙ c.new-arg-items.ensures) c.requires.all
    c.requires.room

pub put_32-requires : goal.put_32-requires
put_32-requires c =
    omega (arith, lit_room _ _ _ _ _ _ _ c.loop-arg.invariant _ _ c.in-Some.ensures.steps)

pub put_bytes-requires : goal.put_bytes-requires
put_bytes-requires c =
    let p = c.put_32.ensures in
    omega (
      arith,
      lit_room _ _ _ _ _ _ _ c.loop-arg.invariant _ _ c.in-Some.ensures.steps,
      p.ends,
      p.len,
      put32-length (c.loop-arg.id + 1),
    )

pub loop-arg-preserved : goal.loop-arg-preserved
loop-arg-preserved c =
    lit_turn _ _ _ _ _ _ _ c.loop-arg.invariant _ _ c.in-Some.ensures.steps c.put_32.ensures c.put_bytes.ensures

pub returns : goal.returns
returns c =
    lit_end _ _ _ _ _ _ _ c.loop-arg.invariant c.in-None.ensures.steps.0
