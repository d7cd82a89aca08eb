-- `replay_check::put_spaced` meets its contract. Assumes nothing.
use mathlib.Core.Path.{ap}
use native.Mathlib.Omega.{arith}
use lib.Seq.{take_all}
use Rattle.text.proofs.Numbers.{numeral-length}
use Rattle.output.proofs.Put.{put_as}
use Rattle.replay_check.specs.Line.{spaced}
use Rattle.replay_check.proofs.Accepted.{spaced_start, spaced_end, spaced_turn}
use Rattle.replay_check.proofs.put_spaced.Goals as goal

pub loop-end-init : goal.loop-end-init
loop-end-init c = spaced_start _ c.args.ends.now

pub put_byte-requires : goal.put_byte-requires
put_byte-requires c =
    let p = c.loop-end.invariant in
    omega (arith, c.requires, p.len, spaced_end _ _ p (omega arith))

pub put_decimal-requires : goal.put_decimal-requires
put_decimal-requires c =
    let p = c.loop-end.invariant in
    let q = c.put_byte.ensures in
    omega (arith, c.requires, p.len, spaced_end _ _ p (omega arith), q.len, q.ends, numeral-length c.from.result)

pub loop-end-preserved : goal.loop-end-preserved
loop-end-preserved c =
    spaced_turn _ _ c.loop-end.invariant c.loop-end-test.true c.put_byte.ensures
    (rw c.from.ensures at c.put_decimal.ensures)

pub returns : goal.returns
returns c = put_as (ap spaced (take_all _ _ (omega arith))) c.loop-end.invariant
