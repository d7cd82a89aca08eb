-- `codec::check16` meets its contract. Assumes nothing.
use Prim.Native.Nat.{◌<◌}
use native.Mathlib.Omega.{arith}
use Rattle.model.specs.Forest.{record_count}
use Rattle.codec.proofs.OneShape.{meeting_start, meeting_same, meeting_new}
use Rattle.codec.proofs.check16.Goals as goal
use Rattle.codec.proofs.check16.Goals.{in-Some+else-opcode-ne0, in-None}

pub loop-i-init : goal.loop-i-init
loop-i-init c = meeting_start _

pub loop-i-preserved : goal.loop-i-preserved
loop-i-preserved c =
    let low = c.opcode-opcode.type_inv in
    let is = c.opcode-opcode.ensures in
    let f = c.shape-shape.ensures in
    let lt : c.loop-i.i < record_count c.args.forest.now = omega arith in
    elim c.match-shapes-opcode.branch [
      | in-Some+else-opcode-ne0 w ↦
          rw w.shapes-is (meeting_same _ _ lt _ c.loop-i.invariant _ _ low is f _ w.in-Some.is w.else-opcode-ne0.either)
      | in-None w ↦ rw w.shapes-is (meeting_new _ _ lt _ c.loop-i.invariant _ _ low is f w.in-None.is)
    ]
