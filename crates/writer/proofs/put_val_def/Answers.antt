-- `writer::put_val_def` meets its contract. Assumes nothing.
use Rattle.model.specs.Bytes.{put16, put32}
use Rattle.model.specs.Tree.{row_bytes}
use Rattle.plan.specs.Plan.{row_for}
use Rattle.writer.specs.Writer.{fixed}
use Rattle.output.proofs.Put.{put_then}
use Rattle.writer.proofs.put_val_def.Goals as goal

pub returns : goal.returns
unfolding row_for row_bytes fixed put16 put32
returns c symbol =
    let x = c.put_fixed.ensures in
    let y = c.put_32.ensures in
    let z = c.put_byte.ensures in
    put_then (put_then x y) z
