-- `writer::put_field` meets its contract. Assumes nothing.
use Rattle.model.specs.Bytes.{put16}
use Rattle.model.specs.Tree.{row_bytes}
use Rattle.plan.specs.Plan.{row_for}
use Rattle.writer.specs.Writer.{fixed}
use Rattle.output.proofs.Put.{put_then}
use Rattle.writer.proofs.put_field.Goals as goal

pub returns : goal.returns
unfolding row_for row_bytes fixed put16
returns c =
    let x = c.put_fixed.ensures in
    let y = c.put_byte.ensures in
    put_then x y
