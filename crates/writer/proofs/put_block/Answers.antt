-- `writer::put_block` meets its contract. Assumes nothing.
use Rattle.model.specs.Bytes.{put16}
use Rattle.model.specs.Tree.{row_bytes}
use Rattle.plan.specs.Plan.{row_for}
use Rattle.writer.specs.Writer.{fixed}
use Rattle.writer.proofs.put_block.Goals as goal

pub returns : goal.returns
unfolding row_for row_bytes fixed put16
returns c =
    c.put_fixed.ensures
