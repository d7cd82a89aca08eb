-- `sheet::names::put_opcode` meets its contract. Assumes nothing.
use Rattle.model.specs.Text.{text}
use Rattle.model.specs.Sheet.{opcode_text}
use Rattle.sheet.proofs.Clipping.{clipped_then, clipped_as}
use Rattle.sheet.proofs.names.put_opcode.Goals as goal

pub returns : goal.returns
unfolding text opcode_text
returns c =
    clipped_then (clipped_then c.put.ensures c.put_hex.ensures)
    (clipped_as c.put_text.ensures c.opcode_name.ensures)
