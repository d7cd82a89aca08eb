-- `sheet::put_line` meets its contract. Assumes nothing.
use Rattle.walk.specs.Walk.{rec_at}
use Rattle.sheet.proofs.Lines.{fits_at, line_parts}
use Rattle.sheet.proofs.put_line.Goals as goal

pub put_own-requires : goal.put_own-requires
put_own-requires c =
    fits_at c.args.forest.now.laid c.args.i c.args.forest.now.formed c.requires.i_bound c.shape-shape.ensures
    c.aux.ensures (rw c.bytes.ensures.bytes at c.literal_at-lit.ensures)

pub returns : goal.returns
returns c =
    let a = c.args in
    line_parts a.i a.depth (rec_at a.forest.now.laid a.i) c.shape-shape.ensures c.opcode.ensures
    c.aux.ensures (rw c.bytes.ensures.bytes at c.literal_at-lit.ensures) c.put_place.ensures c.put_shape.ensures
    c.put_opcode.ensures c.put_own.ensures c.put_literal.ensures c.put.ensures
