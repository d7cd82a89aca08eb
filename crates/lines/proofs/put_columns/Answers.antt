-- `lines::put_columns` meets its contract. Assumes nothing.
use native.Mathlib.Omega.{arith}
use Rattle.model.specs.Lister.{hex_byte}
use Rattle.lines.proofs.Line.{number_ends, columns_parts}
use Rattle.lines.proofs.put_columns.Goals as goal

pub put_two-requires : goal.put_two-requires
put_two-requires c =
    omega (arith, c.requires.room, c.put_number.ensures.len, number_ends _ _ c.put_number.ensures)

pub put_hex-requires : goal.put_hex-requires
put_hex-requires c =
    let p = c.put_number.ensures in
    let q = c.put_two.ensures in
    omega (arith, c.requires.room, p.len, number_ends _ _ p, q.len, q.ends)

pub put_byte-requires : goal.put_byte-requires
unfolding hex_byte
put_byte-requires c =
    let p = c.put_number.ensures in
    let q = c.put_two.ensures in
    let r = c.put_hex.ensures in
    omega (arith, c.requires.room, p.len, number_ends _ _ p, q.len, q.ends, r.len, r.ends)

pub returns : goal.returns
returns c =
    columns_parts _ _ _ (c.tag.ensures c.args.forest.now) c.opcode_shown.ensures
    c.put_number.ensures c.put_two.ensures c.put_hex.ensures c.put_byte.ensures
