-- `lines::put_saving` meets its contract. Assumes nothing.
use native.Mathlib.Omega.{arith}
use Rattle.std.proofs.lemmas.Int.{to_z-of_z}
use Rattle.text.proofs.Numbers.{signed-length}
use Rattle.lines.proofs.Line.{number_ends}
use Rattle.lines.proofs.Savings.{saving_parts}
use Rattle.lines.proofs.put_saving.Goals as goal

pub put_signed-requires : goal.put_signed-requires
put_signed-requires c =
    let p = c.put_number.ensures in
    omega (arith, c.requires, p.len, number_ends _ _ p, signed-length)

pub put_byte-requires : goal.put_byte-requires
put_byte-requires c =
    let p = c.put_number.ensures in
    let q = c.put_signed.ensures in
    omega (arith, c.requires, p.len, number_ends _ _ p, q.len, q.ends, signed-length)

pub returns : goal.returns
returns c =
    let fits = c.ranges.saving in
    saving_parts _ _ c.put_number.ensures (simp to_z-of_z at c.put_signed.ensures) c.put_byte.ensures
