-- `lines::put_number` meets its contract. Assumes nothing.
use native.Mathlib.Omega.{arith}
use Rattle.text.proofs.Numbers.{numeral-length}
use Rattle.output.proofs.Put.{put_then}
use Rattle.lines.proofs.put_number.Goals as goal

pub put_decimal-requires : goal.put_decimal-requires
put_decimal-requires c =
    omega (arith, c.requires, numeral-length c.from.result)

pub put_byte-requires : goal.put_byte-requires
put_byte-requires c =
    let p = c.put_decimal.ensures in
    omega (arith, c.requires, p.ends, p.len, numeral-length c.from.result)

pub returns : goal.returns
returns c =
    rw (← c.from.ensures) (put_then c.put_decimal.ensures c.put_byte.ensures)
