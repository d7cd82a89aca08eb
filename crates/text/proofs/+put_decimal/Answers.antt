-- The functions of the cycle `put_decimal` of `text` meet their contracts. Assumes nothing.
use native.Mathlib.Omega.{arith}
use Rattle.text.proofs.Numbers.{numeral-one, numeral_least, numeral-more, numeral_before}
use Rattle.output.proofs.Put.{put_as, put_then}
use Rattle.text.proofs.+put_decimal.Goals as goal

pub put_byte-requires : goal.put_byte-requires
put_byte-requires t c =
    omega (arith, c.requires, numeral_least c.args.n c.if-n-lt10.true)

pub returns-then-n-lt10 : goal.returns-then-n-lt10
returns-then-n-lt10 t c =
    put_as (numeral-one _ _ c.if-n-lt10.true c.digit.ensures) c.put_byte.ensures

pub put_decimal-requires : goal.put_decimal-requires
put_decimal-requires t c =
    let e = numeral_before c.args.n c.if-n-lt10.false (omega (arith, c.ranges.n)) in
    (omega (arith, c.decreases), omega (arith, c.requires))

pub put_byte-requires-2 : goal.put_byte-requires-2
put_byte-requires-2 t c =
    let e = numeral_before c.args.n c.if-n-lt10.false (omega (arith, c.ranges.n)) in
    omega (arith, c.requires, c.put_decimal.ensures.ends, c.put_decimal.ensures.len)

pub returns : goal.returns
returns t c =
    put_as (numeral-more _ _ c.if-n-lt10.false (omega (arith, c.ranges.n)) c.digit-2.ensures)
    (put_then c.put_decimal.ensures c.put_byte-2.ensures)
