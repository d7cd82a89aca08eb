-- `text::put_line` meets its contract. In order: the room left for each part; the whole. Assumes nothing.
use mathlib.Core.Path.{ap}
use native.Mathlib.Omega.{arith}
use lib.ListN.{length}
use Rattle.std.proofs.Common.{rules}
use Rattle.text.proofs.Numbers.{numeral-length}
use Rattle.text.proofs.Line.{line_parts}
use Rattle.output.proofs.Put.{put_wrote}
use Rattle.text.proofs.put_line.Goals as goal

pub put_decimal-requires : goal.put_decimal-requires
put_decimal-requires c =
    let s = c.new-line.ensures.start in
    omega (arith, ap length s.0, numeral-length c.args.m)

pub put_bytes-requires-2 : goal.put_bytes-requires-2
put_bytes-requires-2 c =
    let s = c.new-line.ensures.start in
    omega (arith, ap length s.0, numeral-length c.args.m)

pub put_decimal-requires-2 : goal.put_decimal-requires-2
put_decimal-requires-2 c =
    let s = c.new-line.ensures.start in
    omega (arith, ap length s.0, numeral-length c.args.m, numeral-length c.args.n)

pub put_bytes-requires-3 : goal.put_bytes-requires-3
put_bytes-requires-3 c =
    let s = c.new-line.ensures.start in
    omega (arith, ap length s.0, numeral-length c.args.m, numeral-length c.args.n)

pub returns : goal.returns
returns c =
    let w = put_wrote c.new-line.ensures.start.0 c.new-line.ensures.start.1
    (line_parts c.put_bytes.ensures c.put_decimal.ensures c.put_bytes-2.ensures c.put_decimal-2.ensures
    c.put_bytes-3.ensures) in
    search rules
