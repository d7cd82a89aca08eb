-- `sheet::clip::put_number` meets its contract. Assumes nothing.
use mathlib.Core.Path.{ap}
use native.Mathlib.Omega.{arith}
use lib.ListN.{length}
use Rattle.text.proofs.Numbers.{numeral-length}
use Rattle.output.proofs.Put.{put_wrote}
use Rattle.sheet.proofs.Clipping.{clipped_as, scratch_text}
use Rattle.sheet.proofs.clip.put_number.Goals as goal

pub put_decimal-requires : goal.put_decimal-requires
put_decimal-requires c =
    let start = c.new-digits.ensures.start in
    omega (arith, ap length start.0, start.1, numeral-length c.args.n)

pub returns : goal.returns
returns c =
    let start = c.new-digits.ensures.start in
    clipped_as c.put_text.ensures (scratch_text (put_wrote start.0 start.1 c.put_decimal.ensures))
