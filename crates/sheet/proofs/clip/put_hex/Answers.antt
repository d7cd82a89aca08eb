-- `sheet::clip::put_hex` meets its contract. Assumes nothing.
use mathlib.Core.Path.{ap, ◌∙◌}
use mathlib.Core.List.{append-nil}
use native.Mathlib.Omega.{arith}
use lib.ListN.{length}
use Rattle.model.specs.Lister.{hex_byte}
use Rattle.output.proofs.Over.{over_front}
use Rattle.output.proofs.Put.{put_wrote}
use Rattle.sheet.proofs.Clipping.{clipped_as, clipped_whole}
use Rattle.sheet.proofs.clip.put_hex.Goals as goal

pub returns-then-out-ge2 : goal.returns-then-out-ge2
unfolding hex_byte
returns-then-out-ge2 c = clipped_whole c.put_hex.ensures (omega arith)

pub put_hex-requires-2 : goal.put_hex-requires-2
put_hex-requires-2 c =
    let start = c.new-digits.ensures.start in
    omega (arith, ap length start.0, start.1)

pub returns : goal.returns
unfolding hex_byte
returns c =
    let start = c.new-digits.ensures.start in
    let whole = (put_wrote start.0 start.1 c.put_hex-2.ensures).holds ∙ over_front _ _ in
    clipped_as c.put_text.ensures (whole ∙ append-nil (hex_byte c.args.b))
