-- `sheet::write_refusal` meets its contract. Assumes nothing.
use mathlib.Core.Path.{sym}
use native.Mathlib.Omega.{arith}
use lib.Seq.{length-take-le}
use Rattle.std.proofs.Common.{rules}
use Rattle.sheet.proofs.Clipping.{clipped_as, clipped_over, scratch_text}
use Rattle.sheet.proofs.write_refusal.Goals as goal

pub slice_bounds-put_text-end : goal.slice_bounds-put_text-end
slice_bounds-put_text-end c =
    sym (length-take-le _ _ (omega arith))

pub returns : goal.returns
returns c =
    let start = c.new-sheet.ensures.start in
    let line = clipped_as c.put_text.ensures (scratch_text c.put_refusal-k.ensures) in
    let w = clipped_over line start.0 start.1 in
    rw (← c.from.ensures) (search rules)
