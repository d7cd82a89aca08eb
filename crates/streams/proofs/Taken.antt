-- Bytes written over an output's start, taken from it.
-- Assumes nothing.
use Rattle.std.proofs.Common.{◌≡◌, ℕ, List, take, drop, length, arith, ap, ◌∙◌}
use Rattle.std.proofs.Math.Seq.{take_at}
use Rattle.output.specs.Output.{Wrote}
use Rattle.output.proofs.Over.{over_front}

pub taken : {out bytes out' : List ℕ} {n : ℕ} → Wrote out 0 bytes out' n → take n out' ≡ bytes
taken {out} {bytes} {out'} {n} w =
    ap (take n) (w.holds ∙ over_front out bytes) ∙ take_at bytes (drop (length bytes) out) n (omega (arith, w.ends))
