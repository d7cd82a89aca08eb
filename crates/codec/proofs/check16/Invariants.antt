-- `codec::check16` in its loop: what stays. Assumes nothing.
use Rattle.codec.proofs.OneShape.{Meeting}
use Rattle.codec.proofs.check16.Given as given

abbrev pub invariant-loop-i : given.invariant-loop-i
invariant-loop-i l = Meeting l.forest l.i l.shapes
