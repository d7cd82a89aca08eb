-- `codec::check3` in its loop: what stays. Assumes nothing.
use mathlib.Core.Path.{◌≡◌}
use Rattle.model.specs.Forest.{check3}
use Rattle.codec.proofs.Directory.{pairs_left}
use Rattle.codec.proofs.check3.Given as given

abbrev pub invariant-loop-i : given.invariant-loop-i
invariant-loop-i l = pairs_left l.forest l.n l.from l.i ≡ check3 l.forest
