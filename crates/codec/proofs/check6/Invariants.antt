-- `codec::check6` in its loop: what stays. Assumes nothing.
use Prim.Native.Nat.{◌+◌, ◌*◌, ◌≤◌}
use mathlib.Core.Path.{◌≡◌}
use lib.ListN.{drop}
use Rattle.model.specs.Forest.{rows_in, unclosed, check6}
use Rattle.codec.proofs.check6.Given as given

abbrev pub invariant-loop-i : given.invariant-loop-i
invariant-loop-i l =
    (l.left ≤ 65536 * l.i + 16) × (unclosed l.left l.i (drop l.i (rows_in l.forest)) ≡ check6 l.forest)
