-- `planner::number` in its loop: what stays. Assumes nothing.
use Prim.Native.Nat.{◌+◌}
use mathlib.Core.Path.{◌≡◌}
use lib.Seq.{sets}
use Rattle.laws.specs.Range.{range}
use Rattle.planner.proofs.number.Given as given

abbrev pub invariant-loop-j : given.invariant-loop-j
invariant-loop-j l =
    l.ids ≡ sets l.initial.ids l.first (range (l.last + 1) l.j)
