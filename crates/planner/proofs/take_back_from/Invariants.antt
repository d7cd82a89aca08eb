-- `planner::take_back_from` in its loop: what stays. Assumes nothing.
use mathlib.Core.Path.{◌≡◌}
use lib.ListN.{replicate}
use lib.Seq.{sets}
use Rattle.planner.proofs.take_back_from.Given as given

abbrev pub invariant-loop-j : given.invariant-loop-j
invariant-loop-j l =
    l.ids ≡ sets l.initial.ids l.first (replicate l.j 0)
