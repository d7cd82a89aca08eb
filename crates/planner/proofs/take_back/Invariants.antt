-- `planner::take_back` in its loop: what stays. Assumes nothing.
use mathlib.Core.Path.{◌≡◌}
use lib.ListN.{take}
use Rattle.planner.specs.Building.{taken_back}
use Rattle.planner.proofs.take_back.Given as given

abbrev pub invariant-loop-s : given.invariant-loop-s
invariant-loop-s l =
    l.ids ≡ taken_back l.initial.ids (take l.s-index l.order) l.last
