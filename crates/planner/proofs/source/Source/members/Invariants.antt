-- `planner::Source::members` in its loop: what stays. Assumes nothing.
use Prim.Native.Nat.{◌≤◌}
use lib.ListN.{take}
use Rattle.planner.specs.Sources.{Members}
use Rattle.planner.proofs.source.Source.members.Given as given

abbrev pub invariant-loop-s : given.invariant-loop-s
invariant-loop-s l =
    (l.k ≤ l.s-index) × Members l.self l.ids l.sc (take l.s-index l.order) l.k
