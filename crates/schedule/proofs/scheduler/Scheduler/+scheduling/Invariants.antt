-- The functions of the cycle `scheduling` of `schedule::Scheduler` in their loops and calls: what stays, and what falls.
-- Assumes nothing.
use Prim.Native.Nat.{◌+◌, ◌*◌}
use lib.ListN.{take}
use Rattle.model.specs.Schedule.{each}
use Rattle.schedule.specs.Schedule.{step_of, Walked}
use Rattle.schedule.proofs.scheduler.Scheduler.+scheduling.Given as given

abbrev pub decreases-across : given.decreases-across
decreases-across l =
    4 * l.s + 2

abbrev pub invariant-across-loop-entry : given.invariant-across-loop-entry
invariant-across-loop-entry l =
    Walked l.self (λ h. each (step_of h l.self.order) (take l.entry-index l.near)) l.initial.seen l.initial.list.items
    l.seen l.list.items

abbrev pub decreases-free : given.decreases-free
decreases-free l =
    4 * l.c + 1

abbrev pub decreases-run : given.decreases-run
decreases-run l =
    4 * l.top

abbrev pub invariant-run-loop-entry : given.invariant-run-loop-entry
invariant-run-loop-entry l =
    Walked l.self (λ h. each (step_of h l.self.order) (take l.entry-index l.near)) l.initial.seen l.initial.list.items
    l.seen l.list.items

abbrev pub decreases-visit : given.decreases-visit
decreases-visit l =
    4 * l.s + 3
