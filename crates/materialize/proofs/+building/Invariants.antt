-- The functions of the cycle `building` of `materialize` in their loops and calls: what stays, and what falls. Assumes nothing.
use Prim.Native.Nat.{◌+◌, ◌*◌, ◌≤◌}
use mathlib.Core.Path.{◌≡◌}
use Rattle.std.specs.Prelude.{Some}
use lib.ListN.{take}
use Rattle.planner.specs.Planning.{UpTo, Added, Labels, Defines, order_symbols, Leads, LeadsLabels}
use Rattle.materialize.proofs.+building.Given as given

abbrev pub decreases-build : given.decreases-build
decreases-build l =
    8 * l.s + 2

abbrev pub decreases-define : given.decreases-define
decreases-define l =
    8 * l.root + 5

abbrev pub decreases-definition : given.decreases-definition
decreases-definition l =
    8 * l.s + 3

abbrev pub decreases-definitions : given.decreases-definitions
decreases-definitions l =
    8 * l.root + 4

abbrev pub invariant-definitions-loop-s : given.invariant-definitions-loop-s
invariant-definitions-loop-s l =
    Defines l.source l.initial.ids l.initial.plan l.initial.d.plan l.above l.sc (take l.s-index l.order) l.last l.s-index l.plan l.ids l.d.plan l.d.last
    × Labels l.source l.initial.ids l.initial.plan l.initial.d.plan (order_symbols l.sc (take l.s-index l.order) l.last)
    l.plan (Some l.d.plan)
    × Added l.source l.initial.ids (take l.s-index l.order) l.last l.ids
    × ((l.last ≤ l.d.last) × UpTo l.ids l.d.last)

abbrev pub decreases-fresh : given.decreases-fresh
decreases-fresh l =
    8 * l.s + 1

abbrev pub decreases-lambda : given.decreases-lambda
decreases-lambda l =
    8 * l.s

abbrev pub decreases-operand : given.decreases-operand
decreases-operand l =
    8 * l.s + 7

abbrev pub decreases-operands : given.decreases-operands
decreases-operands l =
    8 * l.s

abbrev pub invariant-operands-loop-j : given.invariant-operands-loop-j
invariant-operands-loop-j l =
    (l.q.rows ≤ 256)
    × Leads l.source l.initial.ids l.initial.plan l.initial.q (l.above + 1) l.s l.opcode l.o l.last l.j l.plan l.q
    × LeadsLabels l.source l.initial.ids l.initial.plan l.initial.q l.s l.opcode l.o l.last l.j l.plan l.q
    × (l.ids ≡ l.initial.ids)
