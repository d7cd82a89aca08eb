-- `outsiders::offer_operands` in its loop: what stays. Assumes nothing.
use mathlib.Core.List.{List}
use Prim.Native.Nat.{ℕ}
use lib.ListN.{take}
use Rattle.model.specs.Schedule.{operands}
use Rattle.outsiders.specs.Outsiders.{offered, Listed}
use Rattle.outsiders.proofs.offer_operands.Given as given

abbrev pub invariant-loop-j : given.invariant-loop-j
invariant-loop-j l =
    (bs : List ℕ) →
    Listed bs l.g (offered l.cs (operands l.thunks l.opcode 0 (take l.j l.run)))
    l.initial.list.items l.list.items
