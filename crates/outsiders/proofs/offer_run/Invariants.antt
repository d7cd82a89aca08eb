-- `outsiders::offer_run` in its loop: what stays. Assumes nothing.
use mathlib.Core.List.{List}
use Prim.Native.Nat.{ℕ}
use lib.ListN.{take}
use Rattle.outsiders.specs.Outsiders.{offered, Listed}
use Rattle.outsiders.proofs.offer_run.Given as given

abbrev pub invariant-loop-d : given.invariant-loop-d
invariant-loop-d g l =
    (bs : List ℕ) → Listed bs l.g (offered l.cs (take l.d-index (g.T.Entry.numbers l.run)))
    l.initial.list.items l.list.items
