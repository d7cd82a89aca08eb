-- `free_lists::store` in its loop: what stays. Assumes nothing.
use Prim.Native.Nat.{◌+◌}
use mathlib.Core.Path.{◌≡◌}
use lib.ListN.{take}
use lib.Seq.{sets}
use Rattle.regions.specs.Regions.{FREE_LISTS}
use Rattle.free_lists.proofs.store.Given as given

abbrev pub invariant-loop-k : given.invariant-loop-k
invariant-loop-k l = l.work ≡ sets l.initial.work ((FREE_LISTS).first + l.first) (take l.k l.list)
