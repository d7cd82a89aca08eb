-- The functions of the cycle `giving` of `free_lists` in their loops and calls: what stays, and what falls.
-- Assumes nothing.
use Prim.Native.Nat.{ℕ, ◌+◌, ◌*◌}
use mathlib.Core.List.{List}
use lib.ListN.{take}
use Rattle.outsiders.specs.Outsiders.{Listed}
use Rattle.free_lists.specs.FreeLists.{gives}
use Rattle.free_lists.proofs.+giving.Given as given

abbrev pub decreases-give : given.decreases-give
decreases-give l =
    2 * l.d + 1

abbrev pub decreases-give_run : given.decreases-give_run
decreases-give_run l =
    2 * l.top

abbrev pub invariant-give_run-loop-d : given.invariant-give_run-loop-d
invariant-give_run-loop-d l =
    (bs : List ℕ) → Listed bs l.g (gives l.g.words.now l.cs (take l.d-index l.run))
    l.initial.list.items l.list.items
