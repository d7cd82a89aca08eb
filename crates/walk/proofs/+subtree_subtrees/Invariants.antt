-- The functions of the cycle `subtree_subtrees` of `walk` in their loop and calls: what stays, and what falls. Assumes nothing.
use Prim.Native.Nat.{◌+◌, ◌-◌, ◌*◌}
use Rattle.walk.proofs.Walking.{Walking}
use Rattle.walk.proofs.+subtree_subtrees.Given as given

abbrev pub decreases-subtree : given.decreases-subtree
decreases-subtree l =
    2 * (256 - l.i)

abbrev pub decreases-subtrees : given.decreases-subtrees
decreases-subtrees l =
    2 * (256 - l.i) + 1

abbrev pub invariant-subtrees-loop-left : given.invariant-subtrees-loop-left
invariant-subtrees-loop-left l =
    Walking l.forest.laid l.test l.i l.count l.at l.initial.work l.work l.initial.ends l.ends l.j l.left l.top
