-- The functions of the cycle `interning` of `intern` in their loops and calls: what stays, and what falls. Assumes nothing.
use Prim.Native.Nat.{◌+◌, ◌-◌, ◌*◌}
use Rattle.intern.specs.Steps.{kids_done}
use Rattle.intern.proofs.Weight.{weight}
use Rattle.intern.proofs.Remains.{Reading}
use Rattle.intern.proofs.+interning.Given as given

abbrev pub decreases-field : given.decreases-field
decreases-field l =
    6 * (256 - l.i) + 1

abbrev pub decreases-in_thunk : given.decreases-in_thunk
decreases-in_thunk l =
    6 * (256 - l.i) + 4

abbrev pub decreases-lambda : given.decreases-lambda
decreases-lambda l =
    6 * (256 - l.i) + 1

abbrev pub decreases-operands : given.decreases-operands
decreases-operands l =
    6 * (256 - l.i) + weight l.op

abbrev pub invariant-operands-loop-j : given.invariant-operands-loop-j
invariant-operands-loop-j l =
    Reading l.forest.formed.laid l.t l.i l.count l.op l.at l.initial.work l.initial.st l.work
    (kids_done l.st l.branches) l.next l.top l.j

abbrev pub decreases-subtree : given.decreases-subtree
decreases-subtree l =
    6 * (256 - l.i) + 2
