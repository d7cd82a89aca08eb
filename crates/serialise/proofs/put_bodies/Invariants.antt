-- `serialise::put_bodies` in its loop: what stays. Assumes nothing.
use lib.ListN.{length}
use Rattle.serialise.proofs.Rows.{Bodies, Reads}
use Rattle.serialise.proofs.put_bodies.Given as given

abbrev pub invariant-loop-row : given.invariant-loop-row
invariant-loop-row l =
    Bodies l.forest l.work l.at l.n l.initial.out l.out (length l.yielded)
    × Reads l.work l.at l.n (length l.yielded) l.row-iterator.rest.now l.row-iterator.size
