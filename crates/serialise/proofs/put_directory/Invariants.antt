-- `serialise::put_directory` in its loop: what stays. Assumes nothing.
use lib.ListN.{length}
use Rattle.serialise.proofs.Rows.{Pairs, Reads}
use Rattle.serialise.proofs.put_directory.Given as given

abbrev pub invariant-loop-row : given.invariant-loop-row
invariant-loop-row l =
    Pairs l.forest l.work l.at l.n l.initial.out l.out (length l.yielded) l.offset
    × Reads l.work l.at l.n (length l.yielded) l.row-iterator.rest.now l.row-iterator.size
