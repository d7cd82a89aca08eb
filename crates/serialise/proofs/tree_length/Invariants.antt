-- `serialise::tree_length` in its loop: what stays. Assumes nothing.
use Prim.Native.Nat.{◌+◌, ◌*◌, ◌≤◌}
use mathlib.Core.Path.{◌≡◌}
use lib.ListN.{length}
use Rattle.laws.specs.Rows.{total}
use Rattle.plan.specs.Plan.{AllWritable, planned_rows}
use Rattle.serialise.proofs.Rows.{left, left_rows, Reads}
use Rattle.serialise.proofs.tree_length.Given as given

-- the sum, with what is left from here, is the whole; a row takes at most 65,535 bytes
abbrev pub invariant-loop-row : given.invariant-loop-row
invariant-loop-row l =
    AllWritable l.forest (left l.work l.at l.n (length l.yielded)) × (l.sum ≤ 4 + 4 * l.n + 65535 * length l.yielded)
    × (l.sum + total (left_rows l.forest l.work l.at l.n (length l.yielded)) ≡ 4 + 4 * l.n + total (planned_rows l.forest l.work l.at l.n))
    × Reads l.work l.at l.n (length l.yielded) l.row-iterator.rest.now l.row-iterator.size
