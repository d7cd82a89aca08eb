-- `replay::main` in its loop: what stays. Assumes nothing.
use Rattle.std.proofs.Common.{◌≤◌}
use Rattle.replay.proofs.main.Given as goal

abbrev pub invariant-loop-row : goal.invariant-loop-row
invariant-loop-row l = l.differ ≤ l.row-counter
