-- `savings::weight` in its loop: what stays. Assumes nothing.
use mathlib.Core.Path.{◌≡◌}
use Rattle.model.specs.Savings.{weight}
use Rattle.savings.specs.Siblings.{rows_between}
use Rattle.savings.proofs.weight.Given as given

abbrev pub invariant-loop-i : given.invariant-loop-i
invariant-loop-i l = l.sum ≡ weight (rows_between l.forest.laid l.from l.i)
