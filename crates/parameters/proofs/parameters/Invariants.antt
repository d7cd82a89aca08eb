-- `parameters::parameters` in its loop: what stays. Assumes nothing.
use Prim.Native.Nat.{◌≤◌}
use mathlib.Core.Path.{◌≡◌}
use Rattle.model.specs.Forest.{rows_in}
use Rattle.model.specs.TemplateLine.{parameters_below}
use Rattle.parameters.proofs.parameters.Given as given

abbrev pub invariant-loop-a : given.invariant-loop-a
invariant-loop-a l = (l.count ≤ l.a) × (l.count ≡ parameters_below l.a (rows_in l.forest))
