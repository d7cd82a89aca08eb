-- The functions of the cycle `add` of `savings` in their loops and calls: what stays, and what falls. Assumes nothing.
use Prim.Native.Nat.{◌-◌}
use Rattle.savings.proofs.+add.Given as given

abbrev pub decreases-add : given.decreases-add
decreases-add l = l.end - l.i
