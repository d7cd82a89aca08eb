-- For callers: the first operand of a record is no thunk.
-- Assumes nothing.
use Prim.Native.Nat.{ℕ}
use mathlib.Core.Path.{◌≡◌}
use mathlib.Core.Bool.{false}
use native.Mathlib.Omega.{arith}
use Rattle.std.proofs.lemmas.Bool.Decides.{nat_tests}
use Rattle.model.specs.Intern.{thunked}

-- the condition of an IF, and the first operand of any other record, are no thunks
pub first_eager : (op : ℕ) → thunked op 0 ≡ false
unfolding thunked
first_eager op = grind (arith, nat_tests)
