-- What the operands of an opcode weigh in the measure of the walk. Assumes nothing.
use Prim.Native.Nat.{ℕ, ◌≤◌}
use mathlib.Core.Path.{◌≡◌, refl}
use mathlib.Core.Bool.{Bool, true, false}
use native.Mathlib.Omega.{arith}
use Rattle.model.specs.Intern.{thunked}
use Rattle.intern.proofs.After.{thunked-first}

-- the operands of an opcode weigh more where it has thunks
unfoldable pub weight : ℕ → ℕ
weight op = elim (thunked op 1) [ true ↦ 5 | false ↦ 3 ]

pub weight_between : (op : ℕ) → (3 ≤ weight op) × (weight op ≤ 5)
unfolding weight
weight_between op = go (thunked op 1)
  where
    go : (b : Bool) → (3 ≤ elim b [ true ↦ 5 | false ↦ 3 ]) × (elim b [ true ↦ 5 | false ↦ 3 ] ≤ 5)
    go true = (omega arith, omega arith)
    go false = (omega arith, omega arith)

pub weight_thunked : (op j : ℕ) → thunked op j ≡ true → weight op ≡ 5
unfolding weight
weight_thunked op j e = rw (thunked-first op j e, weight)

pub weight_none : weight 0 ≡ 3
unfolding weight thunked
weight_none = refl
