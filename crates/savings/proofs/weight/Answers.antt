-- `savings::weight` meets its contract. Assumes nothing.
use native.Mathlib.Omega.{arith}
use Rattle.savings.proofs.Rows.{weight_few}
use Rattle.savings.proofs.weight.Goals as goal

pub overflow_add-sum-in-loop-i : goal.overflow_add-sum-in-loop-i
overflow_add-sum-in-loop-i c =
    omega (arith, c.loop-i.invariant, weight_few c.args.forest.now.laid c.args.from c.loop-i.i c.args.forest.now.formed.laid, c.size.ensures.1)

pub returns-clause-small : goal.returns-clause-small
returns-clause-small c =
    omega (arith, c.loop-i.invariant, weight_few c.args.forest.now.laid c.args.from c.loop-i.i c.args.forest.now.formed.laid)
