-- `gate::clear` meets its contract. Assumes nothing.
use native.Mathlib.Omega.{arith}
use Rattle.gate.proofs.Words.{cleared_by}
use Rattle.gate.proofs.clear.Goals as goal

pub returns : goal.returns
returns c =
    cleared_by c.args.work.now c.args.n (omega arith) _ _ (omega arith) c.fill.ensures.after c.fill-2.ensures.after
