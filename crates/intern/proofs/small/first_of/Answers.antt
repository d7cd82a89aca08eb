-- `intern::small::first_of` meets its contract. Assumes nothing.
use native.Mathlib.Omega.{arith}
use Rattle.intern.proofs.Bodies.{range_none}
use Rattle.intern.proofs.small.first_of.Goals as goal

pub returns-then-count-eq0 : goal.returns-then-count-eq0
returns-then-count-eq0 c =
    let a = c.args in
    (range_none 0 a.symbol a.count c.if-count-eq0.true, omega arith)
