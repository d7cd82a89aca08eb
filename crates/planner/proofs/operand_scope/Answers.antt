-- `planner::operand_scope` meets its contract. Assumes nothing.
use mathlib.Core.Path.{sym, ◌∙◌}
use Rattle.planner.proofs.Operands.{opened_none, opened_zero, opened_one, opened-first, opened_second}
use Rattle.planner.proofs.operand_scope.Goals as goal

pub returns-then-not-is_thunked : goal.returns-then-not-is_thunked
returns-then-not-is_thunked c =
    sym (opened_none _ _ _ (sym c.is_thunked.ensures ∙ c.if-not-is_thunked.true))

pub returns-in-Zero : goal.returns-in-Zero
returns-in-Zero c = rw c.in-Zero.is (sym (opened_zero _ _))

pub returns-in-One : goal.returns-in-One
returns-in-One c =
    rw c.in-One.is
    (c.then_some.ensures ∙ sym (opened_one _ _ (sym c.is_thunked.ensures ∙ c.if-not-is_thunked.false) _))

pub returns-then-j-eq1 : goal.returns-then-j-eq1
returns-then-j-eq1 c =
    rw c.in-Two.is
    (sym (opened-first _ _ _ (sym c.is_thunked.ensures ∙ c.if-not-is_thunked.false) c.if-j-eq1.true))

pub returns-else-j-eq1 : goal.returns-else-j-eq1
returns-else-j-eq1 c =
    rw c.in-Two.is
    (sym (opened_second _ _ _ (sym c.is_thunked.ensures ∙ c.if-not-is_thunked.false) c.if-j-eq1.false))
