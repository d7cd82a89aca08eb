-- `savings::savings` meets its contract. Assumes nothing.
use mathlib.Core.Path.{◌≡◌, ◌∙◌, ap}
use Rattle.model.specs.Forest.{trees_of}
use Rattle.model.specs.Savings.{savings}
use Rattle.laws.proofs.Apart.{good_inj}
use Rattle.savings.specs.Saved.{saved}
use Rattle.savings.proofs.Sum.{savings_sum}
use Rattle.savings.proofs.savings.Goals as goal
use Rattle.savings.proofs.savings.Goals.{After-of_accepted}

lines : (c : After-of_accepted) → c.of_accepted.result.items ≡ savings (trees_of c.args.bytes.now)
lines c = c.of_accepted.ensures ∙ ap (λ bs. savings (trees_of bs)) c.in-Ok.ensures.forest.0

pub returns-in-Ok-clause-lines : goal.returns-in-Ok-clause-lines
unfolding saved
returns-in-Ok-clause-lines c =
    lines (goal.at.returns-in-Ok-clause-lines c).After-of_accepted ∙ ap saved c.in-Ok.ensures.judged.is

pub returns-in-Ok-clause-sum : goal.returns-in-Ok-clause-sum
returns-in-Ok-clause-sum c ts accepted =
    let e = good_inj (c.in-Ok.ensures.judged.is ∙ accepted) in
    rw (lines (goal.at.returns-in-Ok-clause-sum c).After-of_accepted, e) (savings_sum ts)

pub returns-in-Err-clause-lines : goal.returns-in-Err-clause-lines
unfolding saved
returns-in-Err-clause-lines c = c.new.ensures ∙ ap saved c.in-Err.ensures.judged.is
