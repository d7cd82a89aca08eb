-- `intern::conclude` meets its contract. Assumes nothing.
use native.Mathlib.Omega.{arith}
use mathlib.Core.Path.{ap}
use Rattle.interner.specs.Step.{given as given_step}
use Rattle.intern.specs.Steps.{kids_done}
use Rattle.intern.proofs.Records.{Concludable, ends_shape, last_asks, last_answers, general_answers}
use Rattle.intern.proofs.conclude.Goals as goal
use Rattle.intern.proofs.conclude.Goals.{After-kids-count}

-- what holds once the children are counted
given : (c : After-kids-count) →
    let a = c.args in Concludable a.forest.now.laid a.work.now a.i a.at (kids_done a.st.now a.b) c.kids-count.result
given c =
    let p = c.requires in
    record { sound = c.args.forest.now.formed; rep = p.rep; concludes = p.concluding; count = c.kids-count.ensures.0 }

pub last-requires : goal.last-requires
last-requires c =
    last_asks (given (goal.at.last-requires c).After-kids-count) (ends_shape _ (omega arith) (omega arith))

pub returns-in-10 : goal.returns-in-10
returns-in-10 c =
    last_answers (given (goal.at.returns-in-10 c).After-kids-count) c.args.t (ends_shape _ (omega arith) (omega arith))
    (ap (given_step c.args.st.now) c.last.ensures)

pub returns-in_default : goal.returns-in_default
returns-in_default c =
    general_answers (given (goal.at.returns-in_default c).After-kids-count) c.args.t (λ e. omega arith) (λ e. omega arith)
    c.general.ensures
