-- `interner::key_levels` meets its contract. Assumes nothing.
use Rattle.interner.proofs.Ready.{plain_key}
use Rattle.interner.proofs.key_levels.Goals as goal

pub returns-in_default : goal.returns-in_default
returns-in_default c =
    let a = c.args in
    λ j. plain_key a.work.now a.held a.count j c.levels_of-all.result a.node (λ f e. c.in_default.not-Lambda f e)
    (c.levels_of-all.ensures j)
