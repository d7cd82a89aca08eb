-- `interner::level_inside` meets its contract. Assumes nothing.
use Rattle.interner.proofs.Arguments.{one_level}
use Rattle.interner.proofs.level_inside.Goals as goal

pub returns : goal.returns
returns c =
    λ j. one_level c.empty.result c.with.result c.level-depth.result _ j (c.empty.ensures j)
    (c.with.ensures j) c.level-depth.ensures.0
