-- `walk::clashes` meets its contract. Assumes nothing.
use mathlib.Core.Path.{refl, ◌∙◌}
use Rattle.std.proofs.Common.{rules, tests}
use Rattle.std.proofs.lemmas.Iterator.{YieldsList-from_range}
use Rattle.std.proofs.lemmas.Iterator.Search.{any_from_yields_List}
use Rattle.walk.proofs.Words.{clashes_at, clash_found}
use Rattle.walk.proofs.clashes.Goals as goal

pub returns : goal.returns
returns c =
    any_from_yields_List (clashes_at c.args.work.now) _ _ _ c.any.ensures.ran
    (YieldsList-from_range c.args.top c.args.end _ refl refl)
    (λ x b q k. search (rules, tests))
    ∙ clash_found _ _ _
