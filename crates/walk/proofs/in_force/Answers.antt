-- `walk::in_force` meets its contract. Assumes nothing.
use mathlib.Core.Path.{◌∙◌}
use lib.Dec.{eqb}
use lib.ListN.{take}
use Rattle.std.proofs.Common.{rules, tests}
use Rattle.std.proofs.lemmas.Iterator.Adapters.{YieldsList-from_rev_slice}
use Rattle.std.proofs.lemmas.Iterator.Search.{any_from_yields_List}
use Rattle.walk.proofs.Words.{ids_found_back}
use Rattle.walk.proofs.in_force.Goals as goal

pub returns : goal.returns
returns c =
    any_from_yields_List (λ y. eqb y c.args.id) _ _ _ c.any.ensures.ran (YieldsList-from_rev_slice (take c.args.top c.args.work.now) (search rules))
    (λ x b q k. search (rules, tests))
    ∙ ids_found_back c.args.id c.args.work.now c.args.top c.requires
