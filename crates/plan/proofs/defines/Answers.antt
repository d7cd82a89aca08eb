-- `plan::defines` meets its contract. Assumes nothing.
use mathlib.Core.Path.{refl, ◌∙◌}
use native.Mathlib.Omega.{arith}
use Rattle.std.proofs.Common.{rules, tests}
use Rattle.std.proofs.lemmas.Iterator.{YieldsList-from_range}
use Rattle.std.proofs.lemmas.Iterator.Search.{any_from_yields_List}
use Rattle.plan.proofs.Laws.{definition_at, definition_found}
use Rattle.plan.proofs.defines.Goals as goal

pub returns : goal.returns
returns c =
    let a = c.args in
    any_from_yields_List (definition_at a.words.now a.at a.s) _ _ _ c.any.ensures.ran
    (YieldsList-from_range 0 a.n a.n refl (omega arith)) (λ x b q k. search (rules, tests))
    ∙ definition_found a.words.now a.at a.s a.n
