-- `planner::Source::any_member` meets its contract. Assumes nothing.
use Prim.Native.Nat.{◌+◌}
use mathlib.Core.Path.{refl}
use native.Mathlib.Omega.{arith}
use Rattle.std.proofs.Common.{rules, tests}
use Rattle.std.proofs.lemmas.Iterator.{YieldsList-from_range}
use Rattle.std.proofs.lemmas.Iterator.Search.{any_from_yields_List}
use Rattle.model.specs.Materialize.{member}
use Rattle.planner.proofs.Membership.{any_below}
use Rattle.planner.proofs.source.Source.any_member.Goals as goal

pub returns : goal.returns
returns c = λ gr env st maps.
    let n = c.args.root + 1 in
    any_below gr _ env n _
    (any_from_yields_List (member gr c.args.sc env) _ _ _ c.any.ensures.ran
    (YieldsList-from_range 0 n n refl (omega arith)) (λ x b q k. search (rules, tests)))
