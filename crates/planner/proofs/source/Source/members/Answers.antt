-- `planner::Source::members` meets its contract. Assumes nothing.
use mathlib.Core.Path.{◌∙◌}
use native.Mathlib.Omega.{arith}
use Rattle.planner.proofs.Membership.{members_none, members_found, members_passed}
use Rattle.planner.proofs.source.Source.members.Goals as goal
use Rattle.planner.proofs.source.Source.members.Goals.{then-member, else-member}

pub loop-s-init : goal.loop-s-init
loop-s-init c =
    (omega arith, λ gr env st maps. members_none gr _ env)

pub loop-s-preserved : goal.loop-s-preserved
loop-s-preserved c =
    elim c.if-member.branch [
      | then-member w ↦ (
        omega (arith, w.k-is),
        λ gr env st maps.
            w.k-is ∙ members_found gr _ env _ _ _ _ _ c.loop-s-test.true c.from.ensures (c.member.ensures.is gr env st maps)
            (c.loop-s.invariant.1 gr env st maps) w.if-member.true,
      )
      | else-member w ↦ (
        omega (arith, w.k-is),
        λ gr env st maps.
            w.k-is ∙ members_passed gr _ env _ _ _ _ _ c.loop-s-test.true c.from.ensures (c.member.ensures.is gr env st maps)
            (c.loop-s.invariant.1 gr env st maps) w.if-member.false,
      )
    ]
