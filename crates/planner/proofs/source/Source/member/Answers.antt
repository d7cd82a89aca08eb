-- `planner::Source::member` meets its contract. Its tests are `if`s, each on the value that the tests before it gave.
-- Assumes nothing.
use Prim.Native.Nat.{◌<◌}
use mathlib.Core.Path.{sym, ◌∙◌}
use native.Mathlib.Omega.{arith}
use borrow.Author.Tests.{eqb-true, le-ltb}
use Rattle.std.proofs.lemmas.Bool.{not-true, not-false}
use Rattle.laws.proofs.Members.{clash}
use Rattle.planner.proofs.Membership.{member_rare, member-given, member_elsewhere, member_arg, member_hoisted}
use Rattle.planner.proofs.Membership.{arg_told, rare_is, in_scope, arg_is, hoist_is}
use Rattle.planner.proofs.source.Source.member.Goals as goal
use Rattle.planner.proofs.source.Source.member.Goals.{then-uses-gt1, else-uses-gt1, then-ids-s-eq0, else-ids-s-eq0, then-load-sc, else-load-sc}

pub returns-then-not-is_arg-clause-is : goal.returns-then-not-is_arg-clause-is
returns-then-not-is_arg-clause-is c = λ gr env st maps.
    let few : c.args.s < 512 = omega (arith, c.args.self.now.graph.scoped.few) in
    let lt = c.requires.s_lt_symbols in
    let yes = c.if-not-is_arg.true in
    elim c.if-load-sc.branch [
      | then-load-sc w ↦
          let a = w.value-is in
          let b = w.if-load-sc.true in
          elim c.if-ids-s-eq0.branch [
            | then-ids-s-eq0 v ↦
                let d = v.value-is in
                let e = v.if-ids-s-eq0.true in
                elim c.if-uses-gt1.branch [
                  | then-uses-gt1 u ↦
                      let f = u.value-is in
                      hoist_is st _ lt c.should_hoist.ensures
                      ∙ sym (member_hoisted gr _ _ env _ few maps (cc) (in_scope st _ lt _ v.load.ensures ∙ cc)
                      (arg_is st _ lt w.is_arg.ensures ∙ not-true _ (cc)))
                  | else-uses-gt1 u ↦
                      let f = u.value-is in
                      let l = le-ltb _ _ u.if-uses-gt1.false in
                      cc
                ]
            | else-ids-s-eq0 v ↦ let d = v.value-is in let e = v.if-ids-s-eq0.false in cc
          ]
      | else-load-sc w ↦ let a = w.value-is in let b = w.if-load-sc.false in cc
    ]

-- where the last test is asked, those before it were passed
pub returns-then-not-is_arg-clause-new : goal.returns-then-not-is_arg-clause-new
returns-then-not-is_arg-clause-new c = λ is.
    let yes = c.if-not-is_arg.true in
    elim c.if-load-sc.branch [
      | then-load-sc w ↦
          let a = w.value-is in
          let b = w.if-load-sc.true in
          elim c.if-ids-s-eq0.branch [
            | then-ids-s-eq0 v ↦
                let e = v.if-ids-s-eq0.true in
                elim c.if-uses-gt1.branch [
                  | then-uses-gt1 u ↦ record {
                    none = eqb-true _ 0 (sym u.value-is ∙ e);
                    no_arg = sym (arg_told c.args.self.now _ c.requires.s_lt_symbols w.is_arg.ensures) ∙ not-true _ (cc);
                  }
                  | else-uses-gt1 u ↦ absurd (clash _ e (u.value-is ∙ le-ltb _ _ u.if-uses-gt1.false))
                ]
            | else-ids-s-eq0 v ↦ let d = v.value-is in let e = v.if-ids-s-eq0.false in cc
          ]
      | else-load-sc w ↦ let a = w.value-is in let b = w.if-load-sc.false in cc
    ]

pub returns-else-not-is_arg-clause-is : goal.returns-else-not-is_arg-clause-is
returns-else-not-is_arg-clause-is c = λ gr env st maps.
    let few : c.args.s < 512 = omega (arith, c.args.self.now.graph.scoped.few) in
    let lt = c.requires.s_lt_symbols in
    let no = c.if-not-is_arg.false in
    no
    ∙ sym (elim c.if-load-sc.branch [
      | then-load-sc w ↦
          let a = w.value-is in
          member_arg gr _ _ env _ few maps (arg_is st _ lt w.is_arg.ensures ∙ not-false _ (cc))
      | else-load-sc w ↦
          let b = w.if-load-sc.false in
          elim c.if-ids-s-eq0.branch [
            | then-ids-s-eq0 v ↦
                let d = v.value-is in
                member_elsewhere gr _ _ env _ few maps (in_scope st _ lt _ v.load.ensures ∙ cc)
            | else-ids-s-eq0 v ↦
                let e = v.if-ids-s-eq0.false in
                elim c.if-uses-gt1.branch [
                  | then-uses-gt1 u ↦ let f = u.value-is in member-given gr _ _ env _ few maps (cc)
                  | else-uses-gt1 u ↦ member_rare gr _ _ env _ few maps (rare_is st _ lt (omega (arith, u.if-uses-gt1.false)))
                ]
          ]
    ])

pub returns-else-not-is_arg-clause-new : goal.returns-else-not-is_arg-clause-new
returns-else-not-is_arg-clause-new c = λ is. let no = c.if-not-is_arg.false in cc
