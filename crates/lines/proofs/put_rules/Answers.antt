-- `lines::put_rules` meets its contract. Assumes nothing.
use mathlib.Core.Path.{ap}
use native.Mathlib.Omega.{arith}
use Rattle.model.specs.Lister.{rule_line}
use Rattle.model.specs.Rules.{Rule}
use Rattle.output.proofs.Put.{put_as}
use Rattle.lines.proofs.Rules.{rules_start, rules_turn, rules_pass, rules_end}
use Rattle.lines.proofs.put_rules.Goals as goal
use Rattle.lines.proofs.put_rules.Goals.{then-reached, else-reached}

pub loop-s-init : goal.loop-s-init
loop-s-init c =
    let a = c.args in
    rules_start a.forest.now a.work.now a.n a.rows _

pub put_rule-requires-clause-room : goal.put_rule-requires-clause-room
put_rule-requires-clause-room c =
    let a = c.args in
    let p = c.loop-s.invariant in
    let far = rules_end a.forest.now a.work.now a.n a.rows c.requires.listable.few c.loop-s.s (omega arith) p in
    omega (arith, c.requires.room, far, p.len)

pub loop-s-preserved : goal.loop-s-preserved
loop-s-preserved c =
    let a = c.args in
    let s = c.loop-s.s in
    let p = c.loop-s.invariant in
    elim c.if-reached.branch [
      | then-reached w ↦
          let is = ap (λ (r : Rule). rule_line (s, r)) (w.rule_of.ensures a.n (omega arith)) in
          rw w.out-is (rules_turn _ _ a.n a.rows s w.if-reached.true p (put_as is w.put_rule.ensures))
      | else-reached w ↦ rw w.out-is (rules_pass _ _ a.n a.rows s w.if-reached.false p)
    ]
