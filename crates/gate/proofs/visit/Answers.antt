-- `gate::visit` meets its contract. Assumes nothing.
use Prim.Native.Nat.{suc, ◌+◌, ◌-◌, ◌<◌}
use mathlib.Core.Path.{◌≡◌, refl, ◌∙◌}
use native.Mathlib.Omega.{arith}
use Rattle.gate.proofs.Turns.{going_start, turn_fits, visited_going, visited_next, down-end}
use Rattle.gate.proofs.visit.Goals as goal

pub loop-s-init : goal.loop-s-init
loop-s-init c =
    let a = c.args in
    let e : a.root - a.root ≡ 0 = omega arith in
    (rw e (going_start a.work.now (suc a.root) c.requires.by_index), refl)

pub visit_symbol-requires : goal.visit_symbol-requires
visit_symbol-requires c =
    let l = c.loop-s in
    let it =
    turn_fits c.args.work.now (suc c.args.root) c.requires.countable l.work _ l.invariant.0 l.s (omega arith)
    (omega (arith, c.requires.countable.few)) in
    record { s_bound = it.0; lower = it.1.0; small = it.1.1 }

pub loop-s-preserved : goal.loop-s-preserved
loop-s-preserved c =
    let l = c.loop-s in
    let w = c.args.work.now in
    let n = suc c.args.root in
    let lt : l.s < n = omega arith in
    let e : c.args.root - (l.s - 1) ≡ c.args.root - l.s + 1 = omega arith in
    let f : suc (l.s - 1) ≡ l.s = omega arith in (
      rw e (visited_going w n c.requires.countable l.work _ l.invariant.0 l.s lt _ c.visit_symbol.ensures),
      rw f
          (visited_next w n c.requires.countable l.work _ l.invariant.0 l.s lt _ c.visit_symbol.ensures
          ∙ l.invariant.1),
    )

pub returns-2 : goal.returns-2
returns-2 c =
    let l = c.loop-s in
    down-end _ _ _ l.s (omega arith)
    (visited_next c.args.work.now (suc c.args.root) c.requires.countable l.work _ l.invariant.0 l.s (omega arith) _
    c.visit_symbol.ensures ∙ l.invariant.1)
