-- `scopes::is_ancestor` meets its contract. Assumes nothing.
use Prim.Native.Nat.{◌+◌}
use mathlib.Core.Path.{refl, sym, ◌∙◌}
use native.Mathlib.Omega.{arith}
use Rattle.scopes.proofs.Climb.{ancestor_none, ancestor_hit, ancestor_miss}
use Rattle.scopes.proofs.is_ancestor.Goals as goal

pub loop-k-init : goal.loop-k-init
loop-k-init c =
    (omega arith, λ m lt. refl)

pub returns-then-k-ancestor : goal.returns-then-k-ancestor
returns-then-k-ancestor c =
    λ m lt.
    let l = c.loop-k in
    ancestor_hit _ _ (c.args.sc + 1) _ c.requires.nested c.loop-k-test.true (omega arith) m (omega arith)
    (sym c.parent-k.ensures ∙ c.if-k-ancestor.true)
    ∙ l.invariant.1 m lt

pub loop-k-smaller : goal.loop-k-smaller
loop-k-smaller c =
    let l = c.loop-k in
    omega (arith, c.parent-k.ensures, c.requires.nested.lower l.k (omega arith) (omega arith))

pub loop-k-preserved : goal.loop-k-preserved
loop-k-preserved c =
    let l = c.loop-k in (
      omega (arith, c.parent-k.ensures, c.requires.nested.lower l.k (omega arith) (omega arith)),
      λ m lt.
          rw c.parent-k.ensures
          (ancestor_miss _ _ (c.args.sc + 1) _ c.requires.nested c.loop-k-test.true (omega arith) m
          (omega arith)
          (λ e. c.if-k-ancestor.false (c.parent-k.ensures ∙ e)))
          ∙ l.invariant.1 m lt,
    )

pub returns : goal.returns
returns c =
    λ m lt. ancestor_none _ _ m _ c.loop-k-test.false (omega arith) ∙ c.loop-k.invariant.1 m lt
