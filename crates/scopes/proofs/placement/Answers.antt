-- `scopes::placement` meets its contract. Assumes nothing.
use Prim.Native.Nat.{◌+◌}
use mathlib.Core.Path.{refl, sym, ◌∙◌}
use native.Mathlib.Omega.{arith}
use Rattle.scopes.proofs.Climb.{left_inside, climb_stays, climb_leaves}
use Rattle.scopes.proofs.placement.Goals as goal

pub loop-k-init : goal.loop-k-init
loop-k-init c =
    (omega arith, λ m deps lt t. (t, refl))

pub loop-k-smaller : goal.loop-k-smaller
loop-k-smaller c =
    let l = c.loop-k in
    let e = sym c.leaves.ensures ∙ c.loop-k-test.true in
    let z = left_inside _ (c.args.cur + 1) l.k c.requires.nested (omega arith) _ e in
    omega (arith, c.parent-k.ensures, c.requires.nested.lower l.k z (omega arith))

pub loop-k-preserved : goal.loop-k-preserved
loop-k-preserved c =
    let l = c.loop-k in
    let e = sym c.leaves.ensures ∙ c.loop-k-test.true in
    let z = left_inside _ (c.args.cur + 1) l.k c.requires.nested (omega arith) _ e in (
      omega (arith, c.parent-k.ensures, c.requires.nested.lower l.k z (omega arith)),
      λ m deps lt t.
          let i = l.invariant.1 m deps lt t in
          let o = climb_leaves _ (c.args.cur + 1) l.k c.requires.nested (omega arith) _ m (omega arith) deps i.0 e in
          rw c.parent-k.ensures (o.0, o.1 ∙ i.1),
    )

pub returns : goal.returns
returns c =
    λ m deps lt t.
    let l = c.loop-k in
    let i = l.invariant.1 m deps lt t in
    climb_stays _ (c.args.cur + 1) l.k c.requires.nested (omega arith) _ m (omega arith) deps i.0
    (sym c.leaves.ensures ∙ c.loop-k-test.false)
    ∙ i.1
