-- `sheet::put_trees` meets its contract. Assumes nothing.
use Prim.Native.Nat.{◌+◌, ◌-◌}
use mathlib.Core.Path.{◌≡◌, refl}
use native.Mathlib.Omega.{arith}
use Rattle.walk.proofs.Bridge.{kids_there, records_few}
use Rattle.sheet.proofs.Trees.{shown_none, record_there, onward, left_there, shown_more}
use Rattle.sheet.proofs.+put_trees.Goals as goal

pub loop-init : goal.loop-init
loop-init t c =
    let e : c.args.count - 0 ≡ c.args.count = omega arith in
    let b = c.requires in
    record { onward = omega arith; left = omega (arith, b.count_bound); rest = λ o' r v. rw e at v }

pub put_line-requires : goal.put_line-requires
put_line-requires t c =
    let i = c.loop.invariant in
    let there = record_there _ _ i.left (λ z. omega arith) in
    record {
      depth_bound =
          omega (arith, c.requires.depth_bound, i.onward, there, records_few _ c.args.forest.now.formed);
      i_bound = there;
    }

pub overflow_add-i : goal.overflow_add-i
overflow_add-i t c =
    let there = record_there _ _ c.loop.invariant.left (λ z. omega arith) in
    omega (arith, there, records_few _ c.args.forest.now.formed)

pub kids-requires : goal.kids-requires
kids-requires t c =
    record_there _ _ c.loop.invariant.left (λ z. omega arith)

pub overflow_add-depth : goal.overflow_add-depth
overflow_add-depth t c =
    let there = record_there _ _ c.loop.invariant.left (λ z. omega arith) in
    omega (
      arith,
      c.requires.depth_bound,
      c.loop.invariant.onward,
      there,
      records_few _ c.args.forest.now.formed,
    )

pub put_trees-i-requires : goal.put_trees-i-requires
put_trees-i-requires t c =
    let i = c.loop.invariant in
    let there = record_there _ _ i.left (λ z. omega arith) in
    let few = records_few _ c.args.forest.now.formed in
    let kids = kids_there c.args.forest.now.laid c.loop.i c.args.forest.now.formed.closed there in (
      omega (arith, c.decreases, i.onward, there, few),
      (omega (arith, c.kids.ensures.0, kids), omega (arith, c.requires.depth_bound, i.onward)),
    )

pub loop-preserved : goal.loop-preserved
loop-preserved t c =
    let i = c.loop.invariant in
    let left = c.args.count - c.loop.counter in
    let some : left ≡ 0 → ⊥ = λ z. omega arith in
    let e : c.args.count - (c.loop.counter + 1) ≡ left - 1 = omega arith in
    let line = c.put_line.ensures in
    let shown = c.put_trees-i.ensures in
    record {
      onward = omega (arith, i.onward, onward _ _ _ _ i.left some _ c.kids.ensures.0 line shown);
      left = rw e (left_there _ _ _ _ i.left some _ c.kids.ensures.0 line shown);
      rest = λ o' r v.
          i.rest o' r (shown_more _ _ _ _ i.left some _ c.kids.ensures.0 line shown (rw e at v));
    }

pub returns : goal.returns
returns t c =
    c.loop.invariant.rest _ _ (shown_none _ _ _ _ _ _ refl (omega arith))
