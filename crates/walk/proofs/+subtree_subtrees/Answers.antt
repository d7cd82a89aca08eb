-- `walk::subtrees` meets its contract. Assumes nothing.
use native.Mathlib.Omega.{arith}
use Rattle.std.proofs.lemmas.Result.{err_from_is_err_and}
use Rattle.walk.proofs.Bridge.{records_few}
use Rattle.walk.proofs.Walking.{walking_end, walking_low, walking_offends, walking_turn}
use Rattle.walk.proofs.+subtree_subtrees.Goals as goal

pub subtrees-returns-in_err-next : goal.subtrees-returns-in_err-next
subtrees-returns-in_err-next t c =
    let p = err_from_is_err_and c.from_residual.result c.from_residual.ensures.1 in
    rw (p.1, p.2)
    (walking_offends _ _ _ _ _ _ _ _ _ _ _ _ c.loop-left.invariant c.loop-left-test.true _ _ _ _ _ c.child.ensures
    c.in_err-next.was c.subtree.ensures)

pub subtrees-overflow_cast-ends : goal.subtrees-overflow_cast-ends
subtrees-overflow_cast-ends t c =
    omega (
      arith,
      records_few _ c.args.forest.now.formed,
      walking_low _ _ _ _ _ _ _ _ _ _ _ _ c.loop-left.invariant c.loop-left-test.true c.in_ok-next.was c.subtree.ensures,
    )

pub subtrees-loop-left-preserved : goal.subtrees-loop-left-preserved
subtrees-loop-left-preserved t c =
    walking_turn _ _ _ _ _ _ _ _ _ _ _ _ c.loop-left.invariant c.loop-left-test.true _ _ _ _ _ _ _
    (omega (arith, records_few _ c.args.forest.now.formed)) c.child.ensures
    c.in_ok-next.was c.subtree.ensures c.define-top.ensures

pub subtrees-returns : goal.subtrees-returns
subtrees-returns t c =
    walking_end _ _ _ _ _ _ _ _ _ _ _ _ c.loop-left.invariant c.loop-left-test.false
