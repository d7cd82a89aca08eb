-- `free_lists::store` meets its contract. Assumes nothing.
use native.Mathlib.Omega.{arith}
use Rattle.free_lists.proofs.Laws.{store_past, store_next, store_room}
use Rattle.free_lists.proofs.store.Goals as goal

pub returns-then-first-list-gt-LIMIT : goal.returns-then-first-list-gt-LIMIT
returns-then-first-list-gt-LIMIT c = store_past _ _ _ _ c.end_at-first.ensures (omega arith)

pub loop-k-preserved : goal.loop-k-preserved
loop-k-preserved c =
    rw c.from.ensures (store_next _ _ _ _ c.end_at-first.ensures _ _ c.loop-k.invariant c.loop-k-test.true)

pub returns : goal.returns
returns c = store_room _ _ _ _ c.end_at-first.ensures _ _ c.loop-k.invariant c.loop-k-test.false (omega arith)
