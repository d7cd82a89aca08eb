-- `interner::push` meets its contract. Assumes nothing.
use native.Mathlib.Omega.{arith}
use Rattle.interner.proofs.Pushing.{records_few, scope_low, room, keep_asks, pushed_by}
use Rattle.interner.proofs.push.Goals as goal

pub overflow_cast-y-2 : goal.overflow_cast-y-2
overflow_cast-y-2 c =
    let p = c.requires in
    omega (
      arith,
      scope_low c.placement-scope.result p.rep p.fresh p.levels c.placement-scope.ensures,
      p.rep.arena.scoped.few_scopes,
    )

pub make-requires : goal.make-requires
make-requires c =
    let p = c.requires in
    room c.placement-scope.result p.rep p.fresh p.levels c.placement-scope.ensures (records_few _ c.bytes.ensures.laid)
    p.symbols_bound

pub keep-requires : goal.keep-requires
keep-requires c =
    let p = c.requires in
    let asks = keep_asks c.placement-scope.result p.rep p.fresh p.levels c.placement-scope.ensures
    (records_few _ c.bytes.ensures.laid) p.symbols_bound in record {
      arena = rw c.make.ensures asks.0;
      lists = rw c.make.ensures asks.1;
      scope_value = rw c.make.ensures (asks.2, asks.3);
    }

pub returns : goal.returns
returns c =
    let p = c.requires in
    pushed_by c.placement-scope.result p.rep p.fresh p.levels c.placement-scope.ensures
    (records_few _ c.bytes.ensures.laid) p.symbols_bound _ (rw c.make.ensures at c.keep.ensures)
