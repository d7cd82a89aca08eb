-- `bindings::bind_args` meets its contract. Assumes nothing.
use native.Mathlib.Omega.{arith}
use Rattle.walk.proofs.Bridge.{func_literal}
use Rattle.bindings.proofs.Made.{args_bound}
use Rattle.bindings.proofs.bind_args.Goals as goal

pub bind_all-requires : goal.bind_all-requires
bind_all-requires c =
    let a = c.args in
    let f =
    func_literal a.forest.now.laid a.i a.forest.now.formed (omega arith) _ _ c.aux-n.ensures c.literal.ensures c.requires.i_bound.1 in
    record { all = f.1; n_bound = (f.0, omega (arith, f.0), omega arith, omega arith) }

pub returns : goal.returns
returns c =
    let a = c.args in
    rw c.from.ensures
    (args_bound a.forest.now.laid a.i a.top a.first _ _ a.work.now _ a.forest.now.formed (omega arith) c.aux-n.ensures
    c.literal.ensures c.requires.i_bound.1 (omega arith) c.bind_all.ensures)
