-- `bindings::bind_def` meets its contract. Assumes nothing.
use native.Mathlib.Omega.{arith}
use mathlib.Core.Path.{sym, ap, ◌∙◌}
use lib.ListN.{length}
use Rattle.walk.proofs.Bridge.{def_literal}
use Rattle.walk.proofs.Tests.{id_is}
use Rattle.bindings.proofs.Made.{def_bound, def_none}
use Rattle.bindings.proofs.bind_def.Goals as goal

pub returns-then-shape-ne-VAL_DEF : goal.returns-then-shape-ne-VAL_DEF
returns-then-shape-ne-VAL_DEF c =
    let a = c.args in
    def_none a.forest.now.laid a.i a.top a.symbol a.work.now
    (λ e. c.if-shape-ne-VAL_DEF.true (c.shape.ensures ∙ e))

pub id-requires : goal.id-requires
id-requires c =
    let f = c.args.forest.now in
    let e = sym c.shape.ensures ∙ c.if-shape-ne-VAL_DEF.false in
    omega (arith, def_literal f.laid c.args.i f.formed (omega arith) e, ap length c.literal.ensures)

pub returns : goal.returns
returns c =
    let a = c.args in
    let e = sym c.shape.ensures ∙ c.if-shape-ne-VAL_DEF.false in
    def_bound a.forest.now.laid a.i a.top a.symbol a.work.now _ _ e
    (id_is _ _ _ c.id.ensures c.literal.ensures) (omega arith) c.bind.ensures
