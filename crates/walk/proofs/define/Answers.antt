-- `walk::define` meets its contract. Assumes nothing.
use native.Mathlib.Omega.{arith}
use mathlib.Core.Path.{sym, ◌∙◌}
use Rattle.walk.specs.Walk.{tree_at}
use Rattle.walk.proofs.Tests.{bound_def}
use Rattle.walk.proofs.define.Goals as goal

pub returns : goal.returns
returns c =
    let a = c.args in
    bound_def _ _ _ (tree_at a.forest.now.laid a.i) (sym c.shape.ensures ∙ c.if-shape-ne-VAL_DEF.false) c.id_of.ensures
    (omega arith) (omega arith)
