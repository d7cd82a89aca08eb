-- `concluding::is_tuple` meets its contract. Assumes nothing.
use Prim.Native.Nat.{ℕ}
use mathlib.Core.Path.{◌∙◌, ap, sym}
use lib.Dec.{eqb}
use Rattle.concluding.proofs.Selecting.{symbol_shape}
use Rattle.concluding.proofs.is_tuple.Goals as goal

pub returns : goal.returns
returns c n lt =
    ap (λ (z : ℕ). eqb z 16)
    (c.shape.ensures
    ∙ sym (symbol_shape c.args.forest.now c.args.work.now c.args.s n lt
    c.load-y.ensures c.parts_of-p.ensures))
