-- `cse::write` meets its contract. Assumes nothing.
use native.Mathlib.Omega.{arith}
use mathlib.Core.Path.{refl}
use Rattle.cse.proofs.Telling.{tells_long, tells_deep, tells_good}
use Rattle.cse.proofs.write.Goals as goal

pub returns-then-size-gt65535-clause-by_index : goal.returns-then-size-gt65535-clause-by_index
returns-then-size-gt65535-clause-by_index c =
    λ o h s r.
    tells_long c.args.forest.now c.args.work.now o c.args.p h c.args.out.now c.tree_length-size.result
    c.requires.plan_writable.few c.tree_length-size.ensures c.then-size-gt65535.either

pub returns-then-p-gt64-clause-by_index : goal.returns-then-p-gt64-clause-by_index
returns-then-p-gt64-clause-by_index c =
    λ o h s r.
    tells_deep c.args.forest.now c.args.work.now o c.args.p h c.args.out.now c.tree_length-size.result
    c.requires.plan_writable.few c.tree_length-size.ensures (omega arith) (omega arith) (omega arith)

pub returns-clause-by_index : goal.returns-clause-by_index
returns-clause-by_index c =
    λ o h s r.
    tells_good c.args.forest.now c.args.work.now o c.args.p h c.args.out.now c.tree_length-size.result
    c.requires.plan_writable.few c.tree_length-size.ensures (omega arith) (omega arith) _ _ refl (omega arith) s r
    c.write_tree.ensures.out_after
