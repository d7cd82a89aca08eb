-- `lines::put_savings` meets its contract. Assumes nothing.
use native.Mathlib.Omega.{arith}
use lib.IntN.{pos}
use lib.ListN.{get_or, take}
use lib.Seq.{length-take-le}
use Rattle.std.proofs.Common.{rules, w32, FitsSigned}
use Rattle.std.proofs.lemmas.Int.{to_z-of_z}
use Rattle.lines.proofs.Savings.{savings_start, savings_turn, savings_end}
use Rattle.lines.proofs.put_savings.Goals as goal

pub loop-id-init : goal.loop-id-init
loop-id-init c =
    savings_start c.args.savings.now _

pub put_saving-requires : goal.put_saving-requires
put_saving-requires c =
    let l = c.args.savings.now in
    let k = c.loop-id.id-index in
    let p = c.loop-id.invariant in
    omega (arith, c.requires, p.len, savings_end (take k l) p, length-take-le k l (omega arith))

pub loop-id-preserved : goal.loop-id-preserved
loop-id-preserved c =
    let l = c.args.savings.now in
    let k = c.loop-id.id-index in
    let fits : FitsSigned w32 (get_or l k (0, pos 0)).1 = search rules in
    savings_turn l k (0, pos 0) c.loop-id-test.true c.loop-id.invariant (simp to_z-of_z at c.put_saving.ensures)
