-- `listing::list` meets its contract. Assumes nothing.
use mathlib.Core.Path.{◌≡◌, refl, sym, ap, ap₂, ◌∙◌}
use mathlib.Core.List.{◌++◌}
use Rattle.std.proofs.lemmas.List.{length-take-le}
use Prim.Native.Nat.{◌≤◌}
use native.Mathlib.Omega.{arith}
use lib.ListN.{take}
use Rattle.model.specs.Tree.{size}
use Rattle.model.specs.Forest.{record_count}
use Rattle.model.specs.Call.{call_of, tree_of, written_of}
use Rattle.model.specs.Lister.{saving_lines, rule_lines, refusal}
use Rattle.laws.proofs.Apart.{good_inj}
use Rattle.output.proofs.Wrote.{wrote_as}
use Rattle.cse.proofs.Told.{told_refused}
use Rattle.listing.proofs.Symbols.{held_laid, listable, lines_same, rules_told}
use Rattle.listing.proofs.Told.{pass_numbers, pass_output}
use Rattle.listing.proofs.Tree.{Left, tree_left}
use Rattle.listing.proofs.Text.{refusal-listed, lines_listed}
use Rattle.listing.proofs.list.Goals as goal
use Rattle.listing.proofs.list.Goals.{In-Ok}

-- what is left of a tree that is written
left : (c : In-Ok) → Left (call_of c.args.forest.now c.args.out.now c.args.work.now) c.in-Ok.w c.pass.new.out
left c =
    let out = c.args.out.now in
    let call = call_of c.args.forest.now out c.args.work.now in
    let p = c.pass in
    tree_left call c.requires.1 out p.new.out p.result p.ensures.tells refl p.auto.out c.in-Ok.w c.in-Ok.is

pub slice_bounds-tree-end : goal.slice_bounds-tree-end
slice_bounds-tree-end c = (left (goal.at.slice_bounds-tree-end c).In-Ok).within

pub slice_bounds-tree-end-in-Ok : goal.slice_bounds-tree-end-in-Ok
slice_bounds-tree-end-in-Ok c =
    sym (length-take-le c.in-Ok.w.length c.pass.new.out (left (goal.at.slice_bounds-tree-end-in-Ok c).In-Ok).within)

pub record_count-rows-requires : goal.record_count-rows-requires
record_count-rows-requires c = (left (goal.at.record_count-rows-requires c).In-Ok).header.least

pub new-requires : goal.new-requires
new-requires c =
    held_laid c.args.forest.now c.pass.new.work _ c.in-Ok.ensures.held_after

pub put_lines-requires-clause-listable : goal.put_lines-requires-clause-listable
put_lines-requires-clause-listable c =
    rw c.new.ensures (listable c.args.forest.now c.pass.new.work _ c.in-Ok.ensures.held_after)

pub put_lines-requires-clause-rows_bound : goal.put_lines-requires-clause-rows_bound
put_lines-requires-clause-rows_bound c =
    let t = left (goal.at.put_lines-requires-clause-rows_bound c).In-Ok in
    let most : record_count (take c.in-Ok.w.length c.pass.new.out) ≤ 256 = t.header.records_most in
    omega (arith, c.record_count-rows.ensures.0, most)

pub returns-in-Ok-clause-listed : goal.returns-in-Ok-clause-listed
unfolding written_of
returns-in-Ok-clause-listed c =
    let bs = c.args.forest.now in
    let out = c.args.out.now in
    let call = call_of bs out c.args.work.now in
    let p = c.pass in
    let t = left (goal.at.returns-in-Ok-clause-listed c).In-Ok in
    let made = t.made in
    let symbols = lines_same bs p.new.work _ c.in-Ok.ensures.held_after made.out made.interns in
    let saves = c.deref.ensures.0 ∙ c.savings-saved.ensures.lines ∙ t.saves in
    let held = c.in-Ok.ensures.held_after in
    let same : held.made ≡ made.out = good_inj (sym held.interns ∙ made.interns) in
    let records = c.record_count-rows.ensures.0 ∙ t.records ∙ ap (λ o. size (tree_of o)) (sym same) in
    let rules = rules_told bs p.new.work _ held _ records made.out made.interns in
    let lines = ap₂ (λ a b. a ++ rule_lines b) (ap₂ (λ a b. a ++ saving_lines b) symbols saves) rules in
    lines_listed call c.requires.0 c.requires.1 out p.new.out c.put_lines.new.out c.put_lines.result
    (pass_output call c.requires.1 out p.new.out p.result p.ensures.tells) p.auto.out (written_of made.out) made.out made.runs
    made.interns (wrote_as lines (rw c.new.ensures at c.put_lines.ensures))

pub returns-in-Err-clause-listed : goal.returns-in-Err-clause-listed
returns-in-Err-clause-listed c =
    let out = c.args.out.now in
    let call = call_of c.args.forest.now out c.args.work.now in
    let p = c.pass in
    let told = p.ensures.tells in
    let v = c.in-Err in
    let is = told_refused call p.result (pass_numbers call c.requires.1 out p.new.out p.result told) out refl v.r v.is in
    let line = ap₂ refusal (c.from.ensures ∙ c.number.ensures) c.from-in-Err.ensures in
    refusal-listed call c.requires.0 c.requires.1 out p.new.out c.put_refusal.new.out c.put_refusal.result
    (pass_output call c.requires.1 out p.new.out p.result told) p.auto.out _ _ is (wrote_as line c.put_refusal.ensures)
