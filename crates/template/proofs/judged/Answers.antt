-- `template::judged` meets its contract. Assumes nothing.
use mathlib.Core.Path.{sym, ap₂, ◌∙◌}
use lib.ListN.{take}
use Rattle.model.specs.Lister.{refusal}
use Rattle.output.proofs.Wrote.{wrote_as}
use Rattle.template.proofs.Calls.{Read, read-written, refused_line}
use Rattle.template.proofs.judged.Goals as goal
use Rattle.template.proofs.judged.Goals.{In-Ok}

-- what is known once a tree is written
read : (c : In-Ok) → Read c.args.forest.now (take c.in-Ok.written.length c.cse.new.out)
read c =
    read-written c.args.forest.now c.args.out.now c.args.work.now c.requires.0 c.requires.1 c.in-Ok.written
    c.cse.new.out c.in-Ok.ensures.result_value c.cse.ensures.out_after

pub new-tree-requires : goal.new-tree-requires
new-tree-requires c = (read (goal.at.new-tree-requires c).In-Ok).tree_laid

pub new-requires : goal.new-requires
new-requires c = (read (goal.at.new-requires c).In-Ok).forest_laid

pub returns-in-Ok-clause-wrote : goal.returns-in-Ok-clause-wrote
returns-in-Ok-clause-wrote c =
    let r = read (goal.at.returns-in-Ok-clause-wrote c).In-Ok in
    wrote_as (rw c.new.ensures (sym r.line))
    (c.put_verdict.ensures r.written (rw c.new-tree.ensures r.tree_rows))

pub returns-in-Err-clause-wrote : goal.returns-in-Err-clause-wrote
returns-in-Err-clause-wrote c =
    let a = c.args in
    let same = ap₂ refusal (c.from.ensures ∙ c.number.ensures) c.from-in-Err.ensures in
    wrote_as (same ∙ refused_line a.forest.now a.out.now a.work.now c.requires.0 c.requires.1 c.in-Err.refused
    c.in-Err.ensures.result_value) c.put_refusal.ensures
