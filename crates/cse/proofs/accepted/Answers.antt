-- `cse::accepted` meets its contract. Assumes nothing.
use Rattle.std.proofs.lemmas.Result.{err_from_is_err_and}
use mathlib.Core.Path.{refl}
use Rattle.model.specs.Call.{call_of}
use Rattle.symbols.proofs.Laws.{syms_length}
use Rattle.cse.proofs.Telling.{intern_tells, intern_good, written_tells, tells_many}
use Rattle.cse.proofs.accepted.Goals as goal

pub returns-in_err-root-clause-tells : goal.returns-in_err-root-clause-tells
returns-in_err-root-clause-tells c =
    let call = call_of c.args.forest.now.formed.laid c.args.out.now c.args.work.now in
    let step = c.forest-step in
    let p = err_from_is_err_and c.from_residual.result c.from_residual.ensures.1 in
    rw (p.1, p.2)
    (intern_tells call step.new.work step.result step.ensures.is c.args.out.now c.in_err-root.field-0.0
    c.in_err-root.was)

pub planned-requires-clause-root_made : goal.planned-requires-clause-root_made
planned-requires-clause-root_made c =
    let call = call_of c.args.forest.now.formed.laid c.args.out.now c.args.work.now in
    let step = c.forest-step in
    intern_good call step.new.work step.result step.ensures.is c.in_ok-root.root c.in_ok-root.was

pub returns-in-Some-clause-tells : goal.returns-in-Some-clause-tells
returns-in-Some-clause-tells c =
    let bs = c.args.forest.now.formed.laid in
    let call = call_of bs c.args.out.now c.args.work.now in
    let step = c.forest-step in
    written_tells call _ (intern_good call step.new.work step.result step.ensures.is c.in_ok-root.root c.in_ok-root.was)
    (c.write.ensures.by_index _ c.in-Some.ensures.planned.tree
    (syms_length bs step.new.work step.result.st.symbols) refl)

pub returns-in-None-clause-tells : goal.returns-in-None-clause-tells
returns-in-None-clause-tells c =
    let call = call_of c.args.forest.now.formed.laid c.args.out.now c.args.work.now in
    let step = c.forest-step in
    written_tells call _ (intern_good call step.new.work step.result step.ensures.is c.in_ok-root.root c.in_ok-root.was)
    (tells_many _ c.args.out.now c.in-None.ensures.planned.tree)
