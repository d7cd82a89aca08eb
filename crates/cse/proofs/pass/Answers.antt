-- `cse::pass` meets its contract. Assumes nothing.
use Rattle.std.proofs.lemmas.Result.{err_from_is_err_and}
use Rattle.model.specs.Call.{call_of}
use Rattle.cse.proofs.Telling.{check_tells}
use Rattle.cse.proofs.pass.Goals as goal

pub returns-in_err-formed-clause-tells : goal.returns-in_err-formed-clause-tells
returns-in_err-formed-clause-tells c =
    let call = call_of c.args.forest.now c.args.out.now c.args.work.now in
    let p = err_from_is_err_and c.from_residual.result c.from_residual.ensures.1 in
    rw (p.1, p.2) (check_tells call c.args.out.now c.in_err-formed.field-0.0 c.in_err-formed.ensures.judged.is)
