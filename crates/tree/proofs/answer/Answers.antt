-- `tree::answer` meets its contract. Assumes nothing.
use Rattle.streams.proofs.Puts.{puts_as, puts_none}
use Rattle.tree.proofs.Told.{refused_output, refused_errors, written_output, written_errors}
use Rattle.tree.proofs.answer.Goals as goal

pub returns-in-Ok-clause-output : goal.returns-in-Ok-clause-output
returns-in-Ok-clause-output g c =
    puts_as c.write_all.result (g.O.Write.contents c.args.output.now) (g.O.Write.contents c.write_all.new.self)
    (written_output c.args.forest.now c.cse.result c.cse.ensures.result_value c.in-Ok.w c.in-Ok.is c.cse.new.out
    c.cse.ensures.out_after)
    c.write_all.ensures.bytes

pub returns-in-Ok-clause-errors : goal.returns-in-Ok-clause-errors
returns-in-Ok-clause-errors g c =
    puts_none c.write_all.result (g.E.Write.contents c.args.errors.now)
    (written_errors c.args.forest.now c.cse.result c.cse.ensures.result_value c.in-Ok.w c.in-Ok.is)

pub returns-in-Err-clause-output : goal.returns-in-Err-clause-output
returns-in-Err-clause-output g c =
    puts_none c.write_refusal.result (g.O.Write.contents c.args.output.now)
    (refused_output c.args.forest.now c.cse.result c.cse.ensures.result_value c.in-Err.r c.in-Err.is)

pub returns-in-Err-clause-errors : goal.returns-in-Err-clause-errors
returns-in-Err-clause-errors g c =
    puts_as c.write_refusal.result (g.E.Write.contents c.args.errors.now)
    (g.E.Write.contents c.write_refusal.new.output)
    (refused_errors c.args.forest.now c.cse.result c.cse.ensures.result_value c.in-Err.r c.in-Err.is)
    c.write_refusal.ensures
