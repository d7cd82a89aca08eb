-- `tree::run` meets its contract. Assumes nothing.
use Rattle.streams.proofs.Puts.{puts_read}
use Rattle.tree.specs.Written.{output, errors}
use Rattle.tree.proofs.run.Goals as goal

pub returns-clause-output : goal.returns-clause-output
returns-clause-output g c =
    puts_read c.answer.result (g.O.Write.contents c.args.output.now) (g.O.Write.contents c.answer.new.output)
    output (g.I.Read.remaining c.args.input.now) _ _ 65536 c.read_full.auto.buf c.in_ok-n.ensures.read
    c.answer.ensures.output

pub returns-clause-errors : goal.returns-clause-errors
returns-clause-errors g c =
    puts_read c.answer.result (g.E.Write.contents c.args.errors.now) (g.E.Write.contents c.answer.new.errors)
    errors (g.I.Read.remaining c.args.input.now) _ _ 65536 c.read_full.auto.buf c.in_ok-n.ensures.read
    c.answer.ensures.errors
