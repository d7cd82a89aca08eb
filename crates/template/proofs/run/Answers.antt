-- `template::run` meets its contract. Assumes nothing.
use Rattle.std.proofs.Common.{ℕ, List, take, Result, Ok, Err, None, Some, OnOk, IfSome}
use Rattle.std.specs.declared.option.Option.{Option}
use Rattle.model.specs.TemplateLine.{template_line, LineSays}
use Rattle.theory.proofs.Templates.Line.{line_says}
use Rattle.streams.proofs.Taken.{taken}
use Rattle.streams.proofs.Puts.{puts_as, puts_read}
use Rattle.template.proofs.run.Goals as goal

pub returns-clause-line : goal.returns-clause-line
returns-clause-line g c =
    let held = g.O.Write.contents c.args.output.now in
    let holds = g.O.Write.contents c.write_all.new.self in
    puts_read c.write_all.result held holds template_line (g.I.Read.remaining c.args.input.now) _ _ 65536
    c.read_full.auto.buf c.in_ok-n.ensures.read
    (puts_as c.write_all.result held holds (taken c.judged-k.ensures.wrote) c.write_all.ensures.bytes)

-- it says so of every forest
says : {T E : Type 0} (r : Result T E) (known : Option (List ℕ)) →
    OnOk r (IfSome known (λ bs. LineSays (take 65536 bs)))
says (Err e) known = tt
says (Ok x) None = tt
says (Ok x) (Some bs) = line_says (take 65536 bs)

pub returns-clause-says : goal.returns-clause-says
returns-clause-says g c = says c.write_all.result (g.I.Read.remaining c.args.input.now)
