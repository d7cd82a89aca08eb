-- `streams::write_refusal` meets its contract. Assumes nothing.
use Rattle.std.proofs.Common.{ap₂, ◌∙◌}
use Rattle.model.specs.Lister.{refusal}
use Rattle.streams.proofs.Puts.{puts_as}
use Rattle.streams.proofs.Taken.{taken}
use Rattle.streams.proofs.write_refusal.Goals as goal

pub returns : goal.returns
returns g c =
    let same = ap₂ refusal (c.from.ensures ∙ c.number-number.ensures) c.from-2.ensures in
    puts_as c.write_all.result (g.W.Write.contents c.args.output.now) (g.W.Write.contents c.write_all.new.self)
    (taken c.put_refusal-n.ensures ∙ same) c.write_all.ensures.bytes
