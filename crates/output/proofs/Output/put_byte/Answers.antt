-- `output::Output::put_byte` meets its contract. Assumes nothing.
use mathlib.Core.Path.{refl}
use Rattle.output.proofs.Over.{set-over}
use Rattle.output.proofs.Put.{put_part}
use Rattle.output.proofs.Output.put_byte.Goals as goal

pub returns : goal.returns
returns c =
    let o = c.args.self.now in
    put_part c.requires refl refl (set-over o.bytes.now o.at c.args.b c.requires)
