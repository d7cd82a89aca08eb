-- `output::Output::put_16` meets its contract. Assumes nothing.
use mathlib.Core.Path.{◌∙◌}
use native.Mathlib.Omega.{arith}
use Rattle.output.proofs.Numbers.{bytes_16}
use Rattle.output.proofs.Put.{put_as}
use Rattle.output.proofs.Output.put_16.Goals as goal

pub returns : goal.returns
returns c =
    put_as (c.to_le_bytes.ensures ∙ bytes_16 c.args.n (omega (arith, c.requires))) c.put_bytes.ensures
