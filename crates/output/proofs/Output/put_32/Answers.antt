-- `output::Output::put_32` meets its contract. Assumes nothing.
use mathlib.Core.Path.{◌∙◌}
use native.Mathlib.Omega.{arith}
use Rattle.output.proofs.Numbers.{bytes_32}
use Rattle.output.proofs.Put.{put_as}
use Rattle.output.proofs.Output.put_32.Goals as goal

pub returns : goal.returns
returns c =
    put_as (c.to_le_bytes.ensures ∙ bytes_32 c.args.n (omega (arith, c.requires))) c.put_bytes.ensures
