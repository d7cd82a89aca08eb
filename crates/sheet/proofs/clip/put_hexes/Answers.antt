-- `sheet::clip::put_hexes` meets its contract. Assumes nothing.
use mathlib.Core.Path.{ap}
use native.Mathlib.Omega.{arith}
use lib.Seq.{take_all}
use Rattle.model.specs.Sheet.{hex_bytes}
use Rattle.sheet.proofs.Clipping.{clipped_as, hex_start, hex_turn}
use Rattle.sheet.proofs.clip.put_hexes.Goals as goal

pub loop-b-init : goal.loop-b-init
loop-b-init c =
    hex_start _

pub loop-b-preserved : goal.loop-b-preserved
loop-b-preserved c =
    hex_turn _ _ (omega arith) c.loop-b.invariant c.put_hex.ensures

pub returns : goal.returns
returns c =
    clipped_as c.loop-b.invariant (ap hex_bytes (take_all _ _ (omega arith)))
