-- `sheet::clip::put_hexes` in its loop: what stays. Assumes nothing.
use lib.ListN.{take}
use Rattle.model.specs.Sheet.{hex_bytes}
use Rattle.sheet.specs.Clip.{PutClipped}
use Rattle.sheet.proofs.clip.put_hexes.Given as given

-- the first bytes are put
abbrev pub invariant-loop-b : given.invariant-loop-b
invariant-loop-b l = PutClipped l.initial.out (hex_bytes (take l.b-index l.bytes)) l.out
