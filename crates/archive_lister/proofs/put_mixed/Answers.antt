-- `archive_lister::put_mixed` meets its contract. Assumes nothing.
use mathlib.Core.Path.{ap}
use native.Mathlib.Omega.{arith}
use lib.ListN.{length}
use Rattle.std.proofs.Common.{rules}
use Rattle.model.specs.Text.{text}
use Rattle.model.specs.ArchiveLister.{mixed_line}
use Rattle.output.proofs.Put.{put_wrote, put_then}
use Rattle.archive_lister.proofs.Text.{hex_length}
use Rattle.archive_lister.proofs.put_mixed.Goals as goal

pub put_byte-requires : goal.put_byte-requires
put_byte-requires c =
    let s = c.new-line.ensures.start in
    omega (arith, ap length s.0, c.put_bytes.ensures.ends, hex_length c.args.opcode)

pub returns : goal.returns
unfolding mixed_line text
returns c =
    let w = put_wrote c.new-line.ensures.start.0 c.new-line.ensures.start.1
    (put_then (put_then c.put_bytes.ensures c.put_hex.ensures) c.put_byte.ensures) in
    search rules
