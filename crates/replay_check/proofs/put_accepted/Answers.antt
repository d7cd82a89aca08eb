-- `replay_check::put_accepted` meets its contract. Assumes nothing.
use mathlib.Core.Path.{ap}
use native.Mathlib.Omega.{arith}
use lib.ListN.{length}
use Rattle.std.proofs.Common.{rules}
use Rattle.model.specs.Text.{text}
use Rattle.output.proofs.Put.{put_wrote}
use Rattle.replay_check.proofs.Accepted.{spaced-length, line_parts}
use Rattle.replay_check.proofs.put_accepted.Goals as goal

pub put_byte-requires : goal.put_byte-requires
put_byte-requires c =
    let start = c.new-line.ensures.start in
    let p = c.put_bytes.ensures in
    let q = c.put_spaced.ensures in
    omega (
      arith,
      c.requires,
      ap length start.0,
      start.1,
      p.len,
      p.ends,
      q.len,
      q.ends,
      spaced-length c.args.ends.now,
    )

pub returns : goal.returns
unfolding text
returns c =
    let start = c.new-line.ensures.start in
    let w = put_wrote start.0 start.1
    (line_parts c.args.ends.now c.put_bytes.ensures c.put_spaced.ensures c.put_byte.ensures) in
    search rules
