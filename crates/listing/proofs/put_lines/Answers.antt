-- `listing::put_lines` meets its contract. Assumes nothing.
use mathlib.Core.Path.{ap}
use native.Mathlib.Omega.{arith}
use lib.ListN.{length}
use Rattle.std.proofs.Common.{rules}
use Rattle.output.proofs.Put.{put_then, put_wrote}
use Rattle.lines.proofs.Lines.{symbols_end}
use Rattle.lines.proofs.Savings.{savings_end}
use Rattle.listing.proofs.put_lines.Goals as goal

pub put_symbols-requires-clause-room : goal.put_symbols-requires-clause-room
put_symbols-requires-clause-room c =
    let start = c.new-text.ensures.start in
    omega (arith, c.requires.listable.few, c.requires.in_bounds, ap length start.0, start.1)

pub put_savings-requires : goal.put_savings-requires
put_savings-requires c =
    let start = c.new-text.ensures.start in
    let p = c.put_symbols.ensures in
    let far = symbols_end c.args.forest.now c.args.work.now c.args.n p in
    omega (arith, c.requires.listable.few, c.requires.in_bounds, c.requires.few, ap length start.0, start.1, far, p.len)

pub put_rules-requires-clause-room : goal.put_rules-requires-clause-room
put_rules-requires-clause-room c =
    let start = c.new-text.ensures.start in
    let p = c.put_symbols.ensures in
    let q = c.put_savings.ensures in
    let far = symbols_end c.args.forest.now c.args.work.now c.args.n p in
    let further = savings_end c.args.savings.now q in
    omega (
      arith,
      c.requires.listable.few,
      c.requires.in_bounds,
      c.requires.few,
      ap length start.0,
      start.1,
      far,
      p.len,
      further,
      q.len,
    )

pub returns : goal.returns
returns c =
    let start = c.new-text.ensures.start in
    let w = put_wrote start.0 start.1 (put_then (put_then c.put_symbols.ensures c.put_savings.ensures) c.put_rules.ensures) in
    search rules
