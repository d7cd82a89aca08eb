-- `lines::put_symbols` meets its contract. Assumes nothing.
use native.Mathlib.Omega.{arith}
use Rattle.model.specs.Text.{text}
use Rattle.lines.proofs.Line.{number_ends}
use Rattle.lines.proofs.Lines.{symbols_parts}
use Rattle.lines.proofs.put_symbols.Goals as goal

pub overflow_cast-n : goal.overflow_cast-n
overflow_cast-n c = omega (arith, c.requires.listable.few)

pub put_number-requires : goal.put_number-requires
put_number-requires c =
    let p = c.put_bytes.ensures in
    omega (arith, c.requires.room, p.len, p.ends)

pub put_lines-requires : goal.put_lines-requires
put_lines-requires c =
    let p = c.put_bytes.ensures in
    let q = c.put_number.ensures in
    record {
      listable = c.requires.listable;
      room = omega (arith, c.requires.room, p.len, p.ends, q.len, number_ends _ _ q);
    }

pub returns : goal.returns
unfolding text
returns c =
    symbols_parts c.args.forest.now c.args.work.now _ c.put_bytes.ensures c.put_number.ensures c.put_lines.ensures
