-- `lines::put_line` meets its contract. Assumes nothing.
use native.Mathlib.Omega.{arith}
use Rattle.rules.proofs.Said.{stored_node, stored_scope}
use Rattle.lines.proofs.Line.{number_ends, columns_ends, line_parts, stored_opcode, stored_from}
use Rattle.lines.proofs.put_line.Goals as goal

pub put_columns-requires : goal.put_columns-requires
put_columns-requires c =
    let q = c.requires in
    record {
      node_bound = stored_from _ _ _ _ c.load-y.ensures q.sound;
      s_bound = q.s_bound.0;
      room = omega (arith, q.room);
    }

pub put_number-requires : goal.put_number-requires
put_number-requires c =
    let p = c.put_columns.ensures in
    omega (arith, c.requires.room, p.len, columns_ends _ _ _ p)

pub put_number-requires-2 : goal.put_number-requires-2
put_number-requires-2 c =
    let p = c.put_columns.ensures in
    let q = c.put_number.ensures in
    omega (arith, c.requires.room, p.len, columns_ends _ _ _ p, q.len, number_ends _ _ q)

pub put_two-requires : goal.put_two-requires
put_two-requires c =
    let p = c.put_columns.ensures in
    let q = c.put_number.ensures in
    let r = c.put_number-2.ensures in
    omega (arith, c.requires.room, p.len, columns_ends _ _ _ p, q.len, number_ends _ _ q, r.len, number_ends _ _ r)

pub returns : goal.returns
returns c n lt =
    let a = c.args in
    let bs = a.forest.now in
    let ws = a.work.now in
    let loads = c.load-y.ensures in
    line_parts _ _ _ (stored_node bs ws a.s _ loads n lt) (stored_opcode bs ws a.s _ loads n lt)
    (stored_scope bs ws a.s _ loads n lt)
    (c.should_hoist-hoisted.ensures n lt) c.yes_no.ensures
    c.put_columns.ensures c.put_number.ensures c.put_number-2.ensures c.put_two.ensures
