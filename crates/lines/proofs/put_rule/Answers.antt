-- `lines::put_rule` meets its contract. Assumes nothing.
use native.Mathlib.Omega.{arith}
use Rattle.lines.proofs.Line.{number_ends}
use Rattle.lines.proofs.Rules.{rule_parts, text_ends}
use Rattle.lines.proofs.put_rule.Goals as goal

pub put_rule_text-requires : goal.put_rule_text-requires
put_rule_text-requires c =
    let p = c.put_number.ensures in
    omega (arith, c.requires.room, p.len, number_ends _ _ p)

pub put_byte-requires : goal.put_byte-requires
put_byte-requires c =
    let p = c.put_number.ensures in
    let q = c.put_rule_text.ensures in
    omega (arith, c.requires.room, p.len, number_ends _ _ p, q.len, text_ends _ q)

pub returns : goal.returns
returns c = rule_parts _ _ c.put_number.ensures c.put_rule_text.ensures c.put_byte.ensures
