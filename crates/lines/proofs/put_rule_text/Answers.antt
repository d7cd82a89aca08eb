-- `lines::put_rule_text` meets its contract. Assumes nothing.
use native.Mathlib.Omega.{arith}
use Rattle.model.specs.Text.{text}
use Rattle.model.specs.Lister.{rule_text}
use Rattle.text.proofs.Numbers.{numeral-length}
use Rattle.output.proofs.Put.{put_then}
use Rattle.lines.proofs.put_rule_text.Goals as goal

pub put_decimal-requires : goal.put_decimal-requires
put_decimal-requires c =
    let p = c.put_bytes-in-Hoisted.ensures in
    omega (arith, c.requires, p.len, p.ends, numeral-length c.from.result)

pub returns-in-Argument : goal.returns-in-Argument
unfolding rule_text text
returns-in-Argument c = rw c.in-Argument.is c.put_bytes.ensures

pub returns-in-UsedAtMostOnce : goal.returns-in-UsedAtMostOnce
unfolding rule_text text
returns-in-UsedAtMostOnce c = rw c.in-UsedAtMostOnce.is c.put_bytes-in-UsedAtMostOnce.ensures

pub returns-in-ContextProperty : goal.returns-in-ContextProperty
unfolding rule_text text
returns-in-ContextProperty c = rw c.in-ContextProperty.is c.put_bytes-in-ContextProperty.ensures

pub returns-in-Global : goal.returns-in-Global
unfolding rule_text text
returns-in-Global c = rw c.in-Global.is c.put_bytes-in-Global.ensures

pub returns-in-ScalarConstant : goal.returns-in-ScalarConstant
unfolding rule_text text
returns-in-ScalarConstant c = rw c.in-ScalarConstant.is c.put_bytes-in-ScalarConstant.ensures

pub returns-in-Hoisted : goal.returns-in-Hoisted
unfolding rule_text text
returns-in-Hoisted c =
    rw (c.in-Hoisted.is, ← c.from.ensures) (put_then c.put_bytes-in-Hoisted.ensures c.put_decimal.ensures)

pub returns-in-NoDefinition : goal.returns-in-NoDefinition
unfolding rule_text text
returns-in-NoDefinition c = rw c.in-NoDefinition.is c.put_bytes-in-NoDefinition.ensures
