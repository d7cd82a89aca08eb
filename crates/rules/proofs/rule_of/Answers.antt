-- `rules::rule_of` meets its contract. Assumes nothing.
use Rattle.gate.proofs.Gate.{loaded_rec, loaded_opcode}
use Rattle.rules.proofs.Said.{stored_scope, stored_argument, said_argument, said_few, said_context, said_global}
use Rattle.rules.proofs.Said.{said_scalar, said_hoisted, said_none}
use Rattle.rules.proofs.rule_of.Goals as goal

pub returns-then-is_arg : goal.returns-then-is_arg
returns-then-is_arg c n lt =
    let a = c.args in
    let loads = c.load-y.ensures in
    said_argument _ _ _ (stored_argument a.forest.now a.work.now a.s _ loads n lt c.if-is_arg.ensures)

pub returns-then-few : goal.returns-then-few
returns-then-few c n lt =
    let a = c.args in
    let loads = c.load-y.ensures in
    said_few _ _ _ (stored_argument a.forest.now a.work.now a.s _ loads n lt c.if-is_arg.ensures) c.if-few.true

pub returns-then-is_context_property : goal.returns-then-is_context_property
returns-then-is_context_property c n lt =
    let a = c.args in
    let loads = c.load-y.ensures in
    let o = loaded_opcode _ _ a.s _ _ loads c.parts_of-parts.ensures n lt _ c.opcode-opcode.ensures in
    said_context _ _ _
    (stored_argument a.forest.now a.work.now a.s _ loads n lt c.if-is_arg.ensures)
    c.if-few.false (c.if-is_context_property.ensures _ o)

pub returns-then-is_internal : goal.returns-then-is_internal
returns-then-is_internal c n lt =
    let a = c.args in
    let loads = c.load-y.ensures in
    let o = loaded_opcode _ _ a.s _ _ loads c.parts_of-parts.ensures n lt _ c.opcode-opcode.ensures in
    said_global _ _ _
    (stored_argument a.forest.now a.work.now a.s _ loads n lt c.if-is_arg.ensures)
    c.if-few.false (c.if-is_context_property.ensures _ o) (c.if-is_internal.ensures _ o)

pub returns-then-is_const : goal.returns-then-is_const
returns-then-is_const c n lt =
    let a = c.args in
    let loads = c.load-y.ensures in
    let o = loaded_opcode _ _ a.s _ _ loads c.parts_of-parts.ensures n lt _ c.opcode-opcode.ensures in
    let r = loaded_rec _ _ a.s _ _ loads c.parts_of-parts.ensures n lt in
    said_scalar _ _ _
    (stored_argument a.forest.now a.work.now a.s _ loads n lt c.if-is_arg.ensures)
    c.if-few.false (c.if-is_context_property.ensures _ o) (c.if-is_internal.ensures _ o) (c.if-is_const.ensures _ r)

pub returns-then-defined : goal.returns-then-defined
returns-then-defined c n lt =
    let a = c.args in
    let loads = c.load-y.ensures in
    let o = loaded_opcode _ _ a.s _ _ loads c.parts_of-parts.ensures n lt _ c.opcode-opcode.ensures in
    let r = loaded_rec _ _ a.s _ _ loads c.parts_of-parts.ensures n lt in
    said_hoisted _ _ _
    (stored_argument a.forest.now a.work.now a.s _ loads n lt c.if-is_arg.ensures)
    c.if-few.false (c.if-is_context_property.ensures _ o) (c.if-is_internal.ensures _ o) (c.if-is_const.ensures _ r)
    _ (stored_scope a.forest.now a.work.now a.s _ loads n lt) c.if-defined.ensures

pub returns-else-defined : goal.returns-else-defined
returns-else-defined c n lt =
    let a = c.args in
    let loads = c.load-y.ensures in
    let o = loaded_opcode _ _ a.s _ _ loads c.parts_of-parts.ensures n lt _ c.opcode-opcode.ensures in
    let r = loaded_rec _ _ a.s _ _ loads c.parts_of-parts.ensures n lt in
    said_none _ _ _
    (stored_argument a.forest.now a.work.now a.s _ loads n lt c.if-is_arg.ensures)
    c.if-few.false (c.if-is_context_property.ensures _ o) (c.if-is_internal.ensures _ o) (c.if-is_const.ensures _ r)
    c.if-defined.ensures
