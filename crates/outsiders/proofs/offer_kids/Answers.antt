-- `outsiders::offer_kids` meets its contract. Assumes nothing.
use Rattle.outsiders.proofs.Offers.{kids_inside, kids_offered}
use Rattle.outsiders.proofs.offer_kids.Goals as goal

pub offer_operands-requires-clause-below : goal.offer_operands-requires-clause-below
offer_operands-requires-clause-below c =
    let p = c.requires in kids_inside _ c.args.g.now _ p.arena p.s_lt_symbols _ c.load.ensures _ c.children-run.ensures

pub offer_operands-requires-2-clause-below : goal.offer_operands-requires-2-clause-below
offer_operands-requires-2-clause-below c =
    let p = c.requires in kids_inside _ c.args.g.now _ p.arena p.s_lt_symbols _ c.load.ensures _ c.children-run.ensures

pub offer_operands-requires-2-clause-held : goal.offer_operands-requires-2-clause-held
offer_operands-requires-2-clause-held c = (c.offer_operands.ensures c.args.forest.now).held

pub returns : goal.returns
returns c =
    let p = c.requires in
    kids_offered _ c.args.g.now _ p.arena p.s_lt_symbols _ c.load.ensures _ c.source.ensures _ c.opcode-opcode.ensures _ _
    c.children-run.ensures (c.offer_operands.ensures _) (c.offer_operands-2.ensures _)
