-- `outsiders::offer` meets its contract. Assumes nothing.
use Rattle.outsiders.proofs.Lists.{held_up}
use Rattle.outsiders.proofs.Offers.{offer_no, offer_yes}
use Rattle.outsiders.proofs.offer.Goals as goal
use native.Mathlib.Omega.{arith}

pub add-requires : goal.add-requires
add-requires c = (omega (arith, c.args.g.now.scoped.few), held_up c.requires.held c.args.g.now.scoped.few)

pub returns-then-is_outsider : goal.returns-then-is_outsider
returns-then-is_outsider c bs =
    let p = c.requires in
    offer_yes c.args.g.now _ _ _ c.is_outsider.ensures _ p.held bs p.d_lt_symbols c.if-is_outsider.true _ c.add.ensures

pub returns-else-is_outsider : goal.returns-else-is_outsider
returns-else-is_outsider c bs =
    offer_no c.args.g.now _ _ _ c.is_outsider.ensures _ c.requires.held bs c.if-is_outsider.false
