-- `free_lists::gather` meets its contract. Assumes nothing.
use mathlib.Core.List.{[]}
use Rattle.outsiders.proofs.Lists.{held_none}
use Rattle.outsiders.proofs.Offers.{kids_below}
use Rattle.free_lists.proofs.Giving.{gathered}
use Rattle.free_lists.proofs.gather.Goals as goal

pub give_run-requires-clause-below : goal.give_run-requires-clause-below
give_run-requires-clause-below c =
    let p = c.requires in kids_below _ c.args.g.now _ p.arena p.c_lt_symbols.0 _ c.load-y.ensures _ c.children.ensures

pub give_run-requires-clause-held : goal.give_run-requires-clause-held
give_run-requires-clause-held c = rw c.requires.empty (held_none _)

pub offer_kids-requires-clause-held : goal.offer_kids-requires-clause-held
offer_kids-requires-clause-held c = (c.give_run.ensures []).held

pub returns : goal.returns
returns c =
    let p = c.requires in
    gathered {k = c.args.g.now} p.c_lt_symbols.0 c.load-y.ensures c.children.ensures p.empty (c.give_run.ensures _) c.offer_kids.ensures
