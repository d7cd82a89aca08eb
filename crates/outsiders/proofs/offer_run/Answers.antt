-- `outsiders::offer_run` meets its contract. Assumes nothing.
use mathlib.Core.List.{[]}
use native.Mathlib.Omega.{arith}
use lib.Seq.{take_all}
use Rattle.laws.proofs.Falls.{under_at}
use Rattle.outsiders.proofs.Offers.{offered_none, offered_next}
use Rattle.outsiders.proofs.offer_run.Goals as goal

pub loop-d-init : goal.loop-d-init
loop-d-init g c bs = offered_none _ c.requires.held

pub offer-requires-clause-d_lt_symbols : goal.offer-requires-clause-d_lt_symbols
offer-requires-clause-d_lt_symbols g c =
    let long = g.met.T.Entry.lengths c.args.run.now in
    let is = c.symbol.ensures _ c.loop-d.d-index c.loop-d-test.true c.d-item.is in
    omega (arith, under_at _ _ c.requires.below c.loop-d.d-index (omega arith))

pub offer-requires-clause-held : goal.offer-requires-clause-held
offer-requires-clause-held g c = (c.loop-d.invariant []).held

pub loop-d-preserved : goal.loop-d-preserved
loop-d-preserved g c bs =
    let long = g.met.T.Entry.lengths c.args.run.now in
    let is = c.symbol.ensures _ c.loop-d.d-index c.loop-d-test.true c.d-item.is in
    offered_next _ _ _ _ (omega arith) is (c.loop-d.invariant bs) (c.offer.ensures bs)

pub returns : goal.returns
returns g c bs =
    let long = g.met.T.Entry.lengths c.args.run.now in
    let e = take_all c.loop-d.d-index (g.T.Entry.numbers c.args.run.now) (omega arith) in
    rw e at (c.loop-d.invariant bs)
