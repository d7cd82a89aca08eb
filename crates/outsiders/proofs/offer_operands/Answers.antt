-- `outsiders::offer_operands` meets its contract. Assumes nothing.
use mathlib.Core.List.{[]}
use mathlib.Core.Path.{refl}
use lib.Seq.{take_all}
use Rattle.laws.proofs.Falls.{under_at}
use Rattle.outsiders.proofs.Offers.{offered_none, offered_join, operands_none, operands_next}
use Rattle.outsiders.proofs.offer_operands.Goals as goal
use Rattle.outsiders.proofs.offer_operands.Goals.{then-is_thunked-thunks, else-is_thunked-thunks}

pub loop-j-init : goal.loop-j-init
loop-j-init c bs = operands_none _ _ _ c.requires.held

pub offer-requires-clause-d_lt_symbols : goal.offer-requires-clause-d_lt_symbols
offer-requires-clause-d_lt_symbols c = under_at _ _ c.requires.below _ c.loop-j-test.true

pub offer-requires-clause-held : goal.offer-requires-clause-held
offer-requires-clause-held c = (c.loop-j.invariant []).held

pub loop-j-preserved : goal.loop-j-preserved
loop-j-preserved c bs =
    let p = c.loop-j.invariant bs in
    elim c.if-is_thunked-thunks.branch [
      | then-is_thunked-thunks w ↦
          rw w.list-is (offered_join _ _ _ _ p (w.offer.ensures bs)
          (operands_next _ _ _ _ _ c.is_thunked.ensures _ w.if-is_thunked-thunks.true _ c.loop-j-test.true refl))
      | else-is_thunked-thunks w ↦
          rw w.list-is (offered_join _ _ _ _ p (offered_none _ p.held)
          (operands_next _ _ _ _ _ c.is_thunked.ensures _ w.if-is_thunked-thunks.false _ c.loop-j-test.true refl))
    ]

pub returns : goal.returns
returns c bs = rw (take_all _ c.args.run.now c.loop-j-test.false) at (c.loop-j.invariant bs)
