-- `codec::check4` meets its contract. Assumes nothing.
use mathlib.Core.Path.{◌≡◌}
use mathlib.Core.Bool.{true, false, not}
use Rattle.std.proofs.Common.{rules, tests}
use Rattle.std.proofs.lemmas.Iterator.{first_from_Range}
use Rattle.model.specs.Shape.{fits}
use Rattle.model.specs.Forest.{check4}
use Rattle.record.specs.Record.{row_at}
use Rattle.codec.proofs.Rows.{first_row}
use Rattle.codec.proofs.check4.Goals as goal

pub returns-clause-value : goal.returns-clause-value
unfolding check4
returns-clause-value c =
    let bs = c.args.forest.now in
    let h =
    first_from_Range _ _ _ c.find.result (λ i. not (fits (row_at bs i)) ≡ true) (λ i. not (fits (row_at bs i)) ≡ false)
    c.find.ensures.ran (λ x q k. search (rules, tests)) (λ x q k. search (rules, tests)) in
    first_row (λ r. not (fits r)) bs _ (rw c.record_count.ensures.0 at h)
