-- `parameters::two_values` meets its contract. Assumes nothing.
use mathlib.Core.Path.{◌≡◌}
use mathlib.Core.Bool.{true, false}
use Rattle.std.proofs.Common.{rules, tests}
use Rattle.std.proofs.lemmas.Iterator.{first_from_Range}
use Rattle.model.specs.Forest.{rows_in}
use Rattle.model.specs.TemplateLine.{has_another, two_values}
use Rattle.record.specs.Record.{row_at}
use Rattle.codec.proofs.Rows.{first_row}
use Rattle.parameters.proofs.two_values.Goals as goal

pub returns-clause-value : goal.returns-clause-value
unfolding two_values
returns-clause-value c =
    let bs = c.args.forest.now in
    let h =
    first_from_Range _ _ _ c.find.result (λ i. has_another (rows_in bs) (row_at bs i).rec ≡ true)
    (λ i. has_another (rows_in bs) (row_at bs i).rec ≡ false) c.find.ensures.ran (λ x q k. search (rules, tests))
    (λ x q k. search (rules, tests)) in
    first_row (λ r. has_another (rows_in bs) r.rec) bs _ (rw c.record_count.ensures.0 at h)
