-- `parameters::stands_at` meets its contract. Assumes nothing.
use mathlib.Core.Path.{◌≡◌}
use mathlib.Core.Bool.{true, false}
use Rattle.std.proofs.Common.{rules, tests}
use Rattle.std.proofs.lemmas.Iterator.{first_from_Range}
use Rattle.model.specs.TemplateLine.{is_of, stands_at}
use Rattle.record.specs.Record.{row_at}
use Rattle.codec.proofs.Rows.{first_row}
use Rattle.parameters.proofs.stands_at.Goals as goal

pub returns-clause-value : goal.returns-clause-value
unfolding stands_at
returns-clause-value c =
    let bs = c.args.forest.now in
    let h =
    first_from_Range _ _ _ c.find.result (λ i. is_of c.args.a (row_at bs i) ≡ true)
    (λ i. is_of c.args.a (row_at bs i) ≡ false) c.find.ensures.ran (λ x q k. search (rules, tests))
    (λ x q k. search (rules, tests)) in
    first_row (is_of c.args.a) bs _ (rw c.record_count.ensures.0 at h)
