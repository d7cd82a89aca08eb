-- `codec::check5` meets its contract. Assumes nothing.
use mathlib.Core.Path.{◌≡◌}
use mathlib.Core.Bool.{true, false, not}
use Rattle.std.proofs.Common.{rules, tests}
use Rattle.std.proofs.lemmas.Iterator.{first_from_Range}
use Rattle.model.specs.Shape.{agrees}
use Rattle.model.specs.Forest.{check5}
use Rattle.record.specs.Record.{row_at}
use Rattle.codec.proofs.Rows.{first_row}
use Rattle.codec.proofs.check5.Goals as goal

pub returns-clause-value : goal.returns-clause-value
unfolding check5
returns-clause-value c =
    let bs = c.args.forest.now in
    let h =
    first_from_Range _ _ _ c.find.result (λ i. not (agrees (row_at bs i).rec) ≡ true) (λ i. not (agrees (row_at bs i).rec) ≡ false)
    c.find.ensures.ran (λ x q k. search (rules, tests)) (λ x q k. search (rules, tests)) in
    first_row (λ r. not (agrees r.rec)) bs _ (rw c.record_count.ensures.0 at h)
