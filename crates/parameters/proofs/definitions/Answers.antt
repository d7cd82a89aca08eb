-- `parameters::definitions` meets its contract. Assumes nothing.
use mathlib.Core.Path.{refl, ◌∙◌}
use native.Mathlib.Omega.{arith}
use lib.Dec.{eqb}
use Rattle.std.proofs.Common.{rules, tests}
use Rattle.std.proofs.lemmas.Iterator.{YieldsList-from_range}
use Rattle.std.proofs.lemmas.Iterator.Consumers.{YieldsList-at, YieldsList-from_filter, count_from_yields_List}
use Rattle.model.specs.Opcodes.{ValDef}
use Rattle.record.specs.Record.{row_at}
use Rattle.parameters.proofs.Counts.{counted}
use Rattle.parameters.proofs.definitions.Goals as goal

pub returns : goal.returns
returns c =
    let bs = c.args.tree.now in
    let n = c.record_count.result in
    count_from_yields_List c.filter.result _ c.count.ensures.ran
    (YieldsList-from_filter _ (λ i. eqb (row_at bs i).rec.shape ValDef)
    (YieldsList-at c.filter.ensures.source (YieldsList-from_range 0 n n refl (omega arith))) c.filter.ensures.closure
    (λ x b q k. search (rules, tests)))
    ∙ rw c.record_count.ensures.0 (counted bs)
