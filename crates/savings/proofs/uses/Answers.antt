-- `savings::uses` meets its contract. Assumes nothing.
use Prim.Native.Nat.{◌+◌, ◌-◌}
use mathlib.Core.Path.{◌≡◌, refl, ◌∙◌}
use native.Mathlib.Omega.{arith}
use Rattle.std.proofs.Common.{rules, tests}
use Rattle.std.proofs.lemmas.Iterator.{YieldsList-from_range}
use Rattle.std.proofs.lemmas.Iterator.Consumers.{YieldsList-at, YieldsList-from_filter, count_from_yields_List}
use Rattle.model.specs.Savings.{is_use}
use Rattle.record.specs.Record.{row_at}
use Rattle.savings.specs.Plain.{plain_uses}
use Rattle.savings.specs.Siblings.{rows_between}
use Rattle.savings.proofs.Rows.{uses_counted, uses_few}
use Rattle.savings.proofs.uses.Goals as goal
use Rattle.savings.proofs.uses.Goals.{After-count}

counted : (c : After-count) → c.count.result ≡ plain_uses c.args.id (rows_between c.args.forest.now.laid c.args.from c.args.to)
counted c =
    let bs = c.args.forest.now.laid in
    let n = c.args.to - c.args.from in
    let all : c.args.from + n ≡ c.args.to = omega (arith, c.requires.0) in
    count_from_yields_List c.filter.result _ c.count.ensures.ran
    (YieldsList-from_filter _ (λ k. is_use c.args.id (row_at bs k).rec)
    (YieldsList-at c.filter.ensures.source (YieldsList-from_range c.args.from c.args.to n refl refl))
    c.filter.ensures.closure (λ x b q k. search (rules, tests)))
    ∙ (rw all at (uses_counted c.args.id bs c.args.from n (omega (arith, all, c.requires.1))))

pub returns-clause-count : goal.returns-clause-count
returns-clause-count c = counted c

pub returns-clause-few : goal.returns-clause-few
returns-clause-few c =
    let f = c.args.forest.now.formed in
    omega (arith, counted c, uses_few c.args.id c.args.forest.now.laid c.args.from c.args.to f.laid)
