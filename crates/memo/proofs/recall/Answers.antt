-- `memo::recall` meets its contract. Assumes nothing.
use Rattle.std.proofs.Common.{rules, ◌+◌, ◌%◌, arith, eqb, tests}
use Rattle.std.specs.List.{slice_range}
use Rattle.std.proofs.lemmas.Iterator.Search.{find_from_yields_List}
use Rattle.std.proofs.lemmas.Iterator.Adapters.{YieldsList-from_rev_slice}
use Rattle.regions.specs.Regions.{MEMO}
use Rattle.memo.proofs.Laws.{recall_found}
use Rattle.memo.proofs.recall.Goals as goal

pub returns : goal.returns
returns c =
    let a = c.args in
    let pairs = YieldsList-from_rev_slice (slice_range a.work.now MEMO.first (MEMO.first + a.n)) (search rules) in
    let newest =
    find_from_yields_List (λ w. eqb (w % 512) a.p) _ _ c.find-newest.result c.find-newest.ensures.ran pairs
    (λ x b q k. search (rules, tests)) in
    rw (← recall_found a.work.now a.p a.n (omega arith), ← newest) (search rules)
