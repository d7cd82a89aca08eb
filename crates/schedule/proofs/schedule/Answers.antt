-- `schedule::schedule` meets its contract. Assumes nothing.
use mathlib.Core.Bool.{false}
use mathlib.Core.Path.{refl}
use native.Mathlib.Omega.{arith}
use lib.ListN.{get_or-replicate}
use Rattle.schedule.proofs.Lending.{lent_empty}
use Rattle.schedule.proofs.Walking.{schedule_done}
use Rattle.schedule.proofs.schedule.Goals as goal

pub visit-requires-clause-lent : goal.visit-requires-clause-lent
visit-requires-clause-lent c = lent_empty _ refl c.clear.ensures

pub visit-requires-clause-s_value : goal.visit-requires-clause-s_value
visit-requires-clause-s_value c =
    let p = c.requires in
    get_or-replicate 512 c.args.root false false (omega (arith, p.root_lt_symbols.0, c.args.g.now.scoped.few))

pub returns : goal.returns
returns c = schedule_done _ _ _ refl refl c.clear.ensures c.visit.ensures
