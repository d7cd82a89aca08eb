-- `gate::reach_and_count` meets its contract. Assumes nothing.
use mathlib.Core.Path.{◌∙◌}
use lib.ListN.{length-set}
use Rattle.gate.proofs.Visits.{rooted_ready, reached_from}
use Rattle.gate.proofs.reach_and_count.Goals as goal

pub visit-requires : goal.visit-requires
visit-requires c =
    let it = rooted_ready c.args.work.now _ c.args.n c.args.root c.requires.countable c.requires.root_lt_n c.clear.ensures in record { countable = it.0; by_index = it.1 }

pub shape_of-work : goal.shape_of-work
shape_of-work c =
    c.visit.auto.work ∙ simp length-set c.clear.auto.work

pub returns : goal.returns
returns c =
    reached_from c.args.work.now _ c.args.n c.args.root c.requires.countable c.requires.root_lt_n c.clear.ensures _
    c.visit.ensures
