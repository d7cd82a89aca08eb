-- `cse::clear` meets its contract. Assumes nothing.
use lib.Seq.{length-take-le}
use Rattle.regions.specs.Regions.{WORDS}
use Rattle.cse.specs.Call.{cleared}
use Rattle.cse.proofs.clear.Goals as goal

pub returns : goal.returns
unfolding cleared
returns c =
    rw (c.fill.ensures.after (λ y f. f), length-take-le WORDS c.args.work.now c.requires)
