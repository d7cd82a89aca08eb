-- `concluding::last` meets its contract. Assumes nothing.
use mathlib.Core.Path.{sym}
use Rattle.concluding.proofs.Children.{last_pending}
use Rattle.concluding.proofs.last.Goals as goal

pub returns : goal.returns
returns c =
    let a = c.args in sym (last_pending a.work.now a.held a.count c.requires.0)
