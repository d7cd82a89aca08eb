-- `concluding::lambda` meets its contract. Assumes nothing.
use Rattle.symbols.specs.Symbols.{key_rec}
use Rattle.concluding.proofs.Nodes.{lambda_ready}
use Rattle.concluding.proofs.lambda.Goals as goal

pub finish-requires : goal.finish-requires
finish-requires c =
    let p = c.requires in
    let q = c.requires in record { rep = p.rep; fact = p.fact; ready = lambda_ready p.rep q.concludes q.i_value q.body_of }

pub returns : goal.returns
unfolding key_rec
returns c =
    c.finish.ensures.answers
