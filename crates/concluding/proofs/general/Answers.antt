-- `concluding::general` meets its contract. Assumes nothing.
use Rattle.concluding.proofs.Nodes.{general_ready, general_answers}
use Rattle.concluding.proofs.general.Goals as goal

pub finish-requires : goal.finish-requires
finish-requires c =
    let p = c.requires in
    let q = c.requires in record { rep = p.rep; fact = p.fact; ready = general_ready c.args.b c.node_for-node.ensures c.args.forest.now.formed q.concludes q.branched }

pub returns : goal.returns
returns c =
    let a = c.args in
    general_answers a.forest.now.laid a.work.now a.t a.st.now a.i a.cur a.held a.count a.b
    c.node_for-node.ensures c.finish.ensures.answers
