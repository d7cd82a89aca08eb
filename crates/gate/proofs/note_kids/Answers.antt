-- `gate::note_kids` meets its contract. Assumes nothing.
use Rattle.gate.proofs.Run.{kids_fit, kids_noted}
use Rattle.gate.proofs.note_kids.Goals as goal

pub note_all-requires : goal.note_all-requires
note_all-requires c =
    let p = c.requires in
    kids_fit c.args.work.now c.args.s p.lower p.s_bound.0 p.s_bound.1 p.small _ c.load-y.ensures

pub returns : goal.returns
returns c =
    kids_noted _ _ _ _ c.load-y.ensures c.note_all.ensures
