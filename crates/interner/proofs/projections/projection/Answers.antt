-- `interner::projections::projection` meets its contract. Assumes nothing.
use Rattle.interner.proofs.Fields.{field_ready, field_answers}
use Rattle.interner.proofs.projections.projection.Goals as goal

pub finish-requires-clause-ready : goal.finish-requires-clause-ready
finish-requires-clause-ready c =
    let p = c.requires in field_ready p.projects c.args.field p.field_nonzero.0 p.field_nonzero.1

pub returns : goal.returns
returns c =
    let q = c.requires in
    field_answers q.projects c.args.field q.field_nonzero.0 c.finish.ensures.answers
