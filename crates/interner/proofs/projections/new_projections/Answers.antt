-- `interner::projections::new_projections` meets its contract. Assumes nothing.
use Rattle.std.proofs.lemmas.Result.{err_from_is_err_and}
use mathlib.Core.Path.{refl}
use Rattle.interner.proofs.Memos.{remember_asks}
use Rattle.interner.proofs.Fields.{projects_next, first_refused, second_refused, unpaired, both_made}
use Rattle.interner.proofs.projections.new_projections.Goals as goal

pub returns-in_err-a : goal.returns-in_err-a
returns-in_err-a c =
    let p = err_from_is_err_and c.from_residual.result c.from_residual.ensures.1 in
    rw (p.1, p.2, ← c.in_err-a.was)
    (first_refused c.requires.projects c.projection.ensures c.args.field c.in_err-a.was)

pub projection-requires-2-clause-projects : goal.projection-requires-2-clause-projects
projection-requires-2-clause-projects c =
    projects_next c.requires.projects c.projection.ensures c.in_ok-a.was c.requires.rep

pub returns-in_err-b : goal.returns-in_err-b
returns-in_err-b c =
    let q = c.requires in
    let p = err_from_is_err_and c.from_residual-in_err-b.result c.from_residual-in_err-b.ensures.1 in
    rw (p.1, p.2, ← c.in_err-b.was)
    (second_refused q.projects c.projection.ensures c.in_ok-a.was q.rep c.projection-2.ensures c.args.field
    c.in_err-b.was)

pub remember-requires-clause-memo_bound : goal.remember-requires-clause-memo_bound
remember-requires-clause-memo_bound c =
    let p = c.requires in
    let k = c.projection-2.ensures in
    (remember_asks k.rep
    (unpaired p.projects c.projection.ensures c.in_ok-a.was p.rep k c.in_ok-b.was p.held_value)).0

pub returns : goal.returns
returns c =
    let p = c.requires in
    both_made p.projects c.projection.ensures c.in_ok-a.was p.rep c.projection-2.ensures c.in_ok-b.was
    p.held_value c.args.field p.fact c.remember.ensures.0 (rw (c.remember.ensures.1, c.picked.ensures) refl)
