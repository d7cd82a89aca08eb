-- `intern::enter_lambda` meets its contract. Assumes nothing.
use mathlib.Core.Path.{◌∙◌}
use Rattle.std.proofs.lemmas.Result.{err_from_is_err_and}
use Rattle.intern.proofs.Bodies.{Lambda, lambda_given, lambda_binds, enter_refused, enter_room}
use Rattle.intern.proofs.Bodies.{enter_done}
use Rattle.intern.proofs.enter_lambda.Goals as goal
use Rattle.intern.proofs.enter_lambda.Goals.{Start}

-- what was asked
given : (c : Start) → let a = c.args in Lambda a.forest.now.laid a.work.now a.t a.st.now a.i a.at
given c = let p = c.requires in lambda_given c.args.forest.now.formed p.i_bound p.stands_at p.counted_at

pub alloc_args-requires : goal.alloc_args-requires
alloc_args-requires c =
    record { rep = (given (goal.at.alloc_args-requires c).Start).stands.rep; binds = lambda_binds (given (goal.at.alloc_args-requires c).Start) (c.from-count.ensures ∙ c.aux.ensures) }

pub returns-in_err-symbol : goal.returns-in_err-symbol
returns-in_err-symbol c =
    let p = err_from_is_err_and c.from_residual.result c.from_residual.ensures.1 in
    rw (p.1, p.2)
    (enter_refused (given (goal.at.returns-in_err-symbol c).Start) (c.from-count.ensures ∙ c.aux.ensures)
    c.alloc_args.ensures c.in_err-symbol.was)

pub open_body-requires : goal.open_body-requires
open_body-requires c =
    let room =
    enter_room (given (goal.at.open_body-requires c).Start) (c.from-count.ensures ∙ c.aux.ensures) c.alloc_args.ensures c.in_ok-symbol.was in record { in_bounds = room.0; cur_lt_scopes = (room.1, room.2); first_bound = (c.first_of-first.ensures.1, room.3); cur_bound = room.4 }

pub returns : goal.returns
returns c =
    enter_done (given (goal.at.returns c).Start) (c.from-count.ensures ∙ c.aux.ensures) c.alloc_args.ensures c.in_ok-symbol.was
    c.first_of-first.ensures c.open_body.ensures.0 c.open_body.ensures.1 c.bind_args-end.ensures
