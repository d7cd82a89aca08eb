-- What the walk gives with the state after it, and its small steps, as records. In order: results with their states;
-- where a child is read, thunks noted, children counted again.
-- Assumes nothing.
use Rattle.std.specs.Prelude.{ℕ, ◌+◌, ◌-◌, Bool, true, false, ◌&&◌, eqb, leb, Result, Ok, Err}
use Rattle.refusal.specs.declared.Refusal.{Refusal}
use Rattle.interner.specs.declared.State.{State}
use Rattle.opening.specs.Opening.{with_readings}
use Rattle.key.specs.declared.Branches.{Branches}
use Rattle.key.specs.declared.Branches.TheVariants.{Zero, One, Two}
use Rattle.intern.specs.declared.Here.{Here}
use Rattle.intern.specs.declared.Inside.{Inside}

-- ---- results with their states

-- children read: the scopes of the thunks among them, and the state after them; or a refusal, after which scopes say
-- nothing
pub record KidsStep : Type 0 where
  pub branches : Branches
  pub st : State
  pub outcome : Result Unit Refusal

-- the body of a lambda, opened, and the state after that; or a refusal and the state in which it was met
pub record Entered : Type 0 where
  pub st : State
  pub inside : Result Inside Refusal

abbrev pub thunks_read : Result Branches Refusal → Branches
thunks_read (Ok b) = b
thunks_read (Err e) = Zero

abbrev pub outcome_read : Result Branches Refusal → Result Unit Refusal
outcome_read (Ok b) = Ok tt
outcome_read (Err e) = Err e

-- children read, with the state after them
abbrev pub kids_step : State → Result Branches Refusal → KidsStep
kids_step st r = record { branches = thunks_read r; st = st; outcome = outcome_read r }

-- and none refused
abbrev pub kids_done : State → Branches → KidsStep
kids_done st b = record { branches = b; st = st; outcome = Ok tt }

-- a lambda's body opened, with the state after that
abbrev pub entered_of : State → Result Inside Refusal → Entered
entered_of st r = record { st = st; inside = r }

-- ---- the small steps

-- where child j is read, with `top` ids bound
abbrev pub child_at : Here → ℕ → ℕ → Here
child_at at j top = record { scope = at.scope; held = at.held + j; top = top }

-- a thunk's scope is noted, after none or one
abbrev pub one_more : Branches → ℕ → Branches
one_more Zero scope = One scope
one_more (One a) scope = Two a scope
one_more (Two a b) scope = Two a scope

abbrev pub noted : Bool → Branches → ℕ → Branches
noted true b scope = one_more b scope
noted false b scope = b

-- what was read from one state to another opened no scope, and the readings suffice for it once more
abbrev pub repeats : State → State → Bool
repeats before after =
    eqb after.scopes before.scopes && leb (after.readings + after.readings) (2048 + before.readings)

-- children read from a state on, counted again
abbrev pub repeated : State → KidsStep → KidsStep
repeated before k = record k { st = with_readings k.st (k.st.readings - before.readings) }
