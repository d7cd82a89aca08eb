-- The states of interning after readings, after a scope is opened, and after a thunk.
-- Assumes nothing.
use Rattle.std.specs.Prelude.{ℕ, ◌+◌}
use Rattle.interner.specs.declared.State.{State}

-- n readings more
abbrev pub with_readings : State → ℕ → State
with_readings st n = record st { readings = st.readings + n }

-- one reading more
abbrev pub with_reading : State → State
with_reading st = with_readings st 1

-- one scope more
abbrev pub with_scope : State → State
with_scope st = record st { scopes = st.scopes + 1 }

-- a thunk's table is dropped: `top` entries are left
abbrev pub thunk_closed : State → ℕ → State
thunk_closed st top = record st { entries = top }
