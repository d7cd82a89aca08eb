-- How many symbols and scopes a state stands for; readings.
-- Assumes nothing.
use Prim.Native.Nat.{ℕ, ◌+◌, ◌<◌, ◌≤◌}
use mathlib.Core.Path.{◌≡◌}
use mathlib.Core.List.{List}
use native.Mathlib.Numerals.{add-one}
use native.Mathlib.Omega.{arith}
use lib.ListN.{length}
use Rattle.model.specs.Intern.{read}
use Rattle.symbols.proofs.Laws.{syms_length}
use Rattle.tables.specs.declared.Tables.{Tables}
use Rattle.scopes.proofs.Laws.{scopes_length}
use Rattle.interner.specs.declared.State.{State}
use Rattle.interner.specs.State.{abs_of, Rep}
use Rattle.opening.specs.Opening.{with_readings, with_reading}

module _ (bs ws : List ℕ) (t : Tables) (st : State) where
  pub symbols-count : length (abs_of bs ws t st).syms ≡ st.symbols
  symbols-count = syms_length bs ws st.symbols

  pub scopes_count : length (abs_of bs ws t st).scopes ≡ st.scopes
  scopes_count = scopes_length ws st.scopes

  -- ---- readings

  pub reading_abs : abs_of bs ws t (with_reading st) ≡ read (abs_of bs ws t st)
  reading_abs = rw (add-one st.readings)

pub readings_rep : (bs ws : List ℕ) (st : State) (n : ℕ) → Rep bs ws st → st.readings + n ≤ 2048 →
    Rep bs ws (with_readings st n)
readings_rep bs ws st n rep few = record {
  words = rep.words;
  arena = rep.arena;
  slots = rep.slots;
  sourced = rep.sourced;
  levels = rep.levels;
  lists = rep.lists;
  entries = rep.entries;
  memo = rep.memo;
  few_readings = few;
}

pub reading_rep : (bs ws : List ℕ) (st : State) → Rep bs ws st → st.readings < 2048 → Rep bs ws (with_reading st)
reading_rep bs ws st rep few = readings_rep bs ws st 1 rep (omega arith)
