-- What reading leaves as it was, of the work words and of the state. In order: what interning may write; words; words
-- and state.
-- Assumes nothing.
use Rattle.std.specs.Prelude.{ℕ, ◌+◌, ◌-◌, ◌*◌, ◌≤◌, List}
use Rattle.regions.specs.Regions.{Region, SYMBOLS, SCOPES, PENDING, BINDINGS, end}
use Rattle.laws.specs.Frame.{Agree, Frame}
use Rattle.interner.specs.declared.State.{State}
use Rattle.intern.specs.declared.Here.{Here}

-- the words that interning may write: the regions that stand while symbols are made
abbrev pub INTERNING : Region
INTERNING = record { first = SYMBOLS.first; size = end BINDINGS - SYMBOLS.first }

-- the words of the first n scopes, of `held` pending symbols and of `top` bindings, and all that interning never writes
pub record Words (n held top : ℕ) (ws ws' : List ℕ) : Type 0 where
  pub frame : Frame INTERNING.first (end INTERNING) ws ws'
  pub scopes : Agree ws ws' SCOPES.first (SCOPES.first + n)
  pub pending : Agree ws ws' PENDING.first (PENDING.first + held)
  pub bound : Agree ws ws' BINDINGS.first (BINDINGS.first + 2 * top)

-- reading at `at`: scopes are only added
pub record Kept (at : Here) (ws ws' : List ℕ) (st st' : State) : Type 0 where
  pub words : Words st.scopes at.held at.top ws ws'
  pub scopes : st.scopes ≤ st'.scopes
