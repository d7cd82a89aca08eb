-- The graph in the work words. In order: what holds of the words; the graph in them.
-- Assumes nothing.
use Rattle.std.specs.Prelude.{ℕ, ◌+◌, ◌<◌, ◌≤◌, List, length}
use Rattle.regions.specs.Regions.{SLOTS, FREE_LISTS, end}
use Rattle.model.specs.Gate.{Graph}
use Rattle.key.specs.Key.{symbol_at}
use Rattle.symbols.specs.Symbols.{syms_of, AllSound}
use Rattle.scopes.specs.Scopes.{scopes_of, Nested}

-- ---- what holds of the words

-- the child slots of n symbols are the first `used`
abbrev pub Within : List ℕ → ℕ → ℕ → Type 0
Within ws used n = (i : ℕ) → i < n → (symbol_at ws i).kids + (symbol_at ws i).count ≤ used

-- m scopes, and in them n symbols; there are words as far as their free lists go
pub record Scoped (ws : List ℕ) (n m : ℕ) : Type 0 where
  pub few : n ≤ 512
  pub long : end FREE_LISTS ≤ length ws
  pub some_scope : 0 < m
  pub few_scopes : m ≤ 2049
  pub nested : Nested ws m
  pub placed : (s : ℕ) → s < n → (symbol_at ws s).scope < m

-- the symbols stand for records of the forest, over lower symbols
pub record Arena (bs ws : List ℕ) (n m : ℕ) : Type 0 where
  pub scoped : Scoped ws n m
  pub sound : AllSound bs ws SLOTS.size n

-- ---- the graph in the words

-- `slots` is what usage counts, and no order hangs on it
abbrev pub graph_of : List ℕ → List ℕ → ℕ → ℕ → List ℕ → Graph
graph_of bs ws n m slots = record { syms = syms_of bs ws n; scopes = scopes_of ws m; slots = slots }
