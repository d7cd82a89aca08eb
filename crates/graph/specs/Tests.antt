-- The graph that is held, as model's; and tests of it. In order: the graph, over a forest; tests.
-- Assumes nothing.
use Rattle.std.specs.Prelude.{ℕ, ◌≡◌, Bool, not, ◌&&◌, List}
use Rattle.model.specs.Gate as model
use Rattle.model.specs.Gate.{sym_of}
use Rattle.model.specs.Schedule.{is_arg, is_outside, rel_of}
use Rattle.scopes.specs.declared.Rel.{Rel}
use Rattle.scopes.specs.Relation.{rel_in}
use Rattle.graph.specs.declared.held.Graph.{Graph}
use Rattle.graph.specs.Graph.{Arena, graph_of}

-- ---- the graph, over a forest of bytes bs

-- the graph that g holds
abbrev pub held_in : Graph → List ℕ → List ℕ → model.Graph
held_in g bs slots = graph_of bs g.words.now g.symbols g.scopes slots

-- its symbols stand for records of the forest, over lower symbols
abbrev pub Over : List ℕ → Graph → Type 0
Over bs g = Arena bs g.words.now g.symbols g.scopes

-- ---- tests

-- r says where symbol s lies, seen from scope `cur`
abbrev pub Related : Graph → ℕ → ℕ → Rel → Type 0
Related g s cur r = (bs slots : List ℕ) → rel_in r ≡ rel_of (held_in g bs slots) s cur

-- a test of the graph in the words
abbrev pub Tests : Graph → (model.Graph → Bool) → Bool → Type 0
Tests g p r = (bs slots : List ℕ) → r ≡ p (held_in g bs slots)

-- no argument, and outside scope `cs`
abbrev pub is_outsider : ℕ → ℕ → model.Graph → Bool
is_outsider cs d g = not (is_arg (sym_of g d).node) && is_outside (rel_of g d cs)
