-- Lists of symbols, and what becomes of one that is offered more.
-- Assumes nothing.
use Rattle.std.specs.Prelude.{ℕ, ◌≡◌, List}
use Rattle.model.specs.Gate as model
use Rattle.model.specs.Schedule.{outsiders}
use Rattle.laws.specs.Members.{Under, Once}
use Rattle.graph.specs.declared.held.Graph.{Graph}
use Rattle.graph.specs.Tests.{held_in}

-- symbols below n, each once
pub record Held (n : ℕ) (list : List ℕ) : Type 0 where
  pub once : Once list
  pub low : Under n list

-- the outsiders among ds
abbrev pub offered : ℕ → List ℕ → model.Graph → List ℕ → List ℕ
offered cs ds g out = outsiders g cs ds out

-- the list has become what f makes of it, in the graph over the forest of bytes bs
pub record Listed (bs : List ℕ) (g : Graph) (f : model.Graph → List ℕ → List ℕ) (list list' : List ℕ) : Type 0 where
  pub held : Held g.symbols list'
  pub is : (slots : List ℕ) → list' ≡ f (held_in g bs slots) list
