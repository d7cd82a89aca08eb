-- Ids in work words. In order: the ids in force; ids in a part of the words; an argument list's ids; ids put on top;
-- where a record and its children stand.
-- Assumes nothing.
use Rattle.std.specs.Prelude.{ℕ, zero, suc, ◌+◌, ◌≤◌, ◌≡◌, Bool, false, ◌&&◌, ◌||◌, List, ◌++◌, map, ltb, get_or}
use Rattle.model.specs.Lists.{is_in}
use Rattle.model.specs.Binding.{args_of}
use Rattle.laws.specs.Stack.{stack_of}
use Rattle.laws.specs.Frame.{Frame}
use Rattle.regions.specs.Regions.{IDS, end}
use Rattle.walk.specs.declared.Context.{Context}
use Rattle.walk.specs.Faults.{Ctx}

-- the ids in the first k words, newest first
unfoldable pub ids_of : List ℕ → ℕ → List ℕ
ids_of ws k = stack_of (λ j. get_or ws j 0) k

-- the ids in the m words from lo on, newest first
unfoldable pub ids_in : List ℕ → ℕ → ℕ → List ℕ
ids_in ws lo m = stack_of (λ j. get_or ws (lo + j) 0) m

-- one of the m words from top on holds an id that stands before it
unfoldable pub clash : List ℕ → ℕ → ℕ → Bool
clash ws top zero = false
clash ws top (suc m) = is_in (get_or ws (top + m) 0) (ids_of ws (top + m)) || clash ws top m

-- the ids of n arguments at the start of a literal
abbrev pub arg_ids_at : ℕ → List ℕ → List ℕ
arg_ids_at n lit = map (λ (a : ℕ × List ℕ). a.0) (args_of n lit)

-- the ids `more` were put on top, and r is the new top; a record binds at most 15 ids
pub record Bound (ws : List ℕ) (top : ℕ) (more : List ℕ) (ws' : List ℕ) (r : ℕ) : Type 0 where
  pub ids : ids_of ws' r ≡ more ++ ids_of ws top
  pub least : top ≤ r
  pub most : r ≤ top + 15
  pub kept : Frame top (end IDS) ws ws'

-- where a record stands, with the ids in force in the words
abbrev pub ctx_of : List ℕ → Context → Ctx
ctx_of ws c = record { depth = c.depth; def = c.def; ids = ids_of ws c.top }

-- where a child stands, `left` children after it, and the ids in force up to top
abbrev pub child_of : Context → ℕ → ℕ → Context
child_of c left top = record { depth = c.depth; def = c.def && ltb 0 left; top = top }
