-- What binding a lambda's arguments, or a definition, makes of the work words, and how many entries there are then.
-- In order: a lambda's arguments; a definition. Assumes nothing.
use Rattle.std.specs.Prelude.{ℕ, ◌+◌, ◌*◌, ◌≤◌, ◌≡◌, true, false, List, eqb}
use Rattle.model.specs.Binding.{id_of, args_of}
use Rattle.model.specs.Intern.{bind_args, bind_def}
use Rattle.laws.specs.Range.{range}
use Rattle.laws.specs.Frame.{Frame}
use Rattle.walk.specs.Walk.{rec_at, tree_at}
use Rattle.regions.specs.Regions.{BINDINGS}
use Rattle.bindings.specs.Bindings.{env_of, bound, arg_bindings, bound_all}

-- lambda i's arguments were bound to the symbols from `first` on, above top entries, and now there are r
pub record ArgsBound (bs : List ℕ) (i top first : ℕ) (ws ws' : List ℕ) (r : ℕ) : Type 0 where
  pub is : r ≡ top + (rec_at bs i).aux
  pub words : ws'
      ≡ bound_all ws top (arg_bindings (args_of (rec_at bs i).aux (rec_at bs i).lit) (range first (rec_at bs i).aux))
  pub most : r ≤ top + 15
  pub env : env_of ws' r ≡ bind_args (args_of (rec_at bs i).aux (rec_at bs i).lit) (range first (rec_at bs i).aux)
      (env_of ws top)
  pub kept : Frame (BINDINGS.first + 2 * top) (BINDINGS.first + 2 * r) ws ws'

-- a definition, record i, is one entry more, with its id and its symbol; any other record is none
abbrev pub top_after : List ℕ → ℕ → ℕ → ℕ
top_after bs i top = elim (eqb (rec_at bs i).shape 10) [ true ↦ top + 1 | false ↦ top ]

abbrev pub words_after : List ℕ → ℕ → ℕ → ℕ → List ℕ → List ℕ
words_after bs i top symbol ws =
    elim (eqb (rec_at bs i).shape 10) [ true ↦ bound ws top (id_of (rec_at bs i)) symbol | false ↦ ws ]

-- what record i's subtree binds in its later siblings was bound to its symbol, above top entries, and now there are r
pub record DefBound (bs : List ℕ) (i top symbol : ℕ) (ws ws' : List ℕ) (r : ℕ) : Type 0 where
  pub is : r ≡ top_after bs i top
  pub words : ws' ≡ words_after bs i top symbol ws
  pub least : top ≤ r
  pub most : r ≤ top + 1
  pub env : env_of ws' r ≡ bind_def (tree_at bs i) symbol (env_of ws top)
  pub kept : Frame (BINDINGS.first + 2 * top) (BINDINGS.first + 2 * r) ws ws'
