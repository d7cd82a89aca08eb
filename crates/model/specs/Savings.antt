-- Bytes saved by each definition of a written tree (request A.1): "one line for every definition in a written tree: id and
-- saving". Said of any trees: a use is resolved by scope, also where an id is bound again.
-- In order: a subtree's size; uses; definitions in record order; savings; the count over records.
-- Assumes nothing.
use Rattle.std.specs.Prelude.{◌≡◌, ℕ, ◌+◌, ◌*◌, Bool, true, false, ◌&&◌, List, [], ◌∷◌, ◌++◌, map, eqb, Option, None, Some, ℤ, pos, ◌+ℤ◌, ◌-ℤ◌}
use Rattle.model.specs.Lists.{is_in}
use Rattle.model.specs.Tree.{Rec, Row, Tree, Trees, node, nil, cons, top, below, row_len, rows_of}
use Rattle.model.specs.Opcodes.{ValUse}
use Rattle.model.specs.Binding.{is_def, id_of, inside, after}

-- ---- "Let a subtree's size be its records' bytes plus 4 for each pair"

-- of its rows
unfoldable pub weight : List Row → ℕ
weight [] = 0
weight (r ∷ rs) = row_len r + 4 + weight rs

-- of a definition's value
unfoldable pub value_size : Tree → ℕ
value_size d = weight (rows_of (below d))

-- ---- uses of id i that mean an i which is in force outside

abbrev pub is_use : ℕ → Rec → Bool
is_use i r = eqb r.shape ValUse && eqb (id_of r) i

unfoldable pub own_use : ℕ → Rec → ℕ
own_use i r = elim (is_use i r) [ true ↦ 1 | false ↦ 0 ]

-- none where i is bound again: in a lambda with an argument i, or after a definition of i
unfoldable mutual
  pub uses_of : ℕ → Tree → ℕ
  uses_of i (node r ts) = own_use i r + elim (is_in i (inside r)) [ true ↦ 0 | false ↦ uses_in i ts ]

  pub uses_in : ℕ → Trees → ℕ
  uses_in i nil = 0
  uses_in i (cons t ts) = uses_of i t + elim (is_in i (after t)) [ true ↦ 0 | false ↦ uses_in i ts ]

-- ---- definitions in record order

-- a definition: its id, its uses, and its value's size
pub record Def : Type 0 where
  pub id : ℕ
  pub uses : ℕ
  pub size : ℕ

-- of a tree, if it is a definition: it is in force in its later siblings
unfoldable pub def_here : Tree → Trees → List Def
def_here t ts =
    elim (is_def t) [
      | true ↦ record { id = id_of (top t); uses = uses_in (id_of (top t)) ts; size = value_size t } ∷ []
      | false ↦ []
    ]

-- "Lines stand in record order": a definition before those in its value
unfoldable mutual
  pub defs_of : Tree → List Def
  defs_of (node r ts) = defs_in ts

  pub defs_in : Trees → List Def
  defs_in nil = []
  defs_in (cons t ts) = def_here t ts ++ defs_of t ++ defs_in ts

-- ---- savings

-- bytes of a definition's record, and of a use's, with their pairs
abbrev pub def_cost : ℕ
def_cost = 14

abbrev pub use_cost : ℕ
use_cost = 13

-- "uses × size of the value, less that size, less 14 for the definition, less 13 a use"
unfoldable pub saving : ℕ → ℕ → ℤ
saving uses size = pos (uses * size) -ℤ pos size -ℤ pos def_cost -ℤ pos (use_cost * uses)

-- "id and saving" of each definition
unfoldable pub savings : Trees → List (ℕ × ℤ)
savings ts = map (λ d. (d.id, saving d.uses d.size)) (defs_in ts)

-- "Their sum"
unfoldable pub sum_ℤ : List ℤ → ℤ
sum_ℤ [] = pos 0
sum_ℤ (x ∷ xs) = x +ℤ sum_ℤ xs

-- ---- the count over records

-- what a record adds to it: a use of a definition, or a definition, whose value has this size; or nothing
pub data Share : Type 0 where
  use_of def_of : ℕ → Share
  nothing : Share

-- "for each use of a definition its value's size less 13, and for each definition minus that size and 14"
unfoldable pub worth : Share → ℤ
worth (use_of v) = pos v -ℤ pos use_cost
worth (def_of v) = pos 0 -ℤ pos (v + def_cost)
worth nothing = pos 0

-- what an id stands for where it is in force: a definition, with its value's size. None: an argument, or not in force
abbrev pub Force : Type 0
Force = ℕ → Option ℕ

-- id i newly bound, to o
unfoldable pub bind : ℕ → Option ℕ → Force → Force
bind i o w j = elim (eqb j i) [ true ↦ o | false ↦ w j ]

-- arguments newly bound
unfoldable pub hide : List ℕ → Force → Force
hide ids w j = elim (is_in j ids) [ true ↦ None | false ↦ w j ]

unfoldable pub use_share : Option ℕ → Share
use_share None = nothing
use_share (Some v) = use_of v

unfoldable pub share : Tree → Force → Share
share t w =
    elim (eqb (top t).shape ValUse) [
      | true ↦ use_share (w (id_of (top t)))
      | false ↦ elim (is_def t) [ true ↦ def_of (value_size t) | false ↦ nothing ]
    ]

-- what is in force in a tree's later siblings
unfoldable pub later : Tree → Force → Force
later t w = elim (is_def t) [ true ↦ bind (id_of (top t)) (Some (value_size t)) w | false ↦ w ]

-- of each record in turn: a walk of its own, which takes nothing from the uses and definitions above
unfoldable mutual
  pub shares_of : Tree → Force → List Share
  shares_of (node r ts) w = share (node r ts) w ∷ shares_in ts (hide (inside r) w)

  pub shares_in : Trees → Force → List Share
  shares_in nil w = []
  shares_in (cons t ts) w = shares_of t w ++ shares_in ts (later t w)

unfoldable pub counted : Trees → ℤ
counted ts = sum_ℤ (map worth (shares_in ts (λ i. None)))

-- "Their sum is proved equal to a count over records"
abbrev pub SumIsCount : Trees → Type 0
SumIsCount ts = sum_ℤ (map (λ s. s.1) (savings ts)) ≡ counted ts
