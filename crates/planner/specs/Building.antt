-- What is asked of the words, and how they stand for what is built. In order: symbols that a tree can be built from;
-- the ids of symbols, and ids taken back; an operation's row and the scopes of its thunks. bs are the forest's bytes, ws
-- the words.
-- Assumes nothing.
use Rattle.std.specs.Prelude.{ℕ, zero, suc, ◌+◌, ◌<◌, ◌≤◌, ◌≡◌, Bool, true, false, List, [], ◌∷◌, ltb, get_or, set, drop, Option, None, Some}
use Rattle.std.proofs.Props.{props}
use Rattle.model.specs.Opcodes.{ValUse}
use Rattle.model.specs.Shape.{a_id, a_opt, ◌then◌, times, whole}
use Rattle.model.specs.Intern.{Env, thunked}
use Rattle.model.specs.Gate as model
use Rattle.model.specs.Schedule.{is_arg}
use Rattle.model.specs.Tree.{Tree}
use Rattle.model.specs.Materialize.{id_given, build_value, process_scope}
use Rattle.model.specs.Labels.{LTree, l_build_value, l_process_scope}
use Rattle.laws.specs.Members.{Under}
use Rattle.record.specs.Record.{row_at}
use Rattle.key.specs.declared.Func.{Func}
use Rattle.key.specs.declared.Operation.{Operation}
use Rattle.key.specs.declared.Node.{Node}
use Rattle.key.specs.declared.Node.TheVariants.{Const, Unparsed, Arg, Lambda, Op}
use Rattle.key.specs.Key.{branches_of, symbol_at}
use Rattle.symbols.specs.Symbols.{rec_of, model_node}
use Rattle.symbols.specs.Sourced.{OpSourced, Sourced, AllSourced}
use Rattle.graph.specs.Graph.{Arena, graph_of}
use Rattle.free_lists.specs.FreeLists.{Lists}
use Rattle.plan.specs.declared.Planned.{Planned}
use Rattle.plan.specs.declared.Planned.TheVariants.{Copy, Field}

-- ---- symbols that a tree can be built from

-- lambda s: its body's scope is there, its arguments are lower symbols and are all that its literal says
pub record Lambdas (bs : List ℕ) (m s : ℕ) (f : Func) : Type 0 where
  pub body : f.body < m
  pub first : 0 < (row_at bs f.source).rec.aux → f.first + (row_at bs f.source).rec.aux ≤ s
  pub few : (row_at bs f.source).rec.aux ≤ 15
  pub args : whole (times (row_at bs f.source).rec.aux (a_id then a_opt)) (row_at bs f.source).rec.lit ≡ true

-- and the scopes of an operation's thunks are there
abbrev pub Opens : List ℕ → ℕ → ℕ → Node → Type 0
Opens bs m s (Const l) = Unit {0}
Opens bs m s (Unparsed l) = Unit {0}
Opens bs m s (Arg l) = Unit {0}
Opens bs m s (Lambda f) = Lambdas bs m s f
Opens bs m s (Op o) = Under m (branches_of o.branches)

-- only an argument can have been made for a use
abbrev pub NoUse : List ℕ → Node → Type 0
NoUse bs (Const l) = (rec_of bs (Const l)).shape ≡ ValUse → ⊥
NoUse bs (Unparsed l) = (rec_of bs (Unparsed l)).shape ≡ ValUse → ⊥
NoUse bs (Arg l) = Unit {0}
NoUse bs (Lambda f) = (rec_of bs (Lambda f)).shape ≡ ValUse → ⊥
NoUse bs (Op o) = (rec_of bs (Op o)).shape ≡ ValUse → ⊥

-- whether symbol s was made as a lambda's argument
abbrev pub an_arg : List ℕ → List ℕ → ℕ → Bool
an_arg bs ws s = is_arg (model_node bs (symbol_at ws s).node)

-- symbol a is one of lambda f's arguments
abbrev pub ArgOf : List ℕ → Func → ℕ → Type 0
ArgOf bs f a = (f.first ≤ a) × (a < f.first + (row_at bs f.source).rec.aux)

pub record Buildable (bs ws : List ℕ) (n m : ℕ) : Type 0 where
  pub arena : Arena bs ws n m
  pub lists : Lists (graph_of bs ws n m []) ws n
  pub sourced : AllSourced bs ws n
  pub opens : (s : ℕ) → s < n → Opens bs m s (symbol_at ws s).node
  pub no_use : (s : ℕ) → s < n → NoUse bs (symbol_at ws s).node
  -- a lambda's arguments are argument symbols, and those of no other lambda
  pub args_are : (s a : ℕ) (f : Func) → s < n → (symbol_at ws s).node ≡ Lambda f → ArgOf bs f a → an_arg bs ws a ≡ true
  pub apart : (s t a : ℕ) (f g : Func) → s < n → t < s → (symbol_at ws s).node ≡ Lambda f
      → (symbol_at ws t).node ≡ Lambda g → ArgOf bs f a → ArgOf bs g a → ⊥

-- that is one fact, however it is proved

OpSourced-prop : (bs : List ℕ) (i : ℕ) (field : Option ℕ) (count : ℕ) → IsProp (OpSourced bs i field count)
OpSourced-prop bs i None count = Prim.hlevel props
OpSourced-prop bs i (Some field) count = Prim.hlevel props

Sourced-prop : (bs : List ℕ) (nd : Node) (count : ℕ) → IsProp (Sourced bs nd count)
Sourced-prop bs (Const l) count = Prim.hlevel props
Sourced-prop bs (Unparsed l) count = Prim.hlevel props
Sourced-prop bs (Arg l) count = Prim.hlevel props
Sourced-prop bs (Lambda f) count = Prim.hlevel props
Sourced-prop bs (Op o) count = OpSourced-prop bs o.source o.field count

Opens-prop : (bs : List ℕ) (m s : ℕ) (nd : Node) → IsProp (Opens bs m s nd)
Opens-prop bs m s (Const l) = Prim.hlevel props
Opens-prop bs m s (Unparsed l) = Prim.hlevel props
Opens-prop bs m s (Arg l) = Prim.hlevel props
Opens-prop bs m s (Lambda f) = Prim.hlevel props
Opens-prop bs m s (Op o) = Prim.hlevel props

NoUse-prop : (bs : List ℕ) (nd : Node) → IsProp (NoUse bs nd)
NoUse-prop bs (Const l) = Prim.hlevel props
NoUse-prop bs (Unparsed l) = Prim.hlevel props
NoUse-prop bs (Arg l) = Prim.hlevel props
NoUse-prop bs (Lambda f) = Prim.hlevel props
NoUse-prop bs (Op o) = Prim.hlevel props

pub Buildable-prop : (bs ws : List ℕ) (n m : ℕ) → IsProp (Buildable bs ws n m)
Buildable-prop bs ws n m = Prim.hlevel (props, Sourced-prop, Opens-prop, NoUse-prop)

-- ---- the ids of symbols

-- the id that a word holds
abbrev pub id_in : ℕ → Option ℕ
id_in zero = None
id_in (suc i) = Some (suc i)

-- the words have the ids of env, 0 for none
pub record Maps (ids : List ℕ) (env : Env) : Type 0 where
  pub is : (s : ℕ) → s < 512 → id_given env s ≡ id_in (get_or ids s 0)

-- the ids after `last` taken back from symbols of an order
unfoldable pub taken_back : List ℕ → List ℕ → ℕ → List ℕ
taken_back ids [] last = ids
taken_back ids (s ∷ order) last =
    taken_back (elim (ltb last (get_or ids s 0)) [ true ↦ set ids s 0 | false ↦ ids ]) order last

-- ---- operations

abbrev pub row_by : ℕ → Option ℕ → Planned
row_by source None = Copy source
row_by source (Some field) = Field field

abbrev pub row_of : Operation → Planned
row_of o = row_by o.source o.field

-- the scopes that are left at operand j: each thunk before it has taken one
unfoldable pub left_at : ℕ → List ℕ → ℕ → List ℕ
left_at op brs zero = brs
left_at op brs (suc j) = elim (thunked op j) [ true ↦ drop 1 (left_at op brs j) | false ↦ left_at op brs j ]

abbrev pub first_scope : List ℕ → Option ℕ
first_scope [] = None
first_scope (b ∷ brs) = Some b

-- the scope of operand j, if it is a thunk
unfoldable pub opened_at : ℕ → List ℕ → ℕ → Option ℕ
opened_at op brs j = elim (thunked op j) [ true ↦ first_scope (left_at op brs j) | false ↦ None ]

-- an operand's tree, in scope sc if it is no thunk
abbrev pub operand_tree : Option ℕ → model.Graph → ℕ → ℕ → Env → ℕ → Tree
operand_tree None gr k sc env last = build_value gr k sc env last
operand_tree (Some b) gr k sc env last = process_scope gr (build_value gr) k b env last

-- and with labels
abbrev pub l_operand_tree : Option ℕ → model.Graph → ℕ → ℕ → Env → ℕ → LTree
l_operand_tree None gr k sc env last = l_build_value gr k sc env last
l_operand_tree (Some b) gr k sc env last = l_process_scope gr (l_build_value gr) k b env last
