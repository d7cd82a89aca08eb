-- What code relies on at every point of interning: how many symbols, readings, scopes and child slots there are, and
-- that every number stored in a state is lower than what it counts.
-- In order: records whose numbers satisfy B; `Sound`, the invariant of a state; `Room` and `Pays`, what readings pay for.
-- B is a property of numbers, such as being a byte; `Any` asks nothing of them. Assumes nothing.
use Rattle.std.specs.Prelude.{◌≡◌, true, false, List, [], ◌∷◌, ℕ, suc, ◌+◌, ◌≤◌, ◌<◌, length, get_or, Some}
use Rattle.model.specs.Tree.{Rec, Tree, Trees, node, nil, cons}
use Rattle.model.specs.Intern.{Node, constant, unparsed, argument, func, operation, Sym, Scope, State, sym_at, root_scope, recall, thunked}
use Rattle.laws.specs.Slots.{slots_in}
use Rattle.laws.specs.Members.{Every, Under}
use Rattle.laws.specs.ArgLists.{syms_in, opts_in}
use Rattle.theory.specs.Good.{args_in, sym_count, scope_count}
use Rattle.theory.specs.Inv.{InAny}

pub record RecHas (B : ℕ → Type 0) (r : Rec) : Type 0 where
  pub shape_has : B r.shape
  pub opcode_has : B r.opcode
  pub aux_has : B r.aux
  pub lit_has : Every B r.lit

abbrev mutual
  pub TreeHas : (ℕ → Type 0) → Tree → Type 0
  TreeHas B (node r ts) = RecHas B r × TreesHave B ts

  pub TreesHave : (ℕ → Type 0) → Trees → Type 0
  TreesHave B nil = Unit {0}
  TreesHave B (cons t ts) = TreeHas B t × TreesHave B ts

abbrev pub OptsHave : (ℕ → Type 0) → List (List ℕ) → Type 0
OptsHave B [] = Unit {0}
OptsHave B (o ∷ os) = Every B o × OptsHave B os

-- how many of the operands from operand j on are thunks
abbrev pub thunks : ℕ → ℕ → List ℕ → ℕ
thunks op j [] = 0
thunks op j (k ∷ ks) = elim (thunked op j) [ true ↦ suc (thunks op (suc j) ks) | false ↦ thunks op (suc j) ks ]

-- of the node of symbol i with this record and these children, where there are m scopes: an operation is no constant
-- and not
-- unparsed, and has a scope for each thunk
abbrev pub NodeSound : (ℕ → Type 0) → ℕ → ℕ → Rec → List ℕ → Node → Type 0
NodeSound B i m r ks constant = Unit {0}
NodeSound B i m r ks unparsed = Unit {0}
NodeSound B i m r ks argument = Unit {0}
NodeSound B i m r ks (func xs b) = (b < m) × Under i (syms_in xs) × (length xs ≤ 15) × OptsHave B (opts_in xs)
NodeSound B i m r ks (operation brs) = Under m brs × (2 ≤ r.shape) × (length brs ≡ thunks r.opcode 0 ks)

-- of symbol i
pub record SymSound (B : ℕ → Type 0) (i m : ℕ) (y : Sym) : Type 0 where
  pub kids_low : Under i y.kids
  pub deps_low : Under (suc i) y.deps
  pub scope_low : y.scope < m
  pub rec_has : RecHas B y.rec
  pub node_sound : NodeSound B i m y.rec y.kids y.node

abbrev pub scope_of : State → ℕ → Scope
scope_of st b = get_or st.scopes b root_scope

pub record StateSound (B : ℕ → Type 0) (st : State) : Type 0 where
  pub few_symbols : sym_count st ≤ 512
  pub few_readings : st.readings ≤ 2048
  pub syms_sound : (i : ℕ) → i < sym_count st → SymSound B i (scope_count st) (sym_at st.syms i)
  pub tables_open : 1 ≤ length st.tables
  pub tables_low : (i : ℕ) → InAny i st.tables → i < sym_count st
  pub memo_low : (p a b : ℕ) → recall st.memo p ≡ Some (a, b) → (a < sym_count st) × (b < sym_count st)
  pub around_low : (b : ℕ) → b < scope_count st → Under b (scope_of st b).around
  pub args_low : (b : ℕ) → b < scope_count st → Under (sym_count st) (args_in (scope_of st b).args)

-- a child slot is paid for by the child's reading, or by its symbol; a scope by the reading of the child that it holds.
-- k slots and c scopes are paid for that have not been taken
pub record Room (st : State) (k c : ℕ) : Type 0 where
  pub slots_paid : slots_in st.syms + k ≤ st.readings + sym_count st
  pub scopes_paid : scope_count st + c ≤ suc st.readings

-- a scope is paid for wherever a thunk opens
abbrev pub Pays : ℕ → ℕ → Type 0
Pays op c = (j : ℕ) → thunked op j ≡ true → 1 ≤ c

-- without a property of the numbers
abbrev pub Any : ℕ → Type 0
Any n = Unit {0}
