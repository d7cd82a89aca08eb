-- The invariant of interning (`Inv`), at a scope with arguments in force, and how states grow.
-- In order: arguments in force (`Args`); tables, scopes and remembered projections; the invariant; what an environment
-- gives (`EnvOk`); states that grow (`Grow`, `Fits`).
-- A state is judged from the symbols and scopes at the end, of which it has the first (`Fits`). Assumes nothing.
use Rattle.std.specs.Prelude.{◌≡◌, ◌⊎◌, true, List, [], ◌∷◌, ℕ, ◌≤◌, ◌<◌, get_or, Some}
use Rattle.model.specs.Tree.{Rec, rec}
use Rattle.model.specs.Binding.{arg_ids}
use Rattle.model.specs.Intern.{func, Sym, Scope, State, Env, sym_at, root_scope, recall, resolve}
use Rattle.laws.specs.Members.{In}
use Rattle.laws.specs.ArgLists.{ArgList, syms_in}
use Rattle.theory.specs.Good.{rec_at, sym_kids, deps_at, scope_at, node_at, sym_count, scope_count, no_arg, args_at, around_at, out, Goods}

abbrev pub Args : Type 0
Args = List (ℕ × ℕ)

abbrev pub HasArg : ℕ → ℕ → Args → Type 0
HasArg i a [] = ⊥
HasArg i a (p ∷ A) = ((i ≡ p.0) × (a ≡ p.1)) ⊎ HasArg i a A

abbrev pub arg_syms : Args → List ℕ
arg_syms [] = []
arg_syms (p ∷ A) = p.1 ∷ arg_syms A

abbrev pub InAny : ℕ → List (List ℕ) → Type 0
InAny i [] = ⊥
InAny i (t ∷ ts) = In i t ⊎ InAny i ts

-- around a scope is nothing, or a lower scope and what is around that
abbrev pub Chain : List Scope → ℕ → Type 0
Chain scs b = (around_at scs b ≡ []) ⊎ ((p : ℕ) × (p < b) × (around_at scs b ≡ out scs p))

-- a symbol, of n, with this record and these children, and no argument
pub record HasKey (fin : List Sym) (n : ℕ) (r : Rec) (ks : List ℕ) (i : ℕ) : Type 0 where
  pub low : i < n
  pub rec_is : rec_at fin i ≡ r
  pub kids_is : sym_kids fin i ≡ ks
  pub made_is : no_arg (node_at fin i) ≡ true

-- a is field j of p
abbrev pub field_rec : ℕ → Rec
field_rec j = rec 17 0x8C 0 (j ∷ [])

abbrev pub FieldOk : List Sym → ℕ → ℕ → ℕ → ℕ → Type 0
FieldOk fin n p j a = HasKey fin n (field_rec j) (p ∷ []) a

-- of a lambda x that is made, where scope cur and arguments A are in force and there are m scopes: its body is closed,
-- its arguments are not in force, and no argument in force on which its body depends has an id that it binds
pub record LamApart (fin : List Sym) (scs : List Scope) (m : ℕ) (A : Args) (cur x : ℕ) (xs : ArgList) (b : ℕ) :
    Type 0 where
  pub scope_low : b < m
  pub closed : In b (out scs cur) → ⊥
  pub apart : (i a : ℕ) → HasArg i a A → In a (syms_in xs) → ⊥
  pub ids_apart : (i a k : ℕ) → HasArg i a A → In k (sym_kids fin x) → In a (deps_at fin k) →
      In i (arg_ids (rec_at fin x)) → ⊥

pub record Inv (fin : List Sym) (scs : List Scope) (st : State) (A : Args) (cur : ℕ) : Type 0 where
  pub good : Goods fin scs (sym_count st)
  pub cur_low : cur < scope_count st
  pub chain : (b : ℕ) → b < scope_count st → Chain scs b
  -- tables hold symbols, and no arguments
  pub tables_ok : (i : ℕ) → InAny i st.tables → (i < sym_count st) × (no_arg (node_at fin i) ≡ true)
  -- what is remembered are fields 1 and 2
  pub memo_ok : (p a b : ℕ) → recall st.memo p ≡ Some (a, b) →
      FieldOk fin (sym_count st) p 1 a × FieldOk fin (sym_count st) p 2 b
  pub args_low : (b a : ℕ) → b < scope_count st → In a (args_at scs b) → a < sym_count st
  pub arg_low : (i a : ℕ) → HasArg i a A → a < sym_count st
  pub lam_ok : (x : ℕ) → x < sym_count st → (xs : ArgList) (b : ℕ) → node_at fin x ≡ func xs b →
      LamApart fin scs (scope_count st) A cur x xs b
  -- each scope that has an argument in force is cur or around it
  pub arg_scope : (i a b : ℕ) → HasArg i a A → b < scope_count st → In a (args_at scs b) → In b (out scs cur)
  -- each scope that has an argument which a symbol depends on is the symbol's or around it
  pub place_ok : (s a b : ℕ) → s < sym_count st → no_arg (node_at fin s) ≡ true → In a (deps_at fin s) →
      b < scope_count st → In a (args_at scs b) → In b (out scs (scope_at fin s))

abbrev pub keys : Env → List ℕ
keys [] = []
keys (b ∷ env) = b.0 ∷ keys env

-- an environment gives symbols that depend on arguments in force only, and has each argument's id
pub record EnvOk (fin : List Sym) (n : ℕ) (env : Env) (A : Args) : Type 0 where
  pub low : (i : ℕ) → In i (keys env) → resolve env i < n
  pub deps_in : (i a : ℕ) → In i (keys env) → In a (deps_at fin (resolve env i)) → In a (arg_syms A)
  pub ids : (i a : ℕ) → HasArg i a A → In i (keys env)

-- the second state has what the first has, and maybe more
pub record Grow (st st' : State) : Type 0 where
  pub more_syms : sym_count st ≤ sym_count st'
  pub more_scopes : scope_count st ≤ scope_count st'
  pub same_syms : (i : ℕ) → i < sym_count st → sym_at st.syms i ≡ sym_at st'.syms i
  pub same_scopes : (b : ℕ) → b < scope_count st → get_or st.scopes b root_scope ≡ get_or st'.scopes b root_scope

-- a state has the first of the symbols and scopes at the end
pub record Fits (fin : List Sym) (scs : List Scope) (st : State) : Type 0 where
  pub syms_fit : (i : ℕ) → i < sym_count st → sym_at st.syms i ≡ sym_at fin i
  pub scopes_fit : (b : ℕ) → b < scope_count st → get_or st.scopes b root_scope ≡ get_or scs b root_scope
