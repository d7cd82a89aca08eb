-- What holds of every symbol that interning makes, seen from the symbols and scopes at the end: `SymOk`.
-- In order: the parts of a symbol; scopes; a result that may be built in its scope (`PairOk`); plain symbols (`Plain`),
-- lambdas (`Lam`), and all by their node (`NodeOk`, `SymOk`).
-- `fin` and `scs` are the symbols and the scopes at the end of interning. Assumes nothing.
use Rattle.std.specs.Prelude.{◌≡◌, ◌⊎◌, Bool, true, false, List, [], ◌∷◌, ℕ, suc, ◌≤◌, ◌<◌, length, get_or, Option, None, Some}
use Rattle.model.specs.Tree.{Rec}
use Rattle.model.specs.Shape.{fits, agrees}
use Rattle.model.specs.Binding.{Kind, kind, val_use, val_def, block, lambda, field, other}
use Rattle.model.specs.Intern.{Node, constant, unparsed, argument, func, operation, Sym, sym_at, Scope, root_scope, State, thunked}
use Rattle.laws.specs.Members.{In, Once}
use Rattle.laws.specs.ArgLists.{ArgList, syms_in, opts_in, bound_by, AllOpts}

abbrev pub rec_at : List Sym → ℕ → Rec
rec_at ss i = (sym_at ss i).rec

abbrev pub sym_kids : List Sym → ℕ → List ℕ
sym_kids ss i = (sym_at ss i).kids

abbrev pub deps_at : List Sym → ℕ → List ℕ
deps_at ss i = (sym_at ss i).deps

abbrev pub scope_at : List Sym → ℕ → ℕ
scope_at ss i = (sym_at ss i).scope

abbrev pub node_at : List Sym → ℕ → Node
node_at ss i = (sym_at ss i).node

-- how many symbols and scopes there are
abbrev pub sym_count : State → ℕ
sym_count st = length st.syms

abbrev pub scope_count : State → ℕ
scope_count st = length st.scopes

-- the kinds whose record is kept as it is, with a symbol for each child
abbrev pub is_plain : Kind → Bool
is_plain val_use = false
is_plain val_def = false
is_plain block = false
is_plain lambda = false
is_plain field = true
is_plain other = true

-- anything but an argument
abbrev pub no_arg : Node → Bool
no_arg constant = true
no_arg unparsed = true
no_arg argument = false
no_arg (func xs b) = true
no_arg (operation brs) = true

abbrev pub args_in : Option (List ℕ) → List ℕ
args_in None = []
args_in (Some xs) = xs

-- the argument symbols of a scope's lambda
abbrev pub args_at : List Scope → ℕ → List ℕ
args_at scs b = args_in (get_or scs b root_scope).args

-- the scopes around a scope, the nearest first; and the scope with them
abbrev pub around_at : List Scope → ℕ → List ℕ
around_at scs b = (get_or scs b root_scope).around

abbrev pub out : List Scope → ℕ → List ℕ
out scs b = b ∷ around_at scs b

-- a scope's result may be built in it: no lambda up to the result has its body there or around
abbrev pub PairOk : List Sym → List Scope → ℕ → ℕ → Type 0
PairOk fin scs r sc =
    (x : ℕ) → x ≤ r → (xs : ArgList) (b : ℕ) → node_at fin x ≡ func xs b → In b (out scs sc) → ⊥

-- so for each thunk among the operands of an opcode, from operand j on
abbrev pub PairsOk : List Sym → List Scope → ℕ → ℕ → List ℕ → List ℕ → Type 0
PairsOk fin scs op j [] brs = Unit {0}
PairsOk fin scs op j (k ∷ ks) [] = Unit {0}
PairsOk fin scs op j (k ∷ ks) (b ∷ brs) =
    elim (thunked op j) [
      | true ↦ PairOk fin scs k b × PairsOk fin scs op (suc j) ks brs
      | false ↦ PairsOk fin scs op (suc j) ks (b ∷ brs)
    ]

-- a symbol that keeps its record: its deps are those of its children, no more and no less
pub record Plain (fin : List Sym) (i : ℕ) : Type 0 where
  pub kind_is : is_plain (kind (rec_at fin i).shape) ≡ true
  pub fits_is : fits (record { rec = rec_at fin i; kids = length (sym_kids fin i) }) ≡ true
  pub agrees_is : agrees (rec_at fin i) ≡ true
  pub cover : (k a : ℕ) → In k (sym_kids fin i) → In a (deps_at fin k) → In a (deps_at fin i)
  pub from : (a : ℕ) → In a (deps_at fin i) → (k : ℕ) × In k (sym_kids fin i) × In a (deps_at fin k)

-- a lambda with these arguments and its body in scope b: its deps are its body's less its arguments
pub record Lam (fin : List Sym) (scs : List Scope) (i : ℕ) (xs : ArgList) (b : ℕ) : Type 0 where
  pub shape_is : (rec_at fin i).shape ≡ 12
  pub opcode_is : (rec_at fin i).opcode ≡ 0xD9
  pub aux_is : (rec_at fin i).aux ≡ length xs
  pub aux_low : (rec_at fin i).aux ≤ 15
  pub body : ℕ
  pub kids_is : sym_kids fin i ≡ body ∷ []
  pub cover : (a : ℕ) → In a (deps_at fin body) → In a (deps_at fin i) ⊎ In a (syms_in xs)
  pub from : (a : ℕ) → In a (deps_at fin i) → In a (deps_at fin body)
  pub opts_is : opts_in xs ≡ opts_in (bound_by (rec_at fin i))
  pub valid : AllOpts (opts_in xs)
  pub args_low : (a : ℕ) → In a (syms_in xs) → a < i
  pub args_are : (a : ℕ) → In a (syms_in xs) → node_at fin a ≡ argument
  pub once : Once (syms_in xs)
  pub scope_is : args_at scs b ≡ syms_in xs
  -- its arguments are those of no lambda before it
  pub fresh : (x : ℕ) → x < i → (ys : ArgList) (c : ℕ) → node_at fin x ≡ func ys c → (a : ℕ) → In a (syms_in xs) →
      In a (syms_in ys) → ⊥
  pub pair : PairOk fin scs body b

abbrev pub NodeOk : List Sym → List Scope → ℕ → Node → Type 0
NodeOk fin scs i constant = Plain fin i × (sym_kids fin i ≡ [])
NodeOk fin scs i unparsed = Plain fin i × (sym_kids fin i ≡ [])
NodeOk fin scs i argument = (deps_at fin i ≡ i ∷ []) × (sym_kids fin i ≡ [])
NodeOk fin scs i (func xs b) = Lam fin scs i xs b
NodeOk fin scs i (operation brs) = Plain fin i × PairsOk fin scs (rec_at fin i).opcode 0 (sym_kids fin i) brs

pub record SymOk (fin : List Sym) (scs : List Scope) (i : ℕ) : Type 0 where
  pub low : (k : ℕ) → In k (sym_kids fin i) → k < i
  pub deps_low : (a : ℕ) → In a (deps_at fin i) → a ≤ i
  pub node_is : NodeOk fin scs i (node_at fin i)

-- every symbol below n is good
abbrev pub Goods : List Sym → List Scope → ℕ → Type 0
Goods fin scs n = (i : ℕ) → i < n → SymOk fin scs i
