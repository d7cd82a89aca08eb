-- "From forest to symbols" (key.rs, interner.rs, intern.rs), with refusals 11 and 12.
-- In order: symbols, scopes and the state; keys; placement; new symbols; bindings; scopes and thunks; projections;
-- records.
-- Assumes nothing.
use Rattle.std.specs.Prelude.{ℕ, suc, ◌+◌, Bool, true, false, ◌&&◌, ◌||◌, List, [], ◌∷◌, ◌++◌, eqb, ltb, length, get_or, Option, None, Some}
use Rattle.model.specs.Lists.{any_in, union, without, same, last}
use Rattle.model.specs.Answer.{Answer, good, ◌>>=◌, guard}
use Rattle.model.specs.Tree.{Rec, rec, same_rec, Tree, Trees, node, nil, cons, top, size}
use Rattle.model.specs.Opcodes.{Const, Unparsed, Tuple, IfOp, AndOp, OrOp}
use Rattle.model.specs.Binding.{Kind, kind, val_use, val_def, block, lambda, field, other, is_def, id_of, args_of}

-- ---- symbols, scopes and the state

-- what a symbol is rebuilt from. A lambda keeps its arguments' symbols and opts, and its body's scope; an operation
-- the scopes of its thunks, in order
pub data Node : Type 0 where
  constant unparsed argument : Node
  func : List (ℕ × List ℕ) → ℕ → Node
  operation : List ℕ → Node

-- a symbol: its record and its children's symbols, which are its key; the argument symbols that it depends on; its
-- scope; its node
pub record Sym : Type 0 where
  pub rec : Rec
  pub kids : List ℕ
  pub deps : List ℕ
  pub scope : ℕ
  pub node : Node

-- a scope: the scopes around it, the nearest first, and a lambda's argument symbols (none for a thunk or the
-- outermost scope)
pub record Scope : Type 0 where
  pub around : List ℕ
  pub args : Option (List ℕ)

-- symbols and scopes by number; the open tables, the newest first; the projections remembered; the readings so far
pub record State : Type 0 where
  pub syms : List Sym
  pub tables : List (List ℕ)
  pub scopes : List Scope
  pub memo : List (ℕ × ℕ × ℕ)
  pub readings : ℕ

abbrev pub no_sym : Sym
no_sym = record { rec = rec 0 0 0 []; kids = []; deps = []; scope = 0; node = argument }

abbrev pub sym_at : List Sym → ℕ → Sym
sym_at ss i = get_or ss i no_sym

abbrev pub root_scope : Scope
root_scope = record { around = []; args = None }

abbrev pub scope_at : List Scope → ℕ → Scope
scope_at scs i = get_or scs i root_scope

-- one table and the outermost scope are open
unfoldable pub start : State
start = record { syms = []; tables = [] ∷ []; scopes = root_scope ∷ []; memo = []; readings = 0 }

-- a symbol and the state after it
abbrev pub Out : Type 0
Out = Answer (ℕ × State)

-- the symbols of some children, the scopes of the thunks among them, and the state after them
abbrev pub Outs : Type 0
Outs = Answer (List ℕ × List ℕ × State)

-- ---- keys: "the same shape, opcode, aux, literal and child symbols"

unfoldable pub is_key : List Sym → Rec → List ℕ → ℕ → Bool
is_key ss r ks i = same_rec (sym_at ss i).rec r && same (sym_at ss i).kids ks

unfoldable pub lookup_in : List Sym → Rec → List ℕ → List ℕ → Option ℕ
lookup_in ss r ks [] = None
lookup_in ss r ks (i ∷ is) = elim (is_key ss r ks i) [ true ↦ Some i | false ↦ lookup_in ss r ks is ]

-- "The key is sought in the newest open table first"
unfoldable pub lookup : List Sym → Rec → List ℕ → List (List ℕ) → Option ℕ
lookup ss r ks [] = None
lookup ss r ks (t ∷ ts) = elim (lookup_in ss r ks t) [ Some i ↦ Some i | None ↦ lookup ss r ks ts ]

-- ---- placement: "moving out of each lambda none of whose arguments it depends on, never out of a thunk"

-- the scopes from the current one outwards
unfoldable pub climb : List Scope → List ℕ → List ℕ → ℕ
climb scs deps [] = 0
climb scs deps (s ∷ out) =
    elim (scope_at scs s).args [ None ↦ s | Some xs ↦ elim (any_in xs deps) [ true ↦ s | false ↦ climb scs deps out ] ]

unfoldable pub placement : State → ℕ → List ℕ → ℕ
placement st cur deps = climb st.scopes deps (cur ∷ (scope_at st.scopes cur).around)

unfoldable pub union_deps : List Sym → List ℕ → List ℕ
union_deps ss [] = []
union_deps ss (k ∷ ks) = union (sym_at ss k).deps (union_deps ss ks)

-- ---- new symbols

-- the newest table with one more symbol
abbrev pub enter : ℕ → List (List ℕ) → List (List ℕ)
enter n [] = []
enter n (t ∷ ts) = (n ∷ t) ∷ ts

-- one more symbol; where it is shared, in the newest table too
unfoldable pub push : ℕ → Rec → List ℕ → List ℕ → Bool → Node → State → State
push cur r ks deps shared nd st = record {
  syms = st.syms ++ (record { rec = r; kids = ks; deps = deps; scope = placement st cur deps; node = nd } ∷ []);
  tables = elim shared [ true ↦ enter (length st.syms) st.tables | false ↦ st.tables ];
  scopes = st.scopes;
  memo = st.memo;
  readings = st.readings;
}

-- a new symbol in scope `cur`, for record `at`. 12: over 512 symbols
unfoldable pub alloc : ℕ → ℕ → Rec → List ℕ → List ℕ → Bool → Node → State → Out
alloc at cur r ks deps shared nd st =
    let o : Out = good (length st.syms, push cur r ks deps shared nd st) in
    guard (ltb (length st.syms) 512) 12 at o

-- the symbol of a key: the one that is there, or a new one; `own` are the arguments that the record binds
unfoldable pub finish : ℕ → ℕ → Rec → List ℕ → List ℕ → Node → State → Out
finish at cur r ks own nd st =
    elim (lookup st.syms r ks st.tables) [
      | Some i ↦ good (i, st)
      | None ↦ alloc at cur r ks (without (union_deps st.syms ks) own) true nd st
    ]

-- "each argument is a fresh, unshared symbol, made before that scope opens"
unfoldable pub alloc_args : ℕ → ℕ → Rec → List (ℕ × List ℕ) → State → Outs
alloc_args at cur r [] st = good ([], [], st)
alloc_args at cur r (a ∷ xs) st = do
  o ← alloc at cur r [] (length st.syms ∷ []) false argument st
  os ← alloc_args at cur r xs o.1
  good (o.0 ∷ os.0, [], os.2)

-- a lambda's argument symbols with their opts
abbrev pub with_opts : List (ℕ × List ℕ) → List ℕ → List (ℕ × List ℕ)
with_opts [] ss = []
with_opts (a ∷ xs) [] = []
with_opts (a ∷ xs) (s ∷ ss) = (s, a.1) ∷ with_opts xs ss

-- ---- bindings: an id and its symbol, the newest first

abbrev pub Env : Type 0
Env = List (ℕ × ℕ)

-- the symbol of an id; one not in force is never met in an accepted forest
unfoldable pub resolve : Env → ℕ → ℕ
resolve [] i = 0
resolve (b ∷ bs) i = elim (eqb b.0 i) [ true ↦ b.1 | false ↦ resolve bs i ]

abbrev pub bind_args : List (ℕ × List ℕ) → List ℕ → Env → Env
bind_args [] ss env = env
bind_args (a ∷ xs) [] env = env
bind_args (a ∷ xs) (s ∷ ss) env = (a.0, s) ∷ bind_args xs ss env

unfoldable pub bind_def : Tree → ℕ → Env → Env
bind_def t s env = elim (is_def t) [ true ↦ (id_of (top t), s) ∷ env | false ↦ env ]

-- ---- scopes and thunks

-- a scope opens inside the current one
abbrev pub open_scope : ℕ → Option (List ℕ) → List (List ℕ) → State → State
open_scope cur args tables st = record {
  syms = st.syms;
  tables = tables;
  scopes = st.scopes ++ (record { around = cur ∷ (scope_at st.scopes cur).around; args = args } ∷ []);
  memo = st.memo;
  readings = st.readings;
}

-- a thunk is a scope "with its own table, dropped at its end"; a lambda "opens a scope but no table"
abbrev pub open_thunk : ℕ → State → State
open_thunk cur st = open_scope cur None ([] ∷ st.tables) st

abbrev pub drop_first : List (List ℕ) → List (List ℕ)
drop_first [] = []
drop_first (t ∷ ts) = ts

abbrev pub close_thunk : State → State
close_thunk st = record {
  syms = st.syms;
  tables = drop_first st.tables;
  scopes = st.scopes;
  memo = st.memo;
  readings = st.readings;
}

-- "Operands 1 and 2 of IF and operand 1 of ED, EC (from 0) open a thunk"
unfoldable pub thunked : ℕ → ℕ → Bool
thunked op j = (eqb op IfOp && (eqb j 1 || eqb j 2)) || ((eqb op AndOp || eqb op OrOp) && eqb j 1)

-- a child in its own thunk, or in the scope of its parent
unfoldable pub intern_scoped : Bool → ℕ → (ℕ → State → Out) → State → Out
intern_scoped false cur child st = child cur st
intern_scoped true cur child st = do
  o ← child (length st.scopes) (open_thunk cur st)
  good (o.0, close_thunk o.1)

abbrev pub branch : Bool → ℕ → List ℕ → List ℕ
branch true sc brs = sc ∷ brs
branch false sc brs = brs

-- ---- projections

-- "Field 1 or 2 of a symbol that is no Tuple makes or finds both projections, remembered across thunks"

unfoldable pub recall : List (ℕ × ℕ × ℕ) → ℕ → Option (ℕ × ℕ)
recall [] p = None
recall (m ∷ ms) p = elim (eqb m.0 p) [ true ↦ Some (m.1, m.2) | false ↦ recall ms p ]

abbrev pub remember : ℕ → ℕ → ℕ → State → State
remember p a b st = record {
  syms = st.syms;
  tables = st.tables;
  scopes = st.scopes;
  memo = (p, a, b) ∷ st.memo;
  readings = st.readings;
}

abbrev pub pick : ℕ → ℕ × ℕ → ℕ
pick i ab = elim (eqb i 1) [ true ↦ ab.0 | false ↦ ab.1 ]

unfoldable pub new_projections : ℕ → ℕ → Rec → ℕ → ℕ → State → Out
new_projections at cur r i p st = do
  a ← finish at cur (rec r.shape r.opcode 0 (1 ∷ [])) (p ∷ []) [] (operation []) st
  b ← finish at cur (rec r.shape r.opcode 0 (2 ∷ [])) (p ∷ []) [] (operation []) a.1
  good (pick i (a.0, b.0), remember p a.0 b.0 b.1)

-- field i of symbol p
unfoldable pub pair_projection : ℕ → ℕ → Rec → ℕ → ℕ → State → Out
pair_projection at cur r i p st =
    elim (recall st.memo p) [ Some ab ↦ good (pick i ab, st) | None ↦ new_projections at cur r i p st ]

-- ---- records. `kids` reads the record's children, in a scope with ids bound

abbrev pub Kids : Type 0
Kids = ℕ → Env → State → Outs

-- the last symbol. Of a block and a definition: "they give that of the result, the value"
unfoldable pub intern_last : Outs → Out
intern_last m = do
  os ← m
  good (last os.0, os.2)

unfoldable pub node_of : Rec → List ℕ → Node
node_of r brs =
    elim (eqb r.shape Const) [
      | true ↦ constant
      | false ↦ elim (eqb r.shape Unparsed) [ true ↦ unparsed | false ↦ operation brs ]
    ]

-- the key of the record and its children's symbols
unfoldable pub intern_general : ℕ → ℕ → Rec → Outs → Out
intern_general at cur r m = do
  os ← m
  finish at cur r os.0 [] (node_of r os.1) os.2

-- a SelectField whose input has been read once. "Of a Tuple, the input is read a second time"
unfoldable pub intern_field : ℕ → ℕ → Rec → Env → Kids → List ℕ → State → Out
intern_field at cur r env kids ks st =
    let i = get_or r.lit 0 0 in
    elim (eqb i 1 || eqb i 2) [
      | false ↦ finish at cur r ks [] (operation []) st
      | true ↦ elim (eqb (sym_at st.syms (last ks)).rec.shape Tuple) [
        | false ↦ pair_projection at cur r i (last ks) st
        | true ↦ intern_general at cur r (kids cur env st)
      ]
    ]

unfoldable pub intern_func : ℕ → ℕ → Rec → Env → Kids → State → Out
intern_func at cur r env kids st = do
  let xs = args_of r.aux r.lit
  made ← alloc_args at cur r xs st
  let sc = length made.2.scopes
  os ← kids sc (bind_args xs made.0 env) (open_scope cur (Some made.0) made.2.tables made.2)
  finish at cur r os.0 made.0 (func (with_opts xs made.0) sc) os.2

-- a record, by its kind
unfoldable pub intern_kind : Kind → ℕ → ℕ → Rec → Env → Kids → State → Out
intern_kind val_use at cur r env kids st = good (resolve env (id_of r), st)
intern_kind val_def at cur r env kids st = intern_last (kids cur env st)
intern_kind block at cur r env kids st = intern_last (kids cur env st)
intern_kind lambda at cur r env kids st = intern_func at cur r env kids st
intern_kind field at cur r env kids st = do
  os ← kids cur env st
  intern_field at cur r env kids os.0 os.2
intern_kind other at cur r env kids st = intern_general at cur r (kids cur env st)

abbrev pub read : State → State
read st = record {
  syms = st.syms;
  tables = st.tables;
  scopes = st.scopes;
  memo = st.memo;
  readings = suc st.readings;
}

unfoldable mutual
  -- a tree whose root is record `at`, in scope `cur`. "Every record read is one reading, also when read twice".
  -- 11: over 2,048 readings
  pub intern : Tree → ℕ → ℕ → Env → State → Out
  intern (node r ts) at cur env st =
      let kids : Kids = λ c e s. intern_all ts r.opcode 0 (suc at) c e s in
      let o : Out = intern_kind (kind r.shape) at cur r env kids (read st) in
      guard (ltb st.readings 2048) 11 at o

  -- the operands of an opcode from operand j on; a definition is bound in those that follow it
  pub intern_all : Trees → ℕ → ℕ → ℕ → ℕ → Env → State → Outs
  intern_all nil op j at cur env st = good ([], [], st)
  intern_all (cons t ts) op j at cur env st = do
    o ← intern_scoped (thunked op j) cur (λ c s. intern t at c env s) st
    os ← intern_all ts op (suc j) (at + size t) cur (bind_def t o.0 env) o.1
    good (o.0 ∷ os.0, branch (thunked op j) (length st.scopes) os.1, os.2)

-- the trees of a forest, in the outermost scope: opcode 00 has no thunks
unfoldable pub intern_forest : Trees → Outs
intern_forest ts = intern_all ts 0 0 0 0 [] start
