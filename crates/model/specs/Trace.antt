-- "From forest to symbols" with no limits, and a log of what happens: which record is read, for which record a symbol is
-- made. 11 and 12 are said of the log.
-- In order: events; values with their log; interning with a log; conditions 11 and 12.
--
-- A primed name is Intern's definition of that name, line for line: `note` stands where Intern has a `guard`. Whatever
-- makes no event (keys, placement, bindings, scopes) is Intern's own. `theory` proves that with the limits put on the log
-- it is Intern (Demand3/Trace), so one of the two is enough to be read.
-- Assumes nothing.
use Rattle.std.specs.Prelude.{◌≡◌, ℕ, suc, ◌+◌, ◌≤◌, Bool, true, false, ◌||◌, List, [], ◌∷◌, ◌++◌, eqb, length, get_or, None, Some}
use Rattle.model.specs.Lists.{without, last}
use Rattle.model.specs.Tree.{Rec, rec, Tree, Trees, node, nil, cons, size}
use Rattle.model.specs.Forest.{trees_of}
use Rattle.model.specs.Opcodes.{Tuple}
use Rattle.model.specs.Binding.{Kind, kind, val_use, val_def, block, lambda, field, other, id_of, args_of}
use Rattle.model.specs.Intern.{Node, argument, func, operation, State, start, sym_at, lookup, union_deps, push, Env}
use Rattle.model.specs.Intern.{with_opts, resolve, bind_args, bind_def, open_scope, open_thunk, close_thunk, thunked, branch}
use Rattle.model.specs.Intern.{recall, remember, pick, node_of, read}

-- ---- events

-- "Every record read is one reading, also when read twice"; a symbol is made for the record whose symbol it is
pub data Event : Type 0 where
  read_at made_at : ℕ → Event

-- how many of some events are readings, and how many make a symbol
abbrev pub readings : List Event → ℕ
readings [] = 0
readings (read_at p ∷ es) = suc (readings es)
readings (made_at p ∷ es) = readings es

abbrev pub symbols : List Event → ℕ
symbols [] = 0
symbols (read_at p ∷ es) = symbols es
symbols (made_at p ∷ es) = suc (symbols es)

-- ---- values with their log: the events that led to them, in order

pub record Logged (A : Type 0) : Type 0 where
  pub log : List Event
  pub value : A

abbrev pub pure : {A : Type 0} → A → Logged A
pure a = record { log = []; value = a }

-- an event, and what follows it
abbrev pub note : {A : Type 0} → Event → Logged A → Logged A
note e m = record { log = e ∷ m.log; value = m.value }

-- go on with a value: the events that lead on come after
abbrev pub ◌>>=◌ : {A B : Type 0} → Logged A → (A → Logged B) → Logged B
◌>>=◌ m f = record { log = m.log ++ (f m.value).log; value = (f m.value).value }

infixl 10 ◌>>=◌
-- a symbol and the state after it; the symbols of some children, the scopes of the thunks among them, and the state
abbrev pub Out' : Type 0
Out' = Logged (ℕ × State)

abbrev pub Outs' : Type 0
Outs' = Logged (List ℕ × List ℕ × State)

abbrev pub Kids' : Type 0
Kids' = ℕ → Env → State → Outs'

-- ---- interning with a log

unfoldable pub alloc' : ℕ → ℕ → Rec → List ℕ → List ℕ → Bool → Node → State → Out'
alloc' at cur r ks deps shared nd st =
    note (made_at at) (pure (length st.syms, push cur r ks deps shared nd st))

unfoldable pub finish' : ℕ → ℕ → Rec → List ℕ → List ℕ → Node → State → Out'
finish' at cur r ks own nd st =
    elim (lookup st.syms r ks st.tables) [
      | Some i ↦ pure (i, st)
      | None ↦ alloc' at cur r ks (without (union_deps st.syms ks) own) true nd st
    ]

unfoldable pub alloc_args' : ℕ → ℕ → Rec → List (ℕ × List ℕ) → State → Outs'
alloc_args' at cur r [] st = pure ([], [], st)
alloc_args' at cur r (a ∷ xs) st = do
  o ← alloc' at cur r [] (length st.syms ∷ []) false argument st
  os ← alloc_args' at cur r xs o.1
  pure (o.0 ∷ os.0, [], os.2)

unfoldable pub intern_scoped' : Bool → ℕ → (ℕ → State → Out') → State → Out'
intern_scoped' false cur child st = child cur st
intern_scoped' true cur child st = do
  o ← child (length st.scopes) (open_thunk cur st)
  pure (o.0, close_thunk o.1)

unfoldable pub new_projections' : ℕ → ℕ → Rec → ℕ → ℕ → State → Out'
new_projections' at cur r i p st = do
  a ← finish' at cur (rec r.shape r.opcode 0 (1 ∷ [])) (p ∷ []) [] (operation []) st
  b ← finish' at cur (rec r.shape r.opcode 0 (2 ∷ [])) (p ∷ []) [] (operation []) a.1
  pure (pick i (a.0, b.0), remember p a.0 b.0 b.1)

unfoldable pub pair_projection' : ℕ → ℕ → Rec → ℕ → ℕ → State → Out'
pair_projection' at cur r i p st =
    elim (recall st.memo p) [ Some ab ↦ pure (pick i ab, st) | None ↦ new_projections' at cur r i p st ]

unfoldable pub intern_last' : Outs' → Out'
intern_last' m = do
  os ← m
  pure (last os.0, os.2)

unfoldable pub intern_general' : ℕ → ℕ → Rec → Outs' → Out'
intern_general' at cur r m = do
  os ← m
  finish' at cur r os.0 [] (node_of r os.1) os.2

unfoldable pub intern_field' : ℕ → ℕ → Rec → Env → Kids' → List ℕ → State → Out'
intern_field' at cur r env kids ks st =
    let i = get_or r.lit 0 0 in
    elim (eqb i 1 || eqb i 2) [
      | false ↦ finish' at cur r ks [] (operation []) st
      | true ↦ elim (eqb (sym_at st.syms (last ks)).rec.shape Tuple) [
        | false ↦ pair_projection' at cur r i (last ks) st
        | true ↦ intern_general' at cur r (kids cur env st)
      ]
    ]

unfoldable pub intern_func' : ℕ → ℕ → Rec → Env → Kids' → State → Out'
intern_func' at cur r env kids st = do
  let xs = args_of r.aux r.lit
  made ← alloc_args' at cur r xs st
  let sc = length made.2.scopes
  os ← kids sc (bind_args xs made.0 env) (open_scope cur (Some made.0) made.2.tables made.2)
  finish' at cur r os.0 made.0 (func (with_opts xs made.0) sc) os.2

unfoldable pub intern_kind' : Kind → ℕ → ℕ → Rec → Env → Kids' → State → Out'
intern_kind' val_use at cur r env kids st = pure (resolve env (id_of r), st)
intern_kind' val_def at cur r env kids st = intern_last' (kids cur env st)
intern_kind' block at cur r env kids st = intern_last' (kids cur env st)
intern_kind' lambda at cur r env kids st = intern_func' at cur r env kids st
intern_kind' field at cur r env kids st = do
  os ← kids cur env st
  intern_field' at cur r env kids os.0 os.2
intern_kind' other at cur r env kids st = intern_general' at cur r (kids cur env st)

unfoldable mutual
  pub intern' : Tree → ℕ → ℕ → Env → State → Out'
  intern' (node r ts) at cur env st =
      let kids : Kids' = λ c e s. intern_all' ts r.opcode 0 (suc at) c e s in
      note (read_at at) (intern_kind' (kind r.shape) at cur r env kids (read st))

  pub intern_all' : Trees → ℕ → ℕ → ℕ → ℕ → Env → State → Outs'
  intern_all' nil op j at cur env st = pure ([], [], st)
  intern_all' (cons t ts) op j at cur env st = do
    o ← intern_scoped' (thunked op j) cur (λ c s. intern' t at c env s) st
    os ← intern_all' ts op (suc j) (at + size t) cur (bind_def t o.0 env) o.1
    pure (o.0 ∷ os.0, branch (thunked op j) (length st.scopes) os.1, os.2)

unfoldable pub intern_forest' : Trees → Outs'
intern_forest' ts = intern_all' ts 0 0 0 0 [] start

-- the root's symbol with the symbols and scopes of the forest, and all that happens on the way
unfoldable pub traced : List ℕ → Out'
traced forest = intern_last' (intern_forest' (trees_of forest))

-- ---- conditions 11 and 12

-- after the events `before` comes event e
abbrev pub Then : List Event → List Event → Event → Type 0
Then all before e = (after : List Event) × (all ≡ before ++ (e ∷ after))

-- "11, over 2,048 readings": one more than 2,048, of record p, "the record being read"; it is met before a 513th symbol
abbrev pub TooManyReadings : List ℕ → ℕ → Type 0
TooManyReadings forest p =
    (before : List Event) × Then (traced forest).log before (read_at p) × (readings before ≡ 2048) ×
    (symbols before ≤ 512)

-- "12, over 512 symbols": one more than 512, for record p, "the one whose symbol is being made"; it is met before a
-- 2,049th reading
abbrev pub TooManySymbols : List ℕ → ℕ → Type 0
TooManySymbols forest p =
    (before : List Event) × Then (traced forest).log before (made_at p) × (symbols before ≡ 512) ×
    (readings before ≤ 2048)

-- interning ends within both limits, with the root's symbol, the symbols and the scopes
abbrev pub Interned : List ℕ → ℕ × State → Type 0
Interned forest o =
    ((traced forest).value ≡ o) × (readings (traced forest).log ≤ 2048) × (symbols (traced forest).log ≤ 512)
