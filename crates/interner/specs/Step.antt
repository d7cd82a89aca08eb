-- What the functions ask and answer. In order: answers; a new symbol; the symbol of a key; a lambda's arguments;
-- projections.
-- Assumes nothing.
use Rattle.std.specs.Prelude.{ℕ, suc, ◌+◌, ◌<◌, ◌≤◌, ◌≡◌, Bool, true, false, not, ◌&&◌, List, [], ◌∷◌, eqb, length, get_or}
use Rattle.std.specs.Prelude.{Some, Result, Ok, Err, IfOk}
use Rattle.regions.specs.Regions.{SYMBOLS, SLOTS, SCOPES, PENDING, end}
use Rattle.model.specs.Answer.{Answer, refused, good}
use Rattle.model.specs.Forest.{record_count}
use Rattle.model.specs.Intern.{Out, Outs, union_deps, push, alloc, finish, alloc_args, sym_at, operation}
use Rattle.model.specs.Intern as intern
use Rattle.model.specs.Tree.{Rec, rec}
use Rattle.laws.specs.Members.{Every}
use Rattle.refusal.specs.declared.Check.TheVariants.{Symbols}
use Rattle.refusal.specs.declared.Refusal.{Refusal}
use Rattle.refusal.specs.Refusal.{number_of}
use Rattle.record.specs.Record.{row_at}
use Rattle.laws.specs.Frame.{Agree, Frame}
use Rattle.key.specs.declared.Node.{Node}
use Rattle.key.specs.declared.Node.TheVariants.{Const, Unparsed, Arg, Lambda, Op}
use Rattle.key.specs.Key.{FieldFits, node_field, parts_of, symbol_at}
use Rattle.symbols.specs.Words.{pending_from}
use Rattle.laws.specs.Range.{range}
use Rattle.symbols.specs.Symbols.{syms_of, rec_of, model_node, own_of, deps_of}
use Rattle.tables.specs.declared.Tables.{Tables}
use Rattle.tables.specs.Tables.{hint, hint_of, Open}
use Rattle.scopes.specs.Levels.{has}
use Rattle.scopes.specs.Scopes.{scopes_of, scope_word, parent_of, level_of, args_in, outward, Tracks}
use Rattle.interner.specs.declared.State.{State}
use Rattle.interner.specs.declared.Step.{Step}
use Rattle.interner.specs.Levels.{any_has, AtLevel, InForce}
use Rattle.symbols.specs.Sourced.{Sourced}
use Rattle.interner.specs.State.{abs_of, Rep}

-- ---- answers

-- a refusal as the definition has it
abbrev pub refusal_of : {A : Type 0} → Refusal → Answer A
refusal_of e = refused (number_of e.check) e.place

-- what a value gives, or the refusal
abbrev pub outcome_of : {A B : Type 0} → (A → B) → Result A Refusal → Answer B
outcome_of f (Ok s) = good (f s)
outcome_of f (Err e) = refusal_of e

-- the symbol and the state after it, or a refusal
unfoldable pub out_of : List ℕ → List ℕ → Tables → Step → Out
out_of bs ws t r = outcome_of (λ s. (s, abs_of bs ws t r.st)) r.symbol

-- a symbol, and the state after it
abbrev pub given : State → ℕ → Step
given st s = record { st = st; symbol = Ok s }

-- the state after a step, and its symbol or refusal
abbrev pub step_of : State → Result ℕ Refusal → Step
step_of st r = record { st = st; symbol = r }

-- there is no room for the symbol of a node
abbrev pub no_room : Node → Refusal
no_room node = record { check = Symbols; place = (parts_of node).source }

abbrev pub over_full : State → Node → Step
over_full st node = record { st = st; symbol = Err (no_room node) }

-- one symbol more, with `count` child slots
abbrev pub with_symbol : State → ℕ → State
with_symbol st count = record st { symbols = st.symbols + 1; slots = st.slots + count }

-- one entry more
abbrev pub entered : State → State
entered st = record st { entries = st.entries + 1 }

-- the state after a step to a symbol, or a refusal, for a node over `count` children: only a new symbol changes it
abbrev pub state_after : State → ℕ → Result ℕ Refusal → State
state_after st count (Ok s) = elim (eqb s st.symbols) [ true ↦ entered (with_symbol st count) | false ↦ st ]
state_after st count (Err e) = st

-- what a step from words ws and state st to words ws' leaves: pending symbols and bindings, and all words after them;
-- scopes and readings; entries are only added
pub record Leaves (ws ws' : List ℕ) (st st' : State) : Type 0 where
  pub frame : Frame SYMBOLS.first PENDING.first ws ws'
  pub scope_words : Agree ws ws' SCOPES.first (end SCOPES)
  pub scopes : st'.scopes ≡ st.scopes
  pub entries : st.entries ≤ st'.entries
  pub readings : st'.readings ≡ st.readings
  pub more : st.symbols ≤ st'.symbols

-- ---- a new symbol

-- there is room for a node over the pending children from `held` on, which are symbols
pub record Fresh (bs ws : List ℕ) (st : State) (cur : ℕ) (node : Node) (held count : ℕ) : Type 0 where
  pub from : (parts_of node).source < record_count bs
  pub field : FieldFits (node_field node)
  pub first : (parts_of node).first < 4096
  pub second : (parts_of node).second < 4096
  pub current : cur < st.scopes
  pub slots : st.slots + count ≤ SLOTS.size
  pub pending : held + count ≤ PENDING.size
  pub lower : (k : ℕ) → k < count → get_or ws (PENDING.first + held + k) 0 < st.symbols
  pub sourced : Sourced bs node count

-- what a new symbol depends on
abbrev pub new_deps : List ℕ → List ℕ → State → Node → ℕ → ℕ → List ℕ
new_deps bs ws st node held count =
    deps_of bs (syms_of bs ws st.symbols) st.symbols node (pending_from ws held count)

-- the words have the first n symbols of others, and the levels of symbol n are these
pub record Stored (ws ws' : List ℕ) (n levels : ℕ) : Type 0 where
  pub others : (i : ℕ) → i < n → symbol_at ws' i ≡ symbol_at ws i
  pub own : (symbol_at ws' n).levels ≡ levels

-- the levels are those of deps, once the symbol is stored; seen from scope `cur` they track them
pub record Levels (ws : List ℕ) (st : State) (cur : ℕ) (deps : List ℕ) (levels : ℕ) : Type 0 where
  pub low : Every (λ a. a < suc st.symbols) deps
  pub are : (ws' : List ℕ) → Stored ws ws' st.symbols levels → (j : ℕ) → has levels j ≡ any_has ws' j deps
  pub tracks : Tracks (scopes_of ws st.scopes) levels deps (outward (scopes_of ws st.scopes) cur)

pub record Pushed (bs ws : List ℕ) (st : State) (cur : ℕ) (node : Node) (held count levels : ℕ) (ws' : List ℕ)
    (r : State) : Type 0 where
  pub rep : Rep bs ws' r
  pub leaves : Leaves ws ws' st r
  pub state : r ≡ with_symbol st count
  pub stored : Stored ws ws' st.symbols levels
  pub hinted : hint_of bs ws' st.symbols ≡ hint (rec_of bs node).opcode (pending_from ws held count)
  pub is : (t : Tables) → Open t st.entries → abs_of bs ws' t r
      ≡ push cur (rec_of bs node) (pending_from ws held count) (new_deps bs ws st node held count) false (model_node bs node)
      (abs_of bs ws t st)

-- the definition's new symbol, in a table where it is shared
abbrev pub alloc_of : List ℕ → List ℕ → Tables → State → ℕ → Node → ℕ → ℕ → Bool → Out
alloc_of bs ws t st cur node held count shared =
    alloc (parts_of node).source cur (rec_of bs node) (pending_from ws held count) (new_deps bs ws st node held count)
    shared (model_node bs node) (abs_of bs ws t st)

-- the answer r is that of the definition, over the tables t
pub record Answers (bs ws : List ℕ) (t : Tables) (st : State) (o : Out) (ws' : List ℕ) (r : Step) : Type 0 where
  pub rep : Rep bs ws' r.st
  pub leaves : Leaves ws ws' st r.st
  pub low : IfOk r.symbol (λ s. s < r.st.symbols)
  pub is : out_of bs ws' t r ≡ o

-- ---- the symbol of a key

-- the scope in which a node's children are read
abbrev pub scope_for : Node → ℕ → ℕ
scope_for (Const l) cur = cur
scope_for (Unparsed l) cur = cur
scope_for (Arg l) cur = cur
scope_for (Lambda f) cur = f.body
scope_for (Op o) cur = cur

-- scope b is the body of a lambda with arguments `own` inside `cur`
pub record BodyOf (ws : List ℕ) (m cur b : ℕ) (own : List ℕ) : Type 0 where
  pub inside : 0 < b
  pub low : b < m
  pub parent : parent_of (scope_word ws b) ≡ cur
  pub args : args_in (scope_word ws b) ≡ Some own

-- a lambda's body is a scope in `cur`; an argument has no key
abbrev pub Keyed : List ℕ → List ℕ → ℕ → ℕ → Node → Type 0
Keyed bs ws m cur (Const l) = Unit {0}
Keyed bs ws m cur (Unparsed l) = Unit {0}
Keyed bs ws m cur (Arg l) = ⊥
Keyed bs ws m cur (Lambda f) = BodyOf ws m cur f.body (own_of bs (Lambda f))
Keyed bs ws m cur (Op o) = Unit {0}

-- the children depend on arguments in force only
pub record Ready (bs ws : List ℕ) (st : State) (cur : ℕ) (node : Node) (held count : ℕ) : Type 0 where
  pub fresh : Fresh bs ws st cur node held count
  pub keyed : Keyed bs ws st.scopes cur node
  pub forced : InForce (scopes_of ws st.scopes) (scope_for node cur)
      (union_deps (syms_of bs ws st.symbols) (pending_from ws held count))

-- level j is among those of the children, and not that of a lambda's own body
abbrev pub key_levels : List ℕ → Node → ℕ → ℕ → ℕ → Bool
key_levels ws (Lambda f) held count j =
    not (eqb j (level_of (scope_word ws f.body))) && any_has ws j (pending_from ws held count)
key_levels ws _ held count j = any_has ws j (pending_from ws held count)

-- the definition's symbol of a key
abbrev pub finish_of : List ℕ → List ℕ → Tables → State → ℕ → Node → ℕ → ℕ → Out
finish_of bs ws t st cur node held count =
    finish (parts_of node).source cur (rec_of bs node) (pending_from ws held count) (own_of bs node) (model_node bs node)
    (abs_of bs ws t st)

-- ---- a lambda's arguments

-- `count` symbols from the answer's on, and the state after them; or a refusal
unfoldable pub outs_of : List ℕ → List ℕ → Tables → ℕ → Step → Outs
outs_of bs ws t count r = outcome_of (λ s. (range s count, [], abs_of bs ws t r.st)) r.symbol

-- arguments of a lambda in `cur` can be made for record `at`
pub record Binds (bs ws : List ℕ) (st : State) (cur at count : ℕ) : Type 0 where
  pub from : at < record_count bs
  pub current : cur < st.scopes
  pub level : level_of (scope_word ws cur) < 63
  pub few : count ≤ 255

-- the answer r is that of the definition, for as many arguments; they are at the level of the body to come
pub record Bindings (bs ws : List ℕ) (st : State) (cur at count : ℕ) (ws' : List ℕ) (r : Step) : Type 0 where
  pub rep : Rep bs ws' r.st
  pub leaves : Leaves ws ws' st r.st
  pub is : (t : Tables) → Open t st.entries → (xs : List (ℕ × List ℕ)) → length xs ≡ count →
      outs_of bs ws' t count r ≡ alloc_args at cur (row_at bs at).rec xs (abs_of bs ws t st)
  pub first : IfOk r.symbol (λ s. (s ≡ st.symbols) × (r.st.symbols ≡ st.symbols + count))
  pub args : IfOk r.symbol (λ s.
      Every (AtLevel ws' r.st.symbols (level_of (scope_word ws cur) + 1)) (range s count))

-- ---- projections

-- n projections of the pending symbol at `held` can be made for record `at`, a SelectField
pub record Projects (bs ws : List ℕ) (st : State) (cur at held n : ℕ) : Type 0 where
  pub from : at < record_count bs
  pub shape : (row_at bs at).rec.shape ≡ 17
  pub opcode : (row_at bs at).rec.opcode ≡ 0x8C
  pub current : cur < st.scopes
  pub slots : st.slots + n ≤ SLOTS.size
  pub pending : held + 1 ≤ PENDING.size
  pub low : get_or ws (PENDING.first + held) 0 < st.symbols
  pub forced : InForce (scopes_of ws st.scopes) cur
      (sym_at (syms_of bs ws st.symbols) (get_or ws (PENDING.first + held) 0)).deps

-- field i of symbol p
abbrev pub field_rec : Rec → ℕ → Rec
field_rec r i = rec r.shape r.opcode 0 (i ∷ [])

abbrev pub field_of : ℕ → ℕ → Rec → ℕ → ℕ → intern.State → Out
field_of at cur r i p s = finish at cur (field_rec r i) (p ∷ []) [] (operation []) s

-- one pair more is remembered
abbrev pub with_pair : State → State
with_pair st = record st { memo = st.memo + 1 }
