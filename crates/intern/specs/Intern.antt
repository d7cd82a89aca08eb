-- What reading records by number asks and answers: bs are the forest's bytes, ws the work words.
-- In order: where a record is read; answers; a record; a record whose children are read; a child in a thunk; operands;
-- a lambda's body; a forest.
-- Assumes nothing.
use Rattle.std.specs.Prelude.{ℕ, suc, ◌+◌, ◌-◌, ◌*◌, ◌<◌, ◌≤◌, ◌≡◌, Bool, true, false, List, [], eqb, length, Some}
use Rattle.std.specs.Prelude.{Result, Ok, Err, IsOk, IfOk, MatchResult}
use Rattle.regions.specs.Regions.{PENDING, end}
use Rattle.model.specs.Answer.{good}
use Rattle.model.specs.Tree.{Rec, Tree, Trees, many, take_t, depth, depths}
use Rattle.model.specs.Forest.{record_count}
use Rattle.model.specs.Binding.{field, args_of, is_block}
use Rattle.model.specs.Intern.{Env, Out, Outs, thunked, alloc_args, bind_args, open_scope, open_thunk, read}
use Rattle.model.specs.Intern.{intern_last, intern_general, intern_func, intern_kind, intern_scoped, intern_all}
use Rattle.model.specs.Intern as intern
use Rattle.model.specs.Call.{interned}
use Rattle.laws.specs.Range.{range}
use Rattle.laws.specs.Frame.{Frame}
use Rattle.refusal.specs.declared.Refusal.{Refusal}
use Rattle.record.specs.Record.{row_at}
use Rattle.walk.specs.Walk.{trees_from, rec_at, kid_trees_at, tree_at}
use Rattle.symbols.specs.Words.{pending_from}
use Rattle.scopes.specs.Scopes.{scope_word, level_of}
use Rattle.bindings.specs.Bindings.{env_of}
use Rattle.tables.specs.declared.Tables.{Tables}
use Rattle.tables.specs.Tables.{new_tables, Open}
use Rattle.interner.specs.declared.State.{State}
use Rattle.interner.specs.declared.Step.{Step}
use Rattle.interner.specs.State.{abs_of, Rep}
use Rattle.interner.specs.Step.{refusal_of, outcome_of, out_of, given, step_of, BodyOf, Answers}
use Rattle.key.specs.Key.{branches_of}
use Rattle.concluding.specs.Concluding.{Concludes, Branched}
use Rattle.standing.specs.Standing.{Well, WellAll}
use Rattle.intern.specs.declared.Here.{Here}
use Rattle.intern.specs.Steps.{KidsStep, Entered, kids_done}
use Rattle.intern.specs.declared.Selected.{Selected}
use Rattle.intern.specs.declared.Selected.TheVariants.{Done, Children}
use Rattle.intern.specs.declared.Inside.{Inside}
use Rattle.intern.specs.Words.{INTERNING, Kept}

-- ---- where a record is read

-- a record of depth d may be read at `at`, as number i: the words hold the state; each symbol that is pending and each
-- definition in force has a record before i, a lambda's arguments but one are paid for by its depth, and levels and
-- open tables, which are t, suffice for what is below
pub record Stands (bs ws : List ℕ) (t : Tables) (st : State) (i d : ℕ) (at : Here) : Type 0 where
  pub rep : Rep bs ws st
  pub opened : Open t st.entries
  pub scope : at.scope < st.scopes
  pub held : at.held ≤ i
  pub top : at.top ≤ 14 * (64 - d) + i
  pub level : level_of (scope_word ws at.scope) + d ≤ 64
  pub tables : length t + d ≤ 65

-- record i, with its own depth
abbrev pub StandsAt : List ℕ → List ℕ → Tables → State → ℕ → Here → Type 0
StandsAt bs ws t st i at = Stands bs ws t st i (depth (tree_at bs i)) at

-- ---- answers

-- record i's subtree is read at `at`, and o is the answer
pub record Reads (bs ws : List ℕ) (t : Tables) (st : State) (i : ℕ) (at : Here) (o : Out) (ws' : List ℕ) (r : Step)
    : Type 0 where
  pub rep : Rep bs ws' r.st
  pub opened : Open t r.st.entries
  pub is : out_of bs ws' t r ≡ o
  pub kept : Kept at ws ws' st r.st

-- ---- a record

-- tree t may be read
pub record Legible (t : Tree) (cur : ℕ) (env : Env) (s : intern.State) : Type 0 where
  pub def : Bool
  pub well : Well t def cur env s

-- tree t could be read, and its root is counted
pub record Counted (t : Tree) (cur : ℕ) (env : Env) (s : intern.State) : Type 0 where
  pub before : intern.State
  pub legible : Legible t cur env before
  pub few : before.readings < 2048
  pub is : s ≡ read before

abbrev pub LegibleAt : List ℕ → List ℕ → Tables → State → ℕ → Here → Type 0
LegibleAt bs ws t st i at = Legible (tree_at bs i) at.scope (env_of ws at.top) (abs_of bs ws t st)

abbrev pub CountedAt : List ℕ → List ℕ → Tables → State → ℕ → Here → Type 0
CountedAt bs ws t st i at = Counted (tree_at bs i) at.scope (env_of ws at.top) (abs_of bs ws t st)

-- the definition's reading of record i's children
abbrev pub kids_read : List ℕ → ℕ → intern.Kids
kids_read bs i = λ c e s. intern_all (kid_trees_at bs i) (rec_at bs i).opcode 0 (suc i) c e s

-- the definition's answer for record i once its children are read: a definition and a block give the last symbol
unfoldable pub concluded : ℕ → ℕ → Rec → Outs → Out
concluded at cur r m =
    elim (eqb r.shape 10) [
      | true ↦ intern_last m
      | false ↦ elim (eqb r.shape 11) [ true ↦ intern_last m | false ↦ intern_general at cur r m ]
    ]

-- the children of record i may be read
abbrev pub WellKids : List ℕ → List ℕ → Tables → State → ℕ → Here → Type 0
WellKids bs ws t st i at =
    WellAll (kid_trees_at bs i) (is_block (rec_at bs i)) (rec_at bs i).opcode 0 at.scope (env_of ws at.top)
    (abs_of bs ws t st) 1

-- record i is read, whatever it is; as a lambda
abbrev pub RecordRead : List ℕ → List ℕ → Tables → State → ℕ → Here → List ℕ → Step → Type 0
RecordRead bs ws t st i at ws' r =
    Reads bs ws t st i at (intern.intern (tree_at bs i) i at.scope (env_of ws at.top) (abs_of bs ws t st)) ws' r

abbrev pub LambdaRead : List ℕ → List ℕ → Tables → State → ℕ → Here → List ℕ → Step → Type 0
LambdaRead bs ws t st i at ws' r =
    Reads bs ws t st i at
    (intern_func i at.scope (rec_at bs i) (env_of ws at.top) (kids_read bs i) (abs_of bs ws t st)) ws' r

-- ---- a record whose children are read

-- `count` symbols pending from `held` on, the scopes of their thunks, and the state after them
abbrev pub kids_answer : List ℕ → List ℕ → Tables → ℕ → ℕ → KidsStep → Outs
kids_answer bs ws t held count k = good (pending_from ws held count, branches_of k.branches, abs_of bs ws t k.st)

-- or a refusal
unfoldable pub kids_of : List ℕ → List ℕ → Tables → ℕ → ℕ → KidsStep → Outs
kids_of bs ws t held count k =
    outcome_of (λ _. (pending_from ws held count, branches_of k.branches, abs_of bs ws t k.st)) k.outcome

-- record i can be concluded, and is
abbrev pub Concluding : List ℕ → List ℕ → ℕ → Here → KidsStep → Type 0
Concluding bs ws i at k = Concludes bs ws k.st i at.scope at.scope at.held (row_at bs i).kids

abbrev pub Concluded : List ℕ → List ℕ → Tables → ℕ → Here → KidsStep → List ℕ → Step → Type 0
Concluded bs ws t i at k ws' r =
    Answers bs ws t k.st
    (concluded i at.scope (rec_at bs i) (kids_answer bs ws t at.held (row_at bs i).kids k)) ws' r

-- record i's children are read, or refused, and it can be completed
pub record Completable (bs ws : List ℕ) (t : Tables) (i : ℕ) (at : Here) (k : KidsStep) : Type 0 where
  pub rep : Rep bs ws k.st
  pub opened : Open t k.st.entries
  pub branched : Branched k.branches
  pub concludes : IsOk k.outcome → Concluding bs ws i at k

-- the answer for it
abbrev pub completes : List ℕ → List ℕ → Tables → ℕ → Here → KidsStep → Out
completes bs ws t i at k = concluded i at.scope (rec_at bs i) (kids_of bs ws t at.held (row_at bs i).kids k)

-- record i, of which o is the answer, is still to be completed
pub record Incomplete (bs ws : List ℕ) (t : Tables) (st : State) (i : ℕ) (at : Here) (o : Out) (ws' : List ℕ) (k : KidsStep)
    : Type 0
  where
    pub ready : Completable bs ws' t i at k
    pub is : completes bs ws' t i at k ≡ o
    pub kept : Kept at ws ws' st k.st

-- record i is done, or still to be completed; or it is refused
abbrev pub ReadsOn : List ℕ → List ℕ → Tables → State → ℕ → Here → Out → List ℕ → State → Result Selected Refusal → Type 0
ReadsOn bs ws t st i at o ws' st' (Ok (Done s)) = Reads bs ws t st i at o ws' (given st' s)
ReadsOn bs ws t st i at o ws' st' (Ok (Children b)) = Incomplete bs ws t st i at o ws' (kids_done st' b)
ReadsOn bs ws t st i at o ws' st' (Err e) = Reads bs ws t st i at o ws' (step_of st' (Err e))

-- a SelectField whose input is read
abbrev pub SelectedRead : List ℕ → List ℕ → Tables → State → ℕ → Here → List ℕ → State → Result Selected Refusal → Type 0
SelectedRead bs ws t st i at ws' st' s =
    ReadsOn bs ws t st i at
    (intern_kind field i at.scope (rec_at bs i) (env_of ws at.top) (kids_read bs i) (abs_of bs ws t st)) ws' st' s

-- ---- a child in a thunk

-- record i, which is no definition, may be read in a thunk of its own, opened in scope `at.scope`
pub record InThunk (bs ws : List ℕ) (t : Tables) (st : State) (i : ℕ) (at : Here) : Type 0 where
  pub stands : Stands bs ws t st i (depth (tree_at bs i)) at
  pub room : length t + depth (tree_at bs i) < 65
  pub few : st.scopes ≤ 2048
  pub well : Well (tree_at bs i) false st.scopes (env_of ws at.top) (open_thunk at.scope (abs_of bs ws t st))

abbrev pub ThunkRead : List ℕ → List ℕ → Tables → State → ℕ → Here → List ℕ → Step → Type 0
ThunkRead bs ws t st i at ws' r =
    Reads bs ws t st i at
    (intern_scoped true at.scope (λ c s. intern.intern (tree_at bs i) i c (env_of ws at.top) s) (abs_of bs ws t st))
    ws' r

-- ---- operands

-- `count` trees from record i on
abbrev pub trees : List ℕ → ℕ → ℕ → Trees
trees bs i count = take_t count (trees_from bs i)

-- where an opcode has thunks, its operands are no block's children
abbrev pub Plain : ℕ → Bool → Type 0
Plain op block = (j : ℕ) → thunked op j ≡ true → block ≡ false

-- they may be read at `at`, the operands of an opcode
pub record Operands (bs ws : List ℕ) (t : Tables) (st : State) (i count op : ℕ) (at : Here) : Type 0 where
  pub there : count ≤ many (trees_from bs i)
  pub within : i ≤ record_count bs
  pub stands : Stands bs ws t st i (depths (trees bs i count)) at
  pub room : (j : ℕ) → thunked op j ≡ true → length t + depths (trees bs i count) < 65
  pub block : Bool
  pub plain : Plain op block
  pub paid : ℕ
  pub well : WellAll (trees bs i count) block op 0 at.scope (env_of ws at.top) (abs_of bs ws t st) paid

pub record ReadsAll (bs ws : List ℕ) (t : Tables) (st : State) (i count op : ℕ) (at : Here) (ws' : List ℕ) (k : KidsStep)
    : Type 0 where
  pub rep : Rep bs ws' k.st
  pub opened : Open t k.st.entries
  pub is : kids_of bs ws' t at.held count k
      ≡ intern_all (trees bs i count) op 0 i at.scope (env_of ws at.top) (abs_of bs ws t st)
  pub pending : IsOk k.outcome → at.held + count ≤ PENDING.size
  pub branched : Branched k.branches
  pub kept : Kept at ws ws' st k.st

-- ---- a lambda's body

-- the definition's arguments of lambda i
abbrev pub args_made : List ℕ → ℕ → ℕ → intern.State → Outs
args_made bs i cur s = alloc_args i cur (rec_at bs i) (args_of (rec_at bs i).aux (rec_at bs i).lit) s

-- the body of lambda i is opened over arguments from symbol `first` on, which are bound; the state is then s
pub record Body (bs ws : List ℕ) (t : Tables) (st : State) (i : ℕ) (at : Here) (ws' : List ℕ) (s : State) (e : Inside)
    : Type 0 where
  pub made : intern.State
  pub is : args_made bs i at.scope (abs_of bs ws t st) ≡ good (range e.first (rec_at bs i).aux, [], made)
  pub scope : e.at.scope ≡ length made.scopes
  pub abs : abs_of bs ws' t s
      ≡ open_scope at.scope (Some (range e.first (rec_at bs i).aux)) made.tables made
  pub env : env_of ws' e.at.top
      ≡ bind_args (args_of (rec_at bs i).aux (rec_at bs i).lit) (range e.first (rec_at bs i).aux) (env_of ws at.top)
  pub body : BodyOf ws' s.scopes at.scope e.at.scope (range e.first (rec_at bs i).aux)
  pub level : level_of (scope_word ws' e.at.scope) ≡ level_of (scope_word ws at.scope) + 1
  pub held : e.at.held ≡ at.held
  pub more : at.top ≤ e.at.top
  pub most : e.at.top ≤ at.top + 15
  pub low : e.first < 512

pub record Enters (bs ws : List ℕ) (t : Tables) (st : State) (i : ℕ) (at : Here) (ws' : List ℕ) (e : Entered)
    : Type 0 where
  pub rep : Rep bs ws' e.st
  pub opened : Open t e.st.entries
  pub kept : Kept at ws ws' st e.st
  pub opens : MatchResult e.inside (Body bs ws t st i at ws' e.st)
      (λ r. args_made bs i at.scope (abs_of bs ws t st) ≡ refusal_of r)

-- ---- a forest

-- the root's symbol and the state after it, or a refusal and the state in which it was met, which is free but for what
-- holds of it; the words hold that state, and of those that interning may write the rest is free
pub record Interned (bs ws ws' : List ℕ) (r : Step) : Type 0 where
  pub rep : Rep bs ws' r.st
  pub is : out_of bs ws' new_tables r ≡ interned bs
  pub low : IfOk r.symbol (λ s. s < r.st.symbols)
  pub frame : Frame INTERNING.first (end INTERNING) ws ws'
