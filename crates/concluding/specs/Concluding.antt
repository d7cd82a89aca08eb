-- What a record gives once its children's symbols are pending: bs are the forest's bytes, ws the work words. In order:
-- thunks and nodes; what a symbol asks; a SelectField; a use.
-- Assumes nothing.
use Rattle.std.specs.Prelude.{ℕ, ◌+◌, ◌*◌, ◌<◌, ◌≤◌, ◌≡◌, Bool, ◌&&◌, ◌||◌, List, None, eqb, length, get_or}
use Rattle.regions.specs.Regions.{SLOTS, PENDING, BINDINGS, WORDS}
use Rattle.model.specs.Forest.{record_count}
use Rattle.model.specs.Intern.{union_deps, sym_at}
use Rattle.record.specs.Record.{row_at}
use Rattle.key.specs.declared.Node.{Node}
use Rattle.key.specs.declared.Node.TheVariants.{Const, Unparsed, Op}
use Rattle.key.specs.Key.{choose, parts_of, symbol_at}
use Rattle.symbols.specs.Words.{pending_from}
use Rattle.symbols.specs.Symbols.{syms_of}
use Rattle.scopes.specs.Scopes.{scopes_of}
use Rattle.interner.specs.declared.State.{State}
use Rattle.interner.specs.Levels.{InForce}
use Rattle.key.specs.declared.Branches.{Branches}
use Rattle.key.specs.declared.Branches.TheVariants.{Zero, One, Two}

-- ---- thunks and nodes

-- the node of record i with these thunks
abbrev pub op_node : ℕ → Branches → Node
op_node i b = Op (record { source = i; field = None; branches = b })

-- the node of record i, by its shape
abbrev pub general_node : ℕ → ℕ → Branches → Node
general_node shape i b =
    choose (eqb shape 0) (Const (record { source = i }))
    (choose (eqb shape 1) (Unparsed (record { source = i })) (op_node i b))

-- ---- what a symbol asks

-- record i, in scope `cur`: its `count` children were read in scope `inner`, their symbols are pending from `held` on
-- and depend on arguments in force there only
pub record Concludes (bs ws : List ℕ) (st : State) (i cur inner held count : ℕ) : Type 0 where
  pub from : i < record_count bs
  pub children : (row_at bs i).kids ≡ count
  pub current : cur < st.scopes
  pub slots : st.slots + count ≤ SLOTS.size
  pub pending : held + count ≤ PENDING.size
  pub lower : (k : ℕ) → k < count → get_or ws (PENDING.first + held + k) 0 < st.symbols
  pub forced : InForce (scopes_of ws st.scopes) inner
      (union_deps (syms_of bs ws st.symbols) (pending_from ws held count))

-- the scopes of thunks fit a symbol's words
abbrev pub Branched : Branches → Type 0
Branched Zero = Unit {0}
Branched (One a) = a < 4096
Branched (Two a b) = (a < 4096) × (b < 4096)

-- ---- a SelectField

-- the field that record i selects
abbrev pub field_at : List ℕ → ℕ → ℕ
field_at bs i = get_or (row_at bs i).rec.lit 0 0

-- "Of a Tuple, the input is read a second time": the input is pending at `held`, one of n symbols
unfoldable pub reads_again : List ℕ → List ℕ → ℕ → ℕ → ℕ → Bool
reads_again bs ws n i held =
    (eqb (field_at bs i) 1 || eqb (field_at bs i) 2) &&
    eqb (sym_at (syms_of bs ws n) (get_or ws (PENDING.first + held) 0)).rec.shape 16

-- the words have symbol s, made for a record of the forest
pub record HasSymbol (bs ws : List ℕ) (s : ℕ) : Type 0 where
  pub few : s < 512
  pub from : (parts_of (symbol_at ws s).node).source < record_count bs
  pub words : WORDS ≤ length ws

-- record i is a SelectField, and its input is pending at `held`
pub record Input (bs ws : List ℕ) (i held : ℕ) : Type 0 where
  pub from : i < record_count bs
  pub shape : (row_at bs i).rec.shape ≡ 17
  pub pending : held + 1 ≤ PENDING.size
  pub stored : HasSymbol bs ws (get_or ws (PENDING.first + held) 0)

-- a SelectField, with room for both projections
pub record Selects (bs ws : List ℕ) (st : State) (i cur held : ℕ) : Type 0 where
  pub concludes : Concludes bs ws st i cur cur held 1
  pub shape : (row_at bs i).rec.shape ≡ 17
  pub opcode : (row_at bs i).rec.opcode ≡ 0x8C
  pub slots : st.slots + 2 ≤ SLOTS.size

-- ---- a use

-- record i uses an id, and there are `top` bindings
pub record Uses (bs ws : List ℕ) (i top : ℕ) : Type 0 where
  pub from : i < record_count bs
  pub shape : (row_at bs i).rec.shape ≡ 7
  pub few : 2 * top ≤ BINDINGS.size
  pub words : WORDS ≤ length ws
