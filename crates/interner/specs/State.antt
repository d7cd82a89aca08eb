-- The state of interning, by value and in work words, as model has it: what it stands for with a stack t of open tables
-- (`abs_of`), and what holds of it (`Rep`), part by part: a part says what holds of one region of the words.
-- bs are the forest's bytes, ws the words. Assumes nothing.
use Rattle.std.specs.Prelude.{ℕ, ◌≤◌, ◌≡◌, List, [], length, set}
use Rattle.regions.specs.Regions.{SYMBOLS, SLOTS, SCOPES, FREE_ENDS, PENDING, WORDS}
use Rattle.model.specs.Intern as intern
use Rattle.laws.specs.Frame.{Frame}
use Rattle.laws.specs.Slots.{slots_in}
use Rattle.laws.specs.Members.{Once}
use Rattle.symbols.specs.Symbols.{syms_of}
use Rattle.symbols.specs.Sourced.{AllSourced}
use Rattle.tables.specs.declared.Tables.{Tables}
use Rattle.tables.specs.Tables.{tables_of, new_tables, Open, EntriesBelow, Hinted}
use Rattle.scopes.specs.Scopes.{scopes_of}
use Rattle.memo.specs.Memo.{memo_of, keys_in, MemoBelow}
use Rattle.interner.specs.declared.State.{State}
use Rattle.graph.specs.Graph.{Within, Arena, graph_of}
use Rattle.free_lists.specs.FreeLists.{Lists}
use Rattle.interner.specs.Levels.{AllLevelled}

abbrev pub abs_of : List ℕ → List ℕ → Tables → State → intern.State
abs_of bs ws t st = record {
  syms = syms_of bs ws st.symbols;
  tables = tables_of ws t st.entries;
  scopes = scopes_of ws st.scopes;
  memo = memo_of ws st.memo;
  readings = st.readings;
}

-- ---- what holds of it, part by part

-- the child slots in use are those of n symbols
pub record Slotted (bs ws : List ℕ) (used n : ℕ) : Type 0 where
  pub few : used ≤ SLOTS.size
  pub all : slots_in (syms_of bs ws n) ≡ used
  pub within : Within ws used n

-- the tables' entries are symbols below n, with the hints of their keys
pub record Entered (bs ws : List ℕ) (top n : ℕ) : Type 0 where
  pub few : top ≤ n
  pub below : EntriesBelow ws top n
  pub hinted : Hinted bs ws top

-- k pairs of projections are remembered, of symbols below n, of each once
pub record Remembered (ws : List ℕ) (k n : ℕ) : Type 0 where
  pub few : k ≤ n
  pub below : MemoBelow n (memo_of ws k)
  pub once : Once (keys_in (memo_of ws k))

pub record Rep (bs ws : List ℕ) (st : State) : Type 0 where
  pub words : WORDS ≤ length ws
  pub arena : Arena bs ws st.symbols st.scopes
  pub slots : Slotted bs ws st.slots st.symbols
  pub sourced : AllSourced bs ws st.symbols
  pub levels : AllLevelled bs ws st.symbols st.scopes
  pub lists : Lists (graph_of bs ws st.symbols st.scopes []) ws st.symbols
  pub entries : Entered bs ws st.entries st.symbols
  pub memo : Remembered ws st.memo st.symbols
  pub few_readings : st.readings ≤ 2048

-- no record is read, and there is the outermost scope
abbrev pub first_state : State
first_state = record { entries = 0; symbols = 0; slots = 0; scopes = 1; memo = 0; readings = 0 }

-- the state before any record is read, whatever the forest, with one open table; the outermost scope's word is 0, no
-- free list is stored, and all other words are as they were
pub record Started (ws ws' : List ℕ) (st : State) : Type 0 where
  pub state : st ≡ first_state
  pub words : ws' ≡ set (set ws (FREE_ENDS).first 0) SCOPES.first 0
  pub rep : (bs : List ℕ) → Rep bs ws' st
  pub is : (bs : List ℕ) → abs_of bs ws' new_tables st ≡ intern.start
  pub opened : Open new_tables st.entries
  pub frame : Frame SYMBOLS.first PENDING.first ws ws'
