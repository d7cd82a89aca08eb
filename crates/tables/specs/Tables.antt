-- The open tables that work words hold, as model has them: the newest table first, in a table the newest entry first.
-- In order: an entry; entries and tables; the first table, and one more; what holds of them; keys.
-- Assumes nothing.
use Rattle.std.specs.Prelude.{ℕ, zero, suc, ◌+◌, ◌*◌, ◌-◌, ◌/◌, ◌%◌, ◌<◌, ◌≤◌, ◌≡◌, Bool, ◌&&◌, List, [], ◌∷◌, ◌++◌, length, get_or}
use Rattle.model.specs.Lists.{same}
use Rattle.model.specs.Tree.{same_rec}
use Rattle.laws.specs.Stack.{stack_of}
use Rattle.regions.specs.Regions.{SLOTS, ENTRIES}
use Rattle.key.specs.Key.{symbol_at}
use Rattle.symbols.specs.Words.{pending_from}
use Rattle.symbols.specs.Symbols.{key_rec, rec_of, kids_at, Sound}
use Rattle.tables.specs.declared.Tables.{Tables}

-- ---- an entry: a symbol, and above it the hint of its key

abbrev pub entry_symbol : List ℕ → ℕ → ℕ
entry_symbol ws k = get_or ws (ENTRIES.first + k) 0 % 512

abbrev pub entry_hint : List ℕ → ℕ → ℕ
entry_hint ws k = get_or ws (ENTRIES.first + k) 0 / 512

-- what equal keys have in common: the opcode and the first child
unfoldable pub hint : ℕ → List ℕ → ℕ
hint opcode [] = opcode
hint opcode (k ∷ ks) = opcode + 256 * k

-- the hint of symbol s
abbrev pub hint_of : List ℕ → List ℕ → ℕ → ℕ
hint_of bs ws s = hint (rec_of bs (symbol_at ws s).node).opcode (kids_at ws s)

-- ---- entries and tables

-- n entries from entry `start` on, the last first
unfoldable pub entries : List ℕ → ℕ → ℕ → List ℕ
entries ws start n = stack_of (λ j. entry_symbol ws (start + j)) n

-- the d oldest tables, of which the newest ends at entry `end`
unfoldable pub tables : List ℕ → List ℕ → ℕ → ℕ → List (List ℕ)
tables ws base zero end = []
tables ws base (suc d) end = entries ws (get_or base d 0) (end - get_or base d 0) ∷ tables ws base d (get_or base d 0)

-- the open tables, where there are `top` entries
abbrev pub tables_of : List ℕ → Tables → ℕ → List (List ℕ)
tables_of ws t top = tables ws t (length t) top

-- ---- the first table, and one more

abbrev pub new_tables : Tables
new_tables = 0 ∷ []

abbrev pub opened : Tables → ℕ → Tables
opened t top = t ++ top ∷ []

-- ---- what holds of them

-- one table or more, at most 64, each of which starts where an older one does or later, and at or before entry `top`
pub record Open (t : Tables) (top : ℕ) : Type 0 where
  pub some : 0 < length t
  pub few : length t ≤ 64
  pub sorted : (d e : ℕ) → d ≤ e → e < length t → get_or t d 0 ≤ get_or t e 0
  pub starts : (d : ℕ) → d < length t → get_or t d 0 ≤ top

-- the entries are symbols below n
abbrev pub EntriesBelow : List ℕ → ℕ → ℕ → Type 0
EntriesBelow ws top n = (k : ℕ) → k < top → entry_symbol ws k < n

-- the entries' hints are those of their symbols
abbrev pub Hinted : List ℕ → List ℕ → ℕ → Type 0
Hinted bs ws top = (k : ℕ) → k < top → entry_hint ws k ≡ hint_of bs ws (entry_symbol ws k)

-- `top` entries, which are symbols that stand, with their hints
pub record Entries (bs ws : List ℕ) (top : ℕ) : Type 0 where
  pub few : top ≤ 512
  pub below : EntriesBelow ws top 512
  pub sound : (k : ℕ) → k < top → Sound bs ws SLOTS.size (entry_symbol ws k)
  pub hinted : Hinted bs ws top

-- ---- keys

-- symbol s has the key of record i, or of its projection to a field, over pending children: `is_key` of symbol s
unfoldable pub same_key : List ℕ → List ℕ → ℕ → ℕ → ℕ → ℕ → ℕ → Bool
same_key bs ws i field held count s =
    same_rec (rec_of bs (symbol_at ws s).node) (key_rec bs i field) && same (kids_at ws s) (pending_from ws held count)
