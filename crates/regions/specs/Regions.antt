-- The regions of the work words: the one place for their first words and sizes. docs/WORK-MEMORY.md tells more.
-- In order: a region; the words lent; regions while checks run, while symbols are made, once the symbols are made.
-- A region begins where the one before it ends, so a new one is one line here. Assumes nothing.
use Rattle.std.specs.Prelude.{ℕ, ◌+◌, ◌*◌}

pub record Region : Type 0 where
  pub first : ℕ
  pub size : ℕ

-- the first word after a region
abbrev pub end : Region → ℕ
end r = r.first + r.size

-- the words that the main call is lent at least
abbrev pub WORDS : ℕ
WORDS = 16384

-- ---- while checks run

-- the ids in force, the newest last: each of 256 records binds at most 15
abbrev pub IDS : Region
IDS = record { first = 0; size = 256 * 15 }

-- ---- while symbols are made

-- five words a symbol, at most 512
abbrev pub SYMBOLS : Region
SYMBOLS = record { first = 0; size = 5 * 512 }

-- the symbols' children: one for each of 2,048 readings, and one for each projection made beside one that is read
abbrev pub SLOTS : Region
SLOTS = record { first = end SYMBOLS; size = 2048 + 512 }

-- a word a scope: the outermost, and at most one for each of 2,048 readings
abbrev pub SCOPES : Region
SCOPES = record { first = end SLOTS; size = 2056 }

-- where the free lists of the symbols before each end, and where all end
abbrev pub FREE_ENDS : Region
FREE_ENDS = record { first = end SCOPES; size = 512 + 1 }

-- the symbols' free lists, one after the other
abbrev pub FREE_LISTS : Region
FREE_LISTS = record { first = end FREE_ENDS; size = 4096 }

-- the open tables' symbols, table after table
abbrev pub ENTRIES : Region
ENTRIES = record { first = end FREE_LISTS; size = 512 }

-- pairs of projections, a word each, at most one a symbol
abbrev pub MEMO : Region
MEMO = record { first = end ENTRIES; size = 512 }

-- symbols of the children read so far: one for each record whose parent is being read
abbrev pub PENDING : Region
PENDING = record { first = end MEMO; size = 256 }

-- ids in force with their symbols, two words each: 63 lambdas of 15 arguments, and 255 definitions
abbrev pub BINDINGS : Region
BINDINGS = record { first = end PENDING; size = 2 * (63 * 15 + 255) }

-- ---- once the symbols are made, over the words from ENTRIES on

-- the planned rows, three words each, at most 256
abbrev pub PLAN : Region
PLAN = record { first = ENTRIES.first; size = 3 * 256 }

-- how often each symbol is used
abbrev pub USES : Region
USES = record { first = BINDINGS.first; size = 512 }

-- 1 for each symbol that is reached from the root
abbrev pub REACHED : Region
REACHED = record { first = end USES; size = 512 }
