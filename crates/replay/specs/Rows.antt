-- What a row of the list says, in the definitions' words; and what a call is lent.
-- Assumes nothing.
use Rattle.std.specs.Prelude.{ℕ, List, ◌++◌, length, drop, replicate}
use Rattle.model.specs.Bytes.{u32}
use Rattle.model.specs.Call as model
use Rattle.model.specs.Call.{Call}
use Rattle.replay.specs.declared.Numbers.{Numbers}
use Rattle.replay.specs.declared.Row.{Row}

-- the row with this head: eight 32-bit numbers
abbrev pub row_of : List ℕ → Row
row_of head = record {
  forest = u32 head;
  room = u32 (drop 4 head);
  words = u32 (drop 8 head);
  answer = record {
    number = u32 (drop 12 head);
    place = u32 (drop 16 head);
    written = u32 (drop 20 head);
    symbols = u32 (drop 24 head);
    readings = u32 (drop 28 head);
  };
}

-- the call of a row, on its forest
abbrev pub call_in : Row → List ℕ → Call
call_in row forest = record { forest = forest; room = row.room; words = row.words }

-- the five numbers
abbrev pub numbers_in : Numbers → model.Numbers
numbers_in n = record {
  number = n.number;
  place = n.place;
  len = n.written;
  symbols = n.symbols;
  readings = n.readings;
}

-- these, and then what stood past them in n of x
abbrev pub before : List ℕ → ℕ → ℕ → List ℕ
before xs n x = xs ++ drop (length xs) (replicate n x)
