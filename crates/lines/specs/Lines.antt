-- The first columns of a line; the lines of symbols in words; what lines are written from.
-- Assumes nothing.
use Rattle.std.specs.Prelude.{ℕ, ◌≤◌, List, ◌++◌, length}
use Rattle.model.specs.Text.{text}
use Rattle.model.specs.Intern.{Node}
use Rattle.model.specs.Lister.{numeral, hex_byte, tag_of, opcode_shown, lines_from}
use Rattle.regions.specs.Regions.{SLOTS, WORDS}
use Rattle.symbols.specs.Symbols.{syms_of, AllSound}
use Rattle.gate.specs.Gate.{uses_at}

-- symbol, tag and opcode, as a line begins
unfoldable pub columns : ℕ → Node → ℕ → List ℕ
columns s n opcode =
    numeral s ++ text " " ++ tag_of n ++ text " " ++ hex_byte (opcode_shown n opcode) ++ text " "

-- the lines of the first n symbols that words hold, each with the uses that the words count
abbrev pub lines_to : List ℕ → List ℕ → ℕ → List ℕ
lines_to bs ws n = lines_from (uses_at ws) 0 (syms_of bs ws n)

-- words hold n symbols of the forest
pub record Listable (bs ws : List ℕ) (n : ℕ) : Type 0 where
  pub few : n ≤ 512
  pub words : WORDS ≤ length ws
  pub sound : AllSound bs ws SLOTS.size n
