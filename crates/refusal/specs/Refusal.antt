-- Refusals, as contracts have them. In order: the checks' numbers; a check's place as a refusal. Assumes nothing.
use Rattle.std.specs.Prelude.{ℕ, Option, Some, None}
use Rattle.std.specs.Prelude.{Result, Ok, Err}
use Rattle.refusal.specs.declared.Check.{Check}
use Rattle.refusal.specs.declared.Check.TheVariants.{Words, Header, Directory, Shapes, Opcodes, Closing, Depth, OneShape, Definitions, Bindings, Uses, Readings, Symbols, Room, Nesting}
use Rattle.refusal.specs.declared.Refusal.{Refusal}

-- the number that the papers give a check
abbrev pub number_of : Check → ℕ
number_of Words = 1
number_of Header = 2
number_of Directory = 3
number_of Shapes = 4
number_of Opcodes = 5
number_of Closing = 6
number_of Depth = 7
number_of OneShape = 16
number_of Definitions = 8
number_of Bindings = 9
number_of Uses = 10
number_of Readings = 11
number_of Symbols = 12
number_of Room = 13
number_of Nesting = 14

-- nothing, or a refusal at that place
abbrev pub refused_at : Check → Option ℕ → Result Unit Refusal
refused_at c None = Ok tt
refused_at c (Some p) = Err (record { check = c; place = p })
