-- The archive lister's text (request A.9): "a line such as `mixed 9A`, with the opcode at that place, exactly where the
-- main call says 16; on other input it prints what the lister does". As the lister's, it is of a main call that is lent
-- 65,535 output bytes.
-- Assumes nothing.
use Rattle.std.specs.Prelude.{ℕ, true, false, List, ◌++◌, eqb, Option, None, Some}
use Rattle.model.specs.Call.{ample, numbers}
use Rattle.model.specs.Places.{record_at}
use Rattle.model.specs.Text.{text}
use Rattle.model.specs.Lister.{hex_byte, lister}

-- the opcode at the place where the main call says 16
unfoldable pub mixed_opcode : List ℕ → Option ℕ
mixed_opcode bs =
    let said = numbers (ample bs) in
    elim (eqb said.number 16) [ true ↦ Some (record_at bs said.place).rec.opcode | false ↦ None ]

unfoldable pub mixed_line : ℕ → List ℕ
mixed_line opcode = text "mixed " ++ hex_byte opcode ++ text "\n"

unfoldable pub archive_lister : List ℕ → List ℕ
archive_lister bs = elim (mixed_opcode bs) [ None ↦ lister bs | Some opcode ↦ mixed_line opcode ]
