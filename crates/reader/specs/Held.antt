-- What a reader holds, and the literal of the record that it has reached.
-- Assumes nothing.
use Rattle.std.specs.Prelude.{ℕ, ◌+◌, ◌<◌, List}
use Rattle.std.specs.Borrow.{Bor}
use Rattle.model.specs.Forest.{record_count}
use Rattle.record.specs.Record.{Laid, row_at}
use Rattle.reader.specs.declared.Reader.{Reader}

-- record i of a forest that stands
pub record Reached (bs : List ℕ) (i : ℕ) : Type 0 where
  pub laid : Laid bs
  pub there : i < record_count bs

-- the reader of a forest that has reached record i
abbrev pub reaching : Bor (List ℕ) → ℕ → Reader
reaching forest i = record { forest = forest; at = i }

-- the reader of the same forest, one record on
abbrev pub onward : Reader → Reader
onward r = reaching r.forest (r.at + 1)

-- the literal of record i
abbrev pub lit_at : List ℕ → ℕ → List ℕ
lit_at bs i = (row_at bs i).rec.lit
