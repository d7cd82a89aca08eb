-- Records by number: where a record lies in the forest, and the row that stands there.
-- Assumes nothing.
use Rattle.std.specs.Prelude.{ℕ, ◌+◌, ◌*◌, ◌≡◌, List, [], get_or, drop, None}
use Rattle.model.specs.Bytes.{u16}
use Rattle.model.specs.Tree.{rec, Row}
use Rattle.model.specs.Forest.{rows_in, check2, check3}

-- header and directory stand: neither check 2 nor check 3 fails
pub record Laid (bs : List ℕ) : Type 0 where
  pub header : check2 bs ≡ None
  pub directory : check3 bs ≡ None

-- record i's pair: where the record starts, and how long it is
unfoldable pub start_of : List ℕ → ℕ → ℕ
start_of bs i = u16 (drop (4 + 4 * i) bs)

unfoldable pub size_of : List ℕ → ℕ → ℕ
size_of bs i = u16 (drop (6 + 4 * i) bs)

abbrev pub no_row : Row
no_row = record { rec = rec 0 0 0 []; kids = 0 }

-- record i
unfoldable pub row_at : List ℕ → ℕ → Row
row_at bs i = get_or (rows_in bs) i no_row
