-- Words for places: the first of which something holds; the records of a forest by number.
-- Assumes nothing.
use Rattle.std.specs.Prelude.{List, [], ◌∷◌, ℕ, ◌+◌, ◌<◌, get_or}
use Rattle.model.specs.Tree.{rec, Row}
use Rattle.model.specs.Forest.{rows_in}

-- p is the first place of which P holds: "Place is the first offending record (3: pair) counted from 0"
abbrev pub First : (ℕ → Type 0) → ℕ → Type 0
First P p = P p × ((q : ℕ) → q < p → P q → ⊥)

-- record p, with its child count; `no_record` where there is none
abbrev pub no_record : Row
no_record = record { rec = rec 0 0 0 []; kids = 0 }

abbrev pub record_at : List ℕ → ℕ → Row
record_at forest p = get_or (rows_in forest) p no_record

-- how many children some records have
abbrev pub children : List Row → ℕ
children [] = 0
children (r ∷ rs) = r.kids + children rs
