-- Trees in a row, by record numbers: those that the records from number i up to `end` are; and what a record saves.
-- Assumes nothing.
use Rattle.std.specs.Prelude.{ℕ, ◌+◌, ◌≤◌, ◌≡◌, true, false, List, [], ◌∷◌, eqb, slice_range, ℤ}
use Rattle.model.specs.Tree.{Row, Trees, rows_of, grow}
use Rattle.model.specs.Forest.{record_count, rows_in}
use Rattle.model.specs.Opcodes.{ValDef}
use Rattle.model.specs.Binding.{id_of, rebound_in}
use Rattle.model.specs.Savings.{weight, saving}
use Rattle.laws.specs.Clear.{Clear}
use Rattle.walk.specs.Walk.{rec_at}
use Rattle.savings.specs.Plain.{plain_uses}

abbrev pub rows_between : List ℕ → ℕ → ℕ → List Row
rows_between bs i end = slice_range (rows_in bs) i end

unfoldable pub between : List ℕ → ℕ → ℕ → Trees
between bs i end = grow (rows_between bs i end)

-- these records are trees, siblings or a forest's, that bind no id in force
pub record Siblings (bs : List ℕ) (i end : ℕ) : Type 0 where
  pub order : i ≤ end
  pub within : end ≤ record_count bs
  pub closes : rows_of (between bs i end) ≡ rows_between bs i end
  pub ids : List ℕ
  pub fresh : Clear (rebound_in (between bs i end) ids)

-- id and saving of record i, if it is a definition: its subtree ends at `next`, and its block at `end`
unfoldable pub own_line : List ℕ → ℕ → ℕ → ℕ → List (ℕ × ℤ)
own_line bs i next end =
    elim (eqb (rec_at bs i).shape ValDef) [
      | true ↦ (
        id_of (rec_at bs i),
        saving (plain_uses (id_of (rec_at bs i)) (rows_between bs next end)) (weight (rows_between bs (i + 1) next)),
      ) ∷
          []
      | false ↦ []
    ]
