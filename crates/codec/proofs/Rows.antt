-- Checks 4 and 5, record by record.
-- In order: a record made of its fields; the first row that a test says true of.
-- Assumes nothing.
use Prim.Native.Nat.{ℕ, zero, suc, ◌<◌, ◌≤◌}
use mathlib.Core.Path.{◌≡◌, refl, ◌∙◌}
use mathlib.Core.Bool.{Bool, true, false}
use Rattle.std.specs.Prelude.{Option, None, Some, MatchOption}
use mathlib.Core.List.{List, [], ◌∷◌, map}
use native.Mathlib.Omega.{arith}
use lib.ListN.{length, get_or}
use Rattle.model.specs.Lists.{first}
use Rattle.model.specs.Tree.{Rec, rec, Row}
use Rattle.model.specs.Shape.{fits, agrees}
use Rattle.model.specs.Forest.{record_count, rows_in}
use Rattle.record.specs.Record.{no_row, row_at}
use Rattle.laws.proofs.Header.{header_of, row_count}
use Rattle.std.proofs.iter.runs.Sources.{ranges}

-- ---- a record made of its fields

pub fits-made : (r : Row) (s k a : ℕ) (l : List ℕ) → s ≡ r.rec.shape → k ≡ r.kids → a ≡ r.rec.aux →
    l ≡ r.rec.lit → (b : Bool) → ((o : ℕ) → b ≡ fits (record { rec = rec s o a l; kids = k })) → b ≡ fits r
fits-made r s k a l e f g h b m = m r.rec.opcode ∙ rw (e, f, g, h)

pub agrees-made : (r : Rec) (s o : ℕ) → s ≡ r.shape → o ≡ r.opcode → (b : Bool) →
    ((a : ℕ) (l : List ℕ) → b ≡ agrees (rec s o a l)) → b ≡ agrees r
agrees-made r s o e f b m = m r.aux r.lit ∙ rw (e, f)

-- ---- the first row that a test says true of

first_at : (f : Row → Bool) (rs : List Row) (r : Option ℕ) →
    MatchOption r ((k : ℕ) → k < length rs → f (get_or rs k no_row) ≡ false)
    (λ i. (i < length rs) × (f (get_or rs i no_row) ≡ true) × ((k : ℕ) → k < i → f (get_or rs k no_row) ≡ false)) →
    r ≡ first (map f rs)
unfolding first
first_at f [] None h = refl
first_at f [] (Some i) h = absurd (omega (arith, h.0))
first_at f (x ∷ rs) None h =
    rw (h 0 (omega arith), ← first_at f rs None (λ k l. h (suc k) (omega arith)))
first_at f (x ∷ rs) (Some zero) h = rw h.1
first_at f (x ∷ rs) (Some (suc i)) h =
    rw (
      h.2 0 (omega arith),
      ← first_at f rs (Some i) (omega (arith, h.0), h.1, λ k l. h.2 (suc k) (omega arith)),
    )

pub first_row : (f : Row → Bool) (bs : List ℕ) (r : Option ℕ) →
    MatchOption r ((k : ℕ) → 0 ≤ k → k < record_count bs → f (row_at bs k) ≡ false)
    (λ i. (0 ≤ i) × (i < record_count bs) × (f (row_at bs i) ≡ true)
    × ((k : ℕ) → 0 ≤ k → k < i → f (row_at bs k) ≡ false)) →
    r ≡ first (map f (rows_in bs))
unfolding row_at
first_row f bs None h = first_at f (rows_in bs) None (λ k l. h k (omega arith) (omega (arith, row_count bs)))
first_row f bs (Some i) h =
    first_at f (rows_in bs) (Some i) (omega (arith, h.1, row_count bs), h.2, λ k l. h.3 k (omega arith) l)

pub ruleset searching = (ranges, header_of)
