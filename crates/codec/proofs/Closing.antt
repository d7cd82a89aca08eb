-- Check 6, record by record: what is left gives the whole. Assumes nothing.
use Prim.Native.Nat.{ℕ, zero, suc, ◌+◌, ◌-◌, ◌<◌, ◌≤◌}
use mathlib.Core.Path.{◌≡◌, refl}
use Rattle.std.specs.Prelude.{None, Some}
use mathlib.Core.List.{List, ◌∷◌}
use native.Mathlib.Omega.{arith}
use lib.ListN.{drop}
use Rattle.model.specs.Tree.{Row}
use Rattle.model.specs.Forest.{tree_count, record_count, rows_in, unclosed, check6}
use Rattle.laws.proofs.Header.{header_of}
use Rattle.record.specs.Record.{row_at}
use Rattle.walk.proofs.Bridge.{rows_at, rows_end}

module _ (bs : List ℕ) where
  pub closing_start : unclosed (tree_count bs) 0 (drop 0 (rows_in bs)) ≡ check6 bs
  unfolding check6
  closing_start = refl

  -- no tree is to come, and a record is left
  pub closing_over : (left i : ℕ) → i < record_count bs → left ≡ 0 → unclosed left i (drop i (rows_in bs)) ≡ Some i
  unfolding unclosed
  closing_over left i l e = rw (e, rows_at bs i l)

  pub closing_turn : (left i : ℕ) → i < record_count bs → (left ≡ 0 → ⊥) →
      unclosed left i (drop i (rows_in bs)) ≡ unclosed (left - 1 + (row_at bs i).kids) (i + 1) (drop (i + 1) (rows_in bs))
  unfolding unclosed
  closing_turn zero i l h = absurd (h refl)
  closing_turn (suc left) i l h =
      let e : suc left - 1 ≡ left = omega arith in
      let f : i + 1 ≡ suc i = omega arith in
      rw (rows_at bs i l, e) (turn left i (row_at bs i) (drop (i + 1) (rows_in bs)) (i + 1) f)
    where
      turn : (left i : ℕ) (r : Row) (rs : List Row) (j : ℕ) → j ≡ suc i →
          unclosed (suc left) i (r ∷ rs) ≡ unclosed (left + r.kids) j rs
      turn left i r rs j e = rw e

  pub closing_none : (left i : ℕ) → record_count bs ≤ i → left ≡ 0 → unclosed left i (drop i (rows_in bs)) ≡ None
  unfolding unclosed
  closing_none left i l e = rw (e, rows_end bs i l)

  pub closing_lack : (left i : ℕ) → record_count bs ≤ i → (left ≡ 0 → ⊥) → unclosed left i (drop i (rows_in bs)) ≡ Some i
  unfolding unclosed
  closing_lack zero i l h = absurd (h refl)
  closing_lack (suc left) i l h = rw (rows_end bs i l)

pub ruleset closing = (header_of, closing_start, closing_over, closing_turn, closing_none, closing_lack)
