-- Check 16 fails exactly where its condition holds: `check_16`. Its test compares a record with the first of its opcode,
-- the condition with any earlier one.
-- In order: the test of a record; the test and the condition; the check.
-- Assumes nothing.
use mathlib.Core.Path.{◌≡◌, refl, ap, sym, ◌∙◌}
use mathlib.Core.Logic.{◌⊎◌, inl, inr, ◌↔◌, ◌≢◌}
use mathlib.Core.Bool.{Bool, true, false, not}
use Rattle.std.specs.Prelude.{Option, None, Some}
use Rattle.std.proofs.lemmas.Option.{same_Some}
use mathlib.Core.List.{List, map}
use Prim.Native.Nat.{ℕ, ◌<◌}
use native.Mathlib.Omega.{arith}
use lib.Dec.{eqb, ltb}
use lib.ListN.{length, get_or-map, get_or-eq_default}
use borrow.Author.Tests.{eqb-false, ltb-true, ltb-false, not-true}
use Rattle.model.specs.Tree.{Rec, Row}
use Rattle.model.specs.Shape.{shape_of}
use Rattle.model.specs.Forest.{record_count, rows_in, opcode_shapes, other_shape, check16}
use Rattle.model.specs.Places.{First, no_record, record_at}
use Rattle.model.specs.Conditions.{ShapesDiffer, HadOtherShape}
use Rattle.laws.proofs.Apart.{false_true}
use Rattle.laws.proofs.Members.{and_both}
use Rattle.laws.proofs.Header.{row_count}
use Rattle.theory.proofs.Acceptance.OneShape.{first_has, other_or-own}
use Rattle.theory.proofs.Demand3.Faulty.{Faulty, first_of, first_same}

module _ (forest : List ℕ) where
  abbrev rs : List Row
  rs = rows_in forest

  -- record p has another shape than the first record of its opcode
  abbrev Differs : ℕ → Type 0
  Differs p = other_shape rs (record_at forest p).rec ≡ true

  -- ---- the test of a record

  abbrev tests : List Bool
  tests = map (λ r. other_shape rs r.rec) rs

  faulty_differs : (p : ℕ) → Faulty tests p ↔ Differs p
  unfolding other_shape
  faulty_differs p = let e = get_or-map (λ r. other_shape rs r.rec) rs p no_record in (λ m. sym e ∙ m, λ m. e ∙ m)

  -- a record with an opcode other than 00 is there
  coded_there : (p : ℕ) → (record_at forest p).rec.opcode ≢ 0 → p < record_count forest
  coded_there p n = go (ltb p (length rs)) refl
    where
      go : (b : Bool) → ltb p (length rs) ≡ b → p < record_count forest
      go true x = omega (arith, ltb-true p (length rs) x, row_count forest)
      go false x =
          absurd (n (ap (λ (r : Row). r.rec.opcode) (get_or-eq_default rs no_record (ltb-false p (length rs) x))))

  -- ---- the test and the condition

  -- what differs had another shape earlier
  differs_had : (p : ℕ) → Differs p → HadOtherShape forest p
  unfolding other_shape
  differs_had p m =
      let w = and_both (not (eqb r.opcode 0)) _ m in
      let coded : r.opcode ≢ 0 = eqb-false r.opcode 0 (not-true _ w.0) in
      (coded_there p coded, coded, go (shape_of (opcode_shapes rs) r.opcode) refl w.1)
    where
      r : Rec
      r = (record_at forest p).rec

      Earlier : Type 0
      Earlier = (q : ℕ) × (q < p) × ShapesDiffer forest q p

      go : (o : Option ℕ) → shape_of (opcode_shapes rs) r.opcode ≡ o →
          elim o as (λ z. Bool) [ None ↦ false | Some s ↦ not (eqb s r.shape) ] ≡ true → Earlier
      go None x e = false_true e
      go (Some s) x e =
          let f = first_has rs r.opcode s x in
          let other : (record_at forest f.at).rec.shape ≢ r.shape =
          λ z. eqb-false s r.shape (not-true _ e) (sym f.shape_is ∙ z) in
          let apart : f.at ≢ p = λ z. other (ap (λ (i : ℕ). (record_at forest i).rec.shape) z) in
          (f.at, omega (arith, f.early p refl, apart), (f.opcode_is, other))

  -- and what had another earlier differs, or that earlier one does
  had_differs : (p : ℕ) → HadOtherShape forest p → Differs p ⊎ ((q : ℕ) × (q < p) × Differs q)
  had_differs p (l, n, (q, k, (o, s))) =
      go (other_or-own rs p (omega (arith, l, row_count forest)) n)
      (other_or-own rs q (omega (arith, l, k, row_count forest)) (λ z. n (sym o ∙ z)))
    where
      Own : ℕ → Type 0
      Own i = shape_of (opcode_shapes rs) (record_at forest i).rec.opcode ≡ Some (record_at forest i).rec.shape

      go : Differs p ⊎ Own p → Differs q ⊎ Own q → Differs p ⊎ ((i : ℕ) × (i < p) × Differs i)
      go (inl d) w = inl d
      go (inr e) (inl d) = inr (q, k, d)
      go (inr e) (inr d) = absurd (s (same_Some _ _ (sym d ∙ (ap (shape_of (opcode_shapes rs)) o ∙ e))))

  -- ---- the check

  pub check_16 : (p : ℕ) → (check16 forest ≡ Some p) ↔ First (HadOtherShape forest) p
  unfolding check16
  check_16 p =
      let w = first_of Differs tests faulty_differs p in
      let v = first_same Differs (HadOtherShape forest) differs_had had_differs p in
      (λ e. v.0 (w.0 e), λ h. w.1 (v.1 h))
