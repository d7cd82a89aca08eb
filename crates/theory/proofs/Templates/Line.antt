-- What the line of `template` says: `line_says`.
-- In order: the test of a record; the test and the condition; a template; the clause; the theorem.
-- Assumes nothing.
use mathlib.Core.Path.{◌≡◌, refl, ap, sym, ◌∙◌}
use mathlib.Core.Logic.{◌⊎◌, inl, inr, ◌↔◌, ◌≢◌}
use mathlib.Core.Bool.{Bool, true, false, not, ◌&&◌}
use Rattle.std.specs.Prelude.{Option, None, Some}
use mathlib.Core.List.{List, map}
use Prim.Native.Nat.{ℕ, ◌<◌, ◌≤◌}
use native.Mathlib.Omega.{arith}
use lib.ListN.{length, get_or, get_or-map}
use borrow.Author.Tests.{eq-eqb, not-true}
use Rattle.model.specs.Lists.{same}
use Rattle.model.specs.Tree.{Rec, Row, root, rows}
use Rattle.model.specs.Forest.{rows_in, trees_of}
use Rattle.model.specs.Places.{First, no_record, record_at}
use Rattle.model.specs.Answer.{Answer, good}
use Rattle.model.specs.Unfold.{unfolded}
use Rattle.model.specs.Call.{Written, ample, tree_of, written_of, run, numbers_of, numbers}
use Rattle.model.specs.Conditions.{Accepted}
use Rattle.model.specs.Template.{is_parameter, StandsFor, Filling, fill_forest, Template, fill_written, definitions, Clause}
use Rattle.model.specs.TemplateLine.{is_of, value_of, HadAnother, has_another, two_values, LineSays}
use Rattle.laws.proofs.Apart.{good_inj}
use Rattle.laws.proofs.Members.{clash, and_both, both_and, same_refl, same_true}
use Rattle.theory.proofs.Demand3.Faulty.{Faulty, first_of, first_same, none_faulty}
use Rattle.theory.proofs.Demand3.Order.{call_passes, passes_accepted}
use Rattle.theory.proofs.Demand3.Exactly.{zero_passes}
use Rattle.theory.proofs.Promise.Main.{meaning_kept}
use Rattle.theory.proofs.Templates.Values.{stands_is, is_stands}
use Rattle.theory.proofs.Templates.Values as values
use Rattle.theory.proofs.Templates.Checks.{rows_filled, definitions_kept}
use Rattle.theory.proofs.Templates.Main.{every_filling}

module _ (forest : List ℕ) where
  abbrev rs : List Row
  rs = rows_in forest

  -- record p has another literal than the first record of its parameter
  abbrev Differs : ℕ → Type 0
  Differs p = has_another rs (record_at forest p).rec ≡ true

  -- ---- the test of a record

  abbrev tests : List Bool
  tests = map (λ r. has_another rs r.rec) rs

  tested : (p : ℕ) → get_or tests p false ≡ has_another rs (record_at forest p).rec
  unfolding has_another is_parameter
  tested p = get_or-map (λ r. has_another rs r.rec) rs p no_record

  faulty_differs : (p : ℕ) → Faulty tests p ↔ Differs p
  faulty_differs p = (λ m. sym (tested p) ∙ m, λ m. tested p ∙ m)

  -- a record of parameter a differs, or has its value
  differs_or : (p a : ℕ) → StandsFor forest p a → Differs p ⊎ ((record_at forest p).rec.lit ≡ value_of a rs)
  unfolding has_another is_of
  differs_or p a h =
      go (same r.lit (value_of r.aux rs)) refl (and_both (is_parameter r) _ (stands_is forest p a h)).0
      h.is_parameter_lem
    where
      r : Rec
      r = (record_at forest p).rec

      go : (b : Bool) → same r.lit (value_of r.aux rs) ≡ b → is_parameter r ≡ true → r.aux ≡ a →
          ((is_parameter r && not (same r.lit (value_of r.aux rs))) ≡ true) ⊎ (r.lit ≡ value_of a rs)
      go true x i z = inr (same_true r.lit _ x ∙ ap (λ (n : ℕ). value_of n rs) z)
      go false x i z = inl (both_and _ _ i (ap not x))

  -- ---- the test and the condition

  -- what differs had another literal earlier
  differs_had : (p : ℕ) → Differs p → HadAnother forest p
  unfolding has_another is_of
  differs_had p m =
      let r = (record_at forest p).rec in
      let w = and_both (is_parameter r) _ m in
      let mine : is_of r.aux (record_at forest p) ≡ true = both_and _ _ w.0 (eq-eqb r.aux r.aux refl) in
      let f = values.first_of r.aux rs p mine in
      let other : (record_at forest f.at).rec.lit ≢ r.lit =
      λ e. clash (same r.lit (value_of r.aux rs))
      (ap (same r.lit) (f.value ∙ e) ∙ same_refl r.lit) (not-true _ w.1) in
      let apart : f.at ≢ p = λ z. other (ap (λ (i : ℕ). (record_at forest i).rec.lit) z) in
      (r.aux, f.at, omega (arith, f.early, apart), is_stands forest f.at r.aux f.is, is_stands forest p r.aux mine, other)

  -- and what had another earlier differs, or that earlier one does
  had_differs : (p : ℕ) → HadAnother forest p → Differs p ⊎ ((q : ℕ) × (q < p) × Differs q)
  had_differs p (a, q, l, x, y, n) = go (differs_or p a y) (differs_or q a x)
    where
      go : Differs p ⊎ ((record_at forest p).rec.lit ≡ value_of a rs) →
          Differs q ⊎ ((record_at forest q).rec.lit ≡ value_of a rs) → Differs p ⊎ ((q : ℕ) × (q < p) × Differs q)
      go (inl d) w = inl d
      go (inr e) (inl d) = inr (q, l, d)
      go (inr e) (inr d) = absurd (n (d ∙ sym e))

  -- ---- a template

  two_exactly : (p : ℕ) → (two_values forest ≡ Some p) ↔ First (HadAnother forest) p
  unfolding two_values
  two_exactly p =
      let w = first_of Differs tests faulty_differs p in
      let v = first_same Differs (HadAnother forest) differs_had had_differs p in
      (λ e. v.0 (w.0 e), λ h. w.1 (v.1 h))

  none_template : Accepted forest → two_values forest ≡ None → Template forest
  unfolding two_values
  none_template ok e = record { accepted = ok; one_value = λ a p q x y. go a p q (differs_or p a x) (differs_or q a y) }
    where
      no : (p : ℕ) → Differs p → ⊥
      no p d = none_faulty tests e p ((faulty_differs p).1 d)

      go : (a p q : ℕ) → Differs p ⊎ ((record_at forest p).rec.lit ≡ value_of a rs) →
          Differs q ⊎ ((record_at forest q).rec.lit ≡ value_of a rs) →
          (record_at forest p).rec.lit ≡ (record_at forest q).rec.lit
      go a p q (inl d) w = absurd (no p d)
      go a p q (inr x) (inl d) = absurd (no q d)
      go a p q (inr x) (inr y) = x ∙ sym y

  template_none : Template forest → two_values forest ≡ None
  template_none h = go (two_values forest) refl
    where
      go : (o : Option ℕ) → two_values forest ≡ o → two_values forest ≡ None
      go None e = e
      go (Some p) e =
          let had = ((two_exactly p).0 e).0 in
          absurd (had.5 (h.one_value had.0 had.1 p had.3 had.4))

  -- ---- the clause

  -- a call that gives 0 wrote what the root means, for an accepted forest
  good_means : (w : Written) → run (ample forest) ≡ good w →
      Accepted forest × (unfolded w.tree ≡ unfolded (root (trees_of forest)))
  unfolding numbers numbers_of written_of
  good_means w e =
      let zero : (numbers (ample forest)).number ≡ 0 = ap (λ (a : Answer Written). (numbers_of a).number) e in
      let v = call_passes (ample forest) (zero_passes (ample forest) zero) in
      let tree : tree_of v.1.0 ≡ w.tree = ap (λ (z : Written). z.tree) (good_inj (sym v.1.2 ∙ e)) in
      (passes_accepted forest v.0, ap unfolded (sym tree) ∙ meaning_kept forest v.0 v.1.0 v.1.1)

the_clause : (forest : List ℕ) (w : Written) → run (ample forest) ≡ good w → two_values forest ≡ None → (f : Filling) →
    length (fill_forest f forest) ≤ 65535 → length (fill_forest f w.bytes) ≤ 65535 → Clause forest w f
the_clause forest w e none-two f short fits =
    let all = every_filling f forest (none_template forest (good_means forest w e).0 none-two) short in
    let written = (all.1 (ample forest) (ample (fill_forest f forest)) refl refl refl).writes w e
    (record { short = fits; fits_in = fits }) in
    record {
      address = written;
      price = ap definitions (rows_filled f w.tree) ∙ definitions_kept f (rows w.tree);
      terms = (good_means (fill_forest f forest) (fill_written f w) written).1 ∙ all.0.means;
    }

-- ---- the theorem

pub line_says : (forest : List ℕ) → LineSays forest
line_says forest = record {
  two_values_lem = two_exactly forest;
  template = λ ok. (none_template forest ok, template_none forest);
  clause = the_clause forest;
}
