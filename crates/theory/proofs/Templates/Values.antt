-- The values of a template's parameters: each record of a parameter has the literal of the first one.
-- In order: a record of a parameter; the first record of a parameter; a template's records; its trees.
-- Assumes nothing.
use mathlib.Core.Path.{◌≡◌, refl, sym, ◌∙◌}
use mathlib.Core.Bool.{Bool, true, false}
use Rattle.std.specs.Prelude.{Option, None, Some}
use mathlib.Core.List.{List, map}
use Prim.Native.Nat.{ℕ, ◌<◌, ◌≤◌}
use native.Mathlib.Omega.{arith}
use lib.Dec.{ltb}
use lib.ListN.{get_or, get_or-map}
use borrow.Author.Tests.{eqb-true, eq-eqb, lt-ltb, ltb-true, ltb-false}
use Rattle.model.specs.Tree.{Row}
use Rattle.model.specs.Opcodes.{Const}
use Rattle.model.specs.Forest.{rows_in, trees_of}
use Rattle.model.specs.Places.{no_record, record_at}
use Rattle.model.specs.Template.{is_parameter, StandsFor, Template}
use Rattle.model.specs.TemplateLine.{is_of, stands_at, value_of}
use Rattle.laws.proofs.Members.{and_both, both_and}
use Rattle.theory.proofs.Acceptance.Each.{forest_each}
use Rattle.theory.proofs.Demand3.Faulty.{none_faulty}
use Rattle.theory.proofs.Demand3.Faulty as faulty
use Rattle.theory.proofs.Templates.Records.{parameter_is, Valued, ValuedTrees}

-- ---- a record of a parameter

pub stands_is : (forest : List ℕ) (p a : ℕ) → StandsFor forest p a → is_of a (record_at forest p) ≡ true
unfolding is_of is_parameter
stands_is forest p a h =
    let r = (record_at forest p).rec in
    both_and _ _ (both_and _ _ (eq-eqb r.shape Const h.is_constant)
    (lt-ltb 6 r.aux (omega (arith, h.has_mark, h.is_parameter_lem)))) (eq-eqb r.aux a h.is_parameter_lem)

pub is_stands : (forest : List ℕ) (p a : ℕ) → is_of a (record_at forest p) ≡ true → StandsFor forest p a
unfolding is_of
is_stands forest p a e =
    let h = and_both (is_parameter (record_at forest p).rec) _ e in
    let w = parameter_is (record_at forest p).rec h.0 in
    let z = eqb-true (record_at forest p).rec.aux a h.1 in
    record { is_constant = w.0; is_parameter_lem = z; has_mark = omega (arith, w.1, z) }

-- ---- the first record of a parameter

-- where record p is one of parameter a, so is one at or before it, whose literal is the parameter's value
pub record FirstOf (a : ℕ) (rs : List Row) (p : ℕ) : Type 0 where
  pub at : ℕ
  pub early : at ≤ p
  pub is : is_of a (get_or rs at no_record) ≡ true
  pub value : value_of a rs ≡ (get_or rs at no_record).rec.lit

pub first_of : (a : ℕ) (rs : List Row) (p : ℕ) → is_of a (get_or rs p no_record) ≡ true → FirstOf a rs p
unfolding value_of stands_at is_of is_parameter
first_of a rs p e = go (stands_at a rs) refl
  where
    tested : (q : ℕ) → get_or (map (is_of a) rs) q false ≡ is_of a (get_or rs q no_record)
    tested q = get_or-map (is_of a) rs q no_record

    lower : (q : ℕ) → ((i : ℕ) → i < q → is_of a (get_or rs i no_record) ≡ true → ⊥) → (b : Bool) → ltb p q ≡ b → q ≤ p
    lower q h true x = absurd (h p (ltb-true p q x) e)
    lower q h false x = ltb-false p q x

    go : (o : Option ℕ) → stands_at a rs ≡ o → FirstOf a rs p
    go None x = absurd (none_faulty (map (is_of a) rs) x p (tested p ∙ e))
    go (Some q) x =
        let w = (faulty.first_of (λ i. is_of a (get_or rs i no_record) ≡ true) (map (is_of a) rs)
        (λ i. (λ m. sym (tested i) ∙ m, λ m. tested i ∙ m)) q).0 x in
        record { at = q; early = lower q w.1 (ltb p q) refl; is = w.0; value = rw (x, value_of) }

-- ---- a template's records

module _ (forest : List ℕ) (h : Template forest) where
  abbrev values : ℕ → List ℕ
  values a = value_of a (rows_in forest)

  pub record_valued : (p : ℕ) → Valued values (record_at forest p).rec
  unfolding is_of
  record_valued p e =
      let a = (record_at forest p).rec.aux in
      let mine : is_of a (record_at forest p) ≡ true = both_and _ _ e (eq-eqb a a refl) in
      let w = first_of a (rows_in forest) p mine in
      h.one_value a p w.at (is_stands forest p a mine) (is_stands forest w.at a w.is) ∙ sym w.value

-- ---- its trees

pub trees_valued : (forest : List ℕ) → Template forest → ValuedTrees (λ a. value_of a (rows_in forest)) (trees_of forest)
trees_valued forest h = forest_each (Valued (λ a. value_of a (rows_in forest))) forest (record_valued forest h)
