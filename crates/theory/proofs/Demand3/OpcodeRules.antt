-- The test of check 5 is that opcode and shape go together, by the paper's pairs: `agrees_together`.
-- In order: what a table of pairs says; the test with a table; a table both ways; the test.
-- Assumes nothing.
use mathlib.Core.Path.{◌≡◌, refl, ap, sym, subst}
use mathlib.Core.Logic.{◌⊎◌, inl, inr, ◌↔◌}
use mathlib.Core.Bool.{Bool, true, false, not, ◌&&◌, beq}
use Rattle.std.specs.Prelude.{Option, None, Some}
use mathlib.Core.List.{List, [], ◌∷◌, map}
use Prim.Native.Nat.{ℕ, ◌≤◌}
use lib.Dec.{eqb, leb}
use borrow.Author.Tests.{eqb-true, eqb-false, eq-eqb, leb-true, le-leb, not-true}
use Rattle.model.specs.Lists.{is_in, twice}
use Rattle.model.specs.Tree.{Rec}
use Rattle.model.specs.Shape.{Pairs, shape_of, both_ways, one_way, agrees}
use Rattle.model.specs.OpcodeRules.{Together}
use Rattle.laws.specs.Members.{In}
use Rattle.laws.proofs.Apart.{false_true}
use Rattle.laws.proofs.Members.{and_both, both_and, or_neither, is_in_false, not_in_is_in}
use Rattle.laws.proofs.Checks.{◌also◌}

-- ---- what a table of pairs says

abbrev firsts : Pairs → List ℕ
firsts ps = map (λ p. p.0) ps

abbrev seconds : Pairs → List ℕ
seconds ps = map (λ p. p.1) ps

-- the pairs the other way round
abbrev swap : Pairs → Pairs
swap ps = map (λ p. (p.1, p.0)) ps

module _ (o s : ℕ) where
  -- where the first number of a pair is o, its second is s
  abbrev Says : Pairs → Type 0
  Says [] = Unit {0}
  Says (p ∷ ps) = (o ≡ p.0 → s ≡ p.1) × Says ps

  -- o and s are a pair
  abbrev Found : Pairs → Type 0
  Found [] = ⊥
  Found (p ∷ ps) = ((o ≡ p.0) × (s ≡ p.1)) ⊎ Found ps

  none_says : (ps : Pairs) → (In o (firsts ps) → ⊥) → Says ps
  none_says [] h = tt
  none_says (p ∷ ps) h = (λ e. absurd (h (inl e)), none_says ps (λ i. h (inr i)))

  found_in : (ps : Pairs) → Found ps → In o (firsts ps)
  found_in [] f = f
  found_in (p ∷ ps) (inl h) = inl h.0
  found_in (p ∷ ps) (inr f) = inr (found_in ps f)

  -- no number stands first twice
  alone : (p : ℕ × ℕ) (ps : Pairs) → twice (firsts (p ∷ ps)) ≡ false → o ≡ p.0 → In o (firsts ps) → ⊥
  unfolding twice
  alone p ps once e m =
      is_in_false p.0 (firsts ps) (or_neither _ (twice (firsts ps)) once).0
      (subst (λ (z : ℕ). In z (firsts ps)) e m)

  found_says : (ps : Pairs) → twice (firsts ps) ≡ false → Found ps → Says ps
  unfolding twice
  found_says [] once f = absurd f
  found_says (p ∷ ps) once (inl h) = (λ e. h.1, none_says ps (alone p ps once h.0))
  found_says (p ∷ ps) once (inr f) = (
    λ e. absurd (alone p ps once e (found_in ps f)),
    found_says ps (or_neither (is_in p.0 (firsts ps)) _ once).1 f,
  )

  says_in : (ps : Pairs) → Says ps → In o (firsts ps) → In s (seconds ps)
  says_in [] w m = m
  says_in (p ∷ ps) w (inl e) = inl (w.0 e)
  says_in (p ∷ ps) w (inr m) = inr (says_in ps w.1 m)

  -- ---- the test with a table; `other` is what is said of other opcodes

  tested : Bool → Pairs → Bool
  tested other ps = elim (shape_of ps o) [ None ↦ other | Some z ↦ eqb z s ]

  abbrev Outcome : Bool → Pairs → Type 0
  Outcome other ps = Found ps ⊎ ((In o (firsts ps) → ⊥) × (other ≡ true))

  found : (other : Bool) (ps : Pairs) → tested other ps ≡ true → Outcome other ps
  unfolding tested shape_of
  found other [] e = inr (λ m. m, e)
  found other (p ∷ ps) e = go (eqb p.0 o) refl (found other ps) e
    where
      step : (o ≡ p.0 → ⊥) → Outcome other ps → Outcome other (p ∷ ps)
      step h (inl w) = inl (inr w)
      step h (inr w) = inr (λ m. elim m [ inl e ↦ h e | inr k ↦ w.0 k ], w.1)

      go : (b : Bool) → eqb p.0 o ≡ b → (tested other ps ≡ true → Outcome other ps) →
          elim (elim b as (λ z. Option ℕ) [ true ↦ Some p.1 | false ↦ shape_of ps o ]) as (λ z. Bool) [
            | None ↦ other
            | Some z ↦ eqb z s
          ] ≡ true →
          Outcome other (p ∷ ps)
      go true f rest e = inl (inl (sym (eqb-true p.0 o f), sym (eqb-true p.1 s e)))
      go false f rest e = step (λ z. eqb-false p.0 o f (sym z)) (rest e)

  passes : (other : Bool) (ps : Pairs) → Says ps → ((In o (firsts ps) → ⊥) → other ≡ true) → tested other ps ≡ true
  unfolding tested shape_of
  passes other [] w h = h (λ m. m)
  passes other (p ∷ ps) w h = go (eqb p.0 o) refl (passes other ps w.1)
    where
      go : (b : Bool) → eqb p.0 o ≡ b → (((In o (firsts ps) → ⊥) → other ≡ true) → tested other ps ≡ true) →
          elim (elim b as (λ z. Option ℕ) [ true ↦ Some p.1 | false ↦ shape_of ps o ]) as (λ z. Bool) [
            | None ↦ other
            | Some z ↦ eqb z s
          ] ≡ true
      go true f rest = eq-eqb p.1 s (sym (w.0 (sym (eqb-true p.0 o f))))
      go false f rest = rest (λ n. h (λ m. elim m [ inl e ↦ eqb-false p.0 o f (sym e) | inr k ↦ n k ]))

-- ---- a table both ways

swapped : (o s : ℕ) (ps : Pairs) → Found o s ps → Found s o (swap ps)
swapped o s [] f = f
swapped o s (p ∷ ps) (inl h) = inl (h.1, h.0)
swapped o s (p ∷ ps) (inr f) = inr (swapped o s ps f)

module _ (o s : ℕ) where
  abbrev Both : Type 0
  Both = Says o s both_ways × Says s o (swap both_ways)

  abbrev bound : Bool
  bound = tested o s (not (is_in s (seconds both_ways))) both_ways

  both_to : bound ≡ true → Both
  unfolding both_ways twice is_in
  both_to e = go (found o s _ both_ways e)
    where
      go : Outcome o s (not (is_in s (seconds both_ways))) both_ways → Both
      go (inl f) = (found_says o s both_ways refl f, found_says s o (swap both_ways) refl (swapped o s both_ways f))
      go (inr (n, k)) = (
        none_says o s both_ways n,
        none_says s o (swap both_ways) (is_in_false s (seconds both_ways) (not-true _ k)),
      )

  both_back : Both → bound ≡ true
  unfolding both_ways
  both_back w =
      passes o s _ both_ways w.0
      (λ n. ap not (not_in_is_in s (seconds both_ways) (λ m. n (says_in s o (swap both_ways) w.1 m))))

  one_to : tested o s true one_way ≡ true → Says o s one_way
  unfolding one_way twice is_in
  one_to e = go (found o s true one_way e)
    where
      go : Outcome o s true one_way → Says o s one_way
      go (inl f) = found_says o s one_way refl f
      go (inr w) = none_says o s one_way w.0

-- ---- the test

same_tests : (a b : Bool) {A B : Type 0} → (a ≡ true) ↔ A → (b ≡ true) ↔ B → (beq a b ≡ true) ↔ (A ↔ B)
same_tests true true f g = (λ e. (λ x. g.0 refl, λ y. f.0 refl), λ h. refl)
same_tests true false f g = (λ e. false_true e, λ h. g.1 (h.0 (f.0 refl)))
same_tests false true f g = (λ e. false_true e, λ h. f.1 (h.1 (g.0 refl)))
same_tests false false f g = (λ e. (λ x. false_true (f.1 x), λ y. false_true (g.1 y)), λ h. refl)

const_test : (o s : ℕ) → (beq (eqb o 0) (leb s 1) ≡ true) ↔ ((o ≡ 0) ↔ (s ≤ 1))
const_test o s = same_tests (eqb o 0) (leb s 1) (eqb-true o 0, eq-eqb o 0) (leb-true s 1, le-leb s 1)

-- the paper's statements, from the tables and back
listed : (o s : ℕ) → ((o ≡ 0) ↔ (s ≤ 1)) → Both o s → Says o s one_way → Together o s
unfolding both_ways one_way
listed o s c (x, y) z = record {
  const = c;
  val_use = (x.0, y.0);
  val_def = (x.1.0, y.1.0);
  block_value = (x.1.1.0, y.1.1.0);
  func_value = (x.1.1.1.0, y.1.1.1.0);
  select_field = (x.1.1.1.1.0, y.1.1.1.1.0);
  tuple = (x.1.1.1.1.1.0, y.1.1.1.1.1.0);
  if95 = z.0;
  and_ed = z.1.0;
  or_ec = z.1.1.0;
  height_a3 = z.1.1.1.0;
  inputs_a4 = z.1.1.1.1.0;
  outputs_a5 = z.1.1.1.1.1.0;
  self_a7 = z.1.1.1.1.1.1.0;
  global_dd = z.1.1.1.1.1.1.1.0;
}

both_listed : (o s : ℕ) → Together o s → Both o s
unfolding both_ways
both_listed o s t = (
  t.val_use.0 also t.val_def.0 also t.block_value.0 also t.func_value.0 also t.select_field.0 also t.tuple.0 also
      tt,
  t.val_use.1 also t.val_def.1 also t.block_value.1 also t.func_value.1 also t.select_field.1 also t.tuple.1 also
      tt,
)

one-listed : (o s : ℕ) → Together o s → Says o s one_way
unfolding one_way
one-listed o s t =
    t.if95 also t.and_ed also t.or_ec also t.height_a3 also t.inputs_a4 also t.outputs_a5 also t.self_a7 also
    t.global_dd also tt

pub agrees_together : (r : Rec) → (agrees r ≡ true) ↔ Together r.opcode r.shape
unfolding agrees tested
agrees_together r = (to, back)
  where
    o : ℕ
    o = r.opcode

    s : ℕ
    s = r.shape

    a : Bool
    a = beq (eqb o 0) (leb s 1)

    to : ((a && bound o s) && tested o s true one_way) ≡ true → Together o s
    to e =
        let p = and_both (a && bound o s) (tested o s true one_way) e in
        let q = and_both a (bound o s) p.0 in
        listed o s ((const_test o s).0 q.0) (both_to o s q.1) (one_to o s p.1)

    back : Together o s → ((a && bound o s) && tested o s true one_way) ≡ true
    back t =
        both_and (a && bound o s) (tested o s true one_way)
        (both_and a (bound o s) ((const_test o s).1 t.const) (both_back o s (both_listed o s t)))
        (passes o s true one_way (one-listed o s t) (λ n. refl))
