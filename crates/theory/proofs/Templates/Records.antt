-- Records, filled: what is no parameter stays, and what is the same stays the same, of parameters that have the values
-- of a template.
-- Assumes nothing.
use mathlib.Core.Path.{◌≡◌, refl, ap, ap₂, sym, ◌∙◌}
use mathlib.Core.Bool.{Bool, true, false, ◌&&◌, and-false}
use mathlib.Core.List.{List}
use Prim.Native.Nat.{ℕ, suc, ◌<◌, ◌≤◌}
use native.Mathlib.Omega.{arith}
use lib.Dec.{eqb, ltb}
use borrow.Author.Tests.{eqb-true, ne_eqb, ltb-true, le-ltb}
use Rattle.model.specs.Lists.{same}
use Rattle.model.specs.Tree.{Rec, rec, same_rec, Tree, Trees}
use Rattle.model.specs.Opcodes.{Const}
use Rattle.model.specs.Template.{is_parameter, Filling, fill_rec}
use Rattle.laws.proofs.Members.{and_both, same_refl}
use Rattle.theory.proofs.Acceptance.Each.{Each, EachIn}

-- no parameter
abbrev pub Other : Rec → Type 0
Other r = is_parameter r ≡ false

pub other_shape : (r : Rec) → (r.shape ≡ Const → ⊥) → Other r
unfolding is_parameter
other_shape r h = rw (ne_eqb r.shape Const h)

pub shape_other : (r : Rec) (n : ℕ) → eqb r.shape (suc n) ≡ true → Other r
shape_other r n e = other_shape r λ z. omega (arith, eqb-true r.shape (suc n) e)

pub shape_is_other : (r : Rec) (n : ℕ) → r.shape ≡ suc n → Other r
shape_is_other r n e = other_shape r λ z. omega arith

pub low_other : (r : Rec) → r.aux ≤ 6 → Other r
unfolding is_parameter
low_other r l = rw (le-ltb 6 r.aux l) (and-false (eqb r.shape Const))

pub parameter_is : (r : Rec) → is_parameter r ≡ true → (r.shape ≡ Const) × (6 < r.aux)
unfolding is_parameter
parameter_is r e =
    let h = and_both (eqb r.shape Const) (ltb 6 r.aux) e in
    (eqb-true r.shape Const h.0, ltb-true 6 r.aux h.1)

module _ (f : Filling) where
  pub other_stays : (r : Rec) → Other r → fill_rec f r ≡ r
  other_stays r e = λ i. rec r.shape r.opcode r.aux (lit_is i)
    where
      lit_is : ◌≡◌ {A = List ℕ} (elim (is_parameter r) [ true ↦ f.literal r.aux | false ↦ r.lit ]) r.lit
      lit_is = rw e

  pub parameter_gets : (r : Rec) → is_parameter r ≡ true →
      fill_rec f r ≡ rec r.shape r.opcode r.aux (f.literal r.aux)
  parameter_gets r e = λ i. rec r.shape r.opcode r.aux (lit_is i)
    where
      lit_is : ◌≡◌ {A = List ℕ} (elim (is_parameter r) [ true ↦ f.literal r.aux | false ↦ r.lit ])
          (f.literal r.aux)
      lit_is = rw e

-- ---- equality

-- a parameter has the value that v gives it
abbrev pub Valued : (ℕ → List ℕ) → Rec → Type 0
Valued v r = is_parameter r ≡ true → r.lit ≡ v r.aux

-- each record of a tree
abbrev pub ValuedTree : (ℕ → List ℕ) → Tree → Type 0
ValuedTree v = Each (Valued v)

abbrev pub ValuedTrees : (ℕ → List ℕ) → Trees → Type 0
ValuedTrees v = EachIn (Valued v)

pub other_valued : (v : ℕ → List ℕ) (r : Rec) → Other r → Valued v r
other_valued v r e z = cc

-- two records, each with another literal: where shapes and aux agree it matters whether the literals are the same
relabelled : (r s : Rec) (a b a' b' : List ℕ) →
    (r.shape ≡ s.shape → r.aux ≡ s.aux → same a b ≡ same a' b') →
    same_rec (rec r.shape r.opcode r.aux a) (rec s.shape s.opcode s.aux b) ≡
    same_rec (rec r.shape r.opcode r.aux a') (rec s.shape s.opcode s.aux b')
unfolding same_rec
relabelled r s a b a' b' h = go (eqb r.shape s.shape) (eqb r.opcode s.opcode) (eqb r.aux s.aux) refl refl
  where
    go : (x o y : Bool) → eqb r.shape s.shape ≡ x → eqb r.aux s.aux ≡ y →
        (x && o && y && same a b) ≡ (x && o && y && same a' b')
    go true true true d e = h (eqb-true r.shape s.shape d) (eqb-true r.aux s.aux e)
    go true true false d e = refl
    go true false y d e = refl
    go false o y d e = refl

alike : (r s : Rec) → r.shape ≡ s.shape → r.aux ≡ s.aux → is_parameter r ≡ is_parameter s
unfolding is_parameter
alike r s d e = ap₂ (λ (x y : ℕ). eqb x Const && ltb 6 y) d e

one_source : (w : ℕ → List ℕ) (a b : ℕ) → a ≡ b → same (w a) (w b) ≡ true
one_source w a b e = ap (λ (z : ℕ). same (w a) (w z)) (sym e) ∙ same_refl (w a)

pub same_kept : (f : Filling) (v : ℕ → List ℕ) (r s : Rec) → Valued v r → Valued v s →
    same_rec (fill_rec f r) (fill_rec f s) ≡ same_rec r s
same_kept f v r s p q = relabelled r s _ _ r.lit s.lit λ d e. go (is_parameter r) refl (alike r s d e) e
  where
    go : (b : Bool) → is_parameter r ≡ b → is_parameter r ≡ is_parameter s → r.aux ≡ s.aux →
        same (fill_rec f r).lit (fill_rec f s).lit ≡ same r.lit s.lit
    go true x y e =
        let z : is_parameter s ≡ true = sym y ∙ x in
        ap₂ same (ap (λ (t : Rec). t.lit) (parameter_gets f r x)) (ap (λ (t : Rec). t.lit) (parameter_gets f s z))
        ∙ (one_source f.literal r.aux s.aux e
        ∙ sym (ap₂ same (p x) (q z) ∙ one_source v r.aux s.aux e))
    go false x y e =
        ap₂ same (ap (λ (t : Rec). t.lit) (other_stays f r x)) (ap (λ (t : Rec). t.lit) (other_stays f s (sym y ∙ x)))
