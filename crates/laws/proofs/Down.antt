-- The equation of `down`, with no condition on the step: the value at n is the step from the values below n.
--
-- In order: `under`, which masks what is not below n (`under_low`, `under_same`); fuel that suffices is as good as
-- more; `down_step`; what a step keeps (`down_holds`); two recursions side by side (`down_related`), of
-- one type or of two.
-- The meaning and the value of a symbol, free lists and building are such recursions: each is opened by `down_step` and
-- `under_low`, or goes by `down_holds`.
-- Assumes nothing.
use mathlib.Core.Path.{◌≡◌, refl, ap, sym, subst, fun_ext}
use mathlib.Core.Bool.{Bool, true, false}
use Prim.Native.Nat.{ℕ, zero, suc, ◌<◌}
use native.Mathlib.Omega.{arith}
use lib.Dec.{ltb}
use borrow.Author.Tests.{ltb-true, lt-ltb}
use Rattle.model.specs.Down.{under, down_fuel, down}
use Rattle.laws.proofs.Induction.{strong}

module _ {A : Type 0} (z : A) (step : (ℕ → A) → ℕ → A) where
  -- below n the mask is not seen
  pub under_low : (n : ℕ) (f : ℕ → A) (d : ℕ) → ltb d n ≡ true → under z n f d ≡ f d
  unfolding under
  under_low n f d e = rw (e, under)

  pub under_same : (n : ℕ) (f g : ℕ → A) → ((d : ℕ) → d < n → f d ≡ g d) → under z n f ≡ under z n g
  unfolding under
  under_same n f g h = fun_ext λ d. go d (ltb d n) refl
    where
      go : (d : ℕ) (b : Bool) → ltb d n ≡ b →
          ◌≡◌ {A = A} (elim b [ true ↦ f d | false ↦ z ]) (elim b [ true ↦ g d | false ↦ z ])
      go d true e = h d (ltb-true d n e)
      go d false e = refl

  fuel_enough : (k m n : ℕ) → n < k → n < m → down_fuel z step k n ≡ down_fuel z step m n
  unfolding down_fuel
  fuel_enough zero m n h h' = absurd (omega arith)
  fuel_enough (suc k) zero n h h' = absurd (omega arith)
  fuel_enough (suc k) (suc m) n h h' =
      ap (λ (f : ℕ → A). step f n) (under_same n _ _ λ d l. fuel_enough k m d (omega arith) (omega arith))

  pub down_step : (n : ℕ) → down z step n ≡ step (under z n (down z step)) n
  unfolding down down_fuel
  down_step n =
      ap (λ (f : ℕ → A). step f n) (under_same n _ _ λ d l. fuel_enough n (suc d) d l (omega arith))

  -- what a step keeps, of the values below, holds of each value
  pub down_holds : (P : ℕ → A → Type 0) → ((f : ℕ → A) (n : ℕ) → ((d : ℕ) → d < n → P d (f d)) → P n (step f n)) →
      (n : ℕ) → P n (down z step n)
  down_holds P h = strong (λ n. P n (down z step n)) λ n ih.
      subst (P n) (sym (down_step n)) (h (under z n (down z step)) n λ d l.
      subst (P d) (sym (under_low n (down z step) d (lt-ltb d n l))) (ih d l))

-- what relates both relates either
pub if_related : {A B : Type 0} (R : A → B → Type 0) (b : Bool) (x y : A) (x' y' : B) → R x x' → R y y' →
    R (elim b [ true ↦ x | false ↦ y ]) (elim b [ true ↦ x' | false ↦ y' ])
if_related R true x y x' y' h k = h
if_related R false x y x' y' h k = k

-- two recursions side by side: what their steps keep holds of their values
module _ {A B : Type 0} (R : A → B → Type 0) (z' : A) (z : B) (zero_ok : R z' z) (step' : (ℕ → A) → ℕ → A)
    (step : (ℕ → B) → ℕ → B)
    (step_ok : (v' : ℕ → A) (v : ℕ → B) → ((d : ℕ) → R (v' d) (v d)) → (n : ℕ) → R (step' v' n) (step v n)) where
  under_related : (n : ℕ) (v' : ℕ → A) (v : ℕ → B) → ((d : ℕ) → R (v' d) (v d)) →
      (d : ℕ) → R (under z' n v' d) (under z n v d)
  unfolding under
  under_related n v' v h d = if_related R (ltb d n) (v' d) z' (v d) z (h d) zero_ok

  fuel_related : (k n : ℕ) → R (down_fuel z' step' k n) (down_fuel z step k n)
  unfolding down_fuel
  fuel_related zero n = zero_ok
  fuel_related (suc k) n =
      step_ok (under z' n (λ d. down_fuel z' step' k d)) (under z n (λ d. down_fuel z step k d))
      (under_related n (λ d. down_fuel z' step' k d) (λ d. down_fuel z step k d) (λ d. fuel_related k d)) n

  pub down_related : (n : ℕ) → R (down z' step' n) (down z step n)
  unfolding down
  down_related n = fuel_related (suc n) n
