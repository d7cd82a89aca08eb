-- Constructors apart: an equation between two of them that differ proves whatever is asked for; and equal answers have
-- equal parts.
--
-- In order: options; answers; truth values. Where the goal is itself an equation, `cc` needs none of these.
-- Not here: equal options (`same_Some`, Rattle.std.proofs.lemmas.Option).
-- Assumes nothing.
use mathlib.Core.Path.{◌≡◌, sym}
use mathlib.Core.Bool.{true, false, true≢false}
use Rattle.std.specs.Prelude.{None, Some}
use Rattle.std.proofs.lemmas.Option.{none-some}
use native.Mathlib.Omega.{arith}
use Prim.Native.Nat.{ℕ}
use Rattle.model.specs.Answer.{Answer, refused, good}

module _ {A B : Type 0} where
  pub none_some : {a : A} → None ≡ Some a → B
  none_some {a} e = absurd (none-some a e)

  pub some_none : {a : A} → Some a ≡ None → B
  some_none {a} e = absurd (none-some a (sym e))

  pub refused_good : {n p : ℕ} {a : A} → refused n p ≡ good a → B
  refused_good e = let z : ◌≡◌ {A = ℕ} 0 1 = cc in absurd (omega arith)

module _ {A : Type 0} where
  pub good_inj : {x y : A} → good x ≡ good y → x ≡ y
  good_inj e = cc

  pub refused_parts : {n m p q : ℕ} → ◌≡◌ {A = Answer A} (refused n p) (refused m q) → (n ≡ m) × (p ≡ q)
  refused_parts e = (cc, cc)

pub true_false : {B : Type 0} → true ≡ false → B
true_false e = absurd (true≢false e)

pub false_true : {B : Type 0} → false ≡ true → B
false_true e = absurd (true≢false (sym e))
