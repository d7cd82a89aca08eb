-- Answers that differ by a map of their values, where the values meet a condition: the rules for `◌>>=◌` and `guard`.
-- Assumes nothing.
use mathlib.Core.Path.{◌≡◌, refl, ap, sym, subst}
use mathlib.Core.Bool.{Bool, true, false}
use Prim.Native.Nat.{ℕ}
use Rattle.model.specs.Answer.{Answer, refused, good, ◌>>=◌, guard}
use Rattle.model.specs.Template.{map_answer}

-- the first answer is the second with its value mapped, and the second's value meets S
abbrev pub Fills : {A : Type 0} → (A → A) → (A → Type 0) → Answer A → Answer A → Type 0
Fills g S m' (refused n p) = m' ≡ refused n p
Fills g S m' (good a) = (m' ≡ good (g a)) × S a

pub fills-is : {A : Type 0} (g : A → A) (S : A → Type 0) (m' m : Answer A) → Fills g S m' m → m' ≡ map_answer g m
fills-is g S m' (refused n p) h = h
fills-is g S m' (good a) h = h.0

pub fills-bind : {A B : Type 0} (g : A → A) (S : A → Type 0) (h : B → B) (T : B → Type 0) (m' m : Answer A)
    (k' k : A → Answer B) → Fills g S m' m → ((a : A) → S a → Fills h T (k' (g a)) (k a)) →
    Fills h T (m' >>= k') (m >>= k)
unfolding ◌>>=◌
fills-bind g S h T m' (refused n p) k' k e w = ap (λ m. m >>= k') e
fills-bind g S h T m' (good a) k' k e w = subst (λ m. Fills h T (m >>= k') (k a)) (sym e.0) (w a e.1)

pub fills-guard : {A : Type 0} (g : A → A) (S : A → Type 0) (b : Bool) (n p : ℕ) (m' m : Answer A) →
    Fills g S m' m → Fills g S (guard b n p m') (guard b n p m)
unfolding guard
fills-guard g S true n p m' m h = h
fills-guard g S false n p m' m h = refl
