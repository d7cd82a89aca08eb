-- What holds of an answer's value, if it has one: Hoare's rules for `◌>>=◌` and `guard`, and for what follows from it.
--
-- The laws of interning are stated so: a refusal owes nothing, and a value owes what the next step takes.
-- Assumes nothing.
use mathlib.Core.Path.{◌≡◌, refl}
use mathlib.Core.Bool.{Bool, true, false}
use Prim.Native.Nat.{ℕ}
use Rattle.model.specs.Answer.{Answer, refused, good, ◌>>=◌, guard}

abbrev pub Holds : {A : Type 0} → (A → Type 0) → Answer A → Type 0
Holds P (refused n p) = Unit {0}
Holds P (good a) = P a

pub holds_bind : {A B : Type 0} (P : A → Type 0) (Q : B → Type 0) (m : Answer A) (f : A → Answer B) →
    Holds P m → ((a : A) → P a → Holds Q (f a)) → Holds Q (m >>= f)
unfolding ◌>>=◌
holds_bind P Q (refused n p) f h k = tt
holds_bind P Q (good a) f h k = k a h

pub holds_guard : {A : Type 0} (P : A → Type 0) (b : Bool) (n p : ℕ) (a : Answer A) →
    (b ≡ true → Holds P a) → Holds P (guard b n p a)
unfolding guard
holds_guard P true n p a h = h refl
holds_guard P false n p a h = tt

pub holds_map : {A : Type 0} (P Q : A → Type 0) (m : Answer A) → Holds P m → ((a : A) → P a → Q a) → Holds Q m
holds_map P Q (refused n p) h k = tt
holds_map P Q (good a) h k = k a h

pub holds_good : {A : Type 0} (P : A → Type 0) {m : Answer A} {a : A} → m ≡ good a → Holds P m → P a
holds_good P e h = rw e at h
