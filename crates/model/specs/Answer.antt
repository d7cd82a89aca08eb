-- Answers: a refusal, with the number and the place that document 01 gives it, or a value; and how answers follow one
-- another.
-- Assumes nothing.
use Rattle.std.specs.Prelude.{ℕ, Bool, true, false, List, [], ◌∷◌, Option, None, Some}

pub data Answer (A : Type 0) : Type 0 where
  refused : ℕ → ℕ → Answer A
  good : A → Answer A

-- go on with a value, or hand a refusal on
unfoldable pub ◌>>=◌ : {A B : Type 0} → Answer A → (A → Answer B) → Answer B
◌>>=◌ (refused n p) f = refused n p
◌>>=◌ (good a) f = f a

infixl 10 ◌>>=◌
-- number n at the place where its check fails, if there is one; else the answer that follows
unfoldable pub unless : {A : Type 0} → ℕ → Option ℕ → Answer A → Answer A
unless n None a = a
unless n (Some at) a = refused n at

-- number n at place p if the limit is reached; else the answer that follows
unfoldable pub guard : {A : Type 0} → Bool → ℕ → ℕ → Answer A → Answer A
guard true n p a = a
guard false n p a = refused n p

-- checks in their order, each a number and the place where it fails, if it does: the first that fails is the answer
unfoldable pub checked : {A : Type 0} → List (ℕ × Option ℕ) → A → Answer A
checked [] a = good a
checked (c ∷ cs) a = unless c.0 c.1 (checked cs a)

-- a check that has no place of its own fails at 0
abbrev pub at0 : Bool → Option ℕ
at0 true = Some 0
at0 false = None
