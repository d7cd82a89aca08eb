-- What is read off a literal: parts, and the arguments of a lambda, one by one.
-- In order: what takes a part off; n arguments as a whole literal; the one that a list begins with; the first few.
-- Assumes nothing.
use Rattle.std.specs.Prelude.{ℕ, zero, suc, ◌≡◌, true, List, [], ◌∷◌, drop, Option, None, Some, option_copied}
use Rattle.std.specs.Borrow.{Bor}
use Rattle.model.specs.Bytes.{u32}
use Rattle.model.specs.Shape.{Reader, a_arg, times, whole}
use Rattle.model.specs.Binding.{opt_of}

-- what a call gives is what the reader leaves
abbrev pub TakesOff : (Bor (List ℕ) → Option (Bor (List ℕ)) → Type 0) → Reader → Type 0
TakesOff gives f = (lit : Bor (List ℕ)) (r : Option (Bor (List ℕ))) → gives lit r → option_copied r ≡ f lit.now

-- n arguments are the whole literal
abbrev pub AllArgs : ℕ → List ℕ → Type 0
AllArgs n lit = whole (times n a_arg) lit ≡ true

-- the argument that a list begins with, its id and its opt, and what is left after it
unfoldable pub first_arg : List ℕ → Option ((ℕ × List ℕ) × List ℕ)
first_arg bs = elim (a_arg bs) [ None ↦ None | Some rest ↦ Some ((u32 bs, opt_of (drop 4 bs)), rest) ]

-- the first n arguments, as far as they stand
unfoldable pub first_args : ℕ → List ℕ → List (ℕ × List ℕ)
first_args zero bs = []
first_args (suc n) bs = elim (first_arg bs) [ None ↦ [] | Some p ↦ p.0 ∷ first_args n p.1 ]
