-- Members of lists of numbers. In order: a member; what each member has; numbers below n; lists that hold each number once.
-- Assumes nothing.
use Rattle.std.specs.Prelude.{◌≡◌, ◌⊎◌, List, [], ◌∷◌, ℕ, ◌<◌}

abbrev pub In : ℕ → List ℕ → Type 0
In a [] = ⊥
In a (x ∷ xs) = (a ≡ x) ⊎ In a xs

-- each member has a property
abbrev pub Every : (ℕ → Type 0) → List ℕ → Type 0
Every P xs = (s : ℕ) → In s xs → P s

abbrev pub Under : ℕ → List ℕ → Type 0
Under n xs = Every (λ x. x < n) xs

-- no number stands twice
abbrev pub Once : List ℕ → Type 0
Once [] = Unit {0}
Once (x ∷ xs) = (In x xs → ⊥) × Once xs
