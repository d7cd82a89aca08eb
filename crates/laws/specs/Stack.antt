-- A stack of entries, newest first: ids in force, bindings, remembered projections, a table's symbols.
-- Assumes nothing.
use Rattle.std.specs.Prelude.{ℕ, zero, suc, List, [], ◌∷◌}

-- the entries below n of those that `entry` reads, newest first
unfoldable pub stack_of : {A : Type 0} → (ℕ → A) → ℕ → List A
stack_of entry zero = []
stack_of entry (suc n) = entry n ∷ stack_of entry n
