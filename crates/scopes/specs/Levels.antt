-- A set of numbers as the bits of a number. Assumes nothing.
use Rattle.std.specs.Prelude.{ℕ, ◌/◌, ◌%◌, ◌^◌, Bool, eqb}

-- whether k is in the set m: bit k of m is 1
unfoldable pub has : ℕ → ℕ → Bool
has m k = eqb (m / 2 ^ k % 2) 1
