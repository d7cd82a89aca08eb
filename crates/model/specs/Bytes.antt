-- Numbers as bytes, little-endian. A byte list is a list of numbers below 256.
-- Assumes nothing.
use Rattle.std.specs.Prelude.{ℕ, ◌+◌, ◌*◌, ◌/◌, ◌%◌, List, [], ◌∷◌, get_or}

-- the number in the first bytes of a list
unfoldable pub u16 : List ℕ → ℕ
u16 b = get_or b 0 0 + 256 * get_or b 1 0

unfoldable pub u32 : List ℕ → ℕ
u32 b = get_or b 0 0 + 256 * (get_or b 1 0 + 256 * (get_or b 2 0 + 256 * get_or b 3 0))

-- a number as two or four bytes, if it fits them
unfoldable pub put16 : ℕ → List ℕ
put16 n = n % 256 ∷ n / 256 ∷ []

unfoldable pub put32 : ℕ → List ℕ
put32 n = n % 256 ∷ n / 256 % 256 ∷ n / 65536 % 256 ∷ n / 16777216 ∷ []
