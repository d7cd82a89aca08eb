-- Projections remembered in words, one to a pair, from MEMO on. In order: a pair; the pairs; one more; what is asked of
-- them. Assumes nothing.
use Rattle.std.specs.Prelude.{ℕ, ◌+◌, ◌*◌, ◌/◌, ◌%◌, ◌<◌, List, [], ◌∷◌, get_or, set}
use Rattle.laws.specs.Stack.{stack_of}
use Rattle.regions.specs.Regions.{MEMO}

-- a symbol and its two projections, in a word
abbrev pub triple_of : ℕ → ℕ × ℕ × ℕ
triple_of w = (w % 512, w / 512 % 512, w / 262144)

abbrev pub triple_at : List ℕ → ℕ → ℕ × ℕ × ℕ
triple_at ws k = triple_of (get_or ws (MEMO.first + k) 0)

-- the first n pairs, the newest first
unfoldable pub memo_of : List ℕ → ℕ → List (ℕ × ℕ × ℕ)
memo_of ws n = stack_of (triple_at ws) n

abbrev pub remembered : List ℕ → ℕ → ℕ → ℕ → ℕ → List ℕ
remembered ws n p a b = set ws (MEMO.first + n) (p + 512 * a + 262144 * b)

-- the symbols whose projections are remembered
abbrev pub keys_in : List (ℕ × ℕ × ℕ) → List ℕ
keys_in [] = []
keys_in (t ∷ ts) = t.0 ∷ keys_in ts

-- what is remembered are symbols below n
abbrev pub MemoBelow : ℕ → List (ℕ × ℕ × ℕ) → Type 0
MemoBelow n [] = Unit {0}
MemoBelow n (t ∷ ts) = ((t.0 < n) × (t.1 < n) × (t.2 < n)) × MemoBelow n ts
