-- Bindings in words, two to an entry, from BINDINGS on. In order: an entry; the entries as an environment; a lambda's
-- arguments. Assumes nothing.
use Rattle.std.specs.Prelude.{ℕ, ◌+◌, ◌*◌, List, [], ◌∷◌, length, get_or, set}
use Rattle.model.specs.Intern.{Env}
use Rattle.laws.specs.Stack.{stack_of}
use Rattle.regions.specs.Regions.{BINDINGS}

-- id and symbol of entry k
abbrev pub entry_at : List ℕ → ℕ → ℕ × ℕ
entry_at ws k = (get_or ws (BINDINGS.first + 2 * k) 0, get_or ws (BINDINGS.first + 2 * k + 1) 0)

abbrev pub bound : List ℕ → ℕ → ℕ → ℕ → List ℕ
bound ws k id symbol = set (set ws (BINDINGS.first + 2 * k) id) (BINDINGS.first + 2 * k + 1) symbol

-- the first n entries, the newest first
unfoldable pub env_of : List ℕ → ℕ → Env
env_of ws n = stack_of (entry_at ws) n

-- a lambda's arguments as bindings, the first argument first
abbrev pub arg_bindings : List (ℕ × List ℕ) → List ℕ → Env
arg_bindings [] ss = []
arg_bindings (a ∷ xs) [] = []
arg_bindings (a ∷ xs) (s ∷ ss) = (a.0, s) ∷ arg_bindings xs ss

-- bindings put above n entries, the first of them last: of m, binding j becomes entry n + m - 1 - j
unfoldable pub bound_all : List ℕ → ℕ → Env → List ℕ
bound_all ws n [] = ws
bound_all ws n (b ∷ bs) = bound_all (bound ws (n + length bs) b.0 b.1) n bs
