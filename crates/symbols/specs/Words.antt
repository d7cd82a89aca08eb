-- Runs of words in the work memory: child slots from SLOTS on, pending symbols from PENDING on.
-- Assumes nothing.
use Rattle.std.specs.Prelude.{ℕ, zero, suc, ◌+◌, List, [], ◌∷◌, get_or}
use Rattle.regions.specs.Regions.{SLOTS, PENDING}

-- n words from `at` on
unfoldable pub words_from : List ℕ → ℕ → ℕ → List ℕ
words_from ws at zero = []
words_from ws at (suc n) = get_or ws at 0 ∷ words_from ws (suc at) n

abbrev pub slots_from : List ℕ → ℕ → ℕ → List ℕ
slots_from ws at n = words_from ws (SLOTS.first + at) n

abbrev pub pending_from : List ℕ → ℕ → ℕ → List ℕ
pending_from ws held n = words_from ws (PENDING.first + held) n
