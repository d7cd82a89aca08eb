-- A symbol that is there already: the last of some pending children. In order: the last; that it is a symbol, for
-- callers.
-- Assumes nothing.
use Prim.Native.Nat.{ℕ, zero, suc, ◌+◌, ◌-◌, ◌<◌}
use mathlib.Core.Path.{◌≡◌, ◌∙◌}
use mathlib.Core.List.{List}
use native.Mathlib.Omega.{arith}
use lib.ListN.{get_or}
use Rattle.regions.specs.Regions.{PENDING}
use Rattle.model.specs.Lists.{last}
use Rattle.symbols.specs.Words.{words_from, pending_from}

-- ---- the last

last_word : (ws : List ℕ) (at n : ℕ) → last (words_from ws at (suc n)) ≡ get_or ws (at + n) 0
unfolding last words_from
last_word ws at zero = let e : at + 0 ≡ at = omega arith in rw e
last_word ws at (suc n) = let e : at + suc n ≡ suc at + n = omega arith in rw e (last_word ws (suc at) n)

pub last_pending : (ws : List ℕ) (held count : ℕ) → 0 < count →
    last (pending_from ws held count) ≡ get_or ws (PENDING.first + held + count - 1) 0
last_pending ws held zero lt = absurd (omega arith)
last_pending ws held (suc n) lt =
    let e : PENDING.first + held + n ≡ PENDING.first + held + suc n - 1 = omega arith in last_word ws (PENDING.first + held) n ∙ rw e

-- ---- that it is a symbol

pub last_low : (ws : List ℕ) (held count n : ℕ) → 0 < count →
    ((k : ℕ) → k < count → get_or ws (PENDING.first + held + k) 0 < n) → last (pending_from ws held count) < n
last_low ws held zero n lt h = absurd (omega arith)
last_low ws held (suc m) n lt h = rw (last_word ws (PENDING.first + held) m) (h m (omega arith))
