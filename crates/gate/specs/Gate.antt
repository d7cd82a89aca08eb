-- Counts of symbols in work words: word s of region USES is the count of symbol s, word s of REACHED is 1 if it is
-- reached.
-- In order: what the functions do to words; what holds of the words of symbols; what the words hold at the end.
-- Assumes nothing.
use Rattle.std.specs.Prelude.{ℕ, zero, suc, ◌+◌, ◌<◌, ◌≤◌, ◌≡◌, Bool, true, false, List, [], ◌∷◌, eqb, length, get_or, set, replicate}
use Rattle.std.proofs.lemmas.List.Edits.{sets}
use Rattle.model.specs.Lists.{is_in}
use Rattle.model.specs.Intern.{Scope}
use Rattle.model.specs.Gate.{reach, reachable, usage}
use Rattle.laws.specs.Frame.{Frame}
use Rattle.regions.specs.Regions.{SLOTS, USES, REACHED, WORDS, end}
use Rattle.key.specs.Key.{symbol_at}
use Rattle.symbols.specs.Symbols.{syms_of}

-- ---- what the functions do to words

abbrev pub uses_at : List ℕ → ℕ → ℕ
uses_at ws s = get_or ws (USES.first + s) 0

abbrev pub reached_at : List ℕ → ℕ → ℕ
reached_at ws s = get_or ws (REACHED.first + s) 0

-- the symbols below n are counted 0 and not reached
unfoldable pub cleared : List ℕ → ℕ → List ℕ
cleared ws n = sets (sets ws USES.first (replicate n 0)) REACHED.first (replicate n 0)

-- one use more of symbol s, which is reached
unfoldable pub noted : List ℕ → ℕ → List ℕ
noted ws s = set (set ws (USES.first + s) (uses_at ws s + 1)) (REACHED.first + s) 1

unfoldable pub all_noted : List ℕ → List ℕ → List ℕ
all_noted ws [] = ws
all_noted ws (k ∷ ks) = all_noted (noted ws k) ks

-- the children of symbol s noted, if it is reached
unfoldable pub visited : (ℕ → List ℕ) → List ℕ → ℕ → List ℕ
visited kids ws s = elim (eqb (reached_at ws s) 1) [ true ↦ all_noted ws (kids s) | false ↦ ws ]

-- the symbols below n visited, the highest first
unfoldable pub visited_down : (ℕ → List ℕ) → List ℕ → ℕ → List ℕ
visited_down kids ws zero = ws
visited_down kids ws (suc n) = visited_down kids (visited kids ws n) n

-- ---- what holds of the words of symbols

-- the slots of symbol i are in their region, and its children are lower symbols
pub record Lower (ws : List ℕ) (i : ℕ) : Type 0 where
  pub slots : (symbol_at ws i).kids + (symbol_at ws i).count ≤ SLOTS.size
  pub lower : (k : ℕ) → k < (symbol_at ws i).count → get_or ws (SLOTS.first + (symbol_at ws i).kids + k) 0 < i

-- n symbols whose uses can be counted
pub record Countable (ws : List ℕ) (n : ℕ) : Type 0 where
  pub few : n ≤ 512
  pub words : WORDS ≤ length ws
  pub kids : (i : ℕ) → i < n → Lower ws i

-- the counts of the symbols below n are far from a word's largest number
abbrev pub Small : List ℕ → ℕ → Type 0
Small ws n = (s : ℕ) → s < n → uses_at ws s < 2000000000

-- n words from `at` on are symbols that may be noted
pub record Notable (ws : List ℕ) (at n : ℕ) : Type 0 where
  pub fit : at + n ≤ USES.first
  pub long : WORDS ≤ length ws
  pub short : n ≤ SLOTS.size
  pub low : (k : ℕ) → k < n → get_or ws (at + k) 0 < 512
  pub small : (k : ℕ) → k < n → uses_at ws (get_or ws (at + k) 0) < 2000000000

-- ---- what the words hold at the end

-- no word changed but those of counts
abbrev pub CountsOnly : List ℕ → List ℕ → Type 0
CountsOnly ws ws' = Frame USES.first (end REACHED) ws ws'

-- the counts of symbols from n on are as they were, and whether they are reached
abbrev pub OthersKept : ℕ → List ℕ → List ℕ → Type 0
OthersKept n ws ws' = (s : ℕ) → n ≤ s → s < 512 → (uses_at ws' s ≡ uses_at ws s) × (reached_at ws' s ≡ reached_at ws s)

-- whether a symbol is reached, as its word says
abbrev pub bit : Bool → ℕ
bit true = 1
bit false = 0

-- the symbols below n that are reached from the root are known, and the slots of these are counted
pub record Reached (ws ws' : List ℕ) (n root : ℕ) : Type 0 where
  pub uses : (bs : List ℕ) (scs : List Scope) (s : ℕ) → s < n →
      uses_at ws' s ≡ usage (reachable (syms_of bs ws n) scs root) s
  pub reached : (bs : List ℕ) (s : ℕ) → s < n →
      reached_at ws' s ≡ bit (is_in s (reach (syms_of bs ws n) (suc root) (root ∷ [])))
  pub kept : CountsOnly ws ws'
  pub others : OthersKept n ws ws'
