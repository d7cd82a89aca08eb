-- What a step leaves alone of the words that it is lent. In order: a run of words that are the same; all but a run.
-- Assumes nothing.
use Rattle.std.specs.Prelude.{ℕ, ◌<◌, ◌≤◌, ◌≡◌, List, length, get_or}

-- the words from lo up to hi are the same
abbrev pub Agree : List ℕ → List ℕ → ℕ → ℕ → Type 0
Agree ws ws' lo hi = (k : ℕ) → lo ≤ k → k < hi → get_or ws' k 0 ≡ get_or ws k 0

-- no word changed but those from lo up to hi
pub record Frame (lo hi : ℕ) (ws ws' : List ℕ) : Type 0 where
  pub long : length ws' ≡ length ws
  pub before : (k : ℕ) → k < lo → get_or ws' k 0 ≡ get_or ws k 0
  pub after : (k : ℕ) → hi ≤ k → get_or ws' k 0 ≡ get_or ws k 0
