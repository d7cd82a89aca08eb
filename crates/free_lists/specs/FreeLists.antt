-- Free lists in the work words, one after the other in symbol order. In order: how many entries they have; where they
-- stand; which of them are stored; one list more; what is asked of lists to make one more of them, and what they give.
-- Assumes nothing.
use Rattle.std.specs.Prelude.{ℕ, zero, suc, ◌+◌, ◌-◌, ◌<◌, ◌≤◌, ◌≡◌, true, false, List, [], ltb, length, get_or, set}
use Rattle.std.proofs.lemmas.List.Edits.{sets}
use Rattle.model.specs.Gate.{Graph}
use Rattle.model.specs.Schedule.{each, body_only, free_vars}
use Rattle.laws.specs.Members.{Under}
use Rattle.laws.specs.Gather.{give}
use Rattle.regions.specs.Regions.{FREE_ENDS, FREE_LISTS}
use Rattle.symbols.specs.Words.{words_from}
use Rattle.graph.specs.declared.held.Graph as code
use Rattle.graph.specs.Tests.{held_in, Over}

-- ---- entries

-- the entries of the free lists of the symbols below s
unfoldable pub entries_to : Graph → ℕ → ℕ
entries_to g zero = 0
entries_to g (suc s) = entries_to g s + length (free_vars g s)

-- ---- where the lists stand

-- where the lists of the symbols below s end, and that of s begins
abbrev pub end_at : List ℕ → ℕ → ℕ
end_at ws s = get_or ws ((FREE_ENDS).first + s) 0

-- the list of symbol s
abbrev pub list_at : List ℕ → ℕ → List ℕ
list_at ws s = words_from ws ((FREE_LISTS).first + end_at ws s) (end_at ws (suc s) - end_at ws s)

-- ---- which are stored

-- of the first n symbols of a graph: each whose list and those before it have at most 4,096 entries together. The first
-- list that would pass them is not stored, nor is a later one: their ends are past the last entry
pub record Lists (g : Graph) (ws : List ℕ) (n : ℕ) : Type 0 where
  pub ends : (s : ℕ) → s ≤ n → entries_to g s ≤ (FREE_LISTS).size → end_at ws s ≡ entries_to g s
  pub past : (s : ℕ) → s ≤ n → (FREE_LISTS).size < entries_to g s → end_at ws s ≡ suc (FREE_LISTS).size
  pub lists : (s : ℕ) → s < n → entries_to g (suc s) ≤ (FREE_LISTS).size → list_at ws s ≡ free_vars g s

-- the symbols of a graph that is held, over a forest of bytes bs, with their free lists in its words
pub record Stocked (bs : List ℕ) (g : code.Graph) : Type 0 where
  pub arena : Over bs g
  pub lists : Lists (held_in g bs []) g.words.now g.symbols

-- ---- one list more

-- list xs of symbol c, after those of the symbols below c, if there is room for it
unfoldable pub with_list : List ℕ → ℕ → List ℕ → List ℕ
with_list ws c xs =
    elim (ltb (FREE_LISTS).size (end_at ws c + length xs)) [
      | true ↦ set ws ((FREE_ENDS).first + suc c) (suc (FREE_LISTS).size)
      | false ↦
          set (sets ws ((FREE_LISTS).first + end_at ws c) xs) ((FREE_ENDS).first + suc c) (end_at ws c + length xs)
    ]

-- ---- lists to make one more of

-- the lists of the symbols below k stand in the words, each of lower symbols
pub record Filed (ws : List ℕ) (k : ℕ) : Type 0 where
  pub rising : (s : ℕ) → s < k → end_at ws s ≤ end_at ws (suc s)
  pub few : (s : ℕ) → s ≤ k → end_at ws s ≤ (FREE_LISTS).size
  pub low : (s : ℕ) → s < k → Under s (list_at ws s)

-- what the symbols ds of a body in scope cs give, by the lists in the words
abbrev pub gives : List ℕ → ℕ → List ℕ → Graph → List ℕ → List ℕ
gives ws cs ds g out = each (give g (list_at ws) cs) (body_only g cs ds) out
