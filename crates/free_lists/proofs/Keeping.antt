-- The free list of the newest symbol. In order: worked out; none of a symbol in the outermost scope; none of one
-- without children; the end that is stored.
-- Assumes nothing.
use Prim.Native.Nat.{ℕ, suc, ◌+◌, ◌<◌, ◌≤◌}
use mathlib.Core.Path.{◌≡◌, sym, ap, ◌∙◌}
use mathlib.Core.Bool.{true, false}
use mathlib.Core.List.{List, []}
use native.Mathlib.Omega.{arith}
use native.Mathlib.Decide.{dec_lt}
use lib.ListN.{set}
use Rattle.model.specs.Lists.{is_in}
use Rattle.model.specs.Intern.{scope_at}
use Rattle.model.specs.Gate.{Graph, sym_of}
use Rattle.model.specs.Schedule.{is_outside, classify, rel_of, free_vars}
use Rattle.laws.specs.Gather.{gather_step}
use Rattle.laws.proofs.Empty.{free_leaf, free_outermost}
use Rattle.regions.specs.Regions.{FREE_ENDS, FREE_LISTS, SLOTS}
use Rattle.key.specs.Key.{symbol_at}
use Rattle.symbols.specs.Words.{words_from}
use Rattle.symbols.proofs.Laws.{kids_at_lem}
use Rattle.scopes.specs.Scopes.{scope_word, parent_of, scopes_of, Nested}
use Rattle.scopes.proofs.Laws.{outwards}
use Rattle.scopes.proofs.Climb.{ancestor_hit, ancestor_miss, classify_local, classify_deeper}
use Rattle.graph.specs.Graph.{Scoped, Arena, graph_of}
use Rattle.graph.proofs.Laws.{scope_of, kids_low}
use Rattle.free_lists.specs.FreeLists.{end_at, list_at, Lists, with_list, Filed}
use Rattle.free_lists.proofs.Filed.{stored_past, filed, filed_gathers}
use Rattle.free_lists.proofs.Laws.{with_past, with_room}

-- the graph whose newest symbol is c
abbrev graph : List ℕ → List ℕ → ℕ → ℕ → Graph
graph bs ws c m = graph_of bs ws (c + 1) m []

-- ---- worked out

module _ (bs ws : List ℕ) (c m : ℕ) (arena : Arena bs ws (c + 1) m) (h : Lists (graph bs ws c m) ws c)
    (few : end_at ws c ≤ (FREE_LISTS).size) where
  pub files : Filed ws c
  files = filed h few (kids_low bs ws (c + 1) m arena [])

  pub worked : (list : List ℕ) → list ≡ gather_step (graph bs ws c m) (list_at ws) c →
      list ≡ free_vars (graph bs ws c m) c
  worked list is = is ∙ filed_gathers h few (kids_low bs ws (c + 1) m arena [])

-- ---- none of a symbol in the outermost scope

-- the outermost scope is around each other
outermost_in : (ws : List ℕ) (m : ℕ) → Nested ws m → (k : ℕ) → k < m → 0 < k →
    true ≡ is_in 0 (scope_at (scopes_of ws m) k).around
outermost_in ws m h = outwards ws m h (λ k. 0 < k → true ≡ is_in 0 (scope_at (scopes_of ws m) k).around) λ k q rest z.
    elim (dec_lt 0 (parent_of (scope_word ws k))) [
      | yes p ↦ rest z p ∙ ancestor_miss ws 0 m k h z q m q (λ e. omega arith)
      | no p ↦ ancestor_hit ws 0 m k h z q m q (omega arith)
    ]

-- so nothing lies outside of it
nothing_outside : (bs ws : List ℕ) (n m : ℕ) → Scoped ws n m → (slots : List ℕ) (s : ℕ) → s < n →
    is_outside (rel_of (graph_of bs ws n m slots) s 0) ≡ false
unfolding rel_of
nothing_outside bs ws n m h slots s lt =
    let g = graph_of bs ws n m slots in
    let sc = (symbol_at ws s).scope in
    let at = h.placed s lt in
    ap (λ (z : ℕ). is_outside (classify g z 0)) (scope_of bs ws n m slots s lt)
    ∙ elim (dec_lt 0 sc) [
      | yes p ↦
          ap is_outside (sym (classify_deeper g sc 0 (λ e. omega arith) (sym (outermost_in ws m h.nested sc at p))))
      | no p ↦
          let e : sc ≡ 0 = omega arith in
          ap (λ (z : ℕ). is_outside (classify g z 0)) e ∙ ap is_outside (sym (classify_local g 0))
    ]

module _ (bs ws : List ℕ) (c m : ℕ) (arena : Arena bs ws (c + 1) m) where
  newest : c < c + 1
  newest = omega arith

  pub none_outermost : (symbol_at ws c).scope ≡ 0 → free_vars (graph bs ws c m) c ≡ []
  none_outermost e =
      let z : (sym_of (graph bs ws c m) c).scope ≡ 0 = scope_of bs ws (c + 1) m [] c newest ∙ e in
      free_outermost (graph bs ws c m) (kids_low bs ws (c + 1) m arena []) c
      (λ s lt. rw z (nothing_outside bs ws (c + 1) m arena.scoped [] s (omega arith)))

  -- ---- none of one without children

  pub none_leaf : (symbol_at ws c).count ≡ 0 → free_vars (graph bs ws c m) c ≡ []
  unfolding words_from
  none_leaf e =
      free_leaf (graph bs ws c m) (kids_low bs ws (c + 1) m arena []) c
      (kids_at_lem bs ws (c + 1) c newest ∙ ap (words_from ws (SLOTS.first + (symbol_at ws c).kids)) e)

-- ---- the end that is stored

module _ (g : Graph) (ws : List ℕ) (c first : ℕ) (e : first ≡ end_at ws c) (h : Lists g ws c) where
  place : (FREE_ENDS).first + c + 1 ≡ (FREE_ENDS).first + suc c
  place = omega arith

  -- the lists are past the last entry already
  pub keep_past : (xs : List ℕ) → (FREE_LISTS).size < first →
      set ws ((FREE_ENDS).first + c + 1) first ≡ with_list ws c xs
  keep_past xs p =
      let past : first ≡ suc (FREE_LISTS).size = e ∙ stored_past h c (omega arith) (omega arith) in
      rw (place, past) (sym (with_past ws c xs (omega arith)))

  -- the new list is empty
  pub keep_empty : (xs : List ℕ) → xs ≡ [] → set ws ((FREE_ENDS).first + c + 1) first ≡ with_list ws c xs
  keep_empty xs none = elim (dec_lt (FREE_LISTS).size first) [
    | yes p ↦ keep_past xs p
    | no p ↦
        let z : end_at ws c + 0 ≡ first = omega arith in
        rw (none, place) (sym (with_room ws c [] (omega arith)
        ∙ ap (set ws ((FREE_ENDS).first + suc c)) z))
  ]
