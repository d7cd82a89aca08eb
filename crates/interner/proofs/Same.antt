-- The words that a state hangs on. In order: words kept (`Same`); what holds of the state, part by part; what it stands
-- for; words after those in use; a state with other entries, pairs and readings.
-- Assumes nothing.
use Prim.Native.Nat.{ℕ, suc, ◌+◌, ◌<◌, ◌≤◌}
use mathlib.Core.Path.{◌≡◌, sym, ap, ◌∙◌}
use mathlib.Core.List.{List, []}
use native.Mathlib.Omega.{arith}
use Rattle.regions.specs.Regions.{ENTRIES, MEMO}
use Rattle.model.specs.Intern.{Sym, sym_at}
use Rattle.model.specs.Gate.{Graph}
use Rattle.laws.specs.Members.{In}
use Rattle.laws.specs.Frame.{Agree, Frame}
use Rattle.key.specs.Key.{symbol_at}
use Rattle.symbols.specs.Symbols.{syms_of, AllSound}
use Rattle.symbols.specs.Sourced.{AllSourced}
use Rattle.symbols.proofs.Laws.{syms_agree}
use Rattle.tables.specs.declared.Tables.{Tables}
use Rattle.tables.specs.Tables.{Open}
use Rattle.tables.proofs.Stack.{tables_agree, hinted_agree}
use Rattle.scopes.specs.Scopes.{scope_word, level_of}
use Rattle.scopes.proofs.Open.{word_agree, scopes_agree}
use Rattle.memo.specs.Memo.{memo_of}
use Rattle.memo.proofs.Laws.{memo_agree}
use Rattle.graph.specs.Graph.{graph_of}
use Rattle.graph.proofs.Laws.{within_sound, Still, still_above, node_agree, arena_agree, graph_agree}
use Rattle.free_lists.specs.FreeLists.{Lists}
use Rattle.free_lists.proofs.Laws.{lists_agree}
use Rattle.interner.specs.declared.State.{State}
use Rattle.interner.specs.Levels.{stored_deps, Levelled, AtLevel, ArgLevels, AllLevelled}
use Rattle.interner.specs.State.{abs_of, Slotted, Entered, Remembered, Rep}
use Rattle.interner.proofs.Levels.{any_has-same}

-- the symbols' children are in slots that are in use
pub used_sound : (bs ws : List ℕ) (st : State) → Rep bs ws st → AllSound bs ws st.slots st.symbols
used_sound bs ws st rep = within_sound bs ws st.slots st.symbols rep.slots.within rep.arena.sound

-- ---- words kept: those that are in use

pub record Same (ws ws' : List ℕ) (st : State) : Type 0 where
  pub still : Still ws ws' st.slots st.symbols st.scopes
  pub lists : (g : Graph) → Lists g ws st.symbols → Lists g ws' st.symbols
  pub entries : Agree ws ws' ENTRIES.first (ENTRIES.first + st.entries)
  pub memo : Agree ws ws' MEMO.first (MEMO.first + st.memo)

module _ (bs ws ws' : List ℕ) (st : State) (rep : Rep bs ws st) (same : Same ws ws' st) where
  -- ---- what holds of the state

  pub symbol_same : (i : ℕ) → i < st.symbols → symbol_at ws' i ≡ symbol_at ws i
  symbol_same = node_agree same.still

  syms_same : syms_of bs ws' st.symbols ≡ syms_of bs ws st.symbols
  syms_same =
      syms_agree bs ws ws' st.slots same.still.slots st.symbols same.still.own (used_sound bs ws st rep)

  slots_same : Slotted bs ws' st.slots st.symbols
  slots_same = record {
    few = rep.slots.few;
    all = rw syms_same rep.slots.all;
    within = λ i lt. rw (symbol_same i lt) (rep.slots.within i lt);
  }

  sourced_same : AllSourced bs ws' st.symbols
  sourced_same s lt = rw (symbol_same s lt) (rep.sourced s lt)

  deps_same : (s : ℕ) → s < st.symbols → stored_deps bs ws' s ≡ stored_deps bs ws s
  deps_same s lt =
      ap (λ (l : List Sym). (sym_at l s).deps)
      (syms_agree bs ws ws' st.slots same.still.slots (suc s) (λ k l r. same.still.own k l (omega arith))
      (λ i l. used_sound bs ws st rep i (omega arith)))

  levelled_same : (s : ℕ) → s < st.symbols → Levelled bs ws' s
  levelled_same s lt =
      let h = rep.levels.each s lt in
      let low : (a : ℕ) → In a (stored_deps bs ws s) → symbol_at ws' a ≡ symbol_at ws a =
      λ a i. let l : a < suc s = h.low a i in symbol_same a (omega arith) in
      record {
        low = rw (deps_same s lt) h.low;
        is = λ j. rw (deps_same s lt, symbol_same s lt) (h.is j ∙ sym (any_has-same ws ws' j (stored_deps bs ws s) low));
      }

  args_same : ArgLevels ws' st.symbols st.scopes
  args_same c lt xs e x i =
      let w : scope_word ws' c ≡ scope_word ws c = word_agree ws ws' st.scopes same.still.scopes c lt in
      let h : AtLevel ws st.symbols (level_of (scope_word ws c)) x = rep.levels.arguments c lt xs (rw w at e) x i in
      record { low = h.low; one = λ j. rw (w, symbol_same x h.low) (h.one j) }

  levels_same : AllLevelled bs ws' st.symbols st.scopes
  levels_same = record { each = levelled_same; arguments = args_same }

  lists_same : Lists (graph_of bs ws' st.symbols st.scopes []) ws' st.symbols
  lists_same = rw (graph_agree same.still bs (used_sound bs ws st rep) []) (same.lists _ rep.lists)

  entries-same : Entered bs ws' st.entries st.symbols
  entries-same = record {
    few = rep.entries.few;
    below = λ k lt. rw (same.entries (ENTRIES.first + k) (omega arith) (omega arith)) (rep.entries.below k lt);
    hinted = hinted_agree bs ws ws' st.slots st.symbols st.entries (used_sound bs ws st rep)
        rep.entries.below same.still.own same.still.slots same.entries rep.entries.hinted;
  }

  memos_same : memo_of ws' st.memo ≡ memo_of ws st.memo
  memos_same = memo_agree ws ws' st.memo same.memo

  memo_same : Remembered ws' st.memo st.symbols
  memo_same = record {
    few = rep.memo.few;
    below = rw memos_same rep.memo.below;
    once = rw memos_same rep.memo.once;
  }

  pub rep_same : Rep bs ws' st
  rep_same = record {
    words = omega (arith, same.still.long, rep.words);
    arena = arena_agree same.still bs rep.slots.within rep.arena;
    slots = slots_same;
    sourced = sourced_same;
    levels = levels_same;
    lists = lists_same;
    entries = entries-same;
    memo = memo_same;
    few_readings = rep.few_readings;
  }

  -- ---- what it stands for

  pub abs_same : (t : Tables) → Open t st.entries → abs_of bs ws' t st ≡ abs_of bs ws t st
  abs_same t opened =
      rw (
        syms_same,
        tables_agree ws ws' t st.entries opened same.entries,
        scopes_agree ws ws' st.scopes same.still.scopes,
        memos_same,
      )

-- ---- words that come after those in use: pairs of projections to come, pending symbols and all later ones

pub same_above : (bs ws ws' : List ℕ) (st : State) → Rep bs ws st → (lo hi : ℕ) → MEMO.first + st.memo ≤ lo →
    Frame lo hi ws ws' → Same ws ws' st
same_above bs ws ws' st rep lo hi le f = record {
  still = still_above f (omega arith) rep.slots.few rep.arena.scoped;
  lists = λ g. lists_agree g ws ws' st.symbols rep.arena.scoped.few (λ k l r. f.before k (omega arith));
  entries = λ k l r. f.before k (omega (arith, rep.entries.few, rep.arena.scoped.few));
  memo = λ k l r. f.before k (omega arith);
}

-- ---- the same symbols and scopes, with other entries, pairs and readings

pub rep_with : {bs ws : List ℕ} {st : State} {entries memo readings : ℕ} → Rep bs ws st →
    Entered bs ws entries st.symbols → Remembered ws memo st.symbols → readings ≤ 2048 →
    Rep bs ws (record {
      entries = entries;
      symbols = st.symbols;
      slots = st.slots;
      scopes = st.scopes;
      memo = memo;
      readings = readings;
    })
rep_with rep entered remembered few = record {
  words = rep.words;
  arena = rep.arena;
  slots = rep.slots;
  sourced = rep.sourced;
  levels = rep.levels;
  lists = rep.lists;
  entries = entered;
  memo = remembered;
  few_readings = few;
}
