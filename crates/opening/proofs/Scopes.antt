-- One scope more, whatever its word, and the tables before and then. In order: words kept; what the state stands for;
-- what holds of it.
-- Assumes nothing.
use Prim.Native.Nat.{ℕ, ◌+◌, ◌≤◌}
use mathlib.Core.Path.{◌≡◌, refl, sym, ap, ◌∙◌}
use mathlib.Core.Logic.{⊎_elim}
use Rattle.std.specs.Prelude.{Option, Some}
use mathlib.Core.List.{List, [], ◌∷◌, ◌++◌}
use native.Mathlib.Omega.{arith}
use native.Mathlib.Nat.{eq-or-lt_of_le}
use lib.ListN.{set}
use lib.Seq.{get_or-set_same}
use Rattle.regions.specs.Regions.{SCOPES, end}
use Rattle.model.specs.Intern.{open_scope}
use Rattle.model.specs.Intern as intern
use Rattle.laws.specs.Frame.{Frame}
use Rattle.laws.specs.Members.{Every}
use Rattle.laws.proofs.Frame.{frame_store}
use Rattle.laws.proofs.Later.{later_same}
use Rattle.tables.specs.declared.Tables.{Tables}
use Rattle.tables.specs.Tables.{tables_of, Open}
use Rattle.scopes.specs.Scopes.{scope_word, level_of, args_in, scopes_of, outward, Nested}
use Rattle.graph.specs.Graph.{Arena, graph_of}
use Rattle.graph.proofs.Laws.{scope_of, kids_low}
use Rattle.free_lists.specs.FreeLists.{Lists}
use Rattle.free_lists.proofs.Laws.{lists_agree, lists_graph}
use Rattle.interner.specs.declared.State.{State}
use Rattle.interner.specs.Levels.{AtLevel, ArgLevels}
use Rattle.interner.specs.State.{abs_of, Rep}
use Rattle.scopes.proofs.Laws.{scopes_more}
use Rattle.interner.proofs.Same.{Same, abs_same, rep_same, symbol_same}
use Rattle.opening.specs.Opening.{with_scope}

module _ {bs ws : List ℕ} {st : State} (rep : Rep bs ws st) (few : st.scopes ≤ 2048) (w : ℕ) where
  -- ---- words kept

  abbrev ws₁ : List ℕ
  ws₁ = set ws (SCOPES.first + st.scopes) w

  pub scope_frame : Frame (SCOPES.first + st.scopes) (end SCOPES) ws ws₁
  scope_frame =
      frame_store (SCOPES.first + st.scopes) (end SCOPES) (SCOPES.first + st.scopes) w ws (omega arith)
      (omega arith)

  pub scope_new : scope_word ws₁ st.scopes ≡ w
  scope_new = get_or-set_same ws (SCOPES.first + st.scopes) w 0 (omega (arith, rep.words))

  pub scope_same : Same ws ws₁ st
  scope_same = record {
    still = record {
      long = scope_frame.long;
      own = λ k l r. scope_frame.before k (omega (arith, rep.arena.scoped.few));
      slots = λ k l r. scope_frame.before k (omega (arith, rep.slots.few));
      scopes = λ k l r. scope_frame.before k r;
    };
    lists = λ g. lists_agree g ws ws₁ st.symbols rep.arena.scoped.few
        (λ k l r. scope_frame.after k (omega arith));
    entries = λ k l r. scope_frame.after k (omega arith);
    memo = λ k l r. scope_frame.after k (omega arith);
  }

  module _ (t t' : Tables) (is : Open t st.entries) where
    -- ---- what the state stands for

    pub scope_abs : (cur : ℕ) (args : Option (List ℕ)) (ts : List (List ℕ)) → tables_of ws₁ t' st.entries ≡ ts →
        scopes_of ws₁ (st.scopes + 1)
        ≡ scopes_of ws st.scopes
        ++ (record { around = outward (scopes_of ws st.scopes) cur; args = args } ∷ []) →
        abs_of bs ws₁ t' (with_scope st) ≡ open_scope cur args ts (abs_of bs ws t st)
    scope_abs cur args ts e f =
        let kept = abs_same bs ws ws₁ st rep scope_same t is in
        rw (e, f, ap (λ (z : intern.State). z.syms) kept, ap (λ (z : intern.State). z.memo) kept)

  -- ---- what holds of it

  module _ (nested : Nested ws₁ (st.scopes + 1))
      (own : (xs : List ℕ) → args_in w ≡ Some xs → Every (AtLevel ws st.symbols (level_of w)) xs) where
    old : Rep bs ws₁ st
    old = rep_same bs ws ws₁ st rep scope_same

    args_new : (xs : List ℕ) → args_in (scope_word ws₁ st.scopes) ≡ Some xs →
        Every (AtLevel ws₁ st.symbols (level_of (scope_word ws₁ st.scopes))) xs
    args_new xs e x i =
        let h = own xs (ap args_in (sym scope_new) ∙ e) x i in
        record {
          low = h.low;
          one = λ j. rw (symbol_same bs ws ws₁ st rep scope_same x h.low, scope_new) (h.one j);
        }

    args_more : ArgLevels ws₁ st.symbols (st.scopes + 1)
    args_more c lt =
        let le : c ≤ st.scopes = omega arith in
        ⊎_elim (λ e. rw e args_new) (λ l. old.levels.arguments c l) (eq-or-lt_of_le le)

    arena_more : Arena bs ws₁ st.symbols (st.scopes + 1)
    arena_more = record {
      scoped = record {
        few = rep.arena.scoped.few;
        long = old.arena.scoped.long;
        some_scope = omega arith;
        few_scopes = omega arith;
        nested = nested;
        placed = λ s lt. let l = old.arena.scoped.placed s lt in omega arith;
      };
      sound = old.arena.sound;
    }

    -- a scope more changes no free list
    lists_more : Lists (graph_of bs ws₁ st.symbols (st.scopes + 1) []) ws₁ st.symbols
    lists_more =
        lists_graph (graph_of bs ws₁ st.symbols st.scopes []) _ ws₁ st.symbols
        (later_same (graph_of bs ws₁ st.symbols st.scopes []) (graph_of bs ws₁ st.symbols (st.scopes + 1) [])
        st.symbols st.scopes (λ s lt. refl)
        (λ b lt. scopes_more ws₁ st.scopes (st.scopes + 1) b lt (omega arith))
        (λ s lt. rw (scope_of bs ws₁ st.symbols st.scopes [] s lt) (old.arena.scoped.placed s lt))
        (kids_low bs ws₁ st.symbols (st.scopes + 1) arena_more []))
        old.lists

    pub scope_rep : Rep bs ws₁ (with_scope st)
    scope_rep = record {
      words = old.words;
      arena = arena_more;
      slots = old.slots;
      sourced = old.sourced;
      levels = record { each = old.levels.each; arguments = args_more };
      lists = lists_more;
      entries = old.entries;
      memo = old.memo;
      few_readings = rep.few_readings;
    }
