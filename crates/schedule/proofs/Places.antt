-- The neighbours of a symbol, by how it lies: its children, its free list, or none.
-- Assumes nothing.
use Prim.Native.Nat.{ℕ, ◌+◌, ◌<◌, ◌≤◌}
use mathlib.Core.Path.{◌≡◌, sym, ap, ◌∙◌}
use mathlib.Core.Bool.{Bool, true, false}
use mathlib.Core.List.{List, []}
use native.Mathlib.Numerals.{add-one}
use Rattle.std.specs.Prelude.{Option, None, Some, MatchOption}
use Rattle.std.proofs.Common.{Bor}
use Rattle.model.specs.Gate.{sym_of}
use Rattle.model.specs.Schedule.{local, deeper, outside, rel_of, free_vars}
use Rattle.laws.proofs.Falls.{free_falls}
use Rattle.regions.specs.Regions.{FREE_LISTS}
use Rattle.key.specs.declared.Symbol.{Symbol}
use Rattle.key.specs.Key.{symbol_at}
use Rattle.symbols.specs.Words.{slots_from}
use Rattle.symbols.proofs.Laws.{kids_at_lem}
use Rattle.scopes.specs.declared.Rel as code
use Rattle.scopes.specs.declared.Rel.TheVariants.{Local, Deeper, Outside}
use Rattle.scopes.specs.Relation.{rel_in}
use Rattle.graph.specs.Tests.{Related, Tests}
use Rattle.outsiders.proofs.Offers.{kids_below}
use Rattle.free_lists.specs.FreeLists.{end_at, list_at}
use Rattle.free_lists.proofs.Filed.{stored_rising, stored_is}
use Rattle.schedule.specs.declared.scheduler.Scheduler.{Scheduler}
use Rattle.schedule.specs.Schedule.{scope_of, stops, near_of, graph_in, Near, LiesDeeper}
use Rattle.schedule.proofs.Orders.{low_kids, near_end, near_rel, told}

module _ (w : Scheduler) (s : ℕ) where
  -- the children
  pub kids_are : s < w.graph.symbols → {y : Symbol} → y ≡ symbol_at w.graph.words.now s → {run : List ℕ} →
      run ≡ slots_from w.graph.words.now y.kids y.count → run ≡ (sym_of (graph_in w) s).kids
  kids_are lt loaded r =
      r ∙ (ap (λ (z : Symbol). slots_from w.graph.words.now z.kids z.count) loaded
      ∙ sym (kids_at_lem w.forest.now w.graph.words.now w.graph.symbols s lt))

  no_near : near_of (graph_in w) w.order s ≡ [] → Near w s []
  no_near e = record { below = λ x i. absurd i; is = sym e }

  -- a deeper symbol's free list
  pub near_free : LiesDeeper w s → {list : List ℕ} → list ≡ free_vars (graph_in w) s → Near w s list
  near_free h is = record {
    below = rw is (free_falls (graph_in w) (low_kids w []) s);
    is = is ∙ sym (near_rel (graph_in w) w.order s h.goes_on deeper (sym h.lies));
  }

  module _ (lt : s < w.graph.symbols) where
    -- an end of the list of s, asked for only if the list is stored
    pub rises : end_at w.graph.words.now (s + 1) ≤ (FREE_LISTS).size →
        end_at w.graph.words.now s ≤ end_at w.graph.words.now (s + 1)
    rises = rw (add-one s) (stored_rising w.stocked.lists s lt)

    module _ {p : Bool} (test : Tests w.graph (λ g. stops g w.order s) p) where
      pub at_end : p ≡ true → Near w s []
      at_end e = no_near (near_end (graph_in w) w.order s (sym (test w.forest.now []) ∙ e))

      module _ (left : p ≡ false) (cs : ℕ) (from : cs ≡ scope_of w.order) (r : code.Rel)
          (rel : Related w.graph s cs r) where
        goes_on : stops (graph_in w) w.order s ≡ false
        goes_on = sym (test w.forest.now []) ∙ left

        from_scope : (v : code.Rel) → r ≡ v → rel_in v ≡ rel_of (graph_in w) s (scope_of w.order)
        from_scope v e = told w.graph s (scope_of w.order) e (rw from at rel) w.forest.now []

        lies : (v : code.Rel) → r ≡ v → near_of (graph_in w) w.order s ≡ elim (rel_in v) [
          | local ↦ (sym_of (graph_in w) s).kids
          | deeper ↦ free_vars (graph_in w) s
          | outside ↦ []
        ]
        lies v e = near_rel (graph_in w) w.order s goes_on (rel_in v) (from_scope v e)

        pub at_local : r ≡ Local → {y : Symbol} → y ≡ symbol_at w.graph.words.now s → {run : List ℕ} →
            run ≡ slots_from w.graph.words.now y.kids y.count → Near w s run
        at_local e loaded is = record {
          below = kids_below w.forest.now w.graph s w.stocked.arena lt _ loaded _ is;
          is = kids_are lt loaded is ∙ sym (lies Local e);
        }

        pub at_outside : r ≡ Outside → Near w s []
        at_outside e = no_near (lies Outside e)

        pub at_deeper : r ≡ Deeper → (found : Option (Bor (List ℕ))) →
            MatchOption found ((FREE_LISTS).size < end_at w.graph.words.now (s + 1))
            (λ list. (end_at w.graph.words.now (s + 1) ≤ (FREE_LISTS).size)
            × (list.now ≡ list_at w.graph.words.now s)) →
            MatchOption found (LiesDeeper w s) (λ near. Near w s near.now)
        at_deeper e = go
          where
            deep : LiesDeeper w s
            deep = record { goes_on = goes_on; lies = sym (from_scope Deeper e) }

            go : (found : Option (Bor (List ℕ))) →
                MatchOption found ((FREE_LISTS).size < end_at w.graph.words.now (s + 1))
                (λ list. (end_at w.graph.words.now (s + 1) ≤ (FREE_LISTS).size)
                × (list.now ≡ list_at w.graph.words.now s)) →
                MatchOption found (LiesDeeper w s) (λ near. Near w s near.now)
            go None q = deep
            go (Some list) q =
                near_free deep (q.1 ∙ stored_is w.stocked.lists s lt (rw (add-one s) at q.0))
