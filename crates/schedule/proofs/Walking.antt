-- Code that walks: one symbol; a symbol after its neighbours; a loop over symbols; a scope's schedule.
-- Assumes nothing.
use Prim.Native.Nat.{ℕ, suc, ◌+◌, ◌<◌}
use mathlib.Core.Path.{◌≡◌, refl, sym, ap, ◌∙◌}
use mathlib.Core.Bool.{Bool, true, false}
use mathlib.Core.List.{List, [], ◌∷◌, ◌++◌}
use native.Mathlib.Omega.{arith}
use lib.ListN.{length, get_or, take, replicate}
use Rattle.model.specs.Gate.{Graph}
use Rattle.model.specs.Schedule.{each, schedule}
use Rattle.laws.specs.Members.{Under}
use Rattle.laws.proofs.Falls.{under_at, schedule_low}
use Rattle.laws.proofs.Short.{once_short}
use Rattle.laws.proofs.Orders.{each_last}
use Rattle.laws.proofs.Later.{schedule_slots}
use Rattle.graph.specs.Tests.{held_in, Tests}
use Rattle.outsiders.proofs.Lists.{next}
use Rattle.schedule.specs.declared.scheduler.Order.{Order}
use Rattle.schedule.specs.declared.scheduler.Order.TheVariants.{Schedule}
use Rattle.schedule.specs.declared.scheduler.Scheduler.{Scheduler}
use Rattle.schedule.specs.Schedule.{order_of, passed, step_of, visit_of, listed, graph_in}
use Rattle.schedule.specs.Schedule.{Near, Shows, Lent, Walked, Scheduled}
use Rattle.schedule.proofs.Orders.{low_kids, step_passed, step_visit, step_seen, visit-after, steps_fresh}
use Rattle.schedule.proofs.Lending.{shows_empty, walked_none, walked_as, walked_then}

module _ (w : Scheduler) where
  pub few_symbols : {s : ℕ} → s < w.graph.symbols → s < 512
  few_symbols lt = omega (arith, w.graph.scoped.few)

module _ (w : Scheduler) {seen : List Bool} {list : List ℕ} (s : ℕ) (lt : s < w.graph.symbols) where
  -- ---- one symbol

  -- passed over or not, a symbol that was seen adds nothing
  pub visit_seen : get_or seen s false ≡ true → Walked w (λ g. step_of g w.order s) seen list seen list
  visit_seen e = walked_none (λ vs h. go vs h (passed (graph_in w) w.order s) refl)
    where
      go : (vs : List ℕ) → Shows w seen list vs → (p : Bool) → passed (graph_in w) w.order s ≡ p →
          vs ≡ step_of (graph_in w) w.order s vs
      go vs h true p = step_passed (graph_in w) w.order s vs p
      go vs h false p =
          step_seen (graph_in w) (low_kids w []) w.order s vs p
          (sym (h.known s (few_symbols w lt)) ∙ e)

  module _ {p : Bool} (test : Tests w.graph (λ g. passed g w.order s) p) where
    pub visit-passed : p ≡ true → Walked w (λ g. step_of g w.order s) seen list seen list
    visit-passed e = walked_none (λ vs h. step_passed (graph_in w) w.order s vs (sym (test w.forest.now []) ∙ e))

    pub visit_goes : p ≡ false → {seen' : List Bool} {list' : List ℕ} →
        Walked w (λ g. visit_of g w.order s) seen list seen' list' →
        Walked w (λ g. step_of g w.order s) seen list seen' list'
    visit_goes e walked = walked_as walked (λ vs h. step_visit (graph_in w) w.order s vs (sym (test w.forest.now []) ∙ e))

  -- ---- a symbol after its neighbours

  module _ (z : get_or seen s false ≡ false) {ds : List ℕ} (near : Near w s ds) {seen₁ : List Bool}
      {list₁ : List ℕ} (walked : Walked w (λ g. each (step_of g w.order) ds) seen list seen₁ list₁) where
    pub near_done : Lent w seen list → get_or seen₁ s false ≡ false
    near_done h =
        (walked.shows h.visited h.shows).known s (few_symbols w lt)
        ∙ steps_fresh (graph_in w) w.order s ds h.visited near.below
        (sym (h.shows.known s (few_symbols w lt)) ∙ z)

    pub visit_done : {seen₂ : List Bool} {list₂ : List ℕ} →
        Walked w (λ _ vs. vs ++ (s ∷ [])) seen₁ list₁ seen₂ list₂ →
        Walked w (λ g. visit_of g w.order s) seen list seen₂ list₂
    visit_done q =
        let g = graph_in w in
        walked_as (walked_then walked q)
        (λ vs h. ap (λ (l : List ℕ). each (step_of g w.order) l vs ++ (s ∷ [])) near.is
        ∙ visit-after g (low_kids w []) w.order s vs (sym (h.known s (few_symbols w lt)) ∙ z))

-- ---- a loop over symbols

module _ {w : Scheduler} {seen : List Bool} {list : List ℕ} where
  pub walk_start : Walked w (λ g. each (step_of g w.order) []) seen list seen list
  unfolding each
  walk_start = walked_none (λ vs h. refl)

  pub walk_next : (run : List ℕ) (j d : ℕ) → j < length run → d ≡ get_or run j 0 → {seen₁ seen₂ : List Bool}
      {list₁ list₂ : List ℕ} → Walked w (λ g. each (step_of g w.order) (take j run)) seen list seen₁ list₁ →
      Walked w (λ g. step_of g w.order d) seen₁ list₁ seen₂ list₂ →
      Walked w (λ g. each (step_of g w.order) (take (j + 1) run)) seen list seen₂ list₂
  walk_next run j d lt e p q =
      let g = graph_in w in
      walked_as (walked_then p q) (λ vs h. sym (ap (λ (l : List ℕ). each (step_of g w.order) l vs) (next run j d lt e)
      ∙ each_last (step_of g w.order) (take j run) d vs))

-- ---- a scope's schedule

scheduled : (g : Graph) (o : Order) (root sc : ℕ) → o ≡ Schedule sc →
    listed g o (step_of g o root []) ≡ schedule g root sc
unfolding step_of passed order_of schedule listed
scheduled g o root sc e = rw e refl

pub schedule_done : (w : Scheduler) (root sc : ℕ) → w.order ≡ Schedule sc → {seen seen' : List Bool} {list list' : List ℕ} →
    seen ≡ replicate 512 false → list ≡ [] →
    Walked w (λ g. step_of g w.order root) seen list seen' list' →
    Scheduled w.forest.now w.graph root sc list'
schedule_done w root sc o {list' = list'} e none walked =
    let g = graph_in w in
    let h = walked.shows [] (shows_empty w e none) in
    let all = h.is ∙ scheduled g w.order root sc o in
    record {
      fit = omega (arith, once_short w.graph.symbols list' h.held.once h.held.low, w.graph.scoped.few);
      is = λ slots. all ∙ schedule_slots g (held_in w.graph w.forest.now slots) refl refl (low_kids w slots) root sc;
      low = λ k lt.
          let low : Under (suc root) list' = rw all (schedule_low g (low_kids w []) root sc) in
          omega (arith, under_at (suc root) list' low k lt);
    }
