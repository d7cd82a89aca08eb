-- Code that makes free lists: what a symbol of a body needs from outside; the free list.
-- Assumes nothing.
use Prim.Native.Nat.{ℕ, ◌<◌}
use mathlib.Core.Path.{◌≡◌, refl, sym, ap, ◌∙◌}
use mathlib.Core.Bool.{Bool, false}
use mathlib.Core.List.{List, []}
use native.Mathlib.Omega.{arith}
use lib.ListN.{length, replicate, get_or-replicate}
use Rattle.model.specs.Gate.{sym_of}
use Rattle.model.specs.Schedule.{local, deeper, outside, rel_of, each, visit, body_neighbours, local_dep_order}
use Rattle.model.specs.Schedule.{outsiders, collect, free_step, free_vars}
use Rattle.laws.proofs.Later.{slots_same}
use Rattle.laws.proofs.Orders.{own_local, free_opens}
use Rattle.key.specs.declared.Symbol.{Symbol}
use Rattle.key.specs.Key.{symbol_at}
use Rattle.symbols.specs.Words.{slots_from}
use Rattle.scopes.specs.declared.Rel as code
use Rattle.scopes.specs.declared.Rel.TheVariants.{Local, Deeper, Outside}
use Rattle.graph.specs.Tests.{held_in, Related}
use Rattle.graph.proofs.Laws.{scope_of}
use Rattle.outsiders.specs.Outsiders.{offered, Held, Listed}
use Rattle.outsiders.proofs.Lists.{listed_none, listed_as}
use Rattle.outsiders.proofs.Offers.{kids_below}
use Rattle.schedule.specs.declared.scheduler.Order.{Order}
use Rattle.schedule.specs.declared.scheduler.Order.TheVariants.{Body}
use Rattle.schedule.specs.declared.scheduler.Scheduler.{Scheduler}
use Rattle.schedule.specs.Schedule.{order_of, stops, near_of, step_of, visit_of}
use Rattle.schedule.specs.Schedule.{needs_of, listed, graph_in, Near, Walked}
use Rattle.schedule.proofs.Orders.{low_kids, near_rel, needs_rel, told}
use Rattle.schedule.proofs.Lending.{shows_empty, put_body}
use Rattle.schedule.proofs.Walking.{visit_done}
use Rattle.schedule.proofs.Places.{kids_are}

-- ---- what a symbol of a body needs

module _ (w : Scheduler) (cs s : ℕ) (r : code.Rel) (rel : Related w.graph s cs r) where
  free_near : (o : Order) → o ≡ Body cs → r ≡ Deeper → near_of (graph_in w) o s ≡ free_vars (graph_in w) s
  unfolding stops
  free_near o f e = rw f (near_rel (graph_in w) (Body cs) s refl deeper (told w.graph s cs e rel w.forest.now []))

  module _ {list : List ℕ} where
    pub needs_local : r ≡ Local → {list' : List ℕ} →
        Listed w.forest.now w.graph (λ h. outsiders h cs (local_dep_order (sym_of h s))) list list' →
        Listed w.forest.now w.graph (λ h. outsiders h cs (needs_of h cs s)) list list'
    needs_local e h =
        listed_as h (λ slots o. let g = held_in w.graph w.forest.now slots in
        ap (λ (ds : List ℕ). outsiders g cs ds o)
        (sym (needs_rel g cs s local (told w.graph s cs e rel w.forest.now slots))))

    pub needs_none : r ≡ Outside → Held w.graph.symbols list →
        Listed w.forest.now w.graph (λ h. outsiders h cs (needs_of h cs s)) list list
    unfolding outsiders
    needs_none e h =
        listed_as (listed_none h) (λ slots o. let g = held_in w.graph w.forest.now slots in
        ap (λ (ds : List ℕ). outsiders g cs ds o)
        (sym (needs_rel g cs s outside (told w.graph s cs e rel w.forest.now slots))))

    -- its free list
    pub needs_run : w.order ≡ Body cs → r ≡ Deeper → {run : List ℕ} → Near w s run → {list' : List ℕ} →
        Listed w.forest.now w.graph (offered cs run) list list' →
        Listed w.forest.now w.graph (λ h. outsiders h cs (needs_of h cs s)) list list'
    needs_run b e near h =
        listed_as h (λ slots o. let g = held_in w.graph w.forest.now slots in
        ap (λ (ds : List ℕ). outsiders g cs ds o)
        (near.is ∙ (free_near w.order b e
        ∙ (slots_same (graph_in w) g refl refl (low_kids w slots) s
        ∙ sym (needs_rel g cs s deeper (told w.graph s cs e rel w.forest.now slots))))))

-- ---- the free list

-- of a body in the scope of c
module _ (w : Scheduler) (c : ℕ) (lt : c < w.graph.symbols) (y : Symbol)
    (loaded : y ≡ symbol_at w.graph.words.now c) (body : w.order ≡ Body y.scope) where
  own : (slots : List ℕ) → (sym_of (held_in w.graph w.forest.now slots) c).scope ≡ y.scope
  own slots =
      scope_of w.forest.now w.graph.words.now w.graph.symbols w.graph.scopes slots c lt
      ∙ ap (λ (z : Symbol). z.scope) (sym loaded)

  lies : (slots : List ℕ) → local ≡ rel_of (held_in w.graph w.forest.now slots) c y.scope
  lies slots =
      let g = held_in w.graph w.forest.now slots in sym (own_local g c) ∙ ap (rel_of g c) (own slots)

  own_near : (o : Order) → o ≡ Body y.scope → near_of (graph_in w) o c ≡ (sym_of (graph_in w) c).kids
  unfolding stops
  own_near o f = rw f (near_rel (graph_in w) (Body y.scope) c refl local (lies []))

  own_free : (o : Order) → o ≡ Body y.scope →
      listed (graph_in w) o (visit_of (graph_in w) o c []) ≡ free_vars (graph_in w) c
  unfolding order_of listed free_step
  own_free o f =
      let g = graph_in w in
      rw f (ap (λ (z : ℕ). collect g (free_vars g) z (visit (body_neighbours g (free_vars g) z) c []) []) (sym (own []))
      ∙ sym (free_opens g (low_kids w []) c))

  -- the body is walked from its children, and c comes last
  pub free_done : {run : List ℕ} → run ≡ slots_from w.graph.words.now y.kids y.count → {seen seen₁ : List Bool}
      {list list₁ list₂ : List ℕ} → seen ≡ replicate 512 false → list ≡ [] →
      Walked w (λ g. each (step_of g w.order) run) seen list seen₁ list₁ → c < length seen₁ →
      Listed w.forest.now w.graph (λ h. outsiders h y.scope (local_dep_order (sym_of h c))) list₁ list₂ →
      list₂ ≡ free_vars (graph_in w) c
  free_done {run} r e none walked long h =
      let g = graph_in w in
      let few : c < 512 = omega (arith, w.graph.scoped.few) in
      let put = put_body w c long y.scope body (listed_as h (λ slots o. let k = held_in w.graph w.forest.now slots in
      ap (λ (ds : List ℕ). outsiders k y.scope ds o) (sym (needs_rel k y.scope c local (lies slots))))) in
      let near : Near w c run = record {
        below = kids_below w.forest.now w.graph c w.stocked.arena lt y loaded run r;
        is = kids_are w c lt loaded r ∙ sym (own_near w.order body);
      } in
      let done = visit_done w c lt (rw (e, get_or-replicate {A = Bool} 512 c false false few)) near walked put in
      (done.shows [] (shows_empty w e none)).is ∙ own_free w.order body
