-- Lists that are lent with what was seen. In order: an empty list; one symbol more, in a body's order and in a
-- schedule; a walk, step by step.
-- Assumes nothing.
use Prim.Native.Nat.{ℕ, ◌<◌}
use mathlib.Core.Path.{◌≡◌, refl, sym, ap, subst, ◌∙◌}
use mathlib.Core.Bool.{Bool, true, false}
use mathlib.Core.Logic.{inl}
use mathlib.Core.List.{List, [], ◌∷◌, ◌++◌}
use native.Mathlib.Omega.{arith}
use lib.Dec.{eqb}
use lib.ListN.{length, get_or, set, replicate, get_or-replicate}
use lib.Seq.{get_or-set_same, get_or-set_other}
use borrow.Author.Tests.{eqb-true, eqb-false}
use Rattle.model.specs.Lists.{is_in}
use Rattle.model.specs.Gate.{Graph}
use Rattle.model.specs.Schedule.{outsiders, collect, free_vars}
use Rattle.laws.proofs.Members.{in_is_in, in_right, is_in-last}
use Rattle.laws.proofs.Orders.{collect-last}
use Rattle.outsiders.specs.Outsiders.{Listed}
use Rattle.outsiders.proofs.Lists.{held_none, held_last, held_room}
use Rattle.schedule.specs.declared.scheduler.Order.{Order}
use Rattle.schedule.specs.declared.scheduler.Order.TheVariants.{Body, Schedule}
use Rattle.schedule.specs.declared.scheduler.Scheduler.{Scheduler}
use Rattle.schedule.specs.Schedule.{needs_of, listed, graph_in, Shows, Lent, Walked}

-- ---- an empty list

module _ (w : Scheduler) {seen : List Bool} {list : List ℕ} (e : seen ≡ replicate 512 false) (none : list ≡ []) where
  pub shows_empty : Shows w seen list []
  unfolding is_in listed collect
  shows_empty = record {
    held = rw none (held_none w.graph.symbols);
    known = λ s lt. rw (e, get_or-replicate {A = Bool} 512 s false false lt);
    is = none ∙ go w.order;
  }
    where
      go : (o : Order) → [] ≡ listed (graph_in w) o []
      go (Body cs) = refl
      go (Schedule sc) = refl

  pub lent_empty : Lent w seen list
  lent_empty = record { visited = []; shows = shows_empty }

-- ---- one symbol more

known_more : (seen : List Bool) (vs : List ℕ) (s : ℕ) → s < length seen →
    ((x : ℕ) → x < 512 → get_or seen x false ≡ is_in x vs) → (x : ℕ) → x < 512 →
    get_or (set seen s true) x false ≡ is_in x (vs ++ (s ∷ []))
known_more seen vs s lt known x l = go (eqb x s) refl
  where
    go : (b : Bool) → eqb x s ≡ b → get_or (set seen s true) x false ≡ is_in x (vs ++ (s ∷ []))
    go true e =
        let q : x ≡ s = eqb-true x s e in
        rw (
          q,
          get_or-set_same seen s true false lt,
          in_is_in s (vs ++ (s ∷ [])) (in_right s vs (s ∷ []) (inl refl)),
        )
    go false e =
        let ne : x ≡ s → ⊥ = eqb-false x s e in
        rw (get_or-set_other seen s x true false ne, is_in-last vs s x ne) (known x l)

-- what a body's order lists, and a schedule
listed_body : (g : Graph) (o : Order) (cs : ℕ) → o ≡ Body cs → (vs : List ℕ) →
    listed g o vs ≡ collect g (free_vars g) cs vs []
unfolding listed
listed_body g o cs e vs = rw e refl

listed_plain : (g : Graph) (o : Order) (sc : ℕ) → o ≡ Schedule sc → (vs : List ℕ) → listed g o vs ≡ vs
unfolding listed
listed_plain g o sc e vs = rw e refl

module _ (w : Scheduler) {seen : List Bool} {list : List ℕ} (s : ℕ) (long : s < length seen) where
  -- in a body's order
  pub put_body : (cs : ℕ) → w.order ≡ Body cs → {list' : List ℕ} →
      Listed w.forest.now w.graph (λ h. outsiders h cs (needs_of h cs s)) list list' →
      Walked w (λ _ vs. vs ++ (s ∷ [])) seen list (set seen s true) list'
  unfolding needs_of
  put_body cs e h = record {
    shows = λ vs p. record {
      held = h.held;
      known = known_more seen vs s long p.known;
      is =
          let g = graph_in w in
          h.is []
          ∙ (ap (outsiders g cs (needs_of g cs s)) (p.is ∙ listed_body g w.order cs e vs)
          ∙ (sym (collect-last g cs (free_vars g) vs s []) ∙ sym (listed_body g w.order cs e (vs ++ (s ∷ [])))));
    };
  }

  -- in a schedule
  module _ {sc : ℕ} (e : w.order ≡ Schedule sc) (lt : s < w.graph.symbols) (z : get_or seen s false ≡ false) where
    new : {vs : List ℕ} → Shows w seen list vs → is_in s list ≡ false
    new {vs} p =
        ap (is_in s) (p.is ∙ listed_plain (graph_in w) w.order sc e vs)
        ∙ (sym (p.known s (omega (arith, w.graph.scoped.few))) ∙ z)

    pub put_room : Lent w seen list → length list < 512
    put_room h =
        omega (arith, held_room w.graph.symbols s list h.shows.held lt (new h.shows), w.graph.scoped.few)

    pub put_plain : {list' : List ℕ} → list' ≡ list ++ (s ∷ []) →
        Walked w (λ _ vs. vs ++ (s ∷ [])) seen list (set seen s true) list'
    put_plain f = rw f (record {
      shows = λ vs p. record {
        held = held_last w.graph.symbols s list p.held lt (new p);
        known = known_more seen vs s long p.known;
        is =
            ap (λ (l : List ℕ). l ++ (s ∷ [])) (p.is ∙ listed_plain (graph_in w) w.order sc e vs)
            ∙ sym (listed_plain (graph_in w) w.order sc e (vs ++ (s ∷ [])));
      };
    })

-- ---- a walk, step by step

module _ {w : Scheduler} {seen : List Bool} {list : List ℕ} {f : Graph → List ℕ → List ℕ} where
  pub walked_none : ((vs : List ℕ) → Shows w seen list vs → vs ≡ f (graph_in w) vs) →
      Walked w f seen list seen list
  walked_none e = record { shows = λ vs h. subst (Shows w seen list) (e vs h) h }

  module _ {seen₁ : List Bool} {list₁ : List ℕ} (p : Walked w f seen list seen₁ list₁) where
    pub walked_lent : Lent w seen list → Lent w seen₁ list₁
    walked_lent h = record { visited = f (graph_in w) h.visited; shows = p.shows h.visited h.shows }

    pub walked_as : {h : Graph → List ℕ → List ℕ} →
        ((vs : List ℕ) → Shows w seen list vs → f (graph_in w) vs ≡ h (graph_in w) vs) →
        Walked w h seen list seen₁ list₁
    walked_as e = record { shows = λ vs q. subst (Shows w seen₁ list₁) (e vs q) (p.shows vs q) }

    pub walked_then : {h : Graph → List ℕ → List ℕ} {seen₂ : List Bool} {list₂ : List ℕ} →
        Walked w h seen₁ list₁ seen₂ list₂ → Walked w (λ g vs. h g (f g vs)) seen list seen₂ list₂
    walked_then q = record { shows = λ vs z. q.shows (f (graph_in w) vs) (p.shows vs z) }
