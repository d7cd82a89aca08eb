-- The two orders: a symbol's neighbours are lower, and a step for each that is not passed over is a visit of each.
-- In order: neighbours fall; steps and visits; what code does at a symbol; the relation that code reads.
-- Assumes nothing.
use Prim.Native.Nat.{ℕ, suc, ◌<◌}
use mathlib.Core.Path.{◌≡◌, refl, sym, ap, ◌∙◌}
use mathlib.Core.Bool.{Bool, true, false}
use mathlib.Core.Logic.{◌⊎◌, inl}
use mathlib.Core.List.{List, [], ◌∷◌, ◌++◌}
use Rattle.model.specs.Lists.{is_in}
use Rattle.model.specs.Gate.{Graph, sym_of}
use Rattle.model.specs.Schedule.{Rel, local, deeper, outside, rel_of, each, visit, body_only}
use Rattle.model.specs.Schedule.{local_dep_order, body_neighbours, free_vars, neighbours}
use Rattle.laws.specs.Members.{In, Under}
use Rattle.laws.proofs.Falls.{body_falls, free_falls, neighbours_fall}
use Rattle.laws.proofs.Short.{visit_adds}
use Rattle.laws.proofs.Orders.{each_same, unless, each_body, visited, visit_opens, Adds, each_fresh}
use Rattle.scopes.specs.declared.Rel as code
use Rattle.scopes.specs.Relation.{rel_in}
use Rattle.graph.specs.declared.held.Graph as held
use Rattle.graph.specs.Tests.{held_in, Related}
use Rattle.graph.proofs.Laws.{kids_low}
use Rattle.schedule.specs.declared.scheduler.Order.{Order}
use Rattle.schedule.specs.declared.scheduler.Order.TheVariants.{Body, Schedule}
use Rattle.schedule.specs.declared.scheduler.Scheduler.{Scheduler}
use Rattle.schedule.specs.Schedule.{scope_of, order_of, passed, stops, near_of, step_of, needs_of}

-- ---- neighbours fall

pub low_kids : (w : Scheduler) (slots : List ℕ) (s : ℕ) → Under s (sym_of (held_in w.graph w.forest.now slots) s).kids
low_kids w = kids_low w.forest.now w.graph.words.now w.graph.symbols w.graph.scopes w.stocked.arena

module _ (g : Graph) (kids_low : (s : ℕ) → Under s (sym_of g s).kids) where
  order_falls : (o : Order) (s : ℕ) → Under s (order_of g o s)
  unfolding order_of
  order_falls (Body cs) s = body_falls g kids_low (free_vars g) (free_falls g kids_low) cs s
  order_falls (Schedule sc) s = neighbours_fall g kids_low sc s

-- ---- steps and visits

module _ (g : Graph) where
  step_unless : (o : Order) (d : ℕ) (out : List ℕ) →
      step_of g o d out ≡ unless (passed g o d) (visit (order_of g o) d) out
  unfolding step_of
  step_unless o d out = go (passed g o d)
    where
      go : (t : Bool) →
          ◌≡◌ {A = List ℕ} (elim t [ true ↦ out | false ↦ visit (order_of g o) d out ])
          (unless t (visit (order_of g o) d) out)
      go true = refl
      go false = refl

  pub step_passed : (o : Order) (d : ℕ) (out : List ℕ) → passed g o d ≡ true → out ≡ step_of g o d out
  step_passed o d out e = ap (λ (t : Bool). unless t (visit (order_of g o) d) out) (sym e) ∙ sym (step_unless o d out)

  pub step_visit : (o : Order) (d : ℕ) (out : List ℕ) → passed g o d ≡ false →
      visit (order_of g o) d out ≡ step_of g o d out
  step_visit o d out e = ap (λ (t : Bool). unless t (visit (order_of g o) d) out) (sym e) ∙ sym (step_unless o d out)

  step_adds : (o : Order) → Adds (step_of g o)
  unfolding step_of
  step_adds o d out x = go (passed g o d)
    where
      go : (t : Bool) → In x (elim t [ true ↦ out | false ↦ visit (order_of g o) d out ]) → In x out ⊎ (x < suc d)
      go true i = inl i
      go false i = (visit_adds (order_of g o) d out).0 x i

  -- a visit of each of a body's neighbours
  body_steps : (cs : ℕ) (ds out : List ℕ) →
      each (visit (order_of g (Body cs))) (body_only g cs ds) out ≡ each (step_of g (Body cs)) ds out
  unfolding passed
  body_steps cs ds out =
      each_body g cs (visit (order_of g (Body cs))) ds out
      ∙ each_same _ (step_of g (Body cs)) ds out (λ d i q. sym (step_unless (Body cs) d q))

  near_steps : (o : Order) (s : ℕ) (out : List ℕ) →
      each (visit (order_of g o)) (order_of g o s) out ≡ each (step_of g o) (near_of g o s) out
  unfolding order_of near_of passed stops body_neighbours neighbours body_only
  near_steps (Body cs) s out = go (rel_of g s cs)
    where
      go : (r : Rel) → each (visit (order_of g (Body cs))) (elim r [
        | local ↦ body_only g cs (sym_of g s).kids
        | deeper ↦ body_only g cs (free_vars g s)
        | outside ↦ []
      ]) out
          ≡ each (step_of g (Body cs))
          (elim r [ local ↦ (sym_of g s).kids | deeper ↦ free_vars g s | outside ↦ [] ]) out
      go local = body_steps cs (sym_of g s).kids out
      go deeper = body_steps cs (free_vars g s) out
      go outside = body_steps cs [] out
  near_steps (Schedule sc) s out =
      each_same (visit (order_of g (Schedule sc))) (step_of g (Schedule sc)) _ out
      (λ d i q. sym (step_unless (Schedule sc) d q))

-- ---- what code does at a symbol

module _ (g : Graph) (kids_low : (s : ℕ) → Under s (sym_of g s).kids) (o : Order) (s : ℕ) (out : List ℕ) where
  opened : visit (order_of g o) s out ≡ visited (order_of g o) s (is_in s out) out
  opened = visit_opens (order_of g o) s out (order_falls g kids_low o s)

  pub step_seen : passed g o s ≡ false → is_in s out ≡ true → out ≡ step_of g o s out
  step_seen p e =
      ap (λ (t : Bool). visited (order_of g o) s t out) (sym e) ∙ (sym opened ∙ step_visit g o s out p)

  -- after its neighbours
  pub visit-after : is_in s out ≡ false →
      each (step_of g o) (near_of g o s) out ++ (s ∷ []) ≡ visit (order_of g o) s out
  visit-after e =
      ap (λ (l : List ℕ). l ++ (s ∷ [])) (sym (near_steps g o s out))
      ∙ (ap (λ (t : Bool). visited (order_of g o) s t out) (sym e) ∙ sym opened)

-- a list after steps of symbols below s
pub steps_fresh : (g : Graph) (o : Order) (s : ℕ) (ds out : List ℕ) → Under s ds → is_in s out ≡ false →
    is_in s (each (step_of g o) ds out) ≡ false
steps_fresh g o s ds out low new = each_fresh (step_of g o) (step_adds g o) s ds out low new

-- ---- the relation that code reads

module _ (g : Graph) (o : Order) (s : ℕ) where
  pub near_end : stops g o s ≡ true → near_of g o s ≡ []
  unfolding near_of
  near_end e = rw (e, near_of)

  pub near_rel : stops g o s ≡ false → (r : Rel) → r ≡ rel_of g s (scope_of o) →
      near_of g o s ≡ elim r [ local ↦ (sym_of g s).kids | deeper ↦ free_vars g s | outside ↦ [] ]
  unfolding near_of
  near_rel e r f = rw (e, near_of, ← f)

-- what a symbol of a body needs
pub needs_rel : (g : Graph) (cs s : ℕ) (r : Rel) → r ≡ rel_of g s cs →
    needs_of g cs s ≡ elim r [ local ↦ local_dep_order (sym_of g s) | deeper ↦ free_vars g s | outside ↦ [] ]
unfolding needs_of
needs_rel g cs s r f = rw (needs_of, ← f)

-- what a match on the relation tells
pub told : (k : held.Graph) (s cur : ℕ) {r v : code.Rel} → r ≡ v → Related k s cur r → (bs slots : List ℕ) →
    rel_in v ≡ rel_of (held_in k bs slots) s cur
told k s cur e h bs slots = ap rel_in (sym e) ∙ h bs slots
