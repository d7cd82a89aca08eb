-- What is reached, the gate, free lists and schedules do not see a filling.
-- In order: what is reached; the gate; free lists; the schedule.
-- Assumes nothing.
use mathlib.Core.Path.{◌≡◌, refl, ap, ap₂, ◌∙◌, fun_ext}
use mathlib.Core.Bool.{Bool, true, false, not, ◌&&◌, ◌||◌}
use mathlib.Core.List.{List, [], ◌∷◌, ◌++◌, map}
use Prim.Native.Nat.{ℕ, zero, suc}
use Rattle.model.specs.Lists.{is_in, union, add}
use Rattle.model.specs.Down.{down}
use Rattle.model.specs.Intern.{Sym, Scope, sym_at}
use Rattle.model.specs.Gate.{Graph, sym_of, reach, slots_of, reachable, is_context_property, is_internal, is_const}
use Rattle.model.specs.Gate.{should_hoist}
use Rattle.model.specs.Schedule.{is_arg, Rel, local, deeper, outside, classify, rel_of, is_outside, visit, local_dep_order}
use Rattle.model.specs.Schedule.{body_only, body_neighbours, outsiders, collect, free_step, free_vars, neighbours, schedule}
use Rattle.model.specs.Template.{Filling, fill_sym}
use Rattle.theory.proofs.Templates.Keys.{at_kept}

abbrev pub fill_graph : Filling → Graph → Graph
fill_graph f g = record { syms = map (fill_sym f) g.syms; scopes = g.scopes; slots = g.slots }

module _ (f : Filling) where
  -- ---- what is reached

  reach_kept : (ss : List Sym) (n : ℕ) (seen : List ℕ) → reach (map (fill_sym f) ss) n seen ≡ reach ss n seen
  unfolding reach
  reach_kept ss zero seen = refl
  reach_kept ss (suc n) seen =
      ap₂ (λ (x y : List ℕ). elim (is_in n seen) as (λ z. List ℕ) [ true ↦ x | false ↦ y ])
      (reach_kept ss n (union seen (sym_at (map (fill_sym f) ss) n).kids)
      ∙ ap (λ (ks : List ℕ). reach ss n (union seen ks)) (at_kept f (λ y. y.kids) (λ y. refl) ss n))
      (reach_kept ss n seen)

  slots_of_kept : (ss : List Sym) (is : List ℕ) → slots_of (map (fill_sym f) ss) is ≡ slots_of ss is
  unfolding slots_of
  slots_of_kept ss [] = refl
  slots_of_kept ss (s ∷ is) = ap₂ ◌++◌ (at_kept f (λ y. y.kids) (λ y. refl) ss s) (slots_of_kept ss is)

  pub reachable_fills : (ss : List Sym) (scs : List Scope) (root : ℕ) →
      reachable (map (fill_sym f) ss) scs root ≡ fill_graph f (reachable ss scs root)
  unfolding reachable
  reachable_fills ss scs root = λ i. record {
    syms = map (fill_sym f) ss;
    scopes = scs;
    slots = (slots_of_kept ss (reach (map (fill_sym f) ss) (suc root) (root ∷ []))
        ∙ ap (slots_of ss) (reach_kept ss (suc root) (root ∷ []))) i;
  }

  -- ---- the gate

  module _ (g : Graph) where
    pub scope_kept : (s : ℕ) → (sym_of (fill_graph f g) s).scope ≡ (sym_of g s).scope
    scope_kept s = at_kept f (λ y. y.scope) (λ y. refl) g.syms s

    pub is_arg_kept : (s : ℕ) → is_arg (sym_of (fill_graph f g) s).node ≡ is_arg (sym_of g s).node
    is_arg_kept s = at_kept f (λ y. is_arg y.node) (λ y. refl) g.syms s

    kids_kept : (s : ℕ) → (sym_of (fill_graph f g) s).kids ≡ (sym_of g s).kids
    kids_kept s = at_kept f (λ y. y.kids) (λ y. refl) g.syms s

    pub should_hoist_kept : (s n : ℕ) → should_hoist (sym_of (fill_graph f g) s) n ≡ should_hoist (sym_of g s) n
    unfolding should_hoist is_context_property is_internal is_const
    should_hoist_kept s n = at_kept f (λ y. should_hoist y n) (λ y. refl) g.syms s

    -- ---- free lists

    rel_of_kept : (s cur : ℕ) → rel_of (fill_graph f g) s cur ≡ rel_of g s cur
    unfolding rel_of classify
    rel_of_kept s cur = ap (λ (sc : ℕ). classify g sc cur) (scope_kept s)

    body_only_kept : (cs : ℕ) (ds : List ℕ) → body_only (fill_graph f g) cs ds ≡ body_only g cs ds
    unfolding body_only
    body_only_kept cs [] = refl
    body_only_kept cs (d ∷ ds) =
        ap₂ (λ (b : Bool) (rest : List ℕ). elim b as (λ z. List ℕ) [ true ↦ rest | false ↦ d ∷ rest ])
        (ap₂ (λ (a : Bool) (x : Rel). a || is_outside x) (is_arg_kept d) (rel_of_kept d cs)) (body_only_kept cs ds)

    body_neighbours_kept : (fv : ℕ → List ℕ) (cs s : ℕ) →
        body_neighbours (fill_graph f g) fv cs s ≡ body_neighbours g fv cs s
    unfolding body_neighbours
    body_neighbours_kept fv cs s =
        ap (λ (x : Rel). elim x as (λ z. List ℕ) [
          | local ↦ body_only (fill_graph f g) cs (sym_of (fill_graph f g) s).kids
          | deeper ↦ body_only (fill_graph f g) cs (fv s)
          | outside ↦ []
        ]) (rel_of_kept s cs)
        ∙ go (rel_of g s cs)
      where
        go : (x : Rel) → ◌≡◌ {A = List ℕ}
            (elim x [
              | local ↦ body_only (fill_graph f g) cs (sym_of (fill_graph f g) s).kids
              | deeper ↦ body_only (fill_graph f g) cs (fv s)
              | outside ↦ []
            ])
            (elim x [ local ↦ body_only g cs (sym_of g s).kids | deeper ↦ body_only g cs (fv s) | outside ↦ [] ])
        go local = body_only_kept cs (sym_of (fill_graph f g) s).kids ∙ ap (body_only g cs) (kids_kept s)
        go deeper = body_only_kept cs (fv s)
        go outside = refl

    outsiders_kept : (cs : ℕ) (ds out : List ℕ) → outsiders (fill_graph f g) cs ds out ≡ outsiders g cs ds out
    unfolding outsiders
    outsiders_kept cs [] out = refl
    outsiders_kept cs (d ∷ ds) out =
        ap (λ (b : Bool). elim b as (λ z. List ℕ) [
          | true ↦ outsiders (fill_graph f g) cs ds (add out d)
          | false ↦ outsiders (fill_graph f g) cs ds out
        ]) (ap₂ (λ (a : Bool) (x : Rel). not a && is_outside x) (is_arg_kept d) (rel_of_kept d cs))
        ∙ ap₂ (λ (x y : List ℕ).
        elim (not (is_arg (sym_of g d).node) && is_outside (rel_of g d cs)) as (λ z. List ℕ) [ true ↦ x | false ↦ y ])
        (outsiders_kept cs ds (add out d)) (outsiders_kept cs ds out)

    abbrev ds_of : Graph → (ℕ → List ℕ) → ℕ → Rel → List ℕ
    ds_of h fv s x = elim x [ local ↦ local_dep_order (sym_of h s) | deeper ↦ fv s | outside ↦ [] ]

    ds_kept : (fv : ℕ → List ℕ) (s : ℕ) (x : Rel) → ds_of (fill_graph f g) fv s x ≡ ds_of g fv s x
    unfolding local_dep_order
    ds_kept fv s local = at_kept f (λ y. local_dep_order y) (λ y. refl) g.syms s
    ds_kept fv s deeper = refl
    ds_kept fv s outside = refl

    collect_kept : (fv : ℕ → List ℕ) (cs : ℕ) (ss out : List ℕ) →
        collect (fill_graph f g) fv cs ss out ≡ collect g fv cs ss out
    unfolding collect
    collect_kept fv cs [] out = refl
    collect_kept fv cs (s ∷ ss) out =
        collect_kept fv cs ss (outsiders (fill_graph f g) cs (ds_of (fill_graph f g) fv s (rel_of (fill_graph f g) s cs)) out)
        ∙ ap (collect g fv cs ss)
        (outsiders_kept cs (ds_of (fill_graph f g) fv s (rel_of (fill_graph f g) s cs)) out
        ∙ ap (λ (ds : List ℕ). outsiders g cs ds out)
        (ds_kept fv s (rel_of (fill_graph f g) s cs) ∙ ap (ds_of g fv s) (rel_of_kept s cs)))

    free_step_kept : (fv : ℕ → List ℕ) (c : ℕ) → free_step (fill_graph f g) fv c ≡ free_step g fv c
    unfolding free_step
    free_step_kept fv c =
        ap (from (fill_graph f g)) (scope_kept c)
        ∙ (collect_kept fv cs (visit (body_neighbours (fill_graph f g) fv cs) c []) []
        ∙ ap (λ (nb : ℕ → List ℕ). collect g fv cs (visit nb c []) []) (fun_ext (body_neighbours_kept fv cs)))
      where
        cs : ℕ
        cs = (sym_of g c).scope

        from : Graph → ℕ → List ℕ
        from h sc = collect h fv sc (visit (body_neighbours h fv sc) c []) []

    pub free_vars_kept : free_vars (fill_graph f g) ≡ free_vars g
    unfolding free_vars
    free_vars_kept = ap (down []) (fun_ext λ fv. fun_ext λ c. free_step_kept fv c)

    -- ---- the schedule

    neighbours_kept : (sc s : ℕ) → neighbours (fill_graph f g) sc s ≡ neighbours g sc s
    unfolding neighbours
    neighbours_kept sc s =
        ap₂ (by (fill_graph f g)) (is_arg_kept s) (rel_of_kept s sc) ∙ go (is_arg (sym_of g s).node) (rel_of g s sc)
      where
        by : Graph → Bool → Rel → List ℕ
        by h b x = elim b [
          | true ↦ []
          | false ↦ elim x [ local ↦ (sym_of h s).kids | deeper ↦ free_vars h s | outside ↦ [] ]
        ]

        go : (b : Bool) (x : Rel) → by (fill_graph f g) b x ≡ by g b x
        go true x = refl
        go false local = kids_kept s
        go false deeper = ap (λ (fv : ℕ → List ℕ). fv s) free_vars_kept
        go false outside = refl

    pub schedule_kept : (root sc : ℕ) → schedule (fill_graph f g) root sc ≡ schedule g root sc
    unfolding schedule
    schedule_kept root sc = ap (λ (nb : ℕ → List ℕ). visit nb root []) (fun_ext (neighbours_kept sc))
