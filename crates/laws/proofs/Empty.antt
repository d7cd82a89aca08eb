-- Free lists that are empty: of a symbol without children (`free_leaf`), and of a symbol in a scope that all lower symbols
-- lie in (`free_outermost`).
-- Assumes nothing.
use mathlib.Core.Path.{◌≡◌, refl, ap, ◌∙◌}
use mathlib.Core.Logic.{inl, inr}
use mathlib.Core.Bool.{false, not, and-false}
use mathlib.Core.List.{List, [], ◌∷◌}
use Prim.Native.Nat.{ℕ, ◌<◌}
use native.Mathlib.Omega.{arith}
use Rattle.model.specs.Gate.{Graph, sym_of}
use Rattle.model.specs.Schedule.{is_arg, is_outside, rel_of, each, visit, operands, local_dep_order, body_only, body_neighbours}
use Rattle.model.specs.Schedule.{outsiders, collect, free_step, free_vars}
use Rattle.laws.specs.Members.{Every, Under}
use Rattle.laws.specs.Gather.{gather_step}
use Rattle.laws.proofs.Falls.{visit_low, body_falls, free_falls}
use Rattle.laws.proofs.Orders.{needs, needs_low, free_opens}
use Rattle.laws.proofs.Gather.{free_gathers}

-- where nothing lies outside, nothing is collected
module _ (g : Graph) (cs : ℕ) where
  abbrev Within : ℕ → Type 0
  Within s = is_outside (rel_of g s cs) ≡ false

  outsiders_none : (ds out : List ℕ) → Every Within ds → outsiders g cs ds out ≡ out
  unfolding outsiders
  outsiders_none [] out h = refl
  outsiders_none (d ∷ ds) out h =
      rw (h d (inl refl), and-false (not (is_arg (sym_of g d).node)), outsiders) (outsiders_none ds out (λ x i. h x (inr i)))

  collect_none : (fv : ℕ → List ℕ) (ss : List ℕ) → Every (λ s. Every Within (needs g cs fv s)) ss →
      collect g fv cs ss [] ≡ []
  unfolding collect
  collect_none fv [] h = refl
  collect_none fv (s ∷ ss) h =
      ap (collect g fv cs ss) (outsiders_none (needs g cs fv s) [] (h s (inl refl)))
      ∙ collect_none fv ss (λ x i. h x (inr i))

module _ (g : Graph) (kids_low : (s : ℕ) → Under s (sym_of g s).kids) (c : ℕ) where
  pub free_leaf : (sym_of g c).kids ≡ [] → free_vars g c ≡ []
  unfolding gather_step local_dep_order operands body_only outsiders each
  free_leaf e = free_gathers g kids_low c ∙ rw e

  pub free_outermost : ((s : ℕ) → s < c → is_outside (rel_of g s (sym_of g c).scope) ≡ false) → free_vars g c ≡ []
  unfolding free_step
  free_outermost h =
      let cs = (sym_of g c).scope in
      let falls = free_falls g kids_low in
      let nb = body_neighbours g (free_vars g) cs in
      let low = visit_low nb (body_falls g kids_low (free_vars g) falls cs) c in
      free_opens g kids_low c
      ∙ collect_none g cs (free_vars g) (visit nb c [])
      (λ s i x j. h x (omega (arith, low s i, needs_low g kids_low (free_vars g) falls cs s x j)))
