-- Free lists and schedules that are the same in two graphs. Later symbols and scopes change no free list (`later_same`):
-- two graphs that have the same symbols below n, and the same scopes below m, where these symbols lie, have the same
-- free lists below n. Child slots change neither free lists nor schedules (`slots_same`, `schedule_slots`).
--
-- In order: the parts of a free list, and free lists, where symbols below n are the same and lie the same; later symbols
-- and scopes; child slots.
-- Assumes nothing.
use mathlib.Core.Path.{◌≡◌, refl, sym, ap, ap₂, fun_ext, ◌∙◌}
use mathlib.Core.Logic.{inl, inr}
use mathlib.Core.Bool.{Bool, true, false, not, ◌&&◌, ◌||◌}
use mathlib.Core.List.{List, [], ◌∷◌}
use Prim.Native.Nat.{ℕ, suc, ◌<◌}
use native.Mathlib.Omega.{arith}
use lib.Dec.{eqb}
use Rattle.model.specs.Lists.{is_in, add}
use Rattle.model.specs.Down.{under}
use Rattle.model.specs.Intern.{Sym, Scope, sym_at, scope_at}
use Rattle.model.specs.Gate.{Graph, sym_of}
use Rattle.model.specs.Schedule.{is_arg, Rel, local, deeper, outside, is_outside, classify, rel_of, visit, local_dep_order}
use Rattle.model.specs.Schedule.{body_only, body_neighbours, outsiders, collect, free_step, free_vars, neighbours, schedule}
use Rattle.laws.specs.Members.{Under}
use Rattle.laws.proofs.Induction.{strong}
use Rattle.laws.proofs.Down.{under_same, down_step}
use Rattle.laws.proofs.Walks.{under_holds}
use Rattle.laws.proofs.Falls.{Falls, visit_low, body_falls, free_falls}
use Rattle.laws.proofs.Orders.{visit-same, needs, needs_low}

-- by where a symbol lies
abbrev by_rel : Rel → List ℕ → List ℕ → List ℕ
by_rel r xs ys = elim r [ local ↦ xs | deeper ↦ ys | outside ↦ [] ]

module _ (g h : Graph) (n : ℕ) (same_syms : (s : ℕ) → s < n → sym_of g s ≡ sym_of h s)
    (same-rels : (s cs : ℕ) → s < n → rel_of g s cs ≡ rel_of h s cs) (kids_low : (s : ℕ) → Under s (sym_of h s).kids) where
  arg_same : (s : ℕ) → s < n → is_arg (sym_of g s).node ≡ is_arg (sym_of h s).node
  arg_same s l = ap (λ (y : Sym). is_arg y.node) (same_syms s l)

  -- ---- the parts of a free list

  module _ (cs : ℕ) where
    body_same : (ds : List ℕ) → Under n ds → body_only g cs ds ≡ body_only h cs ds
    unfolding body_only
    body_same [] u = refl
    body_same (d ∷ ds) u =
        let l = u d (inl refl) in
        ap₂ pick (ap₂ ◌||◌ (arg_same d l) (ap is_outside (same-rels d cs l))) (body_same ds (λ x i. u x (inr i)))
      where
        pick : Bool → List ℕ → List ℕ
        pick b rest = elim b [ true ↦ rest | false ↦ d ∷ rest ]

    outsiders-same : (ds out : List ℕ) → Under n ds → outsiders g cs ds out ≡ outsiders h cs ds out
    unfolding outsiders
    outsiders-same [] out u = refl
    outsiders-same (d ∷ ds) out u =
        let l = u d (inl refl) in
        ap₂ pick (ap₂ (λ a b. not a && b) (arg_same d l) (ap is_outside (same-rels d cs l)))
        (fun_ext λ o. outsiders-same ds o (λ x i. u x (inr i)))
      where
        pick : Bool → (List ℕ → List ℕ) → List ℕ
        pick b rest = elim b [ true ↦ rest (add out d) | false ↦ rest out ]

    module _ (fv : ℕ → List ℕ) (fv-falls : Falls fv) where
      near_same : (s : ℕ) → s < n → body_neighbours g fv cs s ≡ body_neighbours h fv cs s
      unfolding body_neighbours
      near_same s l =
          ap (λ (r : Rel). by_rel r (body_only g cs (sym_of g s).kids) (body_only g cs (fv s))) (same-rels s cs l)
          ∙ ap₂ (by_rel (rel_of h s cs))
          (ap (λ (y : Sym). body_only g cs y.kids) (same_syms s l)
          ∙ body_same (sym_of h s).kids (λ x i. omega (arith, kids_low s x i)))
          (body_same (fv s) (λ x i. omega (arith, fv-falls s x i)))

      needs_same : (s : ℕ) → s < n → needs g cs fv s ≡ needs h cs fv s
      needs_same s l = ap₂ (λ r y. by_rel r (local_dep_order y) (fv s)) (same-rels s cs l) (same_syms s l)

      collect-same : (ss out : List ℕ) → Under n ss → collect g fv cs ss out ≡ collect h fv cs ss out
      unfolding collect
      collect-same [] out u = refl
      collect-same (s ∷ ss) out u =
          let l = u s (inl refl) in
          collect-same ss (outsiders g cs (needs g cs fv s) out) (λ x i. u x (inr i))
          ∙ ap (collect h fv cs ss)
          (ap (λ (ds : List ℕ). outsiders g cs ds out) (needs_same s l)
          ∙ outsiders-same (needs h cs fv s) out (λ x i. omega (arith, needs_low h kids_low fv fv-falls cs s x i)))

  -- ---- free lists

  step_same : (fv : ℕ → List ℕ) → Falls fv → (c : ℕ) → c < n → free_step g fv c ≡ free_step h fv c
  unfolding free_step
  step_same fv falls c l =
      let cs = (sym_of g c).scope in
      ap (λ (f : List ℕ → List ℕ). collect g fv cs (f []) [])
      (visit-same (body_neighbours g fv cs) (body_neighbours h fv cs) (suc c)
      (λ s k. near_same cs fv falls s (omega arith)) c (omega arith))
      ∙ (collect-same cs fv falls (visit (body_neighbours h fv cs) c []) []
      (λ x i. omega (arith, visit_low (body_neighbours h fv cs) (body_falls h kids_low fv falls cs) c x i))
      ∙ ap (λ (y : Sym). collect h fv y.scope (visit (body_neighbours h fv y.scope) c []) []) (same_syms c l))

  low_same : (c : ℕ) → c < n → free_vars g c ≡ free_vars h c
  unfolding free_vars
  low_same = strong (λ c. c < n → free_vars g c ≡ free_vars h c) λ c ih l.
      down_step [] (free_step g) c
      ∙ (ap (λ (f : ℕ → List ℕ). free_step g f c)
      (under_same [] (free_step g) c (free_vars g) (free_vars h) (λ d k. ih d k (omega arith)))
      ∙ (step_same (under [] c (free_vars h)) (masked c) c l ∙ sym (down_step [] (free_step h) c)))
    where
      masked : (c : ℕ) → Falls (under [] c (free_vars h))
      masked c s = under_holds (Under s) [] c (free_vars h) s (λ l. free_falls h kids_low s) (λ x m. absurd m)

-- ---- later symbols and scopes

module _ (g h : Graph) (n m : ℕ) (same_syms : (s : ℕ) → s < n → sym_of g s ≡ sym_of h s)
    (same_scopes : (b : ℕ) → b < m → scope_at g.scopes b ≡ scope_at h.scopes b)
    (scope_low : (s : ℕ) → s < n → (sym_of g s).scope < m) (kids_low : (s : ℕ) → Under s (sym_of h s).kids) where
  rel_same : (s cs : ℕ) → s < n → rel_of g s cs ≡ rel_of h s cs
  unfolding rel_of classify
  rel_same s cs l =
      ap (seen (sym_of g s).scope) (same_scopes (sym_of g s).scope (scope_low s l))
      ∙ ap (λ (y : Sym). seen y.scope (scope_at h.scopes y.scope)) (same_syms s l)
    where
      seen : ℕ → Scope → Rel
      seen sc z =
          elim (eqb sc cs) [ true ↦ local | false ↦ elim (is_in cs z.around) [ true ↦ deeper | false ↦ outside ] ]

  pub later_same : (c : ℕ) → c < n → free_vars g c ≡ free_vars h c
  later_same = low_same g h n same_syms rel_same kids_low

-- ---- child slots

module _ (g h : Graph) (same_syms : g.syms ≡ h.syms) (same_scopes : g.scopes ≡ h.scopes)
    (kids_low : (s : ℕ) → Under s (sym_of h s).kids) where
  sym_same : (s : ℕ) → sym_of g s ≡ sym_of h s
  sym_same s = ap (λ (ss : List Sym). sym_at ss s) same_syms

  lies_same : (s cs : ℕ) → rel_of g s cs ≡ rel_of h s cs
  unfolding rel_of classify
  lies_same s cs = ap₂ (λ ss scs. rel_of (record { syms = ss; scopes = scs; slots = [] }) s cs) same_syms same_scopes

  pub slots_same : (c : ℕ) → free_vars g c ≡ free_vars h c
  slots_same c =
      low_same g h (suc c) (λ s l. sym_same s) (λ s cs l. lies_same s cs) kids_low c (omega arith)

  near_slots : (sc s : ℕ) → neighbours g sc s ≡ neighbours h sc s
  unfolding neighbours
  near_slots sc s =
      ap₂ (pick (free_vars g s)) (sym_same s) (lies_same s sc)
      ∙ ap (λ (fs : List ℕ). pick fs (sym_of h s) (rel_of h s sc)) (slots_same s)
    where
      pick : List ℕ → Sym → Rel → List ℕ
      pick fs y r = elim (is_arg y.node) [ true ↦ [] | false ↦ by_rel r y.kids fs ]

  pub schedule_slots : (root sc : ℕ) → schedule g root sc ≡ schedule h root sc
  unfolding schedule
  schedule_slots root sc =
      ap (λ (f : List ℕ → List ℕ). f [])
      (visit-same (neighbours g sc) (neighbours h sc) (suc root) (λ s l. near_slots sc s) root (omega arith))
