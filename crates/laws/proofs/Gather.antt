-- A free list follows from the free lists of lower symbols (`free_gathers`): also where these are stored and only those
-- below it are known (`stored_gathers`).
--
-- The argument: of a body in scope cs, let a symbol's share be what a walk from it alone collects. A walk that goes on
-- from what others have seen passes over what was seen, whose outsiders have been collected, so it adds the symbol's
-- share to what there is (`collect-visit`). A local symbol's share is its free list; a deeper one's is what its
-- neighbours give and the outsiders of its free list; an outsider's is empty: that is `give` (`give_adds`).
--
-- In order: shares; what a symbol gives (`give_opens`); free lists.
-- Assumes nothing.
use mathlib.Core.Path.{◌≡◌, refl, sym, ap, subst, ◌∙◌}
use mathlib.Core.Bool.{Bool, true, false}
use mathlib.Core.List.{List, [], ◌∷◌}
use Prim.Native.Nat.{ℕ, ◌<◌}
use native.Mathlib.Omega.{arith}
use lib.Dec.{eqb}
use borrow.Author.Tests.{eqb-true, lt-ltb}
use Rattle.model.specs.Lists.{is_in, union, without}
use Rattle.model.specs.Down.{under}
use Rattle.model.specs.Intern.{scope_at}
use Rattle.model.specs.Gate.{Graph, sym_of}
use Rattle.model.specs.Schedule.{Rel, local, deeper, outside, classify, rel_of, each, visit, local_dep_order, body_only}
use Rattle.model.specs.Schedule.{body_neighbours, outsiders, collect, free_step, free_vars}
use Rattle.laws.specs.Members.{Under}
use Rattle.laws.specs.Gather.{give_step, give, gather_step}
use Rattle.laws.proofs.Induction.{strong}
use Rattle.laws.proofs.Down.{under_low, down_step}
use Rattle.laws.proofs.Walks.{body_every}
use Rattle.laws.proofs.Falls.{Falls, body_falls, free_falls}
use Rattle.laws.proofs.Orders.{visit_opens, each_same, needs, collect_join, collect-last, own_local, free_opens}
use Rattle.laws.proofs.Adding.{union_assoc, outsiders-union, collect-union, collect-given, collect-without}
use Rattle.laws.proofs.Visits.{each_through, Closed, visit_closed, visit_past}

-- a local symbol's scope is the body's
local_scope : (g : Graph) (s cs : ℕ) → rel_of g s cs ≡ local → (sym_of g s).scope ≡ cs
unfolding rel_of classify
local_scope g s cs e = go (eqb (sym_of g s).scope cs) refl e
  where
    other : (b : Bool) → ◌≡◌ {A = Rel} (elim b [ true ↦ deeper | false ↦ outside ]) local → (sym_of g s).scope ≡ cs
    other true e = cc
    other false e = cc

    go : (b : Bool) → eqb (sym_of g s).scope cs ≡ b →
        ◌≡◌ {A = Rel} (elim b [
          | true ↦ local
          | false ↦ elim (is_in cs (scope_at g.scopes (sym_of g s).scope).around) [ true ↦ deeper | false ↦ outside ]
        ]) local → (sym_of g s).scope ≡ cs
    go true f e = eqb-true (sym_of g s).scope cs f
    go false f e = other (is_in cs (scope_at g.scopes (sym_of g s).scope).around) e

-- ---- shares

module _ (g : Graph) (fv : ℕ → List ℕ) (cs : ℕ) where
  abbrev nb : ℕ → List ℕ
  nb = body_neighbours g fv cs

  -- what a walk from s alone collects
  abbrev pub share : ℕ → List ℕ
  share s = collect g fv cs (visit nb s []) []

  abbrev add_share : ℕ → List ℕ → List ℕ
  add_share s out = union out (share s)

  -- shares are added to a list
  each_from : (ds out : List ℕ) → each add_share ds out ≡ union out (each add_share ds [])
  unfolding union
  each_from ds out = each_through (union out) add_share ds [] (λ d i o. union_assoc out o (share d))

  module _ (falls : Falls nb) where
    collect-visit : (s : ℕ) (seen : List ℕ) → Closed nb seen →
        collect g fv cs (visit nb s seen) [] ≡ add_share s (collect g fv cs seen [])
    unfolding union
    collect-visit s seen c =
        let out = collect g fv cs seen [] in
        ap (λ (l : List ℕ). collect g fv cs l []) (visit_past nb falls seen c s)
        ∙ (collect_join g cs fv seen (without (visit nb s []) seen) []
        ∙ (collect-without g cs fv seen (visit nb s []) out (collect-given g cs fv seen [])
        ∙ collect-union g cs fv (visit nb s []) out []))

    collect-each : (ds seen : List ℕ) → Closed nb seen →
        collect g fv cs (each (visit nb) ds seen) [] ≡ each add_share ds (collect g fv cs seen [])
    unfolding each
    collect-each [] seen c = refl
    collect-each (d ∷ ds) seen c =
        collect-each ds (visit nb d seen) (visit_closed nb falls d seen c)
        ∙ ap (each add_share ds) (collect-visit d seen c)

    share_opens : (s : ℕ) → share s ≡ outsiders g cs (needs g cs fv s) (each add_share (nb s) [])
    unfolding is_in collect
    share_opens s =
        ap (λ (l : List ℕ). collect g fv cs l []) (visit_opens nb s [] (falls s))
        ∙ (collect-last g cs fv (each (visit nb) (nb s) []) s []
        ∙ ap (outsiders g cs (needs g cs fv s)) (collect-each (nb s) [] (λ x i. absurd i)))

-- ---- what a symbol gives

-- its free list is of lower symbols: below s the mask is not seen
pub give_opens : (g : Graph) (fv : ℕ → List ℕ) (cs s : ℕ) (out : List ℕ) → Under s (fv s) →
    give g fv cs s out ≡ give_step g fv cs (give g fv cs) s out
unfolding give give_step
give_opens g fv cs s out low =
    ap (λ (f : List ℕ → List ℕ). f out) (down_step keep (give_step g fv cs) s) ∙ go (rel_of g s cs)
  where
    keep : List ℕ → List ℕ
    keep o = o

    masked : ℕ → List ℕ → List ℕ
    masked = under keep s (give g fv cs)

    same : each masked (body_only g cs (fv s)) out ≡ each (give g fv cs) (body_only g cs (fv s)) out
    same =
        each_same masked (give g fv cs) (body_only g cs (fv s)) out
        (λ d i o. ap (λ (f : List ℕ → List ℕ). f o) (under_low keep (give_step g fv cs) s (give g fv cs) d
        (lt-ltb d s (body_every (λ x. x < s) g cs (fv s) low d i))))

    go : (r : Rel) → ◌≡◌ {A = List ℕ} (elim r [
      | local ↦ union out (fv s)
      | deeper ↦ outsiders g cs (fv s) (each masked (body_only g cs (fv s)) out)
      | outside ↦ out
    ]) (elim r [
      | local ↦ union out (fv s)
      | deeper ↦ outsiders g cs (fv s) (each (give g fv cs) (body_only g cs (fv s)) out)
      | outside ↦ out
    ])
    go local = refl
    go deeper = ap (outsiders g cs (fv s)) same
    go outside = refl

-- only the free lists below c are asked for
module _ (g : Graph) (fv fw : ℕ → List ℕ) (fw-falls : Falls fw) (c : ℕ) (agree : (s : ℕ) → s < c → fv s ≡ fw s) where
  give-same : (cs s : ℕ) → s < c → (out : List ℕ) → give g fv cs s out ≡ give g fw cs s out
  unfolding give_step
  give-same cs = strong (λ s. s < c → (out : List ℕ) → give g fv cs s out ≡ give g fw cs s out) λ s ih l out.
      give_opens g fv cs s out (subst (Under s) (sym (agree s l)) (fw-falls s))
      ∙ (go s ih l out (rel_of g s cs) ∙ sym (give_opens g fw cs s out (fw-falls s)))
    where
      go : (s : ℕ) → ((d : ℕ) → d < s → d < c → (out : List ℕ) → give g fv cs d out ≡ give g fw cs d out) → s < c →
          (out : List ℕ) (r : Rel) → ◌≡◌ {A = List ℕ} (elim r [
            | local ↦ union out (fv s)
            | deeper ↦ outsiders g cs (fv s) (each (give g fv cs) (body_only g cs (fv s)) out)
            | outside ↦ out
          ]) (elim r [
            | local ↦ union out (fw s)
            | deeper ↦ outsiders g cs (fw s) (each (give g fw cs) (body_only g cs (fw s)) out)
            | outside ↦ out
          ])
      go s ih l out local = ap (union out) (agree s l)
      go s ih l out deeper =
          ap (λ (z : List ℕ). outsiders g cs z (each (give g fv cs) (body_only g cs z) out)) (agree s l)
          ∙ ap (outsiders g cs (fw s))
          (each_same (give g fv cs) (give g fw cs) (body_only g cs (fw s)) out
          (λ d i o. let k = body_every (λ x. x < s) g cs (fw s) (fw-falls s) d i in ih d k (omega arith) o))
      go s ih l out outside = refl

  gather_same : Under c (sym_of g c).kids → gather_step g fv c ≡ gather_step g fw c
  unfolding gather_step
  gather_same low =
      let cs = (sym_of g c).scope in
      let ms = body_only g cs (sym_of g c).kids in
      ap (outsiders g cs (local_dep_order (sym_of g c)))
      (each_same (give g fv cs) (give g fw cs) ms []
      (λ d i o. give-same cs d (body_every (λ x. x < c) g cs (sym_of g c).kids low d i) o))

-- ---- free lists

module _ (g : Graph) (kids_low : (s : ℕ) → Under s (sym_of g s).kids) where
  abbrev fv : ℕ → List ℕ
  fv = free_vars g

  body_low : (cs : ℕ) → Falls (body_neighbours g fv cs)
  body_low = body_falls g kids_low fv (free_falls g kids_low)

  -- a free list is a share in the symbol's own scope
  free_share : (c : ℕ) → fv c ≡ share g fv (sym_of g c).scope c
  unfolding free_step
  free_share c = free_opens g kids_low c

  share_rel : (cs s : ℕ) (r : Rel) → rel_of g s cs ≡ r →
      share g fv cs s
      ≡ outsiders g cs (elim r [ local ↦ local_dep_order (sym_of g s) | deeper ↦ fv s | outside ↦ [] ])
      (each (add_share g fv cs)
      (elim r [ local ↦ body_only g cs (sym_of g s).kids | deeper ↦ body_only g cs (fv s) | outside ↦ [] ]) [])
  unfolding body_neighbours
  share_rel cs s r e =
      subst (λ (z : Rel). share g fv cs s
      ≡ outsiders g cs (elim z [ local ↦ local_dep_order (sym_of g s) | deeper ↦ fv s | outside ↦ [] ])
      (each (add_share g fv cs)
      (elim z [ local ↦ body_only g cs (sym_of g s).kids | deeper ↦ body_only g cs (fv s) | outside ↦ [] ]) []))
      e (share_opens g fv cs (body_low cs) s)

  -- what a symbol gives is its share, whatever is there already
  pub give_adds : (cs s : ℕ) (out : List ℕ) → give g fv cs s out ≡ union out (share g fv cs s)
  unfolding give_step union outsiders each
  give_adds cs = strong (λ s. (out : List ℕ) → give g fv cs s out ≡ union out (share g fv cs s)) λ s ih out.
      give_opens g fv cs s out (free_falls g kids_low s) ∙ go s ih out (rel_of g s cs) refl
    where
      go : (s : ℕ) → ((d : ℕ) → d < s → (out : List ℕ) → give g fv cs d out ≡ union out (share g fv cs d)) →
          (out : List ℕ) (r : Rel) → rel_of g s cs ≡ r → ◌≡◌ {A = List ℕ} (elim r [
            | local ↦ union out (fv s)
            | deeper ↦ outsiders g cs (fv s) (each (give g fv cs) (body_only g cs (fv s)) out)
            | outside ↦ out
          ]) (union out (share g fv cs s))
      go s ih out local e = ap (union out) (free_share s ∙ ap (λ (z : ℕ). share g fv z s) (local_scope g s cs e))
      go s ih out deeper e =
          let ms = body_only g cs (fv s) in
          ap (outsiders g cs (fv s))
          (each_same (give g fv cs) (add_share g fv cs) ms out
          (λ d i o. ih d (body_every (λ x. x < s) g cs (fv s) (free_falls g kids_low s) d i) o)
          ∙ each_from g fv cs ms out)
          ∙ (outsiders-union g cs (fv s) out (each (add_share g fv cs) ms [])
          ∙ ap (union out) (sym (share_rel cs s deeper e)))
      go s ih out outside e = ap (union out) (sym (share_rel cs s outside e))

  -- a free list from the free lists of lower symbols
  pub free_gathers : (c : ℕ) → free_vars g c ≡ gather_step g (free_vars g) c
  unfolding gather_step
  free_gathers c =
      let cs = (sym_of g c).scope in
      let ms = body_only g cs (sym_of g c).kids in
      free_share c
      ∙ (share_rel cs c local (own_local g c)
      ∙ ap (outsiders g cs (local_dep_order (sym_of g c)))
      (each_same (add_share g fv cs) (give g fv cs) ms [] (λ d i o. sym (give_adds cs d o))))

  -- from lists that are right below c
  pub stored_gathers : (c : ℕ) (stored : ℕ → List ℕ) → ((s : ℕ) → s < c → stored s ≡ free_vars g s) →
      gather_step g stored c ≡ free_vars g c
  stored_gathers c stored h =
      gather_same g stored fv (free_falls g kids_low) c h (kids_low c) ∙ sym (free_gathers c)
