-- Walks, free lists and what is collected, opened for code that goes a step at a time: the mask of `down` is never
-- seen, since neighbours are lower.
-- In order: a step for each of a list, and what is passed over; a visit opened (`visit_opens`), what steps add, and
-- visits that agree; what a symbol needs from outside, one more at the end; a free list opened (`free_opens`).
-- Assumes nothing.
use mathlib.Core.Path.{◌≡◌, refl, sym, ap, ◌∙◌}
use mathlib.Core.Logic.{◌⊎◌, inl, inr}
use mathlib.Core.Bool.{Bool, true, false, not, ◌&&◌, ◌||◌}
use mathlib.Core.List.{List, [], ◌∷◌, ◌++◌}
use Prim.Native.Nat.{ℕ, suc, ◌+◌, ◌<◌, ◌≤◌}
use native.Mathlib.Omega.{arith}
use lib.Dec.{ltb}
use lib.ListN.{length}
use borrow.Author.Tests.{lt-ltb, eq-eqb, ltb-true, ltb-false}
use Rattle.model.specs.Lists.{is_in, add}
use Rattle.model.specs.Down.{under}
use Rattle.model.specs.Intern.{thunked}
use Rattle.model.specs.Gate.{Graph, sym_of}
use Rattle.model.specs.Schedule.{is_arg, Rel, local, deeper, outside, is_outside, classify, rel_of, each, visit_step, visit}
use Rattle.model.specs.Schedule.{operands, local_dep_order, body_only, body_neighbours, outsiders, collect, free_step}
use Rattle.model.specs.Schedule.{free_vars}
use Rattle.laws.proofs.Induction.{strong}
use Rattle.laws.proofs.Down.{under_low, under_same, down_step}
use Rattle.laws.specs.Members.{In, Every, Under}
use Rattle.laws.proofs.Members.{not_in_is_in, is_in_false}
use Rattle.laws.proofs.Walks.{eq_b, operands-cons, every_rel, order_every}
use Rattle.laws.proofs.Falls.{Falls, or-below, visit_low, body_falls, free_falls}

-- ---- a step for each of a list

pub each_last : (f : ℕ → List ℕ → List ℕ) (ds : List ℕ) (d : ℕ) (out : List ℕ) →
    each f (ds ++ (d ∷ [])) out ≡ f d (each f ds out)
unfolding each
each_last f [] d out = refl
each_last f (x ∷ ds) d out = each_last f ds d (f x out)

pub each_same : (f h : ℕ → List ℕ → List ℕ) (ds out : List ℕ) → Every (λ d. (o : List ℕ) → f d o ≡ h d o) ds →
    each f ds out ≡ each h ds out
unfolding each
each_same f h [] out e = refl
each_same f h (d ∷ ds) out e =
    each_same f h ds (f d out) (λ x i. e x (inr i)) ∙ ap (each h ds) (e d (inl refl) out)

-- a step that is not done where b says so
abbrev pub unless : Bool → (List ℕ → List ℕ) → List ℕ → List ℕ
unless true f out = out
unless false f out = f out

-- body order passes over arguments and outsiders
pub each_body : (g : Graph) (cs : ℕ) (f : ℕ → List ℕ → List ℕ) (ds out : List ℕ) →
    each f (body_only g cs ds) out
    ≡ each (λ d o. unless (is_arg (sym_of g d).node || is_outside (rel_of g d cs)) (f d) o) ds out
unfolding each body_only
each_body g cs f [] out = refl
each_body g cs f (d ∷ ds) out =
    go (is_arg (sym_of g d).node || is_outside (rel_of g d cs)) (λ o. each_body g cs f ds o)
  where
    pass : ℕ → List ℕ → List ℕ
    pass d o = unless (is_arg (sym_of g d).node || is_outside (rel_of g d cs)) (f d) o

    go : (b : Bool) → ((o : List ℕ) → each f (body_only g cs ds) o ≡ each pass ds o) →
        each f (elim b [ true ↦ body_only g cs ds | false ↦ d ∷ body_only g cs ds ]) out
        ≡ each pass ds (unless b (f d) out)
    go true rest = rest out
    go false rest = rest (f d out)

-- ---- visits

abbrev pub visited : (ℕ → List ℕ) → ℕ → Bool → List ℕ → List ℕ
visited nb s true out = out
visited nb s false out = each (visit nb) (nb s) out ++ (s ∷ [])

module _ (nb : ℕ → List ℕ) (s : ℕ) where
  abbrev keep : List ℕ → List ℕ
  keep out = out

  -- below s the mask is not seen
  each_mask : (ds out : List ℕ) → Under s ds → each (under keep s (visit nb)) ds out ≡ each (visit nb) ds out
  each_mask ds out low =
      each_same (under keep s (visit nb)) (visit nb) ds out
      (λ d i o. ap (λ (f : List ℕ → List ℕ). f o) (under_low keep (visit_step nb) s (visit nb) d (lt-ltb d s (low d i))))

  pub visit_opens : (out : List ℕ) → Under s (nb s) → visit nb s out ≡ visited nb s (is_in s out) out
  unfolding visit visit_step
  visit_opens out low =
      ap (λ (f : List ℕ → List ℕ). f out) (down_step keep (visit_step nb) s) ∙ go (is_in s out)
    where
      go : (b : Bool) → ◌≡◌ {A = List ℕ} (elim b [
        | true ↦ out
        | false ↦ each (under keep s (visit nb)) (nb s) out ++ (s ∷ [])
      ]) (visited nb s b out)
      go true = refl
      go false = ap (λ (l : List ℕ). l ++ (s ∷ [])) (each_mask (nb s) out low)

-- steps that add no more than their symbol and lower ones
abbrev pub Adds : (ℕ → List ℕ → List ℕ) → Type 0
Adds f = (d : ℕ) (out : List ℕ) (x : ℕ) → In x (f d out) → In x out ⊎ (x < suc d)

-- so that steps of symbols below s do not add s
pub each_fresh : (f : ℕ → List ℕ → List ℕ) → Adds f → (s : ℕ) (ds out : List ℕ) → Under s ds → is_in s out ≡ false →
    is_in s (each f ds out) ≡ false
unfolding each
each_fresh f adds s ds out low new = not_in_is_in s (each f ds out) (λ i. no (all ds out low s i))
  where
    all : (ds o : List ℕ) → Under s ds → (x : ℕ) → In x (each f ds o) → In x o ⊎ (x < s)
    all [] o low x i = inl i
    all (d ∷ ds) o low x i = first (all ds (f d o) (λ y k. low y (inr k)) x i)
      where
        first : In x (f d o) ⊎ (x < s) → In x o ⊎ (x < s)
        first (inl k) = or-below (low d (inl refl)) (adds d o x k)
        first (inr l) = inr l

    no : In s out ⊎ (s < s) → ⊥
    no (inl i) = is_in_false s out new i
    no (inr l) = omega arith

-- visits by neighbours that agree below b
pub visit-same : (nb mb : ℕ → List ℕ) (b : ℕ) → ((s : ℕ) → s < b → nb s ≡ mb s) → (s : ℕ) → s < b →
    visit nb s ≡ visit mb s
unfolding visit visit_step
visit-same nb mb b h = strong (λ s. s < b → visit nb s ≡ visit mb s) λ s ih l.
    let e : under (λ o. o) s (visit nb) ≡ under (λ o. o) s (visit mb) =
    under_same (λ o. o) (visit_step nb) s (visit nb) (visit mb) (λ d k. ih d k (omega arith)) in
    down_step (λ o. o) (visit_step nb) s
    ∙ (ap (λ (u : ℕ → List ℕ → List ℕ). visit_step nb u s) e ∙ (ap (step s (under (λ o. o) s (visit mb))) (h s l)
    ∙ sym (down_step (λ o. o) (visit_step mb) s)))
  where
    step : ℕ → (ℕ → List ℕ → List ℕ) → List ℕ → List ℕ → List ℕ
    step s u ds out = elim (is_in s out) [ true ↦ out | false ↦ each u ds out ++ (s ∷ []) ]

-- ---- what a symbol needs from outside

module _ (g : Graph) (cs : ℕ) where
  pub outsiders_join : (xs ys out : List ℕ) → outsiders g cs (xs ++ ys) out ≡ outsiders g cs ys (outsiders g cs xs out)
  unfolding outsiders
  outsiders_join [] ys out = refl
  outsiders_join (d ∷ xs) ys out =
      go (not (is_arg (sym_of g d).node) && is_outside (rel_of g d cs)) (λ o. outsiders_join xs ys o)
    where
      go : (b : Bool) → ((o : List ℕ) → outsiders g cs (xs ++ ys) o ≡ outsiders g cs ys (outsiders g cs xs o)) →
          ◌≡◌ {A = List ℕ} (elim b [
            | true ↦ outsiders g cs (xs ++ ys) (add out d)
            | false ↦ outsiders g cs (xs ++ ys) out
          ]) (outsiders g cs ys (elim b [ true ↦ outsiders g cs xs (add out d) | false ↦ outsiders g cs xs out ]))
      go true rest = rest (add out d)
      go false rest = rest out

  -- what symbol s of a body needs
  abbrev pub needs : (ℕ → List ℕ) → ℕ → List ℕ
  needs fv s = elim (rel_of g s cs) [ local ↦ local_dep_order (sym_of g s) | deeper ↦ fv s | outside ↦ [] ]

  pub collect_join : (fv : ℕ → List ℕ) (xs ys out : List ℕ) →
      collect g fv cs (xs ++ ys) out ≡ collect g fv cs ys (collect g fv cs xs out)
  unfolding collect
  collect_join fv [] ys out = refl
  collect_join fv (x ∷ xs) ys out = collect_join fv xs ys _

  pub collect-last : (fv : ℕ → List ℕ) (ss : List ℕ) (s : ℕ) (out : List ℕ) →
      collect g fv cs (ss ++ (s ∷ [])) out ≡ outsiders g cs (needs fv s) (collect g fv cs ss out)
  unfolding collect
  collect-last fv ss s out = collect_join fv ss (s ∷ []) out

  collect-same : (fv fw : ℕ → List ℕ) (ss out : List ℕ) → Every (λ s. needs fv s ≡ needs fw s) ss →
      collect g fv cs ss out ≡ collect g fw cs ss out
  unfolding collect
  collect-same fv fw [] out h = refl
  collect-same fv fw (s ∷ ss) out h =
      collect-same fv fw ss _ (λ x i. h x (inr i))
      ∙ ap (λ (ds : List ℕ). collect g fw cs ss (outsiders g cs ds out)) (h s (inl refl))

-- where free lists fall, what a symbol needs does
pub needs_low : (g : Graph) → ((s : ℕ) → Under s (sym_of g s).kids) → (fv : ℕ → List ℕ) → Falls fv → (cs : ℕ) →
    Falls (needs g cs fv)
needs_low g kids_low fv falls cs s =
    every_rel (λ x. x < s) (rel_of g s cs) (local_dep_order (sym_of g s)) (fv s)
    (order_every (λ x. x < s) (sym_of g s) (kids_low s)) (falls s)

pub operands-last : (b : Bool) (op j : ℕ) (ks : List ℕ) (k : ℕ) →
    operands b op j (ks ++ (k ∷ [])) ≡ operands b op j ks ++ operands b op (j + length ks) (k ∷ [])
unfolding operands
operands-last true op j [] k = let e : j + 0 ≡ j = omega arith in rw e
operands-last false op j [] k = let e : j + 0 ≡ j = omega arith in rw e
operands-last b op j (x ∷ ks) k =
    let e : j + suc (length ks) ≡ suc j + length ks = omega arith in
    rw (e, operands-cons b op j x (ks ++ (k ∷ [])), operands-cons b op j x ks)
    (go (eq_b b (thunked op j)) _ _ _ (operands-last b op (suc j) ks k))
  where
    go : (t : Bool) (xs ys zs : List ℕ) → xs ≡ ys ++ zs →
        ◌≡◌ {A = List ℕ} (elim t [ true ↦ x ∷ xs | false ↦ xs ]) (elim t [ true ↦ x ∷ ys | false ↦ ys ] ++ zs)
    go true xs ys zs e = ap (λ (l : List ℕ). x ∷ l) e
    go false xs ys zs e = e

-- ---- free lists

-- a symbol is local in its own scope
pub own_local : (g : Graph) (c : ℕ) → rel_of g c (sym_of g c).scope ≡ local
unfolding rel_of classify
own_local g c = rw (eq-eqb (sym_of g c).scope (sym_of g c).scope refl, classify)

-- two ways to take free lists that agree below c
module _ (g : Graph) (c : ℕ) (fv fw : ℕ → List ℕ) (agree : (s : ℕ) → s < c → fv s ≡ fw s) where
  abbrev own : ℕ
  own = (sym_of g c).scope

  -- c itself is local: its own free list is not asked for
  by_rel : {A : Type 0} (P : (ℕ → List ℕ) → ℕ → Rel → A) →
      ((s : ℕ) → P fv s local ≡ P fw s local) → ((s : ℕ) → P fv s outside ≡ P fw s outside) →
      ((s : ℕ) → fv s ≡ fw s → P fv s deeper ≡ P fw s deeper) →
      (s : ℕ) → s ≤ c → P fv s (rel_of g s own) ≡ P fw s (rel_of g s own)
  by_rel P l o d s le = go (ltb s c) refl
    where
      rel : fv s ≡ fw s → (r : Rel) → P fv s r ≡ P fw s r
      rel e local = l s
      rel e deeper = d s e
      rel e outside = o s

      go : (b : Bool) → ltb s c ≡ b → P fv s (rel_of g s own) ≡ P fw s (rel_of g s own)
      go true e = rel (agree s (ltb-true s c e)) (rel_of g s own)
      go false e =
          let q : s ≡ c = omega (arith, ltb-false s c e) in
          let r : rel_of g s own ≡ local = ap (λ (z : ℕ). rel_of g z own) q ∙ own_local g c in
          rw r (l s)

  body_agree : (s : ℕ) → s ≤ c → body_neighbours g fv own s ≡ body_neighbours g fw own s
  unfolding body_neighbours
  body_agree =
      by_rel (λ f s r. elim r [
        | local ↦ body_only g own (sym_of g s).kids
        | deeper ↦ body_only g own (f s)
        | outside ↦ []
      ]) (λ s. refl) (λ s. refl) (λ s e. ap (body_only g own) e)

  needs_agree : (s : ℕ) → s ≤ c → needs g own fv s ≡ needs g own fw s
  needs_agree =
      by_rel (λ f s r. elim r [ local ↦ local_dep_order (sym_of g s) | deeper ↦ f s | outside ↦ [] ])
      (λ s. refl) (λ s. refl) (λ s e. e)

  step_agrees : Under (suc c) (visit (body_neighbours g fw own) c []) → free_step g fv c ≡ free_step g fw c
  unfolding free_step
  step_agrees low =
      ap (λ (f : List ℕ → List ℕ). collect g fv own (f []) [])
      (visit-same (body_neighbours g fv own) (body_neighbours g fw own) (suc c) (λ s l. body_agree s (omega arith)) c
      (omega arith))
      ∙ collect-same g own fv fw (visit (body_neighbours g fw own) c []) []
      (λ s i. needs_agree s (omega (arith, low s i)))

-- a free list from the free lists of lower symbols
pub free_opens : (g : Graph) → ((s : ℕ) → Under s (sym_of g s).kids) → (c : ℕ) →
    free_vars g c ≡ free_step g (free_vars g) c
unfolding free_vars
free_opens g kids_low c =
    down_step [] (free_step g) c
    ∙ step_agrees g c (under [] c (free_vars g)) (free_vars g)
    (λ s l. under_low [] (free_step g) c (free_vars g) s (lt-ltb s c l))
    (visit_low (body_neighbours g (free_vars g) (sym_of g c).scope)
    (body_falls g kids_low (free_vars g) (free_falls g kids_low) (sym_of g c).scope) c)
