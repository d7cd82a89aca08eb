-- Walks, free lists and schedules hold each symbol once, and so are no longer than the symbols they may hold: they fit
-- lists of 512 numbers.
-- In order: lists that hold each number once; walks; free lists; schedules.
-- Assumes nothing.
use mathlib.Core.Path.{◌≡◌, refl, sym, ◌∙◌, subst}
use mathlib.Core.Logic.{◌⊎◌, inl, inr}
use mathlib.Core.Bool.{Bool, true, false, not, ◌&&◌}
use mathlib.Core.List.{List, [], ◌∷◌, ◌++◌}
use Prim.Native.Nat.{ℕ, zero, suc, ◌≤◌, ◌<◌}
use native.Mathlib.Omega.{arith}
use lib.Dec.{eqb}
use lib.ListN.{length}
use borrow.Author.Tests.{eqb-true, eqb-false}
use Rattle.model.specs.Lists.{is_in, add}
use Rattle.model.specs.Down.{under, down_fuel, down}
use Rattle.model.specs.Gate.{Graph, sym_of}
use Rattle.model.specs.Schedule.{is_arg, is_outside, rel_of, each, visit_step, visit, body_neighbours, outsiders, collect}
use Rattle.model.specs.Schedule.{free_step, free_vars, neighbours, schedule}
use Rattle.laws.specs.Members.{In, Once, Under}
use Rattle.laws.proofs.Induction.{strong}
use Rattle.laws.proofs.Down.{down_step}
use Rattle.laws.proofs.Members.{is_in_false, in_either, in_one}
use Rattle.laws.proofs.Once.{snoc_once, add_once}
use Rattle.laws.proofs.Walks.{if_holds, under_holds}
use Rattle.laws.proofs.Falls.{or-below, Falls, visit_low, body_falls, free_falls, neighbours_fall}

-- ---- each number once

-- a list without the first n in it
abbrev minus : ℕ → List ℕ → List ℕ
minus n [] = []
minus n (x ∷ xs) = elim (eqb x n) [ true ↦ xs | false ↦ x ∷ minus n xs ]

-- what is left of a list without n: all but one at least, numbers below n, each once
abbrev Left : ℕ → List ℕ → List ℕ → Type 0
Left n xs ys = (length xs ≤ suc (length ys)) × ((x : ℕ) → In x ys → In x xs × (x < n)) × Once ys

minus_left : (n : ℕ) (xs : List ℕ) → Once xs → Under (suc n) xs → Left n xs (minus n xs)
minus_left n [] h u = (omega arith, λ x i. absurd i, tt)
minus_left n (x ∷ xs) h u = go (eqb x n) refl (minus_left n xs h.1 (λ y i. u y (inr i)))
  where
    go : (b : Bool) → eqb x n ≡ b → Left n xs (minus n xs) →
        Left n (x ∷ xs) (elim b [ true ↦ xs | false ↦ x ∷ minus n xs ])
    go true e w = (omega arith, λ y i. (inr i, lower y i), h.1)
      where
        lower : (y : ℕ) → In y xs → y < n
        lower y i =
            let l = u y (inr i) in
            let other : y ≡ n → ⊥ = λ q. h.0 (subst (λ (z : ℕ). In z xs) (q ∙ sym (eqb-true x n e)) i) in
            omega arith
    go false e w = (omega (arith, w.0), members, (λ i. h.0 (w.1 x i).0, w.2))
      where
        members : (y : ℕ) → In y (x ∷ minus n xs) → In y (x ∷ xs) × (y < n)
        members y (inl q) = (inl q, omega (arith, u y (inl q), eqb-false x n e))
        members y (inr i) = (inr (w.1 y i).0, (w.1 y i).1)

-- as many numbers below n as n, at most
pub once_short : (n : ℕ) (xs : List ℕ) → Once xs → Under n xs → length xs ≤ n
once_short zero [] h u = omega arith
once_short zero (x ∷ xs) h u = absurd (omega (arith, u x (inl refl)))
once_short (suc n) xs h u =
    let w = minus_left n xs h u in
    omega (arith, w.0, once_short n (minus n xs) w.2 (λ x i. (w.1 x i).1))

-- ---- walks

-- numbers below s have been added to a list, and it holds each number once, if it did
abbrev Added : ℕ → List ℕ → List ℕ → Type 0
Added s xs ys = ((x : ℕ) → In x ys → In x xs ⊎ (x < s)) × (Once xs → Once ys)

each_adds : (s : ℕ) (f : ℕ → List ℕ → List ℕ) → ((d : ℕ) (o : List ℕ) → Added s o (f d o)) →
    (ds o : List ℕ) → Added s o (each f ds o)
unfolding each
each_adds s f h [] o = (λ x i. inl i, λ k. k)
each_adds s f h (d ∷ ds) o =
    let w = h d o in
    let v = each_adds s f h ds (f d o) in
    (λ x i. elim (v.0 x i) [ inl j ↦ w.0 x j | inr l ↦ inr l ], λ k. v.1 (w.1 k))

-- a walk from s adds numbers up to s, each once
pub visit_adds : (nb : ℕ → List ℕ) (s : ℕ) (out : List ℕ) → Added (suc s) out (visit nb s out)
unfolding visit visit_step
visit_adds nb = strong (λ s. (out : List ℕ) → Added (suc s) out (visit nb s out)) λ s ih out.
    subst (λ (f : List ℕ → List ℕ). Added (suc s) out (f out)) (sym (down_step (λ o. o) (visit_step nb) s))
    (go s out (is_in s out) refl (each (under (λ o. o) s (visit nb)) (nb s) out)
    (each_adds s (under (λ o. o) s (visit nb)) (lower s ih) (nb s) out))
  where
    lower : (s : ℕ) → ((d : ℕ) → d < s → (o : List ℕ) → Added (suc d) o (visit nb d o)) →
        (d : ℕ) (o : List ℕ) → Added s o (under (λ o. o) s (visit nb) d o)
    lower s ih d o =
        under_holds (λ (f : List ℕ → List ℕ). Added s o (f o)) (λ o. o) s (visit nb) d
        (λ l. (λ x i. or-below l ((ih d l o).0 x i), (ih d l o).1)) (λ x i. inl i, λ k. k)

    go : (s : ℕ) (out : List ℕ) (b : Bool) → is_in s out ≡ b → (ds : List ℕ) → Added s out ds →
        Added (suc s) out (elim b [ true ↦ out | false ↦ ds ++ (s ∷ []) ])
    go s out true e ds h = (λ x i. inl i, λ o. o)
    go s out false e ds h =
        (λ x i. last x (in_either x ds (s ∷ []) i), λ o. snoc_once ds s (h.1 o) (λ i. new (h.0 s i)))
      where
        last : (x : ℕ) → In x ds ⊎ In x (s ∷ []) → In x out ⊎ (x < suc s)
        last x (inl i) = elim (h.0 x i) [ inl j ↦ inl j | inr l ↦ inr (omega arith) ]
        last x (inr i) = let e = in_one i in inr (omega arith)

        new : In s out ⊎ (s < s) → ⊥
        new (inl i) = is_in_false s out e i
        new (inr l) = omega arith

visit_once : (nb : ℕ → List ℕ) (s : ℕ) → Once (visit nb s [])
visit_once nb s = (visit_adds nb s []).1 tt

visit_short : (nb : ℕ → List ℕ) → Falls nb → (s : ℕ) → length (visit nb s []) ≤ suc s
visit_short nb falls s = once_short (suc s) (visit nb s []) (visit_once nb s) (visit_low nb falls s)

-- ---- free lists

outsiders_once : (g : Graph) (cs : ℕ) (ds out : List ℕ) → Once out → Once (outsiders g cs ds out)
unfolding outsiders
outsiders_once g cs [] out h = h
outsiders_once g cs (d ∷ ds) out h =
    if_holds Once (not (is_arg (sym_of g d).node) && is_outside (rel_of g d cs)) _ _
    (outsiders_once g cs ds (add out d) (add_once out d h)) (outsiders_once g cs ds out h)

collect_once : (g : Graph) (fv : ℕ → List ℕ) (cs : ℕ) (ss out : List ℕ) → Once out → Once (collect g fv cs ss out)
unfolding collect
collect_once g fv cs [] out h = h
collect_once g fv cs (s ∷ ss) out h = collect_once g fv cs ss _ (outsiders_once g cs _ out h)

free_once : (g : Graph) (c : ℕ) → Once (free_vars g c)
unfolding free_vars down down_fuel free_step
free_once g c = collect_once g _ (sym_of g c).scope _ [] tt

-- ---- schedules

module _ (g : Graph) (kids_low : (s : ℕ) → Under s (sym_of g s).kids) where
  pub free_short : (c : ℕ) → length (free_vars g c) ≤ c
  free_short c = once_short c (free_vars g c) (free_once g c) (free_falls g kids_low c)

  -- the body order of a symbol, with any free lists that fall
  pub body_short : (fv : ℕ → List ℕ) → Falls fv → (cs c : ℕ) → length (visit (body_neighbours g fv cs) c []) ≤ suc c
  body_short fv h cs c = visit_short (body_neighbours g fv cs) (body_falls g kids_low fv h cs) c

  pub schedule_once : (root sc : ℕ) → Once (schedule g root sc)
  unfolding schedule
  schedule_once root sc = visit_once (neighbours g sc) root

  pub schedule_short : (root sc : ℕ) → length (schedule g root sc) ≤ suc root
  unfolding schedule
  schedule_short root sc = visit_short (neighbours g sc) (neighbours_fall g kids_low sc) root
