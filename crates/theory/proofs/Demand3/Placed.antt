-- Check 8 fails exactly at the first record that is out of place: `check_8`; where it passes, a definition is a block's
-- child before the last: `def_stands`.
-- In order: children, in trees taken apart; what the check knows at each record; the check.
-- Assumes nothing.
use mathlib.Core.Path.{◌≡◌, refl, ap, sym, ◌∙◌}
use mathlib.Core.Logic.{◌⊎◌, inl, inr, ◌↔◌}
use mathlib.Core.Bool.{Bool, true, false, not, ◌&&◌, beq}
use Rattle.std.specs.Prelude.{None, Some}
use Prim.Native.Nat.{ℕ, suc, ◌+◌, ◌<◌}
use native.Mathlib.Omega.{arith}
use lib.Dec.{eqb}
use lib.ListN.{get_or}
use borrow.Author.Tests.{eqb-true, eqb-false, eq-eqb, ne_eqb}
use Rattle.model.specs.Tree.{Rec, Trees, node, nil, cons, is_nil, sizes}
use Rattle.model.specs.Binding.{is_block, place_check, misplaced_in, check8}
use Rattle.model.specs.Places.{First}
use Rattle.model.specs.Nesting.{shape_in, end_of, Descends, Child, BeforeLast, OutOfPlace}
use Rattle.laws.proofs.Trees.{size_some}
use Rattle.laws.proofs.Apart.{false_true}
use Rattle.theory.proofs.Demand3.Nesting.{Spot, top, under, later, spot, rec-top, rec-under, rec_later, extent_top}
use Rattle.theory.proofs.Demand3.Nesting.{extent_under, extent_later, all_sizes, below-range, below_top, top_below}
use Rattle.theory.proofs.Demand3.Nesting.{below-under, under-below, under-not_later, below_later, later_below}
use Rattle.theory.proofs.Demand3.Faulty.{Faulty, first_of, none_faulty, fault_there, said}

-- ---- children

-- a first record of one of the trees, which has a later tree: before the last, where b says that these are a block's
RootBefore : Trees → Bool → ℕ → Type 0
RootBefore ts b p = (b ≡ true) × ((c : ℕ) → Descends ts c p → ⊥) × (end_of ts p < sizes ts)

module _ (r : Rec) (us ts : Trees) where
  abbrev W : Trees
  W = cons (node r us) ts

  child_under : (b q : ℕ) → Child us b q → Child W (suc b) (suc q)
  child_under b q h = let j = (below-range us b q h.0).0 in (below-under r us ts b q j h.0, λ c. go c (spot (sizes us) c))
    where
      go : (c : ℕ) → Spot (sizes us) c → suc b < c → Descends W c (suc q) → ⊥
      go c top l k = omega arith
      go c (under a j) l k = h.1 a (omega arith) (under-below r us ts a q j k)
      go c (later a) l k = omega (arith, k.0, (below-range us b q h.0).1)

  under_child : (b q : ℕ) → b < sizes us → Child W (suc b) (suc q) → Child us b q
  under_child b q j h = (
    under-below r us ts b q j h.0,
    λ c l k. h.1 (suc c) (omega arith) (below-under r us ts c q (below-range us c q k).0 k),
  )

  child_later : (b q : ℕ) → Child ts b q → Child W (suc (sizes us + b)) (suc (sizes us + q))
  child_later b q h = (below_later r us ts b q h.0, λ c. go c (spot (sizes us) c))
    where
      go : (c : ℕ) → Spot (sizes us) c → suc (sizes us + b) < c → Descends W c (suc (sizes us + q)) → ⊥
      go c top l k = omega arith
      go c (under a j) l k = omega arith
      go c (later a) l k = h.1 a (omega arith) (later_below r us ts a q k)

  later_child : (b q : ℕ) → Child W (suc (sizes us + b)) (suc (sizes us + q)) → Child ts b q
  later_child b q h = (
    later_below r us ts b q h.0,
    λ c l k. h.1 (suc (sizes us + c)) (omega arith) (below_later r us ts c q k),
  )

  -- a record below the first
  under_stands : (q : ℕ) → q < sizes us → BeforeLast us q ⊎ RootBefore us (is_block r) q → BeforeLast W (suc q)
  unfolding RootBefore
  under_stands q l (inl (b, s, h, e)) =
      let j = (below-range us b q h.0).0 in (
        suc b,
        ap (λ z. z.shape) (rec-under r us ts b j) ∙ s,
        child_under b q h,
        omega (arith, extent_under r us ts b j, extent_under r us ts q l),
      )
  under_stands q l (inr (s, h, e)) = (
    0,
    ap (λ z. z.shape) (rec-top r us ts) ∙ eqb-true r.shape 11 s,
    (below_top r us ts q l, λ c. go c (spot (sizes us) c)),
    omega (arith, extent_top r us ts, extent_under r us ts q l),
  )
    where
      go : (c : ℕ) → Spot (sizes us) c → 0 < c → Descends W c (suc q) → ⊥
      go c top l k = omega arith
      go c (under a j) l k = h a (under-below r us ts a q j k)
      go c (later a) k b = omega (arith, b.0)

  stands_under : (q : ℕ) → q < sizes us → BeforeLast W (suc q) → BeforeLast us q ⊎ RootBefore us (is_block r) q
  unfolding RootBefore
  stands_under q l (b, s, h, e) = go b (spot (sizes us) b) s h e
    where
      go : (b : ℕ) → Spot (sizes us) b → shape_in W b ≡ 11 → Child W b (suc q) → end_of W (suc q) < end_of W b →
          BeforeLast us q ⊎ RootBefore us (is_block r) q
      go b top s h e =
          inr (
            eq-eqb r.shape 11 (sym (ap (λ z. z.shape) (rec-top r us ts)) ∙ s),
            (λ c k. h.1 (suc c) (omega arith) (below-under r us ts c q (below-range us c q k).0 k)),
            omega (arith, extent_top r us ts, extent_under r us ts q l),
          )
      go b (under a j) s h e =
          inl (
            a,
            sym (ap (λ z. z.shape) (rec-under r us ts a j)) ∙ s,
            under_child a q j h,
            omega (arith, extent_under r us ts a j, extent_under r us ts q l),
          )
      go b (later a) s h e = absurd (omega (arith, h.0.0))

  -- a record of the later trees
  later_stands : (f : Bool) (q : ℕ) → BeforeLast ts q ⊎ RootBefore ts f q →
      BeforeLast W (suc (sizes us + q)) ⊎ RootBefore W f (suc (sizes us + q))
  unfolding RootBefore
  later_stands f q (inl (b, s, h, e)) =
      inl (
        suc (sizes us + b),
        ap (λ z. z.shape) (rec_later r us ts b) ∙ s,
        child_later b q h,
        omega (arith, extent_later r us ts b, extent_later r us ts q),
      )
  later_stands f q (inr (s, h, e)) =
      inr (s, (λ c. go c (spot (sizes us) c)), omega (arith, extent_later r us ts q, all_sizes r us ts))
    where
      go : (c : ℕ) → Spot (sizes us) c → Descends W c (suc (sizes us + q)) → ⊥
      go c top k = top_below r us ts q k
      go c (under a j) k = under-not_later r us ts a q j k
      go c (later a) k = h a (later_below r us ts a q k)

  stands_later : (f : Bool) (q : ℕ) → BeforeLast W (suc (sizes us + q)) ⊎ RootBefore W f (suc (sizes us + q)) →
      BeforeLast ts q ⊎ RootBefore ts f q
  unfolding RootBefore
  stands_later f q (inl (b, s, h, e)) = go b (spot (sizes us) b) s h e
    where
      go : (b : ℕ) → Spot (sizes us) b → shape_in W b ≡ 11 → Child W b (suc (sizes us + q)) →
          end_of W (suc (sizes us + q)) < end_of W b → BeforeLast ts q ⊎ RootBefore ts f q
      go b top s h e = absurd (top_below r us ts q h.0)
      go b (under a j) s h e = absurd (under-not_later r us ts a q j h.0)
      go b (later a) s h e =
          inl (
            a,
            sym (ap (λ z. z.shape) (rec_later r us ts a)) ∙ s,
            later_child a q h,
            omega (arith, extent_later r us ts a, extent_later r us ts q),
          )
  stands_later f q (inr (s, h, e)) =
      inr (
        s,
        (λ c k. h (suc (sizes us + c)) (below_later r us ts c q k)),
        omega (arith, extent_later r us ts q, all_sizes r us ts),
      )

-- ---- what the check knows at each record

-- whether a definition has to stand at record p
abbrev At : Trees → Bool → ℕ → Bool → Type 0
At ts b p d = (d ≡ true) ↔ (BeforeLast ts p ⊎ RootBefore ts b p)

and-more : (b : Bool) (ts : Trees) → ((b && not (is_nil ts)) ≡ true) ↔ ((b ≡ true) × (0 < sizes ts))
unfolding sizes
and-more true nil = (λ e. false_true e, λ h. absurd (omega (arith, h.1)))
and-more true (cons t ts) = (λ e. (refl, omega (arith, size_some t)), λ h. refl)
and-more false ts = (λ e. false_true e, λ h. h.0)

at_top : (r : Rec) (us ts : Trees) (b : Bool) → At (cons (node r us) ts) b 0 (b && not (is_nil ts))
unfolding RootBefore
at_top r us ts b =
    let w = and-more b ts in (
      λ e. inr (
        (w.0 e).0,
        (λ c k. omega (arith, k.0)),
        omega (arith, (w.0 e).1, extent_top r us ts, all_sizes r us ts),
      ),
      λ h. elim h [
        | inl k ↦ absurd (omega (arith, k.2.0.0))
        | inr k ↦ w.1 (k.0, omega (arith, k.2, extent_top r us ts, all_sizes r us ts))
      ],
    )

at_under : (r : Rec) (us ts : Trees) (b : Bool) (q : ℕ) (d : Bool) → q < sizes us → At us (is_block r) q d →
    At (cons (node r us) ts) b (suc q) d
unfolding RootBefore
at_under r us ts b q d j w = (
  λ e. inl (under_stands r us ts q j (w.0 e)),
  λ h. elim h [
    | inl k ↦ w.1 (stands_under r us ts q j k)
    | inr k ↦ absurd (k.1 0 (below_top r us ts q j))
  ],
)

known : (ts : Trees) (b : Bool) (p : ℕ) → p < sizes ts → (d : Bool) ×
    (get_or (misplaced_in ts b) p false ≡ not (beq (eqb (shape_in ts p) 10) d)) × At ts b p d
known =
    said place_check At at_top at_under
    (λ r us ts b q d w. (λ e. later_stands r us ts b q (w.0 e), λ h. w.1 (stands_later r us ts b q h)))

-- ---- the check

-- in the whole forest nothing outside a block's children has to be a definition
says_8 : (ts : Trees) (p : ℕ) → p < sizes ts →
    (d : Bool) × (get_or (misplaced_in ts false) p false ≡ not (beq (eqb (shape_in ts p) 10) d)) ×
    ((d ≡ true) ↔ BeforeLast ts p)
unfolding RootBefore
says_8 ts p l =
    let w = known ts false p l in (
      w.0,
      w.1,
      (λ e. elim (w.2.0 e) [ inl k ↦ k | inr k ↦ false_true k.0 ], λ h. w.2.1 (inl h)),
    )

out_of_place : (ts : Trees) (p : ℕ) → Faulty (misplaced_in ts false) p ↔ OutOfPlace ts p
out_of_place ts p = (to, back)
  where
    test : (x d : Bool) → eqb (shape_in ts p) 10 ≡ x → not (beq x d) ≡ true → ((d ≡ true) ↔ BeforeLast ts p) →
        ((shape_in ts p ≡ 10) × (BeforeLast ts p → ⊥)) ⊎ (BeforeLast ts p × (shape_in ts p ≡ 10 → ⊥))
    test true true e f w = false_true f
    test true false e f w = inl (eqb-true _ 10 e, λ h. false_true (w.1 h))
    test false true e f w = inr (w.0 refl, eqb-false _ 10 e)
    test false false e f w = false_true f

    to : Faulty (misplaced_in ts false) p → OutOfPlace ts p
    to m =
        let l = fault_there place_check ts false p m in
        let w = says_8 ts p l in
        (l, test (eqb (shape_in ts p) 10) w.0 refl (sym w.1 ∙ m) w.2)

    offends : (d : Bool) → ((d ≡ true) ↔ BeforeLast ts p) →
        ((shape_in ts p ≡ 10) × (BeforeLast ts p → ⊥)) ⊎ (BeforeLast ts p × (shape_in ts p ≡ 10 → ⊥)) →
        not (beq (eqb (shape_in ts p) 10) d) ≡ true
    offends true w (inl h) = absurd (h.1 (w.0 refl))
    offends false w (inl h) = rw (eq-eqb _ 10 h.0) refl
    offends true w (inr h) = rw (ne_eqb _ 10 h.1) refl
    offends false w (inr h) = false_true (w.1 h.0)

    back : OutOfPlace ts p → Faulty (misplaced_in ts false) p
    back h = let w = says_8 ts p h.0 in w.1 ∙ offends w.0 w.2 h.1

pub check_8 : (ts : Trees) (p : ℕ) → (check8 ts ≡ Some p) ↔ First (OutOfPlace ts) p
unfolding check8
check_8 ts = first_of (OutOfPlace ts) (misplaced_in ts false) (out_of_place ts)

-- where it passes, a definition is a block's child
pub def_stands : (ts : Trees) → check8 ts ≡ None → (d : ℕ) → d < sizes ts →
    shape_in ts d ≡ 10 → BeforeLast ts d
unfolding check8
def_stands ts eight d l e = go w.0 w.1 w.2
  where
    w : (d' : Bool) × (get_or (misplaced_in ts false) d false ≡ not (beq (eqb (shape_in ts d) 10) d')) ×
        ((d' ≡ true) ↔ BeforeLast ts d)
    w = says_8 ts d l

    go : (b : Bool) → get_or (misplaced_in ts false) d false ≡ not (beq (eqb (shape_in ts d) 10) b) →
        ((b ≡ true) ↔ BeforeLast ts d) → BeforeLast ts d
    go true f k = k.0 refl
    go false f k = absurd (none_faulty (misplaced_in ts false) eight d (f ∙ rw (eq-eqb _ 10 e) refl))
