-- Check 7 fails exactly at the first record that is deeper than 64: `check_7`.
-- In order: trees taken apart; what the check knows at each record; the check.
-- Assumes nothing.
use mathlib.Core.Path.{◌≡◌, sym, ◌∙◌}
use mathlib.Core.Logic.{◌↔◌}
use mathlib.Core.Bool.{false}
use Rattle.std.specs.Prelude.{Some}
use mathlib.Core.List.{List}
use Prim.Native.Nat.{ℕ, zero, suc, ◌+◌, ◌≤◌, ◌<◌}
use native.Mathlib.Omega.{arith}
use lib.Dec.{ltb}
use lib.ListN.{get_or}
use borrow.Author.Tests.{ltb-true, lt-ltb}
use Rattle.model.specs.Tree.{Rec, Trees, node, cons, sizes}
use Rattle.model.specs.Forest.{trees_of, depth_check, deeps, check7}
use Rattle.model.specs.Places.{First}
use Rattle.model.specs.Nesting.{Descends, Deeper}
use Rattle.theory.proofs.Demand3.Nesting.{Spot, top, under, later, spot, all_sizes, below-range, below_top}
use Rattle.theory.proofs.Demand3.Nesting.{top_below, below-under, under-below, under-not_later, below_later}
use Rattle.theory.proofs.Demand3.Nesting.{later_below}
use Rattle.theory.proofs.Demand3.Faulty.{Faulty, first_of, fault_there, said}

-- ---- trees taken apart

module _ (r : Rec) (us ts : Trees) where
  abbrev W : Trees
  W = cons (node r us) ts

  deeper_under : (n q : ℕ) → q < sizes us → Deeper us n q → Deeper W (suc n) (suc q)
  unfolding Deeper
  deeper_under zero q l h = (0, below_top r us ts q l, omega (arith, all_sizes r us ts))
  deeper_under (suc n) q l (b, k, h) =
      let j = (below-range us b q k).0 in (suc b, below-under r us ts b q j k, deeper_under n b j h)

  under_deeper : (n q : ℕ) → q < sizes us → Deeper W (suc n) (suc q) → Deeper us n q
  unfolding Deeper
  under_deeper zero q l h = l
  under_deeper (suc n) q l (b, k, h) = go b (spot (sizes us) b) k h (under_deeper n)
    where
      go : (b : ℕ) → Spot (sizes us) b → Descends W b (suc q) → Deeper W (suc n) b →
          ((q : ℕ) → q < sizes us → Deeper W (suc n) (suc q) → Deeper us n q) →
          (c : ℕ) × Descends us c q × Deeper us n c
      go b top k (c, m, h) f = absurd (omega (arith, m.0))
      go b (under a j) k h f = (a, under-below r us ts a q j k, f a j h)
      go b (later a) k h f = absurd (omega (arith, k.0))

  deeper_later : (n q : ℕ) → Deeper ts n q → Deeper W n (suc (sizes us + q))
  unfolding Deeper
  deeper_later zero q h = omega (arith, all_sizes r us ts)
  deeper_later (suc n) q (b, k, h) = (suc (sizes us + b), below_later r us ts b q k, deeper_later n b h)

  later_deeper : (n q : ℕ) → Deeper W n (suc (sizes us + q)) → Deeper ts n q
  unfolding Deeper
  later_deeper zero q h = omega (arith, all_sizes r us ts)
  later_deeper (suc n) q (b, k, h) = go b (spot (sizes us) b) k h (later_deeper n)
    where
      go : (b : ℕ) → Spot (sizes us) b → Descends W b (suc (sizes us + q)) → Deeper W n b →
          ((q : ℕ) → Deeper W n (suc (sizes us + q)) → Deeper ts n q) →
          (c : ℕ) × Descends ts c q × Deeper ts n c
      go b top k h f = absurd (top_below r us ts q k)
      go b (under a j) k h f = absurd (under-not_later r us ts a q j k)
      go b (later a) k h f = (a, later_below r us ts a q k, f a h)

  -- the first record is deeper than 0 only
  deeper_top : (n : ℕ) → Deeper W n 0 ↔ (n ≤ 0)
  unfolding Deeper
  deeper_top zero = (λ h. omega arith, λ h. omega (arith, all_sizes r us ts))
  deeper_top (suc n) = (λ h. absurd (omega (arith, h.1.0)), λ h. absurd (omega arith))

  deeper_under_by : (q e : ℕ) → q < sizes us → ((n : ℕ) → Deeper us n q ↔ (n ≤ e)) → (n : ℕ) →
      Deeper W n (suc q) ↔ (n ≤ suc e)
  unfolding Deeper
  deeper_under_by q e l w zero = (λ h. omega arith, λ h. omega (arith, all_sizes r us ts))
  deeper_under_by q e l w (suc n) = (
    λ h. omega (arith, (w n).0 (under_deeper n q l h)),
    λ h. deeper_under n q l ((w n).1 (omega arith)),
  )

-- ---- what the check knows at each record

-- where the first records have depth d, record p has depth e: it is deeper than what is lower than e, counted from d
abbrev At : Trees → ℕ → ℕ → ℕ → Type 0
At ts d p e = (x : ℕ) × (e ≡ d + x) × ((n : ℕ) → Deeper ts n p ↔ (n ≤ x))

known : (ts : Trees) (d p : ℕ) → p < sizes ts → (e : ℕ) × (get_or (deeps ts d) p false ≡ ltb 64 e) × At ts d p e
known = said depth_check At
    (λ r us ts d. (0, omega arith, deeper_top r us ts))
    (λ r us ts d q e l (x, z, w). (suc x, omega arith, deeper_under_by r us ts q x l w))
    (λ r us ts d q e (x, z, w).
    (x, z, λ n. (λ h. (w n).0 (later_deeper r us ts n q h), λ h. deeper_later r us ts n q ((w n).1 h))))

-- ---- the check

deeper_there : (ts : Trees) (n p : ℕ) → Deeper ts n p → p < sizes ts
unfolding Deeper
deeper_there ts zero p h = h
deeper_there ts (suc n) p h = (below-range ts h.0 p h.1).1

too_deep : (ts : Trees) (p : ℕ) → Faulty (deeps ts 1) p ↔ Deeper ts 64 p
too_deep ts p = (
  λ m. let w = known ts 1 p (fault_there depth_check ts 1 p m) in
      (w.2.2 64).1 (omega (arith, ltb-true 64 w.0 (sym w.1 ∙ m), w.2.1)),
  λ h. let w = known ts 1 p (deeper_there ts 64 p h) in
      w.1 ∙ lt-ltb 64 w.0 (omega (arith, (w.2.2 64).0 h, w.2.1)),
)

pub check_7 : (forest : List ℕ) (p : ℕ) → (check7 forest ≡ Some p) ↔ First (Deeper (trees_of forest) 64) p
unfolding check7
check_7 forest = first_of (Deeper (trees_of forest) 64) (deeps (trees_of forest) 1) (too_deep (trees_of forest))
