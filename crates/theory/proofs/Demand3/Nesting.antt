-- Records by number, in trees taken apart: the first record, those below it, and those of the later trees.
-- In order: lists joined; spots; records and extents; which record lies below which.
-- Assumes nothing.
use mathlib.Core.Path.{◌≡◌, refl, ap, subst}
use mathlib.Core.Bool.{Bool, true, false}
use mathlib.Core.List.{List, ◌++◌}
use Prim.Native.Nat.{ℕ, zero, suc, ◌+◌, ◌-◌, ◌≤◌, ◌<◌}
use native.Mathlib.Omega.{arith}
use lib.Dec.{ltb}
use lib.ListN.{length, get_or, get_or-append, get_or-eq_default}
use lib.Seq.{get_or-append-add}
use borrow.Author.Tests.{ltb-true, ltb-false}
use Rattle.model.specs.Tree.{Rec, Tree, Trees, node, nil, cons, size, sizes, rows, rows_of}
use Rattle.model.specs.Places.{no_record}
use Rattle.laws.proofs.Rows.{sizes_rows}
use Rattle.laws.proofs.Extents.{extents_lengths}
use Rattle.model.specs.Nesting.{rec_in, shape_in, extents, extents_in, end_of, Descends}

-- ---- lists joined

module _ {A : Type 0} (xs ys : List A) (d : A) (m : ℕ) (e : length xs ≡ m) where
  pub joined_left : (q : ℕ) → q < m → get_or (xs ++ ys) q d ≡ get_or xs q d
  joined_left q l = get_or-append xs ys d q (omega arith)

  pub joined_right : (q : ℕ) → get_or (xs ++ ys) (m + q) d ≡ get_or ys q d
  joined_right q = rw (← e) (get_or-append-add xs ys q d)

-- ---- spots: where a record is, in trees whose first record has m records below it

pub data Spot (m : ℕ) : ℕ → Type 0 where
  top : Spot m 0
  under : (q : ℕ) → q < m → Spot m (suc q)
  later : (q : ℕ) → Spot m (suc (m + q))

pub spot : (m p : ℕ) → Spot m p
spot m zero = top
spot m (suc p) = go (ltb p m) refl
  where
    go : (b : Bool) → ltb p m ≡ b → Spot m (suc p)
    go true e = under p (ltb-true p m e)
    go false e =
        let l = ltb-false p m e in
        let z : suc (m + (p - m)) ≡ suc p = omega arith in
        subst (λ x. Spot m x) z (later (p - m))

-- ---- induction: the first record's children, and the later trees

module _ (P : Trees → Type 0) (base : P nil)
    (step : (r : Rec) (us ts : Trees) → P us → P ts → P (cons (node r us) ts)) where
  mutual
    one_part : (t : Tree) (ts : Trees) → P ts → P (cons t ts)
    one_part (node r us) ts h = step r us ts (by_parts us) h

    pub by_parts : (ts : Trees) → P ts
    by_parts nil = base
    by_parts (cons t ts) = one_part t ts (by_parts ts)

-- ---- records and extents

abbrev pub extent : Trees → ℕ → ℕ
extent ts b = get_or (extents_in ts) b 0

pub out_of_range : (ts : Trees) (p : ℕ) → sizes ts ≤ p → get_or (rows_of ts) p no_record ≡ no_record
out_of_range ts p l = get_or-eq_default (rows_of ts) no_record (omega (arith, sizes_rows ts))

no_extent : (ts : Trees) (p : ℕ) → sizes ts ≤ p → extent ts p ≡ 0
no_extent ts p l = get_or-eq_default (extents_in ts) 0 (omega (arith, extents_lengths ts))

-- a record with a shape other than 0 is there
pub in_range : (ts : Trees) (p s : ℕ) → shape_in ts p ≡ suc s → p < sizes ts
in_range ts p s e = go (ltb p (sizes ts)) refl
  where
    go : (b : Bool) → ltb p (sizes ts) ≡ b → p < sizes ts
    go true f = ltb-true p (sizes ts) f
    go false f =
        absurd (omega (arith, e, ap (λ r. r.rec.shape) (out_of_range ts p (ltb-false p (sizes ts) f))))

module _ (r : Rec) (us ts : Trees) where
  pub rec-under : (q : ℕ) → q < sizes us → rec_in (cons (node r us) ts) (suc q) ≡ rec_in us q
  unfolding rows
  rec-under q l = ap (λ z. z.rec) (joined_left (rows_of us) (rows_of ts) no_record (sizes us) (sizes_rows us) q l)

  pub rec_later : (q : ℕ) → rec_in (cons (node r us) ts) (suc (sizes us + q)) ≡ rec_in ts q
  unfolding rows
  rec_later q = ap (λ z. z.rec) (joined_right (rows_of us) (rows_of ts) no_record (sizes us) (sizes_rows us) q)

  pub rec-top : rec_in (cons (node r us) ts) 0 ≡ r
  unfolding rows
  rec-top = refl

  pub extent_top : extent (cons (node r us) ts) 0 ≡ suc (sizes us)
  unfolding extents
  extent_top = refl

  pub extent_under : (q : ℕ) → q < sizes us → extent (cons (node r us) ts) (suc q) ≡ extent us q
  unfolding extents
  extent_under q l = joined_left (extents_in us) (extents_in ts) 0 (sizes us) (extents_lengths us) q l

  pub extent_later : (q : ℕ) → extent (cons (node r us) ts) (suc (sizes us + q)) ≡ extent ts q
  unfolding extents
  extent_later q = joined_right (extents_in us) (extents_in ts) 0 (sizes us) (extents_lengths us) q

  pub all_sizes : sizes (cons (node r us) ts) ≡ suc (sizes us) + sizes ts
  unfolding size
  all_sizes = refl

pub nil_sizes : sizes nil ≡ 0
unfolding sizes
nil_sizes = refl

-- every record of the trees is one of its subtree, which ends with them or before
abbrev Fits : Trees → ℕ → Type 0
Fits ts b = (1 ≤ extent ts b) × (b + extent ts b ≤ sizes ts)

pub extent_fits : (ts : Trees) (b : ℕ) → b < sizes ts → Fits ts b
extent_fits = by_parts (λ ts. (b : ℕ) → b < sizes ts → Fits ts b) (λ b h. absurd (omega (arith, nil_sizes))) step
  where
    step : (r : Rec) (us ts : Trees) → ((b : ℕ) → b < sizes us → Fits us b) → ((b : ℕ) → b < sizes ts → Fits ts b) →
        (b : ℕ) → b < sizes (cons (node r us) ts) → Fits (cons (node r us) ts) b
    step r us ts f g b h = go b (spot (sizes us) b) h
      where
        z : sizes (cons (node r us) ts) ≡ suc (sizes us) + sizes ts
        z = all_sizes r us ts

        go : (b : ℕ) → Spot (sizes us) b → b < sizes (cons (node r us) ts) → Fits (cons (node r us) ts) b
        go b top h = (omega (arith, extent_top r us ts), omega (arith, extent_top r us ts, z))
        go b (under q l) h =
            let e = extent_under r us ts q l in
            (omega (arith, e, (f q l).0), omega (arith, e, (f q l).1, z))
        go b (later q) h =
            let e = extent_later r us ts q in
            let w = g q (omega (arith, z)) in
            (omega (arith, e, w.0), omega (arith, e, w.1, z))

-- what has a record below it is there, and so is that
pub below-range : (ts : Trees) (b p : ℕ) → Descends ts b p → (b < sizes ts) × (p < sizes ts)
below-range ts b p h = go (ltb b (sizes ts)) refl
  where
    go : (t : Bool) → ltb b (sizes ts) ≡ t → (b < sizes ts) × (p < sizes ts)
    go true e =
        let l = ltb-true b (sizes ts) e in
        (l, omega (arith, h.1, (extent_fits ts b l).1))
    go false e = absurd (omega (arith, h.0, h.1, no_extent ts b (ltb-false b (sizes ts) e)))

-- ---- which record lies below which

module _ (r : Rec) (us ts : Trees) where
  pub below_top : (q : ℕ) → q < sizes us → Descends (cons (node r us) ts) 0 (suc q)
  below_top q l = (omega arith, omega (arith, extent_top r us ts))

  pub top_below : (q : ℕ) → Descends (cons (node r us) ts) 0 (suc (sizes us + q)) → ⊥
  top_below q h = omega (arith, extent_top r us ts, h.1)

  pub below-under : (b q : ℕ) → b < sizes us → Descends us b q → Descends (cons (node r us) ts) (suc b) (suc q)
  below-under b q l h = (omega (arith, h.0), omega (arith, h.1, extent_under r us ts b l))

  pub under-below : (b q : ℕ) → b < sizes us → Descends (cons (node r us) ts) (suc b) (suc q) → Descends us b q
  under-below b q l h = (omega (arith, h.0), omega (arith, h.1, extent_under r us ts b l))

  pub under-not_later : (b q : ℕ) → b < sizes us → Descends (cons (node r us) ts) (suc b) (suc (sizes us + q)) → ⊥
  under-not_later b q l h =
      omega (arith, h.1, extent_under r us ts b l, (extent_fits us b l).1)

  pub below_later : (b q : ℕ) → Descends ts b q →
      Descends (cons (node r us) ts) (suc (sizes us + b)) (suc (sizes us + q))
  below_later b q h = (omega (arith, h.0), omega (arith, h.1, extent_later r us ts b))

  pub later_below : (b q : ℕ) → Descends (cons (node r us) ts) (suc (sizes us + b)) (suc (sizes us + q)) → Descends ts b q
  later_below b q h = (omega (arith, h.0), omega (arith, h.1, extent_later r us ts b))

-- a subtree within a subtree ends with it or before
abbrev Nested : Trees → Type 0
Nested ts = (b c : ℕ) → Descends ts b c → end_of ts c ≤ end_of ts b

pub nested : (ts : Trees) → Nested ts
nested = by_parts Nested (λ b c h. absurd (omega (arith, nil_sizes, (below-range nil b c h).0))) step
  where
    step : (r : Rec) (us ts : Trees) → Nested us → Nested ts → Nested (cons (node r us) ts)
    step r us ts f g b c h = go b c (spot (sizes us) b) (spot (sizes us) c) h
      where
        go : (b c : ℕ) → Spot (sizes us) b → Spot (sizes us) c → Descends (cons (node r us) ts) b c →
            end_of (cons (node r us) ts) c ≤ end_of (cons (node r us) ts) b
        go b c top top h = absurd (omega (arith, h.0))
        go b c top (under q l) h =
            omega (arith, extent_top r us ts, extent_under r us ts q l, (extent_fits us q l).1)
        go b c top (later q) h = absurd (top_below r us ts q h)
        go b c (under k l) top h = absurd (omega (arith, h.0))
        go b c (under k l) (under q j) h =
            omega (arith, extent_under r us ts k l, extent_under r us ts q j, f k q (under-below r us ts k q l h))
        go b c (under k l) (later q) h = absurd (under-not_later r us ts k q l h)
        go b c (later k) top h = absurd (omega (arith, h.0))
        go b c (later k) (under q j) h = absurd (omega (arith, h.0))
        go b c (later k) (later q) h =
            omega (arith, extent_later r us ts k, extent_later r us ts q, g k q (later_below r us ts k q h))
