-- The records and subtrees that conditions 7 to 10 speak of are the file's, once check 6 passes: `file_records`,
-- `file_extents`; after 4, its lambdas' literals are their arguments: `lambda_right`.
-- In order: children of some records; subtrees; the file.
-- Assumes nothing.
use mathlib.Core.Path.{◌≡◌, refl, ap, sym, ◌∙◌, subst}
use Rattle.std.specs.Prelude.{None}
use mathlib.Core.List.{List, [], ◌∷◌, ◌++◌}
use Prim.Native.Nat.{ℕ, zero, suc, ◌+◌, ◌≤◌, ◌<◌}
use native.Mathlib.Omega.{arith}
use lib.ListN.{length, get_or, take, drop, length-drop}
use lib.Seq.{take-append-le, take-append-add, drop-append-le, drop-append-add, take_at}
use Rattle.model.specs.Tree.{Rec, Row, Trees, node, nil, cons, many, sizes, rows, rows_of}
use Rattle.model.specs.Forest.{record_count, rows_in, trees_of, check4, check6}
use Rattle.model.specs.Places.{First, children, no_record, record_at}
use Rattle.model.specs.ShapeRules.{IsId, IsOpt, ◌followed◌, Many, Right, is_12}
use Rattle.laws.proofs.Header.{row_count}
use Rattle.laws.proofs.Rows.{sizes_rows, closed_trees}
use Rattle.model.specs.Nesting.{rec_in, shape_in, Subtree}
use Rattle.theory.proofs.Demand3.Nesting.{Spot, top, under, later, spot, by_parts, extent, extent_top, extent_under}
use Rattle.theory.proofs.Demand3.Nesting.{extent_later, extent_fits, all_sizes, nil_sizes, in_range}
use Rattle.theory.proofs.Demand3.Places.{row_right}

-- ---- children of some records

children-append : (xs ys : List Row) → children (xs ++ ys) ≡ children xs + children ys
children-append [] ys = omega arith
children-append (x ∷ xs) ys = omega (arith, children-append xs ys)

module _ (r : Rec) (us ts : Trees) where
  abbrev W : Trees
  W = cons (node r us) ts

  all_rows : rows_of (cons (node r us) ts) ≡ record { rec = r; kids = many us } ∷ (rows_of us ++ rows_of ts)
  unfolding rows
  all_rows = refl

  all_many : many (cons (node r us) ts) ≡ suc (many ts)
  unfolding many
  all_many = refl

  -- the first records: the first, and some below it; or all of its subtree, and some later ones
  first_under : (q : ℕ) → q ≤ sizes us → children (take (suc q) (rows_of W)) ≡ many us + children (take q (rows_of us))
  unfolding rows
  first_under q l =
      ap (λ z. many us + children z) (take-append-le q (rows_of us) (rows_of ts) (omega (arith, sizes_rows us)))

  first_later : (q : ℕ) → children (take (suc (sizes us + q)) (rows_of W)) ≡
      many us + (children (rows_of us) + children (take q (rows_of ts)))
  unfolding rows
  first_later q =
      let e : take (sizes us + q) (rows_of us ++ rows_of ts) ≡ rows_of us ++ take q (rows_of ts) =
      rw (← sizes_rows us) (take-append-add (rows_of us) (rows_of ts) q) in
      ap (λ z. many us + children z) e ∙
      ap (many us +◌) (children-append (rows_of us) (take q (rows_of ts)))

-- trees have a record for each tree and each child; before their end a record is still to come
abbrev Sums : Trees → Type 0
Sums ts =
    (many ts + children (rows_of ts) ≡ sizes ts) ×
    ((n : ℕ) → n < sizes ts → n < many ts + children (take n (rows_of ts)))

sums_nil : Sums nil
unfolding many rows sizes
sums_nil = (omega arith, λ n l. absurd (omega arith))

sums : (ts : Trees) → Sums ts
sums = by_parts Sums sums_nil step
  where
    step : (r : Rec) (us ts : Trees) → Sums us → Sums ts → Sums (cons (node r us) ts)
    step r us ts f g = (whole, λ n l. go n (spot (sizes us) n) l)
      where
        whole : many (cons (node r us) ts) + children (rows_of (cons (node r us) ts)) ≡ sizes (cons (node r us) ts)
        whole =
            omega (
              arith,
              all_many r us ts,
              ap children (all_rows r us ts),
              children-append (rows_of us) (rows_of ts),
              all_sizes r us ts,
              f.0,
              g.0,
            )

        go : (n : ℕ) → Spot (sizes us) n → n < sizes (cons (node r us) ts) →
            n < many (cons (node r us) ts) + children (take n (rows_of (cons (node r us) ts)))
        go n top l = omega (arith, all_many r us ts)
        go n (under q j) l =
            omega (arith, all_many r us ts, first_under r us ts q (omega arith), f.1 q j)
        go n (later q) l =
            omega (
              arith,
              all_many r us ts,
              first_later r us ts q,
              f.0,
              g.1 q (omega (arith, all_sizes r us ts)),
            )

-- ---- subtrees

-- n records of these are one for the first and one for each child
abbrev Closes : List Row → ℕ → Type 0
Closes rs n = suc (children (take n rs)) ≡ n

closes_front : (xs ys : List Row) (n : ℕ) → n ≤ length xs → First (Closes xs) n → First (Closes (xs ++ ys)) n
closes_front xs ys n l h = (
  rw (take-append-le n xs ys l) h.0,
  λ q k e. h.1 q k (rw (take-append-le q xs ys (omega arith)) at e),
)

abbrev AllCounted : Trees → Type 0
AllCounted ts = (b : ℕ) → b < sizes ts → First (Closes (drop b (rows_of ts))) (extent ts b)

counted_top : (r : Rec) (us ts : Trees) → First (Closes (rows_of (cons (node r us) ts))) (suc (sizes us))
counted_top r us ts = (at_end, before)
  where
    at_end : Closes (rows_of (cons (node r us) ts)) (suc (sizes us))
    at_end =
        let e : take (sizes us) (rows_of us ++ []) ≡ rows_of us = take_at (rows_of us) [] (sizes us) (sizes_rows us) in
        omega (
          arith,
          first_under r us ts (sizes us) (omega arith),
          ap children (sym (take-append-le (sizes us) (rows_of us) [] (omega (arith, sizes_rows us))) ∙ e),
          (sums us).0,
        )

    before : (q : ℕ) → q < suc (sizes us) → Closes (rows_of (cons (node r us) ts)) q → ⊥
    before zero l e = omega arith
    before (suc q) l e = omega (arith, first_under r us ts q (omega arith), (sums us).1 q (omega arith))

-- the subtree of each record is as large as the child counts say
extent_counted : (ts : Trees) (b : ℕ) → b < sizes ts → Subtree (rows_of ts) b (extent ts b)
extent_counted = by_parts AllCounted (λ b l. absurd (omega (arith, nil_sizes))) step
  where
    step : (r : Rec) (us ts : Trees) → AllCounted us → AllCounted ts → AllCounted (cons (node r us) ts)
    step r us ts f g b l = go b (spot (sizes us) b) l
      where
        go : (b : ℕ) → Spot (sizes us) b → b < sizes (cons (node r us) ts) →
            First (Closes (drop b (rows_of (cons (node r us) ts)))) (extent (cons (node r us) ts) b)
        go b top l = rw (extent_top r us ts) (counted_top r us ts)
        go b (under q j) l =
            let d : drop (suc q) (rows_of (cons (node r us) ts)) ≡ drop q (rows_of us) ++ rows_of ts =
            ap (drop (suc q)) (all_rows r us ts) ∙
            drop-append-le q (rows_of us) (rows_of ts) (omega (arith, sizes_rows us)) in
            rw (extent_under r us ts q j, d) (closes_front (drop q (rows_of us)) (rows_of ts) (extent us q)
            (omega (arith, length-drop q (rows_of us), sizes_rows us, (extent_fits us q j).1)) (f q j))
        go b (later q) l =
            let c : drop (sizes us + q) (rows_of us ++ rows_of ts) ≡ drop q (rows_of ts) =
            rw (← sizes_rows us) (drop-append-add (rows_of us) (rows_of ts) q) in
            let d : drop (suc (sizes us + q)) (rows_of (cons (node r us) ts)) ≡ drop q (rows_of ts) =
            ap (drop (suc (sizes us + q))) (all_rows r us ts) ∙ c in
            rw (extent_later r us ts q, d) (g q (omega (arith, all_sizes r us ts)))

-- ---- the file, where check 6 passes

lambda_args : {k a : ℕ} {bs : List ℕ} → Right 12 k a bs → Many a (IsId followed IsOpt) bs
lambda_args (is_12 l h) = h

right_args : (n k a : ℕ) (bs : List ℕ) → n ≡ 12 → Right n k a bs → Many a (IsId followed IsOpt) bs
right_args n k a bs e h = lambda_args (subst (λ (s : ℕ). Right s k a bs) e h)

module _ (forest : List ℕ) (closed : check6 forest ≡ None) where
  pub file_records : (p : ℕ) → rec_in (trees_of forest) p ≡ (record_at forest p).rec
  file_records p = ap (λ rs. (get_or rs p no_record).rec) (closed_trees forest closed).1

  pub file_extents : (b : ℕ) → b < record_count forest → Subtree (rows_in forest) b (extent (trees_of forest) b)
  file_extents b l =
      let e = (closed_trees forest closed).1 in
      rw e at (extent_counted (trees_of forest) b
      (omega (arith, sizes_rows (trees_of forest), ap length e, row_count forest)))

  -- where check 4 passes, a lambda's literal is its arguments
  pub lambda_right : check4 forest ≡ None → (l : ℕ) → shape_in (trees_of forest) l ≡ 12 →
      Many (rec_in (trees_of forest) l).aux (IsId followed IsOpt) (rec_in (trees_of forest) l).lit
  lambda_right four l s =
      rw (file_records l) (right_args (record_at forest l).rec.shape _ _ _
      (sym (ap (λ r. r.shape) (file_records l)) ∙ s) (row_right forest four l here))
    where
      here : l < record_count forest
      here =
          omega (
            arith,
            in_range (trees_of forest) l 11 s,
            sizes_rows (trees_of forest),
            ap length (closed_trees forest closed).1,
            row_count forest,
          )
