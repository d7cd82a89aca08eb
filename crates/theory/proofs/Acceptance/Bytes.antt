-- A written tree's bytes read back as the tree: none of 2 to 10, nor 16, applies to the bytes of a checked tree that is not
-- too large and has no opcode, other than 00, with two shapes.
-- In order: one record's bytes; the directory and the records, read; where parts of the bytes lie; checks 2 and 3 of any
-- rows; each check of a tree; the theorem `accept_serialised`, which the promise uses. A filled forest's bytes use the
-- parts on rows.
-- Assumes nothing.
use mathlib.Core.Path.{◌≡◌, refl, ap, ap₂, sym, ◌∙◌}
use mathlib.Core.Bool.{false, not, ◌||◌}
use Rattle.std.specs.Prelude.{None}
use mathlib.Core.List.{List, [], ◌∷◌, ◌++◌, append_assoc, append-nil}
use Prim.Native.Nat.{ℕ, suc, ◌+◌, ◌*◌, ◌≤◌}
use native.Mathlib.Omega.{arith}
use lib.Dec.{eqb, ltb}
use lib.ListN.{length, drop}
use lib.Seq.{drop_at, take_at, drop-drop}
use borrow.Author.Tests.{eq-eqb, le-leb, le-ltb}
use Rattle.model.specs.Bytes.{u16, put16}
use Rattle.model.specs.Answer.{good, at0}
use Rattle.model.specs.Tree.{Row, Tree, Trees, node, nil, cons, many, size, sizes, depth, depths, rows, rows_of}
use Rattle.model.specs.Tree.{row_bytes, row_len, directory, bodies, forest_of, serialise}
use Rattle.model.specs.Shape.{Pairs}
use Rattle.model.specs.Faults.{faults}
use Rattle.model.specs.Forest.{tree_count, record_count, pairs_at, pairs_of, row_of, rows_at, body_start, rows_in, trees_of}
use Rattle.model.specs.Forest.{check2, bad_pairs, check3, check4, check5, unclosed, check6, deep, deeps, check7, check16}
use Rattle.model.specs.Binding.{check8, check9, check10}
use Rattle.model.specs.Accept.{checks, accept}
use Rattle.laws.specs.Clear.{Clear}
use Rattle.laws.proofs.Clear.{clear_first, clear_join}
use Rattle.laws.proofs.Checks.{Passes, passes_checked, ◌also◌}
use Rattle.laws.proofs.Members.{neither_or, both_and}
use Rattle.laws.specs.Rows.{total}
use Rattle.laws.proofs.Trees.{size_some}
use Rattle.laws.proofs.Rows.{sizes_rows, grow_rows}
use Rattle.laws.proofs.Lengths.{row_length, directory-length, forest_length}
use Rattle.theory.specs.Checked.{Checked, CheckedIn}
use Rattle.theory.proofs.Acceptance.Checked.{checked_join, nil-checked}
use Rattle.theory.proofs.Acceptance.Accept.{AllFine, fines_rows}
use Rattle.theory.proofs.Acceptance.OneShape.{OneShape}

-- ---- records

read_16 : (n : ℕ) (rest : List ℕ) → u16 (put16 n ++ rest) ≡ n
unfolding u16 put16
read_16 n rest = omega arith

row_read : (r : Row) → row_of (row_bytes r) ≡ r
unfolding row_of row_bytes put16
row_read r = λ i. record { rec = r.rec; kids = read_16 r.kids (r.rec.aux ∷ r.rec.lit) i }

-- ---- rows laid out one after the other

-- the pairs of rows from a place on
abbrev pair_list : ℕ → List Row → Pairs
pair_list at [] = []
pair_list at (r ∷ rs) = (at, row_len r) ∷ pair_list (at + row_len r) rs

directory-read : (at : ℕ) (rs : List Row) (rest : List ℕ) →
    pairs_at (length rs) (directory at rs ++ rest) ≡ pair_list at rs
unfolding directory pairs_at put16
directory-read at [] rest = refl
directory-read at (r ∷ rs) rest =
    ap₂ (λ (p : ℕ × ℕ) (ps : Pairs). p ∷ ps)
    (ap₂ (λ (a b : ℕ). (a, b)) (read_16 at _) (read_16 (row_len r) _)) (directory-read (at + row_len r) rs rest)

bodies-read : (at : ℕ) (rs : List Row) → rows_at (pair_list at rs) (bodies rs) ≡ rs
unfolding rows_at bodies
bodies-read at [] = refl
bodies-read at (r ∷ rs) =
    rw (
      take_at (row_bytes r) (bodies rs) (row_len r) (row_length r),
      drop_at (row_bytes r) (bodies rs) (row_len r) (row_length r),
    )
    (ap₂ (λ (x : Row) (l : List Row). x ∷ l) (row_read r) (bodies-read (at + row_len r) rs))

-- ---- the bytes, in parts

abbrev after_header : List Row → List ℕ
after_header rs = directory (4 + 4 * length rs) rs ++ bodies rs

laid : (n : ℕ) (rs : List Row) → forest_of n rs ≡ put16 n ++ (put16 (length rs) ++ after_header rs)
unfolding forest_of
laid n rs = simp append_assoc

laid_drop : (n : ℕ) (rs : List Row) → drop 4 (forest_of n rs) ≡ after_header rs
unfolding put16
laid_drop n rs = ap (drop 4) (laid n rs)

laid_bodies : (n : ℕ) (rs : List Row) → drop (4 + 4 * length rs) (forest_of n rs) ≡ bodies rs
laid_bodies n rs =
    sym (drop-drop (4 * length rs) 4 (forest_of n rs)) ∙ (ap (drop (4 * length rs)) (laid_drop n rs) ∙
    drop_at (directory (4 + 4 * length rs) rs) (bodies rs) (4 * length rs) (directory-length (4 + 4 * length rs) rs))

-- what is read of them
pub laid_trees : (n : ℕ) (rs : List Row) → tree_count (forest_of n rs) ≡ n
unfolding tree_count
laid_trees n rs = ap u16 (laid n rs) ∙ read_16 n (put16 (length rs) ++ after_header rs)

pub laid_count : (n : ℕ) (rs : List Row) → record_count (forest_of n rs) ≡ length rs
unfolding record_count put16
laid_count n rs = ap (λ (l : List ℕ). u16 (drop 2 l)) (laid n rs) ∙ read_16 (length rs) (after_header rs)

laid_start : (n : ℕ) (rs : List Row) → body_start (forest_of n rs) ≡ 4 + 4 * length rs
unfolding body_start
laid_start n rs = ap (λ (k : ℕ). 4 + 4 * k) (laid_count n rs)

laid_pairs : (n : ℕ) (rs : List Row) → pairs_of (forest_of n rs) ≡ pair_list (4 + 4 * length rs) rs
unfolding pairs_of
laid_pairs n rs = rw (laid_count n rs, laid_drop n rs) (directory-read (4 + 4 * length rs) rs (bodies rs))

pub laid_rows : (n : ℕ) (rs : List Row) → rows_in (forest_of n rs) ≡ rs
unfolding rows_in
laid_rows n rs = rw (laid_pairs n rs, laid_start n rs, laid_bodies n rs) (bodies-read (4 + 4 * length rs) rs)

-- ---- the pairs, the closing of trees and the depth

pair_starts : (at : ℕ) (r : Row) → (not (eqb at at) || ltb (row_len r) 5) ≡ false
unfolding row_len
pair_starts at r = neither_or _ _ (ap not (eq-eqb at at refl)) (le-ltb (row_len r) 5 (omega arith))

pairs_fit : (end at : ℕ) (rs : List Row) → at + total rs ≡ end → Clear (bad_pairs end at (pair_list at rs))
unfolding bad_pairs
pairs_fit end at [] e = tt
pairs_fit end at (r ∷ []) e =
    (neither_or _ _ (pair_starts at r) (ap not (eq-eqb (at + row_len r) end (omega arith))), tt)
pairs_fit end at (r ∷ q ∷ rs) e =
    (neither_or _ false (pair_starts at r) refl, pairs_fit end (at + row_len r) (q ∷ rs) (omega arith))

mutual
  unfolding rows unclosed many size

  tree_closes : (t : Tree) (m at : ℕ) (rest : List Row) →
      unclosed (suc m) at (rows t ++ rest) ≡ unclosed m (at + size t) rest
  tree_closes (node r ts) m at rest = trees_close ts m (suc at) rest ∙ ap (λ (z : ℕ). unclosed m z rest) (omega arith)

  trees_close : (ts : Trees) (m at : ℕ) (rest : List Row) →
      unclosed (m + many ts) at (rows_of ts ++ rest) ≡ unclosed m (at + sizes ts) rest
  trees_close nil m at rest =
      ap₂ (λ (a b : ℕ). unclosed a b rest) {x = m + 0} {y = m} {u = at} {v = at + 0} (omega arith) (omega arith)
  trees_close (cons t ts) m at rest =
      ap₂ (λ (a : ℕ) (l : List Row). unclosed a at l) {x = m + suc (many ts)} {y = suc (m + many ts)} (omega arith)
      (append_assoc (rows t) (rows_of ts) rest)
      ∙ (tree_closes t (m + many ts) at (rows_of ts ++ rest)
      ∙ (trees_close ts m (at + size t) rest
      ∙ ap (λ (z : ℕ). unclosed m z rest) {x = at + size t + sizes ts} {y = at + (size t + sizes ts)} (omega arith)))

mutual
  unfolding faults depth

  tree_shallow : (t : Tree) (d : ℕ) → depth t + d ≤ 65 → Clear (deep t d)
  tree_shallow (node r ts) d l = (le-ltb 64 d (omega arith), trees_shallow ts (suc d) (omega arith))

  trees_shallow : (ts : Trees) (d : ℕ) → depths ts + d ≤ 65 → Clear (deeps ts d)
  trees_shallow nil d l = tt
  trees_shallow (cons t ts) d l =
      clear_join (deep t d) (deeps ts d) (tree_shallow t d (omega arith)) (trees_shallow ts d (omega arith))

-- ---- checks 2 and 3, of trees and rows that are not too many

module _ (k : ℕ) (rs : List Row) (trees : (1 ≤ k) × (k ≤ 16)) (records : (1 ≤ length rs) × (length rs ≤ 256))
    (short : length (forest_of k rs) ≤ 65535) where
  abbrev all : List ℕ
  all = forest_of k rs

  length_is : length all ≡ 4 + 4 * length rs + total rs
  length_is = forest_length k rs

  pub laid_passes_2 : check2 all ≡ None
  unfolding check2
  laid_passes_2 =
      rw (laid_trees k rs, laid_count k rs)
      (ap at0 (neither_or _ _
      (neither_or _ _ (le-ltb (length all) 4 (omega (arith, length_is))) (le-ltb 65535 (length all) short))
      (ap not (both_and _ _
      (both_and _ _ (both_and _ _ (le-leb 1 k trees.0) (le-leb k 16 trees.1)) (le-leb 1 (length rs) records.0))
      (le-leb (length rs) 256 records.1)))))

  pub laid_passes_3 : check3 all ≡ None
  unfolding check3
  laid_passes_3 =
      rw (le-ltb (length all) (body_start all) (omega (arith, length_is, laid_start k rs)), check3)
      (rw (laid_start k rs, laid_pairs k rs) (clear_first _
      (pairs_fit (length all) (4 + 4 * length rs) rs (sym length_is))))

-- ---- one checked tree

module _ (t : Tree) (c : Checked t false []) (few : size t ≤ 256) (short : length (serialise (cons t nil)) ≤ 65535)
    (flat : depth t ≤ 64) (one_shape : OneShape (rows_of (cons t nil))) where
  abbrev rs : List Row
  rs = rows_of (cons t nil)

  abbrev bs : List ℕ
  bs = serialise (cons t nil)

  one-checked : CheckedIn (cons t nil) false []
  one-checked = checked_join t nil false [] c (nil-checked false _)

  count_is : length rs ≡ size t
  unfolding sizes
  count_is = sizes_rows (cons t nil) ∙ omega arith

  all_fine : AllFine rs
  all_fine = fines_rows (cons t nil) one-checked.fine

  rows_are : rows_in bs ≡ rs
  unfolding serialise
  rows_are = laid_rows (many (cons t nil)) rs

  trees_are : trees_of bs ≡ cons t nil
  unfolding trees_of
  trees_are = rw rows_are (grow_rows (cons t nil))

  some_rows : 1 ≤ length rs
  unfolding size
  some_rows = omega (arith, count_is, size_some t)

  few_rows : length rs ≤ 256
  few_rows = omega (arith, count_is)

  passes_2 : check2 bs ≡ None
  unfolding serialise many
  passes_2 = laid_passes_2 1 rs (omega arith, omega arith) (some_rows, few_rows) short

  passes_3 : check3 bs ≡ None
  unfolding serialise many
  passes_3 = laid_passes_3 1 rs (omega arith, omega arith) (some_rows, few_rows) short

  passes_6 : check6 bs ≡ None
  unfolding check6 serialise many unclosed
  passes_6 =
      rw (laid_trees 1 rs, laid_rows 1 rs)
      (ap (λ (z : List Row). unclosed 1 0 z) (sym (append-nil rs)) ∙ trees_close (cons t nil) 0 0 [])

  passes_7 : check7 bs ≡ None
  unfolding check7 depths
  passes_7 = rw trees_are (clear_first _ (trees_shallow (cons t nil) 1 (omega arith)))

  passes : Passes (checks bs)
  unfolding checks check4 check5 check16 check8 check9 check10
  passes =
      rw (trees_are, rows_are)
      (passes_2 also passes_3 also clear_first _ all_fine.0 also clear_first _ all_fine.1
      also
      passes_6 also passes_7 also one_shape also
      clear_first _ one-checked.placed also clear_first _ one-checked.fresh also clear_first _
      one-checked.known also tt)

  pub accept_serialised : accept (serialise (cons t nil)) ≡ good (cons t nil)
  unfolding accept
  accept_serialised = passes_checked (checks bs) (trees_of bs) passes ∙ ap good trees_are
