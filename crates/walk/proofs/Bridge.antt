-- Record numbers and trees: the trees from record i on begin with record i's subtree, and its children are among them.
-- In order: rows by number; trees by number; closing; counts; rows that fit their shapes; literals that hold ids.
-- Assumes nothing.
use Prim.Native.Nat.{ℕ, zero, suc, ◌+◌, ◌-◌, ◌*◌, ◌<◌, ◌≤◌}
use mathlib.Core.Path.{◌≡◌, refl, sym, ap, ◌∙◌, subst}
use mathlib.Core.Bool.{Bool, true, false, not}
use Rattle.std.specs.Prelude.{None}
use mathlib.Core.List.{List, ◌∷◌, map, []}
use native.Mathlib.Omega.{arith}
use native.Mathlib.Decide.{dec_lt}
use native.Mathlib.Numerals.{add-one}
use borrow.Author.Tests.{not-false}
use lib.ListN.{length, get_or, drop, drop_of_length-le}
use lib.Seq.{drop-cons}
use Rattle.model.specs.Tree.{Row, Trees, nil, cons, many, drop_t, grow}
use Rattle.model.specs.Shape.{fits}
use Rattle.model.specs.Forest.{tree_count, record_count, rows_in, trees_of, unclosed, check4}
use Rattle.model.specs.Forest.{check6}
use Rattle.laws.proofs.Apart.{some_none}
use Rattle.laws.specs.Clear.{Clear}
use Rattle.laws.proofs.Clear.{first_clear}
use Rattle.shape.specs.Reading.{AllArgs}
use Rattle.shape.proofs.Fitting.{fits_use, fits_def, fits_func}
use Rattle.record.specs.Record.{no_row, row_at}
use Rattle.laws.proofs.Header.{header_of, row_count}
use Rattle.regions.specs.Regions.{IDS}
use Rattle.walk.specs.Walk.{trees_from, kid_trees_at, rest_at, tree_at, WellFormed}

-- ---- rows by number

-- the rows from record i on
pub rows_at : (bs : List ℕ) (i : ℕ) → i < record_count bs → drop i (rows_in bs) ≡ row_at bs i ∷ drop (i + 1) (rows_in bs)
unfolding row_at
rows_at bs i l =
    let m : i < length (rows_in bs) = omega (arith, row_count bs) in
    drop-cons (rows_in bs) i no_row m ∙ rw (add-one i)

pub rows_end : (bs : List ℕ) (i : ℕ) → record_count bs ≤ i → drop i (rows_in bs) ≡ []
rows_end bs i l = drop_of_length-le (rows_in bs) {i = i} (omega (arith, row_count bs))

-- ---- trees by number

pub trees_at : (bs : List ℕ) (i : ℕ) → i < record_count bs → trees_from bs i ≡ cons (tree_at bs i) (rest_at bs i)
unfolding trees_from kid_trees_at rest_at grow
trees_at bs i l = ap grow (rows_at bs i l)

-- where trees are left, so are records
pub trees_left : (bs : List ℕ) (i : ℕ) → 0 < many (trees_from bs i) → i < record_count bs
unfolding trees_from grow many
trees_left bs i l = elim (dec_lt i (record_count bs)) [
  | yes h ↦ h
  | no h ↦ absurd (omega (arith, ap (λ (z : List Row). many (grow z)) (rows_end bs i (omega arith))))
]

pub trees_all : (bs : List ℕ) → trees_from bs 0 ≡ trees_of bs
unfolding trees_from trees_of
trees_all bs = refl

-- ---- closing

-- each row's children are there
abbrev Closed : List Row → Type 0
Closed [] = Unit {0}
Closed (r ∷ rs) = (r.kids ≤ many (grow rs)) × Closed rs

pub many-drop : (n : ℕ) (ts : Trees) → many (drop_t n ts) ≡ many ts - n
unfolding many drop_t
many-drop zero ts = omega arith
many-drop (suc n) nil = omega arith
many-drop (suc n) (cons t ts) = omega (arith, many-drop n ts)

unclosed_closed : (n at : ℕ) (rs : List Row) → unclosed n at rs ≡ None → (many (grow rs) ≡ n) × Closed rs
unfolding unclosed grow many
unclosed_closed zero at [] e = (refl, tt)
unclosed_closed (suc n) at [] e = some_none e
unclosed_closed zero at (r ∷ rs) e = some_none e
unclosed_closed (suc n) at (r ∷ rs) e =
    let h = unclosed_closed (n + r.kids) (suc at) rs e in
    (omega (arith, h.0, many-drop r.kids (grow rs)), (omega (arith, h.0), h.1))

closed_at : (rs : List Row) (i : ℕ) → Closed rs → i < length rs → (get_or rs i no_row).kids ≤ many (grow (drop (suc i) rs))
closed_at [] i h l = absurd (omega arith)
closed_at (r ∷ rs) zero h l = h.0
closed_at (r ∷ rs) (suc i) h l = closed_at rs i h.1 (omega arith)

-- ---- counts

pub tree_count_lem : (bs : List ℕ) → check6 bs ≡ None → many (trees_of bs) ≡ tree_count bs
unfolding check6 trees_of
tree_count_lem bs e = (unclosed_closed (tree_count bs) 0 (rows_in bs) e).0

pub kids_there : (bs : List ℕ) (i : ℕ) → check6 bs ≡ None → i < record_count bs →
    (row_at bs i).kids ≤ many (trees_from bs (i + 1))
unfolding check6 trees_from row_at
kids_there bs i e l =
    let m : i < length (rows_in bs) = omega (arith, row_count bs) in
    rw (add-one i) (closed_at (rows_in bs) i (unclosed_closed (tree_count bs) 0 (rows_in bs) e).1 m)

-- ---- rows that fit their shapes

pub clear_at : (f : Row → Bool) (rs : List Row) (i : ℕ) → Clear (map f rs) → i < length rs → f (get_or rs i no_row) ≡ false
clear_at f [] i h l = absurd (omega arith)
clear_at f (r ∷ rs) zero h l = h.0
clear_at f (r ∷ rs) (suc i) h l = clear_at f rs i h.1 (omega arith)

pub row_fits : (bs : List ℕ) (i : ℕ) → check4 bs ≡ None → i < record_count bs → fits (row_at bs i) ≡ true
unfolding check4 row_at
row_fits bs i e l =
    let m : i < length (rows_in bs) = omega (arith, row_count bs) in
    not-false _ (clear_at (λ r. not (fits r)) (rows_in bs) i (first_clear _ e) m)

pub records_few : (bs : List ℕ) → WellFormed bs → record_count bs ≤ 256
records_few bs h = (header_of bs h.laid.header).records_most

-- there is room for what record i binds: at most 15 ids a record
pub ids_room : (bs : List ℕ) (i top : ℕ) → WellFormed bs → i < record_count bs → top ≤ 15 * i → top + 15 ≤ IDS.size
ids_room bs i top h l m = omega (arith, records_few bs h)

-- what stands in the literals of records that use or bind ids
module _ (bs : List ℕ) (i : ℕ) (h : WellFormed bs) (l : i < record_count bs) where
  pub use_literal : (row_at bs i).rec.shape ≡ 7 → 4 ≤ length (row_at bs i).rec.lit
  use_literal e = omega (arith, fits_use (row_at bs i) (row_fits bs i h.fit l) e)

  pub def_literal : (row_at bs i).rec.shape ≡ 10 → 4 ≤ length (row_at bs i).rec.lit
  def_literal e = (fits_def (row_at bs i) (row_fits bs i h.fit l) e).1

  pub func_few : (row_at bs i).rec.shape ≡ 12 → (row_at bs i).rec.aux ≤ 15
  func_few e = (fits_func (row_at bs i) (row_fits bs i h.fit l) e).1

  pub func_literal : (n : ℕ) (lit : List ℕ) → n ≡ (row_at bs i).rec.aux → lit ≡ (row_at bs i).rec.lit →
      (row_at bs i).rec.shape ≡ 12 → (n ≤ 15) × AllArgs n lit
  func_literal n lit e f g =
      let k = fits_func (row_at bs i) (row_fits bs i h.fit l) g in (
        omega (arith, e, k.1),
        subst (λ (z : List ℕ). AllArgs n z) (sym f) (subst (λ (z : ℕ). AllArgs z (row_at bs i).rec.lit) (sym e) k.2),
      )
