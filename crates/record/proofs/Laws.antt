-- Where records lie, from checks 2 and 3: a row of the forest is what its pair cuts out. In order: the pairs; the rows
-- that sound pairs cut out; where a record lies; all records; what is read; a row's fields.
-- Assumes nothing.
use Prim.Native.Nat.{ℕ, zero, suc, ◌+◌, ◌*◌, ◌-◌, ◌<◌, ◌≤◌}
use mathlib.Core.Path.{◌≡◌, refl, sym, ap, ◌∙◌, subst}
use mathlib.Core.Bool.{Bool, true, false, not, ◌||◌}
use Rattle.std.specs.Prelude.{Option, None, Some}
use mathlib.Core.List.{List, [], ◌∷◌}
use native.Mathlib.Omega.{arith}
use lib.Dec.{eqb, ltb}
use lib.ListN.{length, get_or, take, drop, length-drop}
use native.Mathlib.Nat.{add-zero}
use Rattle.std.proofs.lemmas.List.{length-take-le}
use lib.Seq.{drop-drop, get_or-drop, get_or-take, take-nil}
use borrow.Author.Tests.{ltb-false, eqb-true, not-false}
use Rattle.model.specs.Lists.{first}
use Rattle.model.specs.Bytes.{u16}
use Rattle.model.specs.Tree.{Row, row_len}
use Rattle.model.specs.Shape.{Pairs}
use Rattle.model.specs.Forest.{tree_count, record_count, pairs_at, pairs_of, row_of, rows_at, rows_in, body_start}
use Rattle.model.specs.Forest.{bad_pairs, check3}
use Rattle.laws.proofs.Apart.{some_none}
use Rattle.laws.specs.Clear.{Clear}
use Rattle.laws.specs.Rows as rows
use Rattle.laws.proofs.Clear.{first_clear}
use Rattle.laws.proofs.Header.{header_of, pairs_length}
use Rattle.laws.proofs.Members.{or_neither}
use Rattle.record.specs.Record.{Laid, start_of, size_of, no_row, row_at}

-- ---- the pairs

pair_at : (n : ℕ) (bs : List ℕ) (i : ℕ) → i < n
    → get_or (pairs_at n bs) i (0, 0) ≡ (u16 (drop (4 * i) bs), u16 (drop (2 + 4 * i) bs))
unfolding pairs_at
pair_at zero bs i l = absurd (omega arith)
pair_at (suc n) bs zero l = refl
pair_at (suc n) bs (suc i) l =
    let e : 4 + 4 * i ≡ 4 * suc i = omega arith in
    let f : 4 + (2 + 4 * i) ≡ 2 + 4 * suc i = omega arith in
    pair_at n (drop 4 bs) i (omega arith) ∙ rw (drop-drop (4 * i) 4 bs, drop-drop (2 + 4 * i) 4 bs, e, f)

-- ---- rows that sound pairs cut out

-- a row is as long as its pair says
cut_long : (n : ℕ) (s : List ℕ) → 5 ≤ n → n ≤ length s → row_len (row_of (take n s)) ≡ n
unfolding row_len row_of
cut_long n s least most = omega (arith, length-drop 5 (take n s), length-take-le n s most)

-- what check 3 leaves of a pair, and the row that it cuts out
record Cut (total : ℕ) (s : List ℕ) (p : ℕ × ℕ) (r : Row) : Type 0 where
  long : 5 ≤ p.1
  inside : p.0 + p.1 ≤ total
  row : r ≡ row_of (take p.1 (drop p.0 s))

module _ (total : ℕ) where
  pair_starts : (from : ℕ) (p : ℕ × ℕ) (ps : Pairs) → Clear (bad_pairs total from (p ∷ ps)) → p.0 ≡ from
  unfolding bad_pairs
  pair_starts from p ps h = eqb-true p.0 from (not-false _ (or_neither _ _ (or_neither _ _ h.0).0).0)

  pair_long : (from : ℕ) (p : ℕ × ℕ) (ps : Pairs) → Clear (bad_pairs total from (p ∷ ps)) → 5 ≤ p.1
  unfolding bad_pairs
  pair_long from p ps h = ltb-false p.1 5 (or_neither (not (eqb p.0 from)) _ (or_neither _ _ h.0).0).1

  -- the last pair ends at the forest's end, and each starts where the one before ends
  pair_inside : (from : ℕ) (p : ℕ × ℕ) (ps : Pairs) → Clear (bad_pairs total from (p ∷ ps)) → p.0 + p.1 ≤ total
  unfolding bad_pairs
  pair_inside from p [] h =
      let last = not-false _ (or_neither (not (eqb p.0 from) || ltb p.1 5) _ h.0).1 in
      omega (arith, eqb-true (p.0 + p.1) total last)
  pair_inside from p (q ∷ ps) h =
      omega (arith, pair_starts (p.0 + p.1) q ps h.1, pair_inside (p.0 + p.1) q ps h.1)

  row_cut : (s : List ℕ) (from : ℕ) (ps : Pairs) (i : ℕ) → Clear (bad_pairs total from ps) → i < length ps →
      Cut total s (get_or ps i (0, 0)) (get_or (rows_at ps (drop from s)) i no_row)
  unfolding rows_at bad_pairs
  row_cut s from [] i h l = absurd (omega arith)
  row_cut s from (p ∷ ps) zero h l = record {
    long = pair_long from p ps h;
    inside = pair_inside from p ps h;
    row = ap (λ (z : ℕ). row_of (take p.1 (drop z s))) (sym (pair_starts from p ps h));
  }
  row_cut s from (p ∷ ps) (suc i) h l =
      let e : from + p.1 ≡ p.0 + p.1 = omega (arith, pair_starts from p ps h) in
      subst (λ (z : List ℕ). Cut total s (get_or ps i (0, 0)) (get_or (rows_at ps z) i no_row))
      (sym (drop-drop p.1 from s ∙ ap (λ (z : ℕ). drop z s) e))
      (row_cut s (p.0 + p.1) ps i h.1 (omega arith))

-- ---- a laid forest's records lie in it

fits-directory : (bs : List ℕ) → check3 bs ≡ None
    → (body_start bs ≤ length bs) × Clear (bad_pairs (length bs) (body_start bs) (pairs_of bs))
unfolding check3
fits-directory bs e = go (ltb (length bs) (body_start bs)) refl e
  where
    go : (b : Bool) → ltb (length bs) (body_start bs) ≡ b →
        ◌≡◌ {A = Option ℕ}
        (elim b [ true ↦ Some 0 | false ↦ first (bad_pairs (length bs) (body_start bs) (pairs_of bs)) ]) None →
        (body_start bs ≤ length bs) × Clear (bad_pairs (length bs) (body_start bs) (pairs_of bs))
    go true f g = some_none g
    go false f g = (ltb-false (length bs) (body_start bs) f, first_clear _ g)

-- record i lies where its pair says, within the forest
record Lies (bs : List ℕ) (i : ℕ) : Type 0 where
  fixed : 5 ≤ size_of bs i
  inside : start_of bs i + size_of bs i ≤ length bs
  row : row_at bs i ≡ row_of (take (size_of bs i) (drop (start_of bs i) bs))

laid_lies : (bs : List ℕ) (i : ℕ) → Laid bs → i < record_count bs → Lies bs i
unfolding row_at rows_in pairs_of body_start start_of size_of
laid_lies bs i laid l = record {
  fixed = subst (λ (z : ℕ × ℕ). 5 ≤ z.1) pair cut.long;
  inside = subst (λ (z : ℕ × ℕ). z.0 + z.1 ≤ length bs) pair cut.inside;
  row = subst (λ (z : ℕ × ℕ). row_at bs i ≡ row_of (take z.1 (drop z.0 bs))) pair cut.row;
}
  where
    directory : (body_start bs ≤ length bs) × Clear (bad_pairs (length bs) (body_start bs) (pairs_of bs))
    directory = fits-directory bs laid.directory

    cut : Cut (length bs) bs (get_or (pairs_of bs) i (0, 0)) (row_at bs i)
    cut =
        row_cut (length bs) bs (body_start bs) (pairs_of bs) i directory.1
        (omega (arith, pairs_length (record_count bs) (drop 4 bs)))

    pair : get_or (pairs_of bs) i (0, 0) ≡ (start_of bs i, size_of bs i)
    pair =
        let e : 4 + (2 + 4 * i) ≡ 6 + 4 * i = omega arith in
        pair_at (record_count bs) (drop 4 bs) i l ∙ rw (drop-drop (4 * i) 4 bs, drop-drop (2 + 4 * i) 4 bs, e)

-- ---- all records

-- they take no more bytes than the forest has
cuts_inside : (s : List ℕ) (from : ℕ) (ps : Pairs) → from ≤ length s → Clear (bad_pairs (length s) from ps) →
    from + rows.total (rows_at ps (drop from s)) ≤ length s
unfolding rows_at bad_pairs
cuts_inside s from [] most h = omega arith
cuts_inside s from (p ∷ ps) most h =
    let start = pair_starts (length s) from p ps h in
    let inside = pair_inside (length s) from p ps h in
    let e : from + p.1 ≡ p.0 + p.1 = omega (arith, start) in
    let rest : drop p.1 (drop from s) ≡ drop (p.0 + p.1) s = drop-drop p.1 from s ∙ ap (λ (z : ℕ). drop z s) e in
    let long = cut_long p.1 (drop from s) (pair_long (length s) from p ps h) (omega (arith, length-drop from s, start, inside)) in
    rw (rest, long) (omega (arith, start, cuts_inside s (p.0 + p.1) ps inside h.1))

pub lengths_inside : (bs : List ℕ) → Laid bs → rows.total (rows_in bs) ≤ length bs
unfolding rows_in
lengths_inside bs laid =
    let d = fits-directory bs laid.directory in
    omega (arith, cuts_inside bs (body_start bs) (pairs_of bs) d.0 d.1)

pub bytes_few : (bs : List ℕ) → Laid bs → length bs ≤ 65535
bytes_few bs laid = (header_of bs laid.header).most

pub records_few : (bs : List ℕ) → Laid bs → record_count bs ≤ 256
records_few bs laid = (header_of bs laid.header).records_most

pub header_long : (bs : List ℕ) → Laid bs → 4 ≤ length bs
header_long bs laid = (header_of bs laid.header).least

pub trees_few : (bs : List ℕ) → Laid bs → tree_count bs ≤ 16
trees_few bs laid = (header_of bs laid.header).trees_most

-- `tree_count` and `record_count` of a forest
pub ruleset counts = (header_long, trees_few, records_few)

pub pairs_inside : (bs : List ℕ) → Laid bs → 4 + 4 * record_count bs ≤ length bs
unfolding body_start
pairs_inside bs laid = omega (arith, (fits-directory bs laid.directory).0)

-- `start`
pub ruleset pairs = (records_few, pairs_inside)

-- ---- what is read

drop-take : (m n : ℕ) (l : List ℕ) → drop m (take n l) ≡ take (n - m) (drop m l)
drop-take zero n l = let e : n - 0 ≡ n = omega arith in rw e
drop-take (suc m) zero l = sym (take-zero (drop (suc m) l))
  where
    take-zero : (l : List ℕ) → take (0 - suc m) l ≡ []
    take-zero l = let e : 0 - suc m ≡ 0 = omega arith in rw e
drop-take (suc m) (suc n) [] = sym (rw take-nil)
drop-take (suc m) (suc n) (x ∷ l) = let e : suc n - suc m ≡ n - m = omega arith in drop-take m n l ∙ rw e

pub u16_at : (s : List ℕ) (at : ℕ) → u16 (drop at s) ≡ get_or s at 0 + 256 * get_or s (at + 1) 0
unfolding u16
u16_at s at = let e : at + 0 ≡ at = omega arith in rw (get_or-drop at s 0 0, get_or-drop at s 1 0, e)

-- ---- a row's fields

module _ (bs : List ℕ) (i : ℕ) (laid : Laid bs) (l : i < record_count bs) where
  lies : Lies bs i
  lies = laid_lies bs i laid l

  pub fixed_inside : start_of bs i + 5 ≤ length bs
  fixed_inside = omega (arith, lies.fixed, lies.inside)

  -- a byte of the record
  byte_at : (k : ℕ) → k < 5
      → get_or (take (size_of bs i) (drop (start_of bs i) bs)) k 0 ≡ get_or bs (start_of bs i + k) 0
  byte_at k low =
      let lt : k < size_of bs i = omega (arith, lies.fixed) in
      get_or-take (size_of bs i) (drop (start_of bs i) bs) k 0 lt ∙ get_or-drop (start_of bs i) bs k 0

  pub shape_at : (row_at bs i).rec.shape ≡ get_or bs (start_of bs i) 0
  unfolding row_of
  shape_at = ap (λ (z : Row). z.rec.shape) lies.row ∙ byte_at 0 (omega arith) ∙ rw add-zero

  pub opcode_at : (row_at bs i).rec.opcode ≡ get_or bs (start_of bs i + 1) 0
  unfolding row_of
  opcode_at = ap (λ (z : Row). z.rec.opcode) lies.row ∙ byte_at 1 (omega arith)

  pub aux_at : (row_at bs i).rec.aux ≡ get_or bs (start_of bs i + 4) 0
  unfolding row_of
  aux_at = ap (λ (z : Row). z.rec.aux) lies.row ∙ byte_at 4 (omega arith)

  pub kids_at_lem : (row_at bs i).kids ≡ u16 (drop (start_of bs i + 2) bs)
  unfolding row_of
  kids_at_lem =
      let f : start_of bs i + 2 + 1 ≡ start_of bs i + 3 = omega arith in
      ap (λ (z : Row). z.kids) lies.row
      ∙ rw (u16_at (take (size_of bs i) (drop (start_of bs i) bs)) 2, u16_at bs (start_of bs i + 2), f)
      (rw (byte_at 2 (omega arith), byte_at 3 (omega arith)))

  -- a record is as long as its pair says
  pub size_at : row_len (row_at bs i) ≡ size_of bs i
  size_at =
      let rest = drop (start_of bs i) bs in
      let enough : size_of bs i ≤ length rest = omega (arith, length-drop (start_of bs i) bs, lies.inside) in
      ap row_len lies.row ∙ cut_long (size_of bs i) rest lies.fixed enough

  pub size_inside : start_of bs i + row_len (row_at bs i) ≤ length bs
  size_inside = omega (arith, size_at, lies.inside)

  pub size_long : 5 ≤ row_len (row_at bs i)
  size_long = omega (arith, size_at, lies.fixed)

  pub literal_at : (row_at bs i).rec.lit ≡ take (row_len (row_at bs i) - 5) (drop (start_of bs i + 5) bs)
  unfolding row_of
  literal_at =
      ap (λ (z : Row). z.rec.lit) lies.row ∙ drop-take 5 (size_of bs i) (drop (start_of bs i) bs)
      ∙ rw (size_at, drop-drop)

-- by function: `size`; `shape`, `opcode`, `kids` and `aux`; `literal`
pub ruleset lengths = (pairs, size_at)

pub ruleset fields = (fixed_inside, shape_at, opcode_at, aux_at, kids_at_lem)

pub ruleset part = (literal_at, size_inside, size_long)
