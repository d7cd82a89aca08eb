-- What the header of a forest says, once check 2 passes, and that there are as many pairs and rows as it counts.
--
-- In order: check 2 (`header_of`); pairs and rows (`pair_count`, `row_count`). Every reading of a forest starts here.
-- Assumes nothing.
use mathlib.Core.Path.{◌≡◌, refl, ap, ◌∙◌}
use mathlib.Core.Bool.{Bool, true, false, not, ◌&&◌, ◌||◌}
use Rattle.std.specs.Prelude.{None}
use mathlib.Core.List.{List, [], ◌∷◌}
use Prim.Native.Nat.{ℕ, zero, suc, ◌≤◌}
use lib.Dec.{leb, ltb}
use lib.ListN.{length, drop}
use borrow.Author.Tests.{ltb-false, leb-true, not-false}
use Rattle.model.specs.Answer.{at0}
use Rattle.model.specs.Shape.{Pairs}
use Rattle.model.specs.Forest.{tree_count, record_count, pairs_at, pairs_of, rows_at, rows_in, check2}
use Rattle.laws.proofs.Apart.{some_none}
use Rattle.laws.proofs.Members.{and_both, or_neither}

-- ---- check 2

-- what check 2 leaves
pub record Header (bs : List ℕ) : Type 0 where
  pub least : 4 ≤ length bs
  pub most : length bs ≤ 65535
  pub trees_least : 1 ≤ tree_count bs
  pub trees_most : tree_count bs ≤ 16
  pub records_least : 1 ≤ record_count bs
  pub records_most : record_count bs ≤ 256

pub at0_none : (b : Bool) → at0 b ≡ None → b ≡ false
at0_none false e = refl
at0_none true e = some_none e

pub header_of : (bs : List ℕ) → check2 bs ≡ None → Header bs
unfolding check2
header_of bs e =
    let k = tree_count bs in
    let n = record_count bs in
    let range = leb 1 k && leb k 16 && leb 1 n && leb n 256 in
    let whole = or_neither (ltb (length bs) 4 || ltb 65535 (length bs)) (not range) (at0_none _ e) in
    let lengths = or_neither (ltb (length bs) 4) (ltb 65535 (length bs)) whole.0 in
    let records = and_both (leb 1 k && leb k 16 && leb 1 n) (leb n 256) (not-false range whole.1) in
    let three = and_both (leb 1 k && leb k 16) (leb 1 n) records.0 in
    let trees = and_both (leb 1 k) (leb k 16) three.0 in
    record {
      least = ltb-false (length bs) 4 lengths.0;
      most = ltb-false 65535 (length bs) lengths.1;
      trees_least = leb-true 1 k trees.0;
      trees_most = leb-true k 16 trees.1;
      records_least = leb-true 1 n three.1;
      records_most = leb-true n 256 records.1;
    }

-- ---- pairs and rows

pub pairs_length : (n : ℕ) (bs : List ℕ) → length (pairs_at n bs) ≡ n
unfolding pairs_at
pairs_length zero bs = refl
pairs_length (suc n) bs = ap suc (pairs_length n (drop 4 bs))

rows_length : (ps : Pairs) (bs : List ℕ) → length (rows_at ps bs) ≡ length ps
unfolding rows_at
rows_length [] bs = refl
rows_length (p ∷ ps) bs = ap suc (rows_length ps (drop p.1 bs))

pub pair_count : (bs : List ℕ) → length (pairs_of bs) ≡ record_count bs
unfolding pairs_of
pair_count bs = pairs_length (record_count bs) (drop 4 bs)

pub row_count : (bs : List ℕ) → length (rows_in bs) ≡ record_count bs
unfolding rows_in
row_count bs = rows_length (pairs_of bs) _ ∙ pair_count bs
