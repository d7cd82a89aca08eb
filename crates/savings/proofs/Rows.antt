-- Records counted one by one, by number.
-- In order: the rows up to one more record; what they weigh, and at most; how many use an id.
-- Assumes nothing.
use Prim.Native.Nat.{ℕ, zero, suc, ◌+◌, ◌*◌, ◌-◌, ◌<◌, ◌≤◌}
use mathlib.Core.Path.{◌≡◌, refl, ap, ◌∙◌}
use mathlib.Core.List.{List, [], ◌∷◌, ◌++◌}
use native.Mathlib.Omega.{arith}
use lib.ListN.{length, take, drop, length-take, length-drop, take-append-drop}
use lib.Seq.{take-suc, get_or-drop}
use Rattle.model.specs.Tree.{Row, row_len}
use Rattle.model.specs.Forest.{record_count, rows_in}
use Rattle.model.specs.Savings.{weight, is_use, own_use}
use Rattle.laws.specs.Rows.{total}
use Rattle.laws.proofs.Header.{row_count}
use Rattle.record.specs.Record.{Laid, no_row, row_at}
use Rattle.record.proofs.Laws.{records_few, bytes_few, lengths_inside}
use Rattle.std.specs.List.{filter, range_with_len}
use Rattle.walk.proofs.Bridge.{rows_at}
use Rattle.savings.specs.Plain.{plain_uses}
use Rattle.savings.specs.Siblings.{rows_between}
use Rattle.savings.proofs.Plain.{plain_few}

-- ---- one more record

module _ (bs : List ℕ) (from k : ℕ) (order : from ≤ k) where
  pub rows_more : k < record_count bs → rows_between bs from (k + 1) ≡ rows_between bs from k ++ (row_at bs k ∷ [])
  unfolding row_at
  rows_more l =
      let e : suc (k - from) ≡ k + 1 - from = omega arith in
      let f : from + (k - from) ≡ k = omega arith in
      let n : k - from < length (drop from (rows_in bs)) = omega (arith, length-drop from (rows_in bs), row_count bs) in
      rw (← e, take-suc (drop from (rows_in bs)) (k - from) no_row n, get_or-drop from (rows_in bs) (k - from) no_row, f) refl

pub rows_none : (bs : List ℕ) (from : ℕ) → rows_between bs from from ≡ []
rows_none bs from = let e : from - from ≡ 0 = omega arith in rw e refl

-- ---- weights

weight_join : (rs qs : List Row) → weight (rs ++ qs) ≡ weight rs + weight qs
unfolding weight
weight_join [] qs = omega arith
weight_join (r ∷ rs) qs = omega (arith, weight_join rs qs)

weight_is : (rs : List Row) → weight rs ≡ total rs + 4 * length rs
unfolding weight
weight_is [] = omega arith
weight_is (r ∷ rs) = omega (arith, weight_is rs)

-- a part weighs no more than the whole
weight_take : (n : ℕ) (rs : List Row) → weight (take n rs) ≤ weight rs
weight_take n rs = omega (arith, weight_join (take n rs) (drop n rs), ap weight (take-append-drop n rs))

weight_drop : (n : ℕ) (rs : List Row) → weight (drop n rs) ≤ weight rs
weight_drop n rs = omega (arith, weight_join (take n rs) (drop n rs), ap weight (take-append-drop n rs))

-- at most 65,535 bytes and 256 pairs
pub weight_few : (bs : List ℕ) (from to : ℕ) → Laid bs → weight (rows_between bs from to) ≤ 66559
weight_few bs from to laid =
    omega (
      arith,
      weight_take (to - from) (drop from (rows_in bs)),
      weight_drop from (rows_in bs),
      weight_is (rows_in bs),
      row_count bs,
      records_few bs laid,
      bytes_few bs laid,
      lengths_inside bs laid,
    )

-- a loop over records
pub weight_none : (bs : List ℕ) (from : ℕ) → weight (rows_between bs from from) ≡ 0
unfolding weight
weight_none bs from = rw (rows_none bs from) refl

pub weight_more : (bs : List ℕ) (from k : ℕ) → from ≤ k → k < record_count bs →
    weight (rows_between bs from (k + 1)) ≡ weight (rows_between bs from k) + (row_len (row_at bs k) + 4)
unfolding weight
weight_more bs from k o l = rw (rows_more bs from k o l) (weight_join (rows_between bs from k) (row_at bs k ∷ []) ∙ omega arith)

pub ruleset weighing = (weight_none, weight_more, weight_few)

-- ---- uses

rows_first : (bs : List ℕ) (from n : ℕ) → from < record_count bs →
    rows_between bs from (from + suc n) ≡ row_at bs from ∷ rows_between bs (from + 1) (from + 1 + n)
rows_first bs from n l =
    let e : from + suc n - from ≡ suc n = omega arith in
    let f : from + 1 + n - (from + 1) ≡ n = omega arith in
    rw (e, f, rows_at bs from l) refl

-- the records that use an id, by number
pub uses_counted : (i : ℕ) (bs : List ℕ) (from n : ℕ) → from + n ≤ record_count bs →
    length (filter (λ k. is_use i (row_at bs k).rec) (range_with_len from n)) ≡ plain_uses i (rows_between bs from (from + n))
unfolding plain_uses own_use
uses_counted i bs from zero l = let e : from + 0 - from ≡ 0 = omega arith in rw e refl
uses_counted i bs from (suc n) l =
    let later = uses_counted i bs (from + 1) n (omega arith) in
    rw (rows_first bs from n (omega arith)) (grind (arith, later))

pub uses_few : (i : ℕ) (bs : List ℕ) (from to : ℕ) → Laid bs → plain_uses i (rows_between bs from to) ≤ 256
uses_few i bs from to laid =
    omega (
      arith,
      plain_few i (rows_between bs from to),
      length-take (to - from) (drop from (rows_in bs)),
      length-drop from (rows_in bs),
      row_count bs,
      records_few bs laid,
    )
