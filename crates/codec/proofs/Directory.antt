-- Check 3, pair by pair. In order: the directory's pairs by number; what is left gives the whole.
-- Assumes nothing.
use Prim.Native.Nat.{ℕ, zero, suc, ◌+◌, ◌-◌, ◌*◌, ◌<◌, ◌≤◌}
use mathlib.Core.Path.{◌≡◌, sym, ap, ◌∙◌}
use mathlib.Core.Bool.{Bool, true, false}
use Rattle.std.specs.Prelude.{Option, None, Some}
use mathlib.Core.List.{List, ◌∷◌}
use native.Mathlib.Omega.{arith}
use native.Mathlib.Decide.{dec_lt}
use borrow.Author.Tests.{lt-ltb, le-ltb, eq-eqb, ne_eqb}
use lib.Dec.{eqb}
use lib.ListN.{length, drop}
use lib.Seq.{drop-drop}
use Rattle.model.specs.Lists.{first}
use Rattle.model.specs.Bytes.{u16}
use Rattle.model.specs.Shape.{Pairs}
use Rattle.model.specs.Forest.{record_count, body_start, pairs_at, pairs_of, bad_pairs, check3}
use Rattle.laws.proofs.Header.{header_of}
use Rattle.walk.specs.Walk.{shift}
use Rattle.walk.proofs.Steps.{shift_zero, shift_hit, shift_miss}
use Rattle.codec.specs.Codec.{bad_pair}

-- ---- the directory's pairs by number

abbrev pairs_from : List ℕ → ℕ → ℕ → Pairs
pairs_from bs n i = pairs_at (n - i) (drop (4 + 4 * i) bs)

pairs_next : (m : ℕ) (bs : List ℕ) (at : ℕ) →
    pairs_at (suc m) (drop at bs) ≡ (u16 (drop at bs), u16 (drop (2 + at) bs)) ∷ pairs_at m (drop (4 + at) bs)
unfolding pairs_at
pairs_next m bs at =
    let e : at + 2 ≡ 2 + at = omega arith in
    let f : at + 4 ≡ 4 + at = omega arith in
    rw (drop-drop 2 at bs, drop-drop 4 at bs, e, f)

-- the first of m + 1 pairs
pairs_first : (total from m : ℕ) (bs : List ℕ) (at : ℕ) → bad_pairs total from (pairs_at (suc m) (drop at bs)) ≡
    bad_pair total from (u16 (drop at bs)) (u16 (drop (2 + at) bs)) (eqb m 0) ∷
    bad_pairs total (u16 (drop at bs) + u16 (drop (2 + at) bs)) (pairs_at m (drop (4 + at) bs))
unfolding bad_pairs pairs_at
pairs_first total from zero bs at = ap (bad_pairs total from) (pairs_next zero bs at)
pairs_first total from (suc m) bs at =
    rw (ne_eqb (suc m) 0 (λ e. omega arith)) (ap (bad_pairs total from) (pairs_next (suc m) bs at))

-- the last pair is the one with none after it
last_is : (n i : ℕ) → i < n → eqb (n - (i + 1)) 0 ≡ eqb (i + 1) n
last_is n i l = elim (dec_lt (i + 1) n) [
  | yes h ↦ ne_eqb (n - (i + 1)) 0 (λ e. omega arith) ∙ sym (ne_eqb (i + 1) n (λ e. omega arith))
  | no h ↦ eq-eqb (n - (i + 1)) 0 (omega arith) ∙ sym (eq-eqb (i + 1) n (omega arith))
]

-- ---- what is left gives the whole

-- the faults from pair i on, the one before it ending at `from`
unfoldable pub pairs_left : List ℕ → ℕ → ℕ → ℕ → Option ℕ
pairs_left bs n from i = shift i (first (bad_pairs (length bs) from (pairs_from bs n i)))

module _ (bs : List ℕ) where
  pub directory_short : length bs < 4 + 4 * record_count bs → check3 bs ≡ Some 0
  unfolding check3 body_start
  directory_short h = rw (check3, lt-ltb (length bs) (body_start bs) h)

  pub directory_start : 4 + 4 * record_count bs ≤ length bs →
      pairs_left bs (record_count bs) (4 + 4 * record_count bs) 0 ≡ check3 bs
  unfolding pairs_left check3 pairs_of body_start
  directory_start h =
      let e : record_count bs - 0 ≡ record_count bs = omega arith in
      rw (check3, le-ltb (length bs) (body_start bs) h, e) (shift_zero _)

  pub directory_end : (n from i : ℕ) → n ≤ i → pairs_left bs n from i ≡ None
  unfolding pairs_left pairs_at bad_pairs first
  directory_end n from i h = let e : n - i ≡ 0 = omega arith in rw e

  module _ (n from i : ℕ) (lt : i < n) where
    pairs_split : bad_pairs (length bs) from (pairs_from bs n i) ≡
        bad_pair (length bs) from (u16 (drop (4 + 4 * i) bs)) (u16 (drop (6 + 4 * i) bs)) (eqb (i + 1) n) ∷
        bad_pairs (length bs) (u16 (drop (4 + 4 * i) bs) + u16 (drop (6 + 4 * i) bs)) (pairs_from bs n (i + 1))
    pairs_split =
        let e : n - i ≡ suc (n - (i + 1)) = omega arith in
        let f : 2 + (4 + 4 * i) ≡ 6 + 4 * i = omega arith in
        let g : 4 + (4 + 4 * i) ≡ 4 + 4 * (i + 1) = omega arith in
        rw e (pairs_first (length bs) from (n - (i + 1)) bs (4 + 4 * i) ∙ rw (last_is n i lt, f, g))

    abbrev at : ℕ
    at = u16 (drop (4 + 4 * i) bs)

    abbrev size : ℕ
    size = u16 (drop (6 + 4 * i) bs)

    pub directory_hit : bad_pair (length bs) from at size (eqb (i + 1) n) ≡ true → pairs_left bs n from i ≡ Some i
    unfolding pairs_left
    directory_hit e = ap (λ (z : List Bool). shift i (first z)) pairs_split ∙ shift_hit i _ _ e

    pub directory_miss : bad_pair (length bs) from at size (eqb (i + 1) n) ≡ false →
        pairs_left bs n from i ≡ pairs_left bs n (at + size) (i + 1)
    unfolding pairs_left
    directory_miss e = ap (λ (z : List Bool). shift i (first z)) pairs_split ∙ shift_miss i _ _ e

pub ruleset directory = (header_of, directory_short, directory_start, directory_end, directory_hit, directory_miss)
