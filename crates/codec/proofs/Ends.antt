-- The 256 entries: what the walk has noted of an accepted forest are its ends.
-- In order: entries one by one; of an accepted forest; of a refused one.
-- Assumes nothing.
use Prim.Native.Nat.{ℕ, zero, suc, ◌+◌, ◌-◌, ◌<◌, ◌≤◌}
use mathlib.Core.Path.{◌≡◌, refl, ap, ap₂, sym, ◌∙◌}
use mathlib.Core.List.{List, [], ◌∷◌, ◌++◌}
use native.Mathlib.Omega.{arith}
use native.Mathlib.Decide.{dec_lt}
use lib.ListN.{length, get_or, take, replicate, length-append, length-replicate, get_or-append, get_or-replicate}
use lib.Seq.{get_or-append_right, take-append_seam, ext_get_or}
use Rattle.model.specs.Answer.{refused, good}
use Rattle.model.specs.Tree.{size}
use Rattle.model.specs.Forest.{record_count, trees_of}
use Rattle.model.specs.Accept.{accept}
use Rattle.model.specs.Nesting.{extents_in}
use Rattle.model.specs.Ends.{ends_from, ends_of, entries_of, entries}
use Rattle.laws.specs.Frame.{Frame}
use Rattle.laws.proofs.Extents.{extents_lengths}
use Rattle.walk.specs.Walk.{tree_at, WellFormed, Ends}
use Rattle.walk.proofs.Bridge.{records_few}
use Rattle.walk.proofs.Ends.{all_records, extent_is}
use Rattle.codec.specs.Accepted.{Passes}
use Rattle.codec.proofs.Accepting.{passes_accepts}

-- ---- entries one by one

ends_length : (i : ℕ) (ns : List ℕ) → length (ends_from i ns) ≡ length ns
unfolding ends_from
ends_length i [] = refl
ends_length i (n ∷ ns) = ap suc (ends_length (suc i) ns)

ends_at : (i : ℕ) (ns : List ℕ) (k : ℕ) → k < length ns → get_or (ends_from i ns) k 0 ≡ i + k + get_or ns k 0
unfolding ends_from
ends_at i [] k l = absurd (omega arith)
ends_at i (n ∷ ns) zero l = omega arith
ends_at i (n ∷ ns) (suc k) l = omega (arith, ends_at (suc i) ns k (omega arith))

-- ---- of an accepted forest

module _ (bs : List ℕ) (few : record_count bs ≤ 256) where
  own : List ℕ
  own = ends_from 0 (extents_in (trees_of bs))

  spare : List ℕ
  spare = replicate (256 - length own) 0

  own_length : length own ≡ record_count bs
  unfolding own
  own_length = ends_length 0 (extents_in (trees_of bs)) ∙ extents_lengths (trees_of bs) ∙ all_records bs

  own_at : (k : ℕ) → k < record_count bs → get_or (own ++ spare) k 0 ≡ k + size (tree_at bs k)
  unfolding own
  own_at k l =
      get_or-append own spare 0 k (omega (arith, own_length))
      ∙ omega (
        arith,
        ends_at 0 (extents_in (trees_of bs)) k (omega (arith, extents_lengths (trees_of bs), all_records bs)),
        extent_is bs k l,
      )

  spare_at : (k : ℕ) → record_count bs ≤ k → k < 256 → get_or (own ++ spare) k 0 ≡ 0
  unfolding spare
  spare_at k l m =
      get_or-append_right own spare k 0 (omega (arith, own_length))
      ∙ get_or-replicate (256 - length own) (k - length own) 0 0 (omega (arith, own_length))

  whole : length (own ++ spare) ≡ 256
  unfolding spare
  whole =
      omega (arith, length-append own spare, length-replicate {A = ℕ} (256 - length own) 0, own_length)

  module _ (accepted : accept bs ≡ good (trees_of bs)) where
    entries_are : entries bs ≡ own ++ spare
    unfolding own spare entries_of ends_of
    entries_are = ap entries_of accepted

    -- each record's end is noted, over zeros
    pub entries_noted : (old zs es : List ℕ) → length old ≡ 256 → zs ≡ replicate (length old) 0 →
        Ends bs 0 (record_count bs) es → Frame 0 (record_count bs) zs es → es ≡ entries bs
    entries_noted old zs es full zeros ends kept =
        ext_get_or 0 es (own ++ spare) (omega (arith, long, whole)) at_each ∙ sym entries_are
      where
        zs_are : zs ≡ replicate 256 0
        zs_are = zeros ∙ ap (λ (n : ℕ). replicate n 0) full

        long : length es ≡ 256
        long = kept.long ∙ ap length zs_are ∙ length-replicate {A = ℕ} 256 0

        at_each : (k : ℕ) → k < length es → get_or es k 0 ≡ get_or (own ++ spare) k 0
        at_each k l = elim (dec_lt k (record_count bs)) [
          | yes m ↦ ends k (omega arith) m ∙ sym (own_at k m)
          | no m ↦
              kept.after k (omega arith)
              ∙ ap (λ (l : List ℕ). get_or l k 0) zs_are
              ∙ get_or-replicate 256 k 0 0 (omega (arith, long))
              ∙ sym (spare_at k (omega arith) (omega (arith, long)))
        ]

    -- and so it stands in the entries
    pub noted_entries : Ends bs 0 (record_count bs) (entries bs)
    noted_entries k l m = ap (λ (es : List ℕ). get_or es k 0) entries_are ∙ own_at k m

    -- those of the records are its ends
    pub first_entries : take (record_count bs) (entries bs) ≡ ends_of (accept bs)
    unfolding own ends_of
    first_entries =
        ap₂ take (sym own_length) entries_are ∙ take-append_seam own spare ∙ sym (ap ends_of accepted)

pub entry_is : (bs es : List ℕ) → WellFormed bs → Passes bs → es ≡ entries bs → (i : ℕ) → i < record_count bs →
    get_or es i 0 ≡ i + size (tree_at bs i)
entry_is bs es sound passes is i there =
    ap (λ (l : List ℕ). get_or l i 0) is
    ∙ noted_entries bs (records_few bs sound) (passes_accepts bs sound passes) i (omega arith) there

-- ---- of a refused one

pub zeros_refused : (bs es : List ℕ) (n p : ℕ) → length es ≡ 256 → refused n p ≡ accept bs → replicate (length es) 0 ≡ entries bs
unfolding entries_of ends_of
zeros_refused bs es n p long e = rw long (ap entries_of e)
