-- Where subtrees end: what a walk has noted of them.
-- In order: records and subtrees within the forest; what starts there; nothing noted; steps; the entries by the trees of the
-- forest.
-- Assumes nothing.
use Prim.Native.Nat.{ℕ, suc, ◌+◌, ◌-◌, ◌<◌, ◌≤◌}
use mathlib.Core.Path.{◌≡◌, sym, ap, ◌∙◌}
use mathlib.Core.List.{List}
use Rattle.std.specs.Prelude.{Ok}
use native.Mathlib.Omega.{arith}
use native.Mathlib.Decide.{dec_lt}
use native.Mathlib.Numerals.{add-one}
use lib.ListN.{length, get_or, set, drop, length-drop}
use lib.Seq.{drop-drop, get_or-set_same, get_or-set_other}
use Rattle.model.specs.Tree.{size, sizes, grow}
use Rattle.model.specs.Forest.{record_count, rows_in, trees_of}
use Rattle.model.specs.Nesting.{extents_in}
use Rattle.laws.specs.Frame.{Frame}
use Rattle.laws.proofs.Frame.{frame_none, frame_inside, frame_store, frame_then}
use Rattle.laws.proofs.Header.{row_count}
use Rattle.laws.proofs.Rows.{next_row}
use Rattle.laws.proofs.Extents.{sizes_grow, extent_at}
use Rattle.record.specs.Record.{no_row, row_at}
use Rattle.walk.specs.Walk.{trees_from, kid_trees_at, rest_at, tree_at, Noted}
use Rattle.walk.proofs.Bridge.{trees_at}

-- ---- records and subtrees within the forest

-- as many records from i on as trees there have
records_from : (bs : List ℕ) (i : ℕ) → sizes (trees_from bs i) ≡ record_count bs - i
unfolding trees_from
records_from bs i = sizes_grow (drop i (rows_in bs)) ∙ length-drop i (rows_in bs) ∙ ap (λ n. n - i) (row_count bs)

pub all_records : (bs : List ℕ) → sizes (trees_of bs) ≡ record_count bs
unfolding trees_of
all_records bs = sizes_grow (rows_in bs) ∙ row_count bs

pub subtree_within : (bs : List ℕ) (i : ℕ) → i < record_count bs → i + size (tree_at bs i) ≤ record_count bs
unfolding size
subtree_within bs i l = omega (arith, records_from bs i, ap sizes (trees_at bs i l))

-- the trees that follow a record's subtree start where it ends
pub trees_after : (bs : List ℕ) (i : ℕ) → trees_from bs (i + size (tree_at bs i)) ≡ rest_at bs i
unfolding trees_from kid_trees_at rest_at size
trees_after bs i =
    let e : i + suc (sizes (kid_trees_at bs i)) ≡ i + 1 + sizes (kid_trees_at bs i) = omega arith in
    ap (λ (n : ℕ). grow (drop n (rows_in bs))) e
    ∙ ap grow (sym (drop-drop (sizes (kid_trees_at bs i)) (i + 1) (rows_in bs)))
    ∙ next_row (drop (i + 1) (rows_in bs)) (row_at bs i).kids

-- ---- nothing noted

pub noted_none : (bs : List ℕ) (i : ℕ) (es : List ℕ) → Noted bs i es es (Ok i)
noted_none bs i es = record { ends = λ k l m. absurd (omega arith); kept = frame_none i (record_count bs) es }

-- ---- steps

-- a step in entries from lo on, and one from the entry after j on
pub later_kept : (bs : List ℕ) (lo j : ℕ) (es us vs : List ℕ) → lo ≤ j → Frame lo (record_count bs) es us →
    Frame (j + 1) (record_count bs) us vs → Frame lo (record_count bs) es vs
later_kept bs lo j es us vs l f g =
    frame_inside lo (record_count bs) (j + 1) (record_count bs) es us vs f g (omega arith) (omega arith)

-- records up to j are noted, then those below j, and then j itself
module _ (bs : List ℕ) (lo j next : ℕ) (es us vs : List ℕ) (below : lo ≤ j) (there : j < record_count bs)
    (f : Noted bs lo es us (Ok j)) (g : Noted bs (j + 1) us vs (Ok next)) (e : next ≡ j + size (tree_at bs j))
    (long : record_count bs ≤ length vs) where
  earlier : (k : ℕ) → lo ≤ k → k < j → get_or (set vs j next) k 0 ≡ k + size (tree_at bs k)
  earlier k a l = get_or-set_other vs j k next 0 (λ q. omega arith) ∙ g.kept.before k (omega arith) ∙ f.ends k a l

  later : (k : ℕ) → j < k → k < next → get_or (set vs j next) k 0 ≡ k + size (tree_at bs k)
  later k l b = get_or-set_other vs j k next 0 (λ q. omega arith) ∙ g.ends k (omega arith) b

  itself : (k : ℕ) → k ≡ j → get_or (set vs j next) k 0 ≡ k + size (tree_at bs k)
  itself k q = rw q (get_or-set_same vs j next 0 (omega arith) ∙ e)

  pub noted_child : Noted bs lo es (set vs j next) (Ok next)
  noted_child = record {
    ends = λ k a b. elim (dec_lt k j) [
      | yes l ↦ earlier k a l
      | no l ↦ elim (dec_lt j k) [ yes m ↦ later k m b | no m ↦ itself k (omega arith) ]
    ];
    kept =
        frame_then lo (record_count bs) es vs (set vs j next) (later_kept bs lo j es us vs below f.kept g.kept)
        (frame_store lo (record_count bs) j next vs below there);
  }

-- ---- the entries by the trees of the forest

pub extent_is : (bs : List ℕ) (i : ℕ) → i < record_count bs → get_or (extents_in (trees_of bs)) i 0 ≡ size (tree_at bs i)
unfolding trees_of size kid_trees_at trees_from row_at
extent_is bs i l = rw (add-one i) (extent_at (rows_in bs) no_row i (omega (arith, row_count bs)))
