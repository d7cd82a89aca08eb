-- Trees in a row by record numbers: the first of them, what is below it, and what is after it.
-- In order: trees that stand at a number; the first of them; siblings; what a record saves, and those after it; a forest's
-- trees.
-- Assumes nothing.
use Prim.Native.Nat.{ℕ, ◌+◌, ◌-◌, ◌<◌, ◌≤◌}
use mathlib.Core.Path.{◌≡◌, refl, sym, ap, ap₂, ◌∙◌, subst}
use mathlib.Core.Bool.{Bool, true, false}
use mathlib.Core.List.{List, [], ◌++◌, append_assoc, map}
use native.Mathlib.Omega.{arith}
use lib.Dec.{eqb}
use lib.ListN.{length, drop, length-take, length-drop}
use lib.Seq.{drop-drop, take_all, take-append_seam, drop-append_seam}
use lib.IntN.{ℤ}
use Rattle.std.proofs.lemmas.List.Folds.{drop_split}
use Rattle.std.specs.Prelude.{None}
use Rattle.model.specs.Tree.{Rec, Row, Tree, Trees, node, nil, cons, top, size, sizes, rows, rows_of, grow}
use Rattle.model.specs.Opcodes.{ValDef}
use Rattle.model.specs.Forest.{record_count, rows_in, trees_of, check6}
use Rattle.model.specs.Faults.{faults}
use Rattle.model.specs.Binding.{id_of, inside, rebound_at, rebound_in, ids_check, check9}
use Rattle.model.specs.Binding as Binding
use Rattle.model.specs.Savings.{value_size, def_here, defs_of, savings}
use Rattle.laws.specs.Clear.{Clear}
use Rattle.laws.proofs.Clear.{clear_head, clear_tail, first_clear}
use Rattle.laws.proofs.Header.{row_count}
use Rattle.laws.proofs.Rows.{sizes_rows, grow_tree, grow_rows, closed_trees}
use Rattle.laws.proofs.Extents.{sizes_grow}
use Rattle.walk.specs.Walk.{trees_from, rec_at, tree_at}
use Rattle.walk.proofs.Bridge.{trees_at}
use Rattle.savings.specs.Plain.{plain_uses}
use Rattle.savings.specs.Siblings.{rows_between, between, Siblings, own_line}
use Rattle.savings.proofs.Join.{id_saving, savings_join, defs_few}
use Rattle.savings.proofs.Plain.{def_uses}

-- ---- trees that are the records from i up to end

record Stand (bs : List ℕ) (i end : ℕ) (ts : Trees) : Type 0 where
  count : i + sizes ts ≡ end
  lie : drop i (rows_in bs) ≡ rows_of ts ++ drop end (rows_in bs)

module _ (bs : List ℕ) (i end : ℕ) (ts : Trees) (h : Stand bs i end ts) where
  stand_rows : rows_between bs i end ≡ rows_of ts
  stand_rows =
      let e : end - i ≡ length (rows_of ts) = omega (arith, h.count, sizes_rows ts) in
      rw (h.lie, e) (take-append_seam (rows_of ts) (drop end (rows_in bs)))

  stand_trees : between bs i end ≡ ts
  unfolding between
  stand_trees = ap grow stand_rows ∙ grow_rows ts

-- ---- the first of them

abbrev first_of : Trees → Tree → Tree
first_of nil t = t
first_of (cons t ts) u = t

module _ (bs : List ℕ) (i end : ℕ) (r : Rec) (us ts : Trees) (h : Stand bs i end (cons (node r us) ts)) where
  abbrev next : ℕ
  next = i + 1 + sizes us

  rest : List Row
  rest = drop end (rows_in bs)

  inner_lie : drop (i + 1) (rows_in bs) ≡ rows_of us ++ (rows_of ts ++ rest)
  unfolding rows rest
  inner_lie = sym (drop-drop 1 i (rows_in bs)) ∙ ap (drop 1) h.lie ∙ append_assoc (rows_of us) (rows_of ts) (drop end (rows_in bs))

  later_lie : drop next (rows_in bs) ≡ rows_of ts ++ rest
  later_lie =
      sym (drop-drop (sizes us) (i + 1) (rows_in bs))
      ∙ rw (inner_lie, ← sizes_rows us) (drop-append_seam (rows_of us) (rows_of ts ++ rest))

  inner_stand : Stand bs (i + 1) next us
  inner_stand = record { count = refl; lie = inner_lie ∙ ap (λ (l : List Row). rows_of us ++ l) (sym later_lie) }

  later_stand : Stand bs next end ts
  unfolding size rest
  later_stand = record { count = omega (arith, h.count); lie = later_lie }

  first_tree : i < record_count bs → tree_at bs i ≡ node r us
  unfolding trees_from rows rest
  first_tree l =
      let t = node r us in
      let whole : trees_from bs i ≡ cons t (grow (rows_of ts ++ rest)) =
      ap grow (h.lie ∙ append_assoc (rows t) (rows_of ts) (drop end (rows_in bs))) ∙ grow_tree t (rows_of ts ++ rest) in
      ap (λ (x : Trees). first_of x t) (sym (trees_at bs i l) ∙ whole)

-- ---- siblings

siblings_stand : (bs : List ℕ) (i end : ℕ) → Siblings bs i end → Stand bs i end (between bs i end)
unfolding between
siblings_stand bs i end h =
    let part = rows_between bs i end in
    record {
      count =
          omega (
            arith,
            h.order,
            h.within,
            sizes_grow part,
            length-take (end - i) (drop i (rows_in bs)),
            length-drop i (rows_in bs),
            row_count bs,
          );
      lie = drop_split (rows_in bs) i end h.order ∙ ap (λ (l : List Row). l ++ drop end (rows_in bs)) (sym h.closes);
    }

-- the first is record i's subtree, up to record `next`
pub record First (bs : List ℕ) (i end next : ℕ) : Type 0 where
  pub inner : Siblings bs (i + 1) next
  pub later : Siblings bs next end
  pub trees : between bs i end ≡ cons (node (rec_at bs i) (between bs (i + 1) next)) (between bs next end)

module _ (bs : List ℕ) (i end : ℕ) (h : Siblings bs i end) (l : i < end) where
  -- of those that stand at a number, its own facts
  part_of : (j to : ℕ) (us : Trees) (ids : List ℕ) → Stand bs j to us → j ≤ to → to ≤ end → Clear (rebound_in us ids) →
      Siblings bs j to
  part_of j to us ids s order most fresh =
      let same = stand_trees bs j to us s in
      record {
        order = order;
        within = omega (arith, h.within);
        closes = ap rows_of same ∙ sym (stand_rows bs j to us s);
        ids = ids;
        fresh = subst (λ (x : Trees). Clear (rebound_in x ids)) (sym same) fresh;
      }

  first_cons : (r : Rec) (us ts : Trees) → between bs i end ≡ cons (node r us) ts →
      (tree_at bs i ≡ node r us) × First bs i end (i + 1 + sizes us)
  unfolding size faults
  first_cons r us ts e =
      let t = node r us in
      let s : Stand bs i end (cons t ts) = subst (Stand bs i end) e (siblings_stand bs i end h) in
      let fresh : Clear (rebound_in (cons t ts) h.ids) = subst (λ (x : Trees). Clear (rebound_in x h.ids)) e h.fresh in
      let below = inner_stand bs i end r us ts s in
      let after = later_stand bs i end r us ts s in
      let own = first_tree bs i end r us ts s (omega (arith, h.within)) in
      let n = i + 1 + sizes us in (
        own,
        record {
          inner =
              part_of (i + 1) n us (inside r ++ h.ids) below (omega arith) (omega (arith, s.count))
              (clear_head (ids_check rebound_at) t ts h.ids fresh).1;
          later =
              part_of n end ts (Binding.after t ++ h.ids) after (omega (arith, s.count)) (omega arith)
              (clear_tail (ids_check rebound_at) t ts h.ids fresh);
          trees =
              e
              ∙ ap₂ cons (ap₂ node (sym (ap top own)) (sym (stand_trees bs (i + 1) n us below)))
              (sym (stand_trees bs n end ts after));
        },
      )

  pub siblings_first : (next : ℕ) → next ≡ i + size (tree_at bs i) → First bs i end next
  unfolding size
  siblings_first next n = go (between bs i end) refl
    where
      go : (ts : Trees) → between bs i end ≡ ts → First bs i end next
      go nil e = absurd (omega (arith, (siblings_stand bs i end h).count, ap sizes e))
      go (cons (node r us) ts) e =
          let f = first_cons r us ts e in
          let m : i + 1 + sizes us ≡ next = omega (arith, n, ap size f.0) in
          subst (First bs i end) m f.1

-- ---- what a record saves, and those after it

pub own_few : (bs : List ℕ) (i next end : ℕ) → length (own_line bs i next end) ≤ 1
unfolding own_line
own_few bs i next end = grind arith

module _ (bs : List ℕ) (i end next : ℕ) (h : Siblings bs i end) (f : First bs i end next) where
  abbrev first : Tree
  first = node (rec_at bs i) (between bs (i + 1) next)

  first_line : (b : Bool) → eqb (rec_at bs i).shape ValDef ≡ b → map id_saving (def_here first (between bs next end)) ≡ own_line bs i next end
  unfolding def_here own_line value_size
  first_line true d =
      let fresh = subst (λ (x : Trees). Clear (rebound_in x h.ids)) f.trees h.fresh in
      let id = id_of (rec_at bs i) in
      let uses = def_uses first (between bs next end) h.ids d fresh ∙ ap (plain_uses id) f.later.closes in
      rw (map, own_line, d, uses, f.inner.closes) refl
  first_line false d = rw (map, own_line, d) refl

  pub savings_first : savings (between bs i end) ≡
      own_line bs i next end ++ savings (between bs (i + 1) next) ++ savings (between bs next end)
  savings_first =
      let us = between bs (i + 1) next in
      let ts = between bs next end in
      ap savings f.trees ∙ savings_join (rec_at bs i) us ts ∙
      ap (λ (l : List (ℕ × ℤ)). l ++ savings us ++ savings ts) (first_line (eqb (rec_at bs i).shape ValDef) refl)

-- no more lines than records
pub savings_few : (bs : List ℕ) (i end : ℕ) → Siblings bs i end → i + length (savings (between bs i end)) ≤ end
savings_few bs i end h = omega (arith, defs_few (between bs i end), (siblings_stand bs i end h).count)

pub savings_none : (bs : List ℕ) (i end : ℕ) → i ≡ end → savings (between bs i end) ≡ []
unfolding between savings grow defs_of
savings_none bs i end e = let z : end - i ≡ 0 = omega arith in rw z refl

-- ---- a forest's trees

pub all_siblings : (bs : List ℕ) → check6 bs ≡ None → check9 (trees_of bs) ≡ None →
    Siblings bs 0 (record_count bs) × (between bs 0 (record_count bs) ≡ trees_of bs)
unfolding between trees_of check9
all_siblings bs closed fresh =
    let z : record_count bs - 0 ≡ record_count bs = omega arith in
    let all : rows_between bs 0 (record_count bs) ≡ rows_in bs =
    rw z (take_all (record_count bs) (rows_in bs) (omega (arith, row_count bs))) in
    let same : between bs 0 (record_count bs) ≡ trees_of bs = ap grow all in (
      record {
        order = omega arith;
        within = omega arith;
        closes = ap rows_of same ∙ (closed_trees bs closed).1 ∙ sym all;
        ids = [];
        fresh = subst (λ (x : Trees). Clear (rebound_in x [])) (sym same) (first_clear _ fresh);
      },
      same,
    )
