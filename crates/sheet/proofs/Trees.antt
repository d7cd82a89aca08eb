-- The lines of trees, by record number: those of a record, of its children and of what follows its subtree are those of
-- the trees from the record on.
-- In order: what is required at a record; no trees; one tree more; a forest.
-- Assumes nothing.
use Prim.Native.Nat.{ℕ, suc, ◌+◌, ◌-◌, ◌<◌, ◌≤◌}
use mathlib.Core.Path.{◌≡◌, sym, ap, ap₂, ◌∙◌}
use mathlib.Core.List.{List}
use native.Mathlib.Omega.{arith}
use Rattle.model.specs.Tree.{Trees, cons, many, take_t, drop_t, size, sizes}
use Rattle.model.specs.Forest.{record_count, tree_count, trees_of}
use Rattle.model.specs.Sheet.{record_line, trees_lines, forest_lines}
use Rattle.record.specs.Record.{row_at}
use Rattle.walk.specs.Walk.{trees_from, rec_at, kid_trees_at, rest_at, tree_at, WellFormed}
use Rattle.walk.proofs.Bridge.{trees_at, trees_left}
use Rattle.walk.proofs.Walking.{trees-whole}
use Rattle.output.specs.declared.Output.{Output}
use Rattle.sheet.specs.Clip.{PutClipped}
use Rattle.sheet.specs.Shown.{Shown}
use Rattle.sheet.proofs.Clipping.{clipped_none, clipped_then, clipped_as}

pub record_there : (bs : List ℕ) (i : ℕ) {count : ℕ} → count ≤ many (trees_from bs i) → (count ≡ 0 → ⊥) →
    i < record_count bs
record_there bs i l some = trees_left bs i (omega arith)

module _ (bs : List ℕ) (i depth count : ℕ) where
  -- ---- no trees

  pub shown_none : (o : Output) (r : ℕ) → i ≡ r → count ≡ 0 → Shown bs i depth count o o r
  unfolding take_t drop_t sizes trees_lines
  shown_none o r e z = record {
    lines = rw z (clipped_none o);
    next = rw z (omega (arith, e));
    rest = rw (z, e);
  }

  -- ---- one tree more

  module _ (l : count ≤ many (trees_from bs i)) (some : count ≡ 0 → ⊥) where
    taken : take_t count (trees_from bs i) ≡ cons (tree_at bs i) (take_t (count - 1) (rest_at bs i))
    unfolding take_t
    taken =
        let e : count ≡ suc (count - 1) = omega arith in
        ap (take_t count) (trees_at bs i (record_there bs i l some))
        ∙ ap (λ (n : ℕ). take_t n (cons (tree_at bs i) (rest_at bs i))) e

    dropped : drop_t count (trees_from bs i) ≡ drop_t (count - 1) (rest_at bs i)
    unfolding drop_t
    dropped =
        let e : count ≡ suc (count - 1) = omega arith in
        ap (drop_t count) (trees_at bs i (record_there bs i l some))
        ∙ ap (λ (n : ℕ). drop_t n (cons (tree_at bs i) (rest_at bs i))) e

    module _ (kids : ℕ) (k : kids ≡ (row_at bs i).kids) {o o₁ o₂ : Output} {below : ℕ}
        (v : PutClipped o (record_line i depth (rec_at bs i)) o₁)
        (w : Shown bs (i + 1) (depth + 1) kids o₁ o₂ below) where
      children : take_t kids (trees_from bs (i + 1)) ≡ kid_trees_at bs i
      unfolding kid_trees_at
      children = rw k

      -- where the children end, the rest starts
      after : trees_from bs below ≡ rest_at bs i
      unfolding rest_at
      after = w.rest ∙ rw k

      ends : below ≡ i + size (tree_at bs i)
      unfolding size
      ends = omega (arith, w.next, ap sizes children)

      pub onward : i + 1 ≤ below
      onward = omega (arith, w.next)

      -- the trees left are there
      pub left_there : count - 1 ≤ many (trees_from bs below)
      unfolding many
      left_there = omega (arith, ap many after, ap many (trees_at bs i (record_there bs i l some)))

      inner : trees_lines (i + 1) (depth + 1) (take_t kids (trees_from bs (i + 1))) ≡
          trees_lines (suc i) (suc depth) (kid_trees_at bs i)
      inner =
          let e : i + 1 ≡ suc i = omega arith in
          let f : depth + 1 ≡ suc depth = omega arith in
          ap (trees_lines (i + 1) (depth + 1)) children
          ∙ ap₂ (λ (n m : ℕ). trees_lines n m (kid_trees_at bs i)) e f

      outer : trees_lines below depth (take_t (count - 1) (trees_from bs below)) ≡
          trees_lines (i + size (tree_at bs i)) depth (take_t (count - 1) (rest_at bs i))
      outer = ap₂ (λ (n : ℕ) (ts : Trees). trees_lines n depth (take_t (count - 1) ts)) ends after

      pub shown_more : {o₃ : Output} {r : ℕ} → Shown bs below depth (count - 1) o₂ o₃ r →
          Shown bs i depth count o o₃ r
      unfolding trees_lines sizes
      shown_more x = record {
        lines =
            clipped_as (clipped_then (clipped_then v (clipped_as w.lines inner)) (clipped_as x.lines outer))
            (ap (trees_lines i depth) (sym taken));
        next = omega (arith, x.next, ends, ap sizes taken, ap (λ (z : Trees). sizes (take_t (count - 1) z)) after);
        rest = x.rest ∙ ap (drop_t (count - 1)) after ∙ sym dropped;
      }

-- ---- a forest

pub shown_all : (bs : List ℕ) (count : ℕ) → WellFormed bs → count ≡ tree_count bs → {o o' : Output} {r : ℕ} →
    Shown bs 0 1 count o o' r → PutClipped o (forest_lines (trees_of bs)) o'
unfolding forest_lines
shown_all bs count h e s = clipped_as s.lines (ap (trees_lines 0 1) (trees-whole bs count h e))
