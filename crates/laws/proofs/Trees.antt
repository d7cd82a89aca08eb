-- Rows, sizes and depths of trees that are put together: what a tree's planned rows add up to.
--
-- In order: one node; a list with one more tree (`snoc`), and lists joined (`join_t`); a use and a definition.
-- Not here: that a tree has as many rows as records (`size_rows`, Rows).
-- Assumes nothing.
use mathlib.Core.Path.{◌≡◌, refl, ap, sym}
use mathlib.Core.List.{List, [], ◌∷◌, ◌++◌, append_assoc, append-nil}
use Prim.Native.Nat.{ℕ, suc, ◌+◌, ◌≤◌, max}
use native.Mathlib.Omega.{arith}
use Rattle.model.specs.Bytes.{put32}
use Rattle.model.specs.Tree.{Rec, rec, Row, Tree, Trees, node, nil, cons, many, snoc, size, sizes, depth, depths, rows}
use Rattle.model.specs.Tree.{rows_of}
use Rattle.model.specs.Materialize.{val_use_of, val_def_of}
use Rattle.laws.specs.Defining.{join_t}

-- ---- one node

module _ (r : Rec) (ts : Trees) where
  pub node_rows : rows (node r ts) ≡ record { rec = r; kids = many ts } ∷ rows_of ts
  unfolding rows
  node_rows = refl

  pub node_depth : depth (node r ts) ≡ suc (depths ts)
  unfolding depth
  node_depth = refl

-- a node without children
module _ (r : Rec) where
  pub leaf_rows : rows (node r nil) ≡ record { rec = r; kids = 0 } ∷ []
  unfolding rows many
  leaf_rows = refl

  pub leaf_depth : depth (node r nil) ≡ 1
  unfolding depth
  leaf_depth = refl

-- a node with one child
module _ (r : Rec) (t : Tree) where
  pub one_rows : rows (node r (cons t nil)) ≡ record { rec = r; kids = 1 } ∷ rows t
  unfolding rows many
  one_rows = ap (λ (l : List Row). record { rec = r; kids = 1 } ∷ l) (append-nil (rows t))

  one_size : size (node r (cons t nil)) ≡ suc (size t)
  unfolding size
  one_size = omega arith

  pub one_depth : depth (node r (cons t nil)) ≡ suc (depth t)
  unfolding depth
  one_depth = omega arith

pub size_some : (t : Tree) → 1 ≤ size t
unfolding size
size_some (node r ts) = omega arith

-- ---- one tree more at the end

pub many-snoc : (ts : Trees) (t : Tree) → many (snoc ts t) ≡ suc (many ts)
unfolding many snoc
many-snoc nil t = refl
many-snoc (cons u ts) t = ap suc (many-snoc ts t)

pub rows_snoc : (ts : Trees) (t : Tree) → rows_of (snoc ts t) ≡ rows_of ts ++ rows t
unfolding rows snoc
rows_snoc nil t = append-nil (rows t)
rows_snoc (cons u ts) t = rw (rows_snoc ts t) (sym (append_assoc (rows u) (rows_of ts) (rows t)))

pub sizes_snoc : (ts : Trees) (t : Tree) → sizes (snoc ts t) ≡ sizes ts + size t
unfolding size snoc
sizes_snoc nil t = omega arith
sizes_snoc (cons u ts) t = omega (arith, sizes_snoc ts t)

pub depths_snoc : (ts : Trees) (t : Tree) → depths (snoc ts t) ≡ max (depths ts) (depth t)
unfolding depth snoc
depths_snoc nil t = omega arith
depths_snoc (cons u ts) t = omega (arith, depths_snoc ts t)

-- ---- trees, and then trees

pub join_nil : (ts : Trees) → join_t ts nil ≡ ts
unfolding join_t
join_nil nil = refl
join_nil (cons t ts) = ap (cons t) (join_nil ts)

pub rows_join : (ts us : Trees) → rows_of (join_t ts us) ≡ rows_of ts ++ rows_of us
unfolding rows join_t
rows_join nil us = refl
rows_join (cons t ts) us = rw (rows_join ts us) (sym (append_assoc (rows t) (rows_of ts) (rows_of us)))

-- ---- a use, and a definition

module _ (i : ℕ) where
  pub use_rows : rows (val_use_of i) ≡ record { rec = rec 7 0x72 0 (put32 i); kids = 0 } ∷ []
  unfolding val_use_of
  use_rows = leaf_rows (rec 7 0x72 0 (put32 i))

  pub use_depth : depth (val_use_of i) ≡ 1
  unfolding val_use_of
  use_depth = leaf_depth (rec 7 0x72 0 (put32 i))

module _ (i : ℕ) (v : Tree) where
  pub def_rows : rows (val_def_of i v) ≡ record { rec = rec 10 0xD6 0 (put32 i ++ (0 ∷ [])); kids = 1 } ∷ rows v
  unfolding val_def_of
  def_rows = one_rows (rec 10 0xD6 0 (put32 i ++ (0 ∷ []))) v

  pub def_size : size (val_def_of i v) ≡ suc (size v)
  unfolding val_def_of
  def_size = one_size (rec 10 0xD6 0 (put32 i ++ (0 ∷ []))) v

  pub def_depth : depth (val_def_of i v) ≡ suc (depth v)
  unfolding val_def_of
  def_depth = one_depth (rec 10 0xD6 0 (put32 i ++ (0 ∷ []))) v
