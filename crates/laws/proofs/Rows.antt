-- Rows of trees: a tree has as many rows as records, growing the rows gives the tree back, and what later rows grow to.
--
-- In order: `size_rows`, `sizes_rows`; trees that follow trees (`join_t`); `grow_rows`; the rows after the first k trees
-- (`next_row`); check 6, whose rows are those of the trees that grow from them (`closed_rows`, `closed_trees`).
-- Reading back what was written takes `sizes_rows` and `grow_rows`; acceptance takes `closed_trees`; code that goes by
-- record numbers takes `next_row`.
-- Assumes nothing.
use mathlib.Core.Path.{◌≡◌, refl, ap, ap₂, sym, ◌∙◌}
use mathlib.Core.List.{List, [], ◌∷◌, ◌++◌, append_assoc, append-nil}
use Rattle.std.specs.Prelude.{None}
use Prim.Native.Nat.{ℕ, zero, suc, ◌+◌, ◌≤◌}
use native.Mathlib.Omega.{arith}
use native.Mathlib.Nat.{zero-add, suc-add, add_assoc}
use lib.ListN.{length, length-append, drop}
use Rattle.model.specs.Tree.{Row, Tree, Trees, node, nil, cons, many, take_t, drop_t, size, sizes, rows, rows_of, grow}
use Rattle.model.specs.Forest.{tree_count, rows_in, trees_of, unclosed, check6}
use Rattle.laws.specs.Defining.{join_t}
use Rattle.laws.proofs.Apart.{some_none}
use Rattle.laws.proofs.Trees.{join_nil}

-- ---- as many rows as records

mutual
  unfolding size rows

  pub size_rows : (t : Tree) → length (rows t) ≡ size t
  size_rows (node r ts) = ap suc (sizes_rows ts)

  pub sizes_rows : (ts : Trees) → length (rows_of ts) ≡ sizes ts
  sizes_rows nil = refl
  sizes_rows (cons t ts) = length-append (rows t) (rows_of ts) ∙ ap₂ ◌+◌ (size_rows t) (sizes_rows ts)

-- no fewer records than trees
pub many_sizes : (ts : Trees) → many ts ≤ sizes ts
unfolding many sizes
many_sizes nil = omega arith
many_sizes (cons (node r us) ts) = omega (arith, many_sizes ts)

-- ---- trees, and then trees

join_take : (ts us : Trees) → take_t (many ts) (join_t ts us) ≡ ts
unfolding take_t many join_t
join_take nil us = refl
join_take (cons t ts) us = ap (cons t) (join_take ts us)

join_drop : (ts us : Trees) → drop_t (many ts) (join_t ts us) ≡ us
unfolding drop_t many join_t
join_drop nil us = refl
join_drop (cons t ts) us = join_drop ts us

-- ---- growing rows gives the trees back

-- whatever rows follow
mutual
  unfolding rows grow join_t

  pub grow_tree : (t : Tree) (rest : List Row) → grow (rows t ++ rest) ≡ cons t (grow rest)
  grow_tree (node r ts) rest = rw (grow-trees ts rest, join_take ts (grow rest), join_drop ts (grow rest))

  grow-trees : (ts : Trees) (rest : List Row) → grow (rows_of ts ++ rest) ≡ join_t ts (grow rest)
  grow-trees nil rest = refl
  grow-trees (cons t ts) rest =
      rw (append_assoc (rows t) (rows_of ts) rest, grow_tree t (rows_of ts ++ rest), grow-trees ts rest)

pub grow_rows : (ts : Trees) → grow (rows_of ts) ≡ ts
unfolding grow
grow_rows ts = ap grow (sym (append-nil (rows_of ts))) ∙ (grow-trees ts [] ∙ join_nil ts)

-- ---- rows after the first k trees

nil-take : (m : ℕ) → take_t m nil ≡ nil
unfolding take_t
nil-take zero = refl
nil-take (suc m) = refl

nil-drop : (m : ℕ) → drop_t m nil ≡ nil
unfolding drop_t
nil-drop zero = refl
nil-drop (suc m) = refl

sizes_take : (k m : ℕ) (ts : Trees) → sizes (take_t k ts) + sizes (take_t m (drop_t k ts)) ≡ sizes (take_t (k + m) ts)
unfolding take_t drop_t size
sizes_take zero m ts = rw (zero-add m) (zero-add _)
sizes_take (suc k) m nil = rw (suc-add k m, nil-take m)
sizes_take (suc k) m (cons t ts) =
    rw (suc-add k m) (add_assoc (size t) _ _ ∙ ap (λ (n : ℕ). size t + n) (sizes_take k m ts))

drop-drop : (k m : ℕ) (ts : Trees) → drop_t m (drop_t k ts) ≡ drop_t (k + m) ts
unfolding drop_t
drop-drop zero m ts = rw (zero-add m) refl
drop-drop (suc k) m nil = rw (suc-add k m) (nil-drop m)
drop-drop (suc k) m (cons t ts) = rw (suc-add k m) (drop-drop k m ts)

-- the rows that follow k trees grow to what follows them
pub next_row : (rs : List Row) (k : ℕ) → grow (drop (sizes (take_t k (grow rs))) rs) ≡ drop_t k (grow rs)
unfolding grow size take_t drop_t
next_row [] zero = refl
next_row [] (suc k) = refl
next_row (r ∷ rs) zero = refl
next_row (r ∷ rs) (suc k) =
    let ts = grow rs in
    let m = r.kids in
    rw (suc-add (sizes (take_t m ts)) (sizes (take_t k (drop_t m ts))), sizes_take m k ts)
    (next_row rs (m + k) ∙ sym (drop-drop m k ts))

-- ---- check 6: rows that close are the rows of the trees that grow from them

many-take : (k : ℕ) (ts : Trees) → k ≤ many ts → many (take_t k ts) ≡ k
unfolding many take_t
many-take zero ts l = refl
many-take (suc k) nil l = absurd (omega arith)
many-take (suc k) (cons t ts) l = ap suc (many-take k ts (omega arith))

many-drop : (k n : ℕ) (ts : Trees) → many ts ≡ n + k → many (drop_t k ts) ≡ n
unfolding many drop_t
many-drop zero n ts e = omega arith
many-drop (suc k) n nil e = absurd (omega arith)
many-drop (suc k) n (cons t ts) e = many-drop k n ts (omega arith)

rows_split : (k : ℕ) (ts : Trees) → rows_of (take_t k ts) ++ rows_of (drop_t k ts) ≡ rows_of ts
unfolding rows_of take_t drop_t
rows_split zero ts = refl
rows_split (suc k) nil = refl
rows_split (suc k) (cons t ts) =
    append_assoc (rows t) (rows_of (take_t k ts)) (rows_of (drop_t k ts))
    ∙ ap (λ (l : List Row). rows t ++ l) (rows_split k ts)

closed_rows : (n at : ℕ) (rs : List Row) → unclosed n at rs ≡ None →
    (many (grow rs) ≡ n) × (rows_of (grow rs) ≡ rs)
unfolding unclosed grow many rows_of
closed_rows zero at [] e = (refl, refl)
closed_rows (suc n) at [] e = some_none e
closed_rows zero at (r ∷ rs) e = some_none e
closed_rows (suc n) at (r ∷ rs) e =
    let w = closed_rows (n + r.kids) (suc at) rs e in
    let kids_are = many-take r.kids (grow rs) (omega (arith, w.0)) in
    let rest-are = rows_split r.kids (grow rs) ∙ w.1 in (
      ap suc (many-drop r.kids n (grow rs) w.0),
      ap₂ (λ (k : ℕ) (l : List Row). record { rec = r.rec; kids = k } ∷ l) kids_are rest-are,
    )

pub closed_trees : (bs : List ℕ) → check6 bs ≡ None →
    (many (trees_of bs) ≡ tree_count bs) × (rows_of (trees_of bs) ≡ rows_in bs)
unfolding check6 trees_of
closed_trees bs e = closed_rows (tree_count bs) 0 (rows_in bs) e
