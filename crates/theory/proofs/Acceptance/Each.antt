-- What holds of each record of a forest holds of each record of its trees: `forest_each`. What holds of each record of trees
-- holds of each of their rows: `trees_rows`. Assumes nothing.
use mathlib.Core.List.{List, [], ◌∷◌, ◌++◌}
use Prim.Native.Nat.{ℕ, zero, suc}
use lib.ListN.{get_or}
use Rattle.model.specs.Tree.{Rec, Row, Tree, Trees, node, nil, cons, take_t, drop_t, grow, rows, rows_of}
use Rattle.model.specs.Forest.{rows_in, trees_of}
use Rattle.model.specs.Places.{no_record, record_at}

module _ (P : Rec → Type 0) where
  -- P holds of each record of a tree
  abbrev mutual
    pub Each : Tree → Type 0
    Each (node r ts) = P r × EachIn ts

    pub EachIn : Trees → Type 0
    EachIn nil = Unit {0}
    EachIn (cons t ts) = Each t × EachIn ts

  take-each : (n : ℕ) (ts : Trees) → EachIn ts → EachIn (take_t n ts)
  unfolding take_t
  take-each zero ts h = tt
  take-each (suc n) nil h = tt
  take-each (suc n) (cons t ts) h = (h.0, take-each n ts h.1)

  drop-each : (n : ℕ) (ts : Trees) → EachIn ts → EachIn (drop_t n ts)
  unfolding drop_t
  drop-each zero ts h = h
  drop-each (suc n) nil h = tt
  drop-each (suc n) (cons t ts) h = drop-each n ts h.1

  grow-each : (rs : List Row) → ((p : ℕ) → P (get_or rs p no_record).rec) → EachIn (grow rs)
  unfolding grow
  grow-each [] h = tt
  grow-each (r ∷ rs) h =
      let w = grow-each rs (λ p. h (suc p)) in
      ((h 0, take-each r.kids (grow rs) w), drop-each r.kids (grow rs) w)

  pub forest_each : (forest : List ℕ) → ((p : ℕ) → P (record_at forest p).rec) → EachIn (trees_of forest)
  unfolding trees_of
  forest_each forest h = grow-each (rows_in forest) h

  -- P holds of the record of each row
  abbrev pub EachRow : List Row → Type 0
  EachRow [] = Unit {0}
  EachRow (r ∷ rs) = P r.rec × EachRow rs

  join-each : (rs qs : List Row) → EachRow rs → EachRow qs → EachRow (rs ++ qs)
  join-each [] qs h k = k
  join-each (r ∷ rs) qs h k = (h.0, join-each rs qs h.1 k)

  mutual
    unfolding rows

    tree-rows : (t : Tree) → Each t → EachRow (rows t)
    tree-rows (node r ts) h = (h.0, trees_rows ts h.1)

    pub trees_rows : (ts : Trees) → EachIn ts → EachRow (rows_of ts)
    trees_rows nil h = tt
    trees_rows (cons t ts) h = join-each (rows t) (rows_of ts) (tree-rows t h.0) (trees_rows ts h.1)
