-- What checks 4, 5, 8, 9 and 10 say of a tree, piece by piece (`Checked`, `CheckedIn`).
--
-- In order: the first child and the rest (`checked-head`, `checked-tail`, `checked_join`); a record
-- and its children (`checked_kids`), and what the checks say of the record itself.
-- Interning takes a checked forest apart, record by record; Building puts the written tree's checks together.
-- Assumes nothing.
use mathlib.Core.Path.{◌≡◌, refl, sym}
use mathlib.Core.Bool.{Bool, true, false, not, ◌&&◌, ◌||◌, beq}
use mathlib.Core.List.{List, [], ◌++◌}
use Prim.Native.Nat.{ℕ}
use lib.Dec.{eqb}
use Rattle.model.specs.Lists.{any_in, twice}
use Rattle.model.specs.Tree.{Rec, Tree, Trees, node, nil, cons, is_nil}
use Rattle.model.specs.Faults.{faults}
use Rattle.model.specs.Binding.{is_block, inside, defined, after, place_check, ids_check, rebound_at, unbound_at}
use Rattle.theory.specs.Checked.{Checked, CheckedIn}
use Rattle.laws.proofs.Clear.{clear_head, clear_tail, clear_cons}

-- ---- the first child and the rest

module _ (t : Tree) (ts : Trees) (b : Bool) (ids : List ℕ) where
  pub checked-head : CheckedIn (cons t ts) b ids → Checked t (b && not (is_nil ts)) ids
  checked-head h = record {
    fine = h.fine.0;
    placed = clear_head place_check t ts b h.placed;
    fresh = clear_head (ids_check rebound_at) t ts ids h.fresh;
    known = clear_head (ids_check unbound_at) t ts ids h.known;
  }

  pub checked-tail : CheckedIn (cons t ts) b ids → CheckedIn ts b (after t ++ ids)
  checked-tail h = record {
    fine = h.fine.1;
    placed = clear_tail place_check t ts b h.placed;
    fresh = clear_tail (ids_check rebound_at) t ts ids h.fresh;
    known = clear_tail (ids_check unbound_at) t ts ids h.known;
  }

  pub checked_join : Checked t (b && not (is_nil ts)) ids → CheckedIn ts b (after t ++ ids) → CheckedIn (cons t ts) b ids
  checked_join h k = record {
    fine = (h.fine, k.fine);
    placed = clear_cons place_check t ts b h.placed k.placed;
    fresh = clear_cons (ids_check rebound_at) t ts ids h.fresh k.fresh;
    known = clear_cons (ids_check unbound_at) t ts ids h.known k.known;
  }

pub nil-checked : (b : Bool) (ids : List ℕ) → CheckedIn nil b ids
unfolding faults
nil-checked b ids = record { fine = tt; placed = tt; fresh = tt; known = tt }

-- ---- a record and its children

module _ (r : Rec) (ts : Trees) (b : Bool) (ids : List ℕ) (c : Checked (node r ts) b ids) where
  pub checked_kids : CheckedIn ts (is_block r) (inside r ++ ids)
  unfolding faults
  checked_kids = record { fine = c.fine.2; placed = c.placed.1; fresh = c.fresh.1; known = c.known.1 }

  -- check 8: it is a definition exactly where one has to stand
  pub checked_place : eqb r.shape 10 ≡ b
  unfolding faults
  checked_place = go (eqb r.shape 10) b c.placed.0
    where
      go : (a b : Bool) → not (beq a b) ≡ false → a ≡ b
      go true true e = refl
      go true false e = e
      go false true e = sym e
      go false false e = refl

  -- check 9: no id of its own is in force already, and none comes twice
  pub checked-own : (any_in (after (node r ts) ++ inside r) ids || twice (after (node r ts) ++ inside r)) ≡ false
  unfolding faults after
  checked-own = c.fresh.0

-- what stands where no definition may stand binds nothing in what follows
no_after : (t : Tree) (ids : List ℕ) → Checked t false ids → after t ≡ []
unfolding after
no_after (node r ts) ids c = rw (checked_place r ts false ids c, defined)

pub plain_join : (t : Tree) (ts : Trees) (ids : List ℕ) → Checked t false ids → CheckedIn ts false ids →
    CheckedIn (cons t ts) false ids
plain_join t ts ids c k = checked_join t ts false ids c (rw (no_after t ids c) k)
