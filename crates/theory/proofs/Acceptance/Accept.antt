-- What acceptance says of a forest: its trees are checked, their rows are the forest's records, and there is at least
-- one.
--
-- In order: checks 4 and 5 of rows and of trees, both ways; all checks of a forest, and what `accept` gives
-- (`accepted`).
-- Interning starts from `accepted`. That the written bytes are accepted rests on `fines_rows`.
-- Assumes nothing.
use mathlib.Core.Path.{◌≡◌, ap, subst}
use mathlib.Core.Bool.{false, not}
use mathlib.Core.List.{List, [], ◌∷◌, ◌++◌, map}
use Prim.Native.Nat.{ℕ, ◌≤◌}
use native.Mathlib.Omega.{arith}
use borrow.Author.Tests.{not-false}
use Rattle.model.specs.Answer.{good}
use Rattle.model.specs.Tree.{Row, Tree, Trees, node, nil, cons, many, rows, rows_of}
use Rattle.model.specs.Shape.{fits, agrees}
use Rattle.model.specs.Forest.{tree_count, rows_in, trees_of, check4, check5}
use Rattle.model.specs.Binding.{misplaced_in, rebound_in, unbound_in, check8, check9, check10}
use Rattle.model.specs.Accept.{checks, accept}
use Rattle.laws.specs.Clear.{Clear}
use Rattle.laws.proofs.Clear.{first_clear}
use Rattle.laws.proofs.Checks.{Passes, checked_good}
use Rattle.laws.proofs.Header.{header_of}
use Rattle.laws.proofs.Rows.{closed_trees}
use Rattle.theory.specs.Checked.{Fine, Fines, CheckedIn}

-- ---- checks 4 and 5, of rows and of trees

-- each row passes both
abbrev pub AllFine : List Row → Type 0
AllFine rs = Clear (map (λ r. not (fits r)) rs) × Clear (map (λ r. not (agrees r.rec)) rs)

fine_split : (rs qs : List Row) → AllFine (rs ++ qs) → AllFine rs × AllFine qs
fine_split [] qs h = ((tt, tt), h)
fine_split (r ∷ rs) qs h =
    let w = fine_split rs qs (h.0.1, h.1.1) in
    (((h.0.0, w.0.0), (h.1.0, w.0.1)), w.1)

fine_join : (rs qs : List Row) → AllFine rs → AllFine qs → AllFine (rs ++ qs)
fine_join [] qs h k = k
fine_join (r ∷ rs) qs h k = let w = fine_join rs qs (h.0.1, h.1.1) k in ((h.0.0, w.0), (h.1.0, w.1))

mutual
  unfolding rows

  rows_fine : (t : Tree) → AllFine (rows t) → Fine t
  rows_fine (node r ts) h = (not-false _ h.0.0, not-false _ h.1.0, rows_fines ts (h.0.1, h.1.1))

  rows_fines : (ts : Trees) → AllFine (rows_of ts) → Fines ts
  rows_fines nil h = tt
  rows_fines (cons t ts) h =
      let w = fine_split (rows t) (rows_of ts) h in
      (rows_fine t w.0, rows_fines ts w.1)

mutual
  unfolding rows

  fine_rows : (t : Tree) → Fine t → AllFine (rows t)
  fine_rows (node r ts) h =
      let w = fines_rows ts h.2 in
      ((ap not h.0, w.0), (ap not h.1, w.1))

  pub fines_rows : (ts : Trees) → Fines ts → AllFine (rows_of ts)
  fines_rows nil h = (tt, tt)
  fines_rows (cons t ts) h = fine_join (rows t) (rows_of ts) (fine_rows t h.0) (fines_rows ts h.1)

-- ---- a forest whose checks all pass

module _ (bs : List ℕ) (pass : Passes (checks bs)) where
  pub closed : (many (trees_of bs) ≡ tree_count bs) × (rows_of (trees_of bs) ≡ rows_in bs)
  unfolding checks
  closed = closed_trees bs pass.1.1.1.1.0

  fine_trees : Fines (trees_of bs)
  unfolding checks check4 check5
  fine_trees =
      rows_fines (trees_of bs) (rw closed.1 (first_clear _ pass.1.1.0, first_clear _ pass.1.1.1.0))

  some_trees : 1 ≤ many (trees_of bs)
  unfolding checks
  some_trees = omega (arith, closed.0, (header_of bs pass.0).trees_least)

  pub checked-trees : CheckedIn (trees_of bs) false []
  unfolding checks check8 check9 check10
  checked-trees =
      let bound = pass.1.1.1.1.1.1.1 in
      record {
        fine = fine_trees;
        placed = first_clear (misplaced_in (trees_of bs) false) bound.0;
        fresh = first_clear (rebound_in (trees_of bs) []) bound.1.0;
        known = first_clear (unbound_in (trees_of bs) []) bound.1.1.0;
      }

pub accepted : (bs : List ℕ) (ts : Trees) → accept bs ≡ good ts → CheckedIn ts false [] × (1 ≤ many ts)
unfolding accept
accepted bs ts e =
    let w = checked_good (checks bs) (trees_of bs) ts e in
    subst (λ (z : Trees). CheckedIn z false [] × (1 ≤ many z)) w.1 (checked-trees bs w.0, some_trees bs w.0)
