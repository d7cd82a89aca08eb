-- Records of a parameter, and its value. In order: where a parameter stands, its value is the literal there; a record
-- with another.
-- Assumes nothing.
use Prim.Native.Nat.{ℕ, ◌<◌}
use mathlib.Core.Path.{◌≡◌, refl, sym, ◌∙◌}
use mathlib.Core.Bool.{true, false, not}
use Rattle.std.specs.Prelude.{None, Some}
use mathlib.Core.List.{List}
use native.Mathlib.Omega.{arith}
use borrow.Author.Tests.{eq-eqb}
use lib.ListN.{length, get_or}
use Rattle.model.specs.Lists.{same}
use Rattle.model.specs.Tree.{Rec, Row}
use Rattle.model.specs.Forest.{record_count, rows_in}
use Rattle.model.specs.Template.{is_parameter}
use Rattle.model.specs.TemplateLine.{is_of, stands_at, value_of, has_another}
use Rattle.laws.proofs.Apart.{true_false}
use Rattle.laws.proofs.Clear.{first_clear}
use Rattle.laws.proofs.Header.{row_count}
use Rattle.record.specs.Record.{no_row, row_at}
use Rattle.walk.proofs.Bridge.{clear_at}
use Rattle.symbols.proofs.Same.{slices_same}

-- the literal there is the value
stands_value : (a : ℕ) (rs : List Row) (p : ℕ) → stands_at a rs ≡ Some p → value_of a rs ≡ (get_or rs p no_row).rec.lit
unfolding value_of
stands_value a rs p e = rw (e, value_of)

-- ---- a record with another

module _ (bs : List ℕ) (i : ℕ) where
  abbrev own : Rec
  own = (row_at bs i).rec

  pub another_none : is_parameter own ≡ false → has_another (rows_in bs) own ≡ false
  unfolding has_another
  another_none h = rw h

  module _ (h : is_parameter own ≡ true) where
    pub another_at : (p : ℕ) → stands_at own.aux (rows_in bs) ≡ Some p →
        has_another (rows_in bs) own ≡ not (same own.lit (row_at bs p).rec.lit)
    unfolding has_another row_at
    another_at p f = rw (h, stands_value own.aux (rows_in bs) p f)

    -- it stands somewhere, at record i at least
    pub stands_somewhere : i < record_count bs → stands_at own.aux (rows_in bs) ≡ None → ⊥
    unfolding stands_at is_of row_at
    stands_somewhere l f =
        let m : i < length (rows_in bs) = omega (arith, row_count bs) in
        true_false (sym (rw (h, eq-eqb own.aux own.aux refl)) ∙
        clear_at (is_of own.aux) (rows_in bs) i (first_clear _ f) m)

pub ruleset another = (another_none, another_at, stands_somewhere, slices_same)
