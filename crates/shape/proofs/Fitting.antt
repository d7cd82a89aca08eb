-- For callers: what a record that fits its shape has, part by part, and at the shapes that bind and use ids.
-- In order: the tests of `fits`; ValUse, ValDef, BlockValue, FuncValue, SelectField.
-- Assumes nothing.
use Prim.Native.Nat.{◌≤◌}
use mathlib.Core.Path.{◌≡◌, refl, sym, ◌∙◌}
use mathlib.Core.Bool.{Bool, true, false, ◌&&◌}
use native.Mathlib.Omega.{arith}
use borrow.Author.Tests.{leb-true, eqb-true}
use lib.Dec.{leb}
use lib.ListN.{length}
use Rattle.model.specs.Tree.{Row}
use Rattle.model.specs.Shape.{shapes, fits}
use Rattle.model.specs.Shape.{a_arg}
use Rattle.shape.specs.Reading.{AllArgs}
use Rattle.shape.proofs.Part.{never, whole_stands, whole_id, whole_byte}
use Rattle.shape.proofs.Table.{shape_at}
use Rattle.shape.proofs.Reading.{arg_there}

-- ---- the tests of `fits`

and_left : (a b : Bool) → a && b ≡ true → a ≡ true
and_left true b h = refl
and_left false b h = h

and_right : (a b : Bool) → a && b ≡ true → b ≡ true
and_right true b h = h
and_right false b h = absurd (never h)

-- the four tests, passed
pub record Fitting (r : Row) : Type 0 where
  pub few : (shape_at r.rec.shape).least ≤ r.kids
  pub many : r.kids ≤ (shape_at r.rec.shape).most
  pub aux : r.rec.aux ≤ (shape_at r.rec.shape).aux
  pub literal : (shape_at r.rec.shape).right r.rec.aux r.rec.lit ≡ true

pub fitting : (r : Row) → fits r ≡ true → Fitting r
unfolding fits
fitting r h =
    let s = shape_at r.rec.shape in
    let a = leb s.least r.kids in
    let b = leb r.kids s.most in
    let c = leb r.rec.aux s.aux in
    let d = s.right r.rec.aux r.rec.lit in
    let abc = and_left (a && b && c) d h in
    let ab = and_left (a && b) c abc in
    record {
      few = leb-true s.least r.kids (and_left a b ab);
      many = leb-true r.kids s.most (and_right a b ab);
      aux = leb-true r.rec.aux s.aux (and_right (a && b) c abc);
      literal = and_right (a && b && c) d h;
    }

-- ---- shapes

module _ (r : Row) (h : fits r ≡ true) where
  -- ValUse: an id
  pub fits_use : r.rec.shape ≡ 7 → length r.rec.lit ≡ 4
  unfolding shapes
  fits_use e = whole_id r.rec.lit (rw e at (fitting r h).literal)

  -- ValDef: one child, the value; an id first
  pub fits_def : r.rec.shape ≡ 10 → (r.kids ≡ 1) × (4 ≤ length r.rec.lit)
  unfolding shapes
  fits_def e =
      let f = fitting r h in
      let s = arg_there r.rec.lit (whole_stands a_arg r.rec.lit (rw e at f.literal)) in
      (omega (arith, rw e at f.few, rw e at f.many), s)

  -- BlockValue: a result
  pub fits_block : r.rec.shape ≡ 11 → 1 ≤ r.kids
  unfolding shapes
  fits_block e = rw e at (fitting r h).few

  -- FuncValue: one child, the body; aux arguments and no more
  pub fits_func : r.rec.shape ≡ 12 → (r.kids ≡ 1) × (r.rec.aux ≤ 15) × AllArgs r.rec.aux r.rec.lit
  unfolding shapes
  fits_func e =
      let f = fitting r h in
      (omega (arith, rw e at f.few, rw e at f.many), rw e at f.aux, rw e at f.literal)

  -- SelectField: one child, the input; a byte
  pub fits_field : r.rec.shape ≡ 17 → (r.kids ≡ 1) × (length r.rec.lit ≡ 1)
  unfolding shapes
  fits_field e =
      let f = fitting r h in (
        omega (arith, rw e at f.few, rw e at f.many),
        eqb-true (length r.rec.lit) 1 (sym (whole_byte r.rec.lit) ∙ rw e at f.literal),
      )
