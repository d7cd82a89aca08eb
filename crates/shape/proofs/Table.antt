-- The code's answers of check 4 against the model's table of shapes.
-- In order: a row of the table; `fits` by the row of a shape; a number that is no shape's.
-- Assumes nothing.
use Prim.Native.Nat.{ℕ, ◌<◌}
use mathlib.Core.Path.{◌≡◌}
use mathlib.Core.Bool.{Bool, true, false, ◌&&◌, and-true, and-false}
use mathlib.Core.List.{List}
use lib.Dec.{leb}
use lib.ListN.{get_or, get_or-eq_default}
use Rattle.model.specs.Tree.{rec}
use Rattle.model.specs.Shape.{Shape, shapes, no_shape, fits}

-- ---- a row of the table

abbrev pub shape_at : ℕ → Shape
shape_at s = get_or shapes s no_shape

-- whether children and aux are within a row's limits
abbrev pub inside : Shape → ℕ → ℕ → Bool
inside t kids a = leb t.least kids && leb kids t.most && leb a t.aux

-- the code's answer is the model's
abbrev pub Answers : Bool → ℕ → ℕ → ℕ → List ℕ → Type 0
Answers b s kids a lit = (op : ℕ) → b ≡ fits (record { rec = rec s op a lit; kids = kids })

-- ---- `fits` by the row of a shape

-- the shape is k; w says whether children and aux are within its limits
module _ (k : ℕ) {s : ℕ} (kids a : ℕ) (lit : List ℕ) {w : Bool} (e : s ≡ k) (i : w ≡ inside (shape_at k) kids a) where
  fits_is : {b : Bool} → b ≡ w && (shape_at k).right a lit → Answers b s kids a lit
  unfolding fits
  fits_is h op = rw (e, ← i) h

  -- within them, so that the answer is the literal's test
  pub fits_in : {b : Bool} → w ≡ true → b ≡ (shape_at k).right a lit → Answers b s kids a lit
  fits_in t h = fits_is (rw t h)

  -- not within them
  pub fits_out : w ≡ false → Answers w s kids a lit
  fits_out f = fits_is (rw f)

  -- any literal is right
  pub fits_any : (shape_at k).right a lit ≡ true → Answers w s kids a lit
  fits_any r = fits_is (rw (r, and-true))

-- ---- a number that is no shape's

no_shape_lem : (s : ℕ) → 26 < s → shape_at s ≡ no_shape
unfolding shapes
no_shape_lem s h = get_or-eq_default shapes no_shape h

pub fits_none : (s kids a : ℕ) (lit : List ℕ) → 26 < s → Answers false s kids a lit
unfolding fits
fits_none s kids a lit h op = rw (no_shape_lem s h, and-false)

-- what each answer of the code comes under
pub ruleset rows = (fits_in, fits_out, fits_any, fits_none)
