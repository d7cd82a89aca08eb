-- The test of check 4 is that a record is right for its shape, as the paper lists them: `fits_right`.
-- In order: the test with one line of the table; the table, line by line; what is right passes; the test.
-- Assumes nothing.
use mathlib.Core.Path.{◌≡◌, refl, subst}
use mathlib.Core.Logic.{◌↔◌}
use mathlib.Core.Bool.{Bool, true, ◌&&◌}
use mathlib.Core.List.{List, [], ◌∷◌}
use Prim.Native.Nat.{ℕ, zero, suc, ◌+◌, ◌*◌, ◌/◌, ◌%◌, ◌≤◌}
use native.Mathlib.Omega.{arith}
use lib.Dec.{leb}
use lib.ListN.{length, get_or}
use borrow.Author.Tests.{leb-true, le-leb}
use Rattle.model.specs.Tree.{Row}
use Rattle.model.specs.Shape.{Reader, a_end, a_byte, a_id, a_type, ◌then◌, a_arg, times, a_counted, whole, bits, Shape, plain}
use Rattle.model.specs.Shape.{free, shapes, no_shape, fits}
use Rattle.model.specs.ShapeRules.{Part, IsByte, IsId, IsType, IsOpt, ◌followed◌, Many, Counted, Right, is_0, is_1}
use Rattle.model.specs.ShapeRules.{is_2, is_3, is_4, is_5, is_6, is_7, is_8, is_9, is_10, is_11, is_12, is_13, is_14}
use Rattle.model.specs.ShapeRules.{is_15, is_16, is_17, is_18, is_19, is_20, is_21, is_22, is_23, is_24, is_25, is_26}
use Rattle.model.specs.ShapeRules.{IsRight}
use Rattle.laws.proofs.Members.{and_both, both_and}
use Rattle.laws.proofs.Checks.{◌also◌}
use Rattle.theory.proofs.Demand3.Literals.{Exact, whole_exact, end_exact, byte_exact, id_exact, type_exact}
use Rattle.theory.proofs.Demand3.Literals.{many_exact, bits_exact, arg_exact, byte_type_exact, method_exact}

-- ---- the test with one line of the table

-- the test of check 4, with one shape's line
tested : Shape → ℕ → ℕ → List ℕ → Bool
tested s k a bs = leb s.least k && leb k s.most && leb a s.aux && s.right a bs

abbrev Tested : Shape → ℕ → ℕ → List ℕ → Type 0
Tested s k a bs = (s.least ≤ k) × (k ≤ s.most) × (a ≤ s.aux) × (s.right a bs ≡ true)

tested_all : (s : Shape) (k a : ℕ) (bs : List ℕ) → (tested s k a bs ≡ true) ↔ Tested s k a bs
unfolding tested
tested_all s k a bs = (
  λ e. let x = and_both (leb s.least k && leb k s.most && leb a s.aux) (s.right a bs) e in
      let y = and_both (leb s.least k && leb k s.most) (leb a s.aux) x.0 in
      let z = and_both (leb s.least k) (leb k s.most) y.0 in
      (leb-true s.least k z.0, leb-true k s.most z.1, leb-true a s.aux y.1, x.1),
  λ h. both_and (leb s.least k && leb k s.most && leb a s.aux) (s.right a bs)
      (both_and (leb s.least k && leb k s.most) (leb a s.aux)
      (both_and (leb s.least k) (leb k s.most) (le-leb s.least k h.0) (le-leb k s.most h.1))
      (le-leb a s.aux h.2)) h.3,
)

-- of a shape whose aux is 0 and whose literal is one part
module _ (lo hi : ℕ) (f : Reader) (P : Part) (x : Exact f P) where
  plain_to : (k a : ℕ) (bs : List ℕ) → tested (plain lo hi f) k a bs ≡ true → (lo ≤ k) × (k ≤ hi) × (a ≡ 0) × P bs
  plain_to k a bs e =
      let w = (tested_all (plain lo hi f) k a bs).0 e in
      (w.0, w.1, omega (arith, w.2), (whole_exact f P x bs).0 w.3)

  plain_back : (k : ℕ) (bs : List ℕ) → lo ≤ k → k ≤ hi → P bs → tested (plain lo hi f) k 0 bs ≡ true
  plain_back k bs l u h = (tested_all (plain lo hi f) k 0 bs).1 (l, u, omega arith, (whole_exact f P x bs).1 h)

-- what passes a line's test is right for its shape, n
abbrev Line : ℕ → Shape → Type 0
Line n s = (k a : ℕ) (bs : List ℕ) → tested s k a bs ≡ true → Right n k a bs

-- of a shape with lo to hi children, or with so many, whose aux is 0 and whose literal is one part, or empty
ranged : (n lo hi : ℕ) (f : Reader) (P : Part) → Exact f P →
    ((k : ℕ) (bs : List ℕ) → lo ≤ k → k ≤ hi → P bs → Right n k 0 bs) → Line n (plain lo hi f)
ranged n lo hi f P x h k a bs e =
    let w = plain_to lo hi f P x k a bs e in
    let z : a ≡ 0 = w.2 in
    rw z (h k bs w.0 w.1 w.3)

fixed : (n m : ℕ) (f : Reader) (P : Part) → Exact f P → ((bs : List ℕ) → P bs → Right n m 0 bs) →
    Line n (plain m m f)
fixed n m f P x h = ranged n m m f P x (λ k bs l u p. let z : k ≡ m = omega arith in rw z (h bs p))

bare : (n lo hi : ℕ) → ((k : ℕ) → lo ≤ k → k ≤ hi → Right n k 0 []) → Line n (plain lo hi a_end)
bare n lo hi h = ranged n lo hi a_end (λ bs. bs ≡ []) end_exact (λ k bs l u e. rw e (h k l u))

bare_fixed : (n m : ℕ) → Right n m 0 [] → Line n (plain m m a_end)
bare_fixed n m h = bare n m m (λ k l u. let z : k ≡ m = omega arith in rw z h)

-- ---- the table, line by line

abbrev Lines : ℕ → List Shape → Type 0
Lines n [] = Unit {0}
Lines n (s ∷ ss) = Line n s × Lines (suc n) ss

-- those whose aux or literal is of another kind
abbrev const : Shape
const = record { least = 0; most = 0; aux = 251; right = λ a bs. leb 1 (length bs) }

abbrev unparsed : Shape
unparsed = record { least = 0; most = 0; aux = 0; right = λ a bs. true }

abbrev func : Shape
func = record { least = 1; most = 1; aux = 15; right = λ a bs. whole (times a a_arg) bs }

abbrev bools : Shape
bools = record { least = 0; most = 0; aux = 0; right = λ a bs. bits bs }

-- a record with these numbers is right
move : {s k l a b : ℕ} {bs : List ℕ} → k ≡ l → a ≡ b → Right s l b bs → Right s k a bs
move e f h = rw (e, f) h

line_0 : Line 0 const
line_0 k a bs e =
    let w = (tested_all const k a bs).0 e in
    move (omega (arith, w.1)) (omega arith)
    (is_0 {c = a % 7} {m = a / 7} (omega arith) (omega (arith, w.2)) (leb-true 1 (length bs) w.3))

line_1 : Line 1 unparsed
line_1 k a bs e =
    let w = (tested_all unparsed k a bs).0 e in move (omega (arith, w.1)) (omega (arith, w.2)) is_1

args_exact : (a : ℕ) (bs : List ℕ) → (whole (times a a_arg) bs ≡ true) ↔ Many a (IsId followed IsOpt) bs
args_exact a =
    whole_exact (times a a_arg) (Many a (IsId followed IsOpt)) (many_exact a_arg (IsId followed IsOpt) arg_exact a)

line_12 : Line 12 func
line_12 k a bs e =
    let w = (tested_all func k a bs).0 e in
    move (omega (arith, w.0, w.1)) refl (is_12 w.2 ((args_exact a bs).0 w.3))

line_15 : Line 15 bools
line_15 k a bs e =
    let w = (tested_all bools k a bs).0 e in
    move (omega (arith, w.1)) (omega (arith, w.2)) (is_15 ((bits_exact bs).0 w.3))

abbrev a_method : Reader
a_method = a_byte then a_byte then a_counted a_type

abbrev IsMethod : Part
IsMethod = IsByte followed IsByte followed Counted

abbrev a_byte_type : Reader
a_byte_type = a_byte then a_type

abbrev IsByteType : Part
IsByteType = IsByte followed IsType

abbrev IsArg : Part
IsArg = IsId followed IsOpt

lines : Lines 0 shapes
unfolding shapes
lines =
    line_0 also
    line_1 also
    bare_fixed 2 0 is_2 also
    bare_fixed 3 1 is_3 also
    bare_fixed 4 2 is_4 also
    bare_fixed 5 3 is_5 also
    bare_fixed 6 4 is_6 also
    fixed 7 0 a_id IsId id_exact (λ bs h. is_7 h) also
    fixed 8 0 a_id IsId id_exact (λ bs h. is_8 h) also
    fixed 9 0 a_arg IsArg arg_exact (λ bs h. is_9 h) also
    fixed 10 1 a_arg IsArg arg_exact (λ bs h. is_10 h) also
    bare 11 1 free (λ k l u. is_11 l u) also
    line_12 also
    ranged 13 1 free a_method IsMethod method_exact (λ k bs l u h. is_13 l u h) also
    ranged 14 0 free a_type IsType type_exact (λ k bs l u h. is_14 u h) also
    line_15 also
    bare 16 0 free (λ k l u. is_16 u) also
    fixed 17 1 a_byte IsByte byte_exact (λ bs h. is_17 h) also
    fixed 18 1 a_byte_type IsByteType byte_type_exact (λ bs h. is_18 h) also
    fixed 19 0 a_byte_type IsByteType byte_type_exact (λ bs h. is_19 h) also
    fixed 20 0 a_byte_type IsByteType byte_type_exact (λ bs h. is_20 h) also
    ranged 21 0 1 a_byte_type IsByteType byte_type_exact (λ k bs l u h. is_21 u h) also
    bare 22 0 free (λ k l u. is_22 u) also
    fixed 23 0 a_type IsType type_exact (λ bs h. is_23 h) also
    bare 24 2 3 (λ k l u. is_24 l u) also
    fixed 25 1 a_type IsType type_exact (λ bs h. is_25 h) also
    bare 26 1 free (λ k l u. is_26 l u) also
    tt

-- what passes the test with the line of its shape is right for it; beyond the table nothing does
line_at : (n : ℕ) (ss : List Shape) → Lines n ss → (j k a : ℕ) (bs : List ℕ) →
    tested (get_or ss j no_shape) k a bs ≡ true → Right (n + j) k a bs
line_at n [] w j k a bs e =
    let h = (tested_all no_shape k a bs).0 e in absurd (omega (arith, h.0, h.1))
line_at n (s ∷ ss) w zero k a bs e =
    let z : n + 0 ≡ n = omega arith in rw z (w.0 k a bs e)
line_at n (s ∷ ss) w (suc j) k a bs e =
    let z : n + suc j ≡ suc n + j = omega arith in rw z (line_at (suc n) ss w.1 j k a bs e)

-- ---- what is right passes

-- with so many children; with an empty literal
fixed_back : (m : ℕ) (f : Reader) (P : Part) → Exact f P → (bs : List ℕ) → P bs → tested (plain m m f) m 0 bs ≡ true
fixed_back m f P x bs h = plain_back m m f P x m bs (omega arith) (omega arith) h

bare_back : (lo hi k : ℕ) → lo ≤ k → k ≤ hi → tested (plain lo hi a_end) k 0 [] ≡ true
bare_back lo hi k l u = plain_back lo hi a_end (λ bs. bs ≡ []) end_exact k [] l u refl

bare_fixed_back : (m : ℕ) → tested (plain m m a_end) m 0 [] ≡ true
bare_fixed_back m = bare_back m m m (omega arith) (omega arith)

right_tested : {n k a : ℕ} {bs : List ℕ} → Right n k a bs → tested (get_or shapes n no_shape) k a bs ≡ true
unfolding shapes
right_tested (is_0 {c} {m} {bs} l u h) =
    (tested_all const 0 (c + 7 * m) bs).1 (omega arith, omega arith, omega arith, le-leb 1 (length bs) h)
right_tested (is_1 {bs}) = (tested_all unparsed 0 0 bs).1 (omega arith, omega arith, omega arith, refl)
right_tested is_2 = bare_fixed_back 0
right_tested is_3 = bare_fixed_back 1
right_tested is_4 = bare_fixed_back 2
right_tested is_5 = bare_fixed_back 3
right_tested is_6 = bare_fixed_back 4
right_tested (is_7 {bs} h) = fixed_back 0 a_id IsId id_exact bs h
right_tested (is_8 {bs} h) = fixed_back 0 a_id IsId id_exact bs h
right_tested (is_9 {bs} h) = fixed_back 0 a_arg IsArg arg_exact bs h
right_tested (is_10 {bs} h) = fixed_back 1 a_arg IsArg arg_exact bs h
right_tested (is_11 {k} l u) = bare_back 1 free k l u
right_tested (is_12 {a} {bs} l h) = (tested_all func 1 a bs).1 (omega arith, omega arith, l, (args_exact a bs).1 h)
right_tested (is_13 {k} {bs} l u h) = plain_back 1 free a_method IsMethod method_exact k bs l u h
right_tested (is_14 {k} {bs} u h) = plain_back 0 free a_type IsType type_exact k bs (omega arith) u h
right_tested (is_15 {bs} h) =
    (tested_all bools 0 0 bs).1 (omega arith, omega arith, omega arith, (bits_exact bs).1 h)
right_tested (is_16 {k} u) = bare_back 0 free k (omega arith) u
right_tested (is_17 {bs} h) = fixed_back 1 a_byte IsByte byte_exact bs h
right_tested (is_18 {bs} h) = fixed_back 1 a_byte_type IsByteType byte_type_exact bs h
right_tested (is_19 {bs} h) = fixed_back 0 a_byte_type IsByteType byte_type_exact bs h
right_tested (is_20 {bs} h) = fixed_back 0 a_byte_type IsByteType byte_type_exact bs h
right_tested (is_21 {k} {bs} u h) = plain_back 0 1 a_byte_type IsByteType byte_type_exact k bs (omega arith) u h
right_tested (is_22 {k} u) = bare_back 0 free k (omega arith) u
right_tested (is_23 {bs} h) = fixed_back 0 a_type IsType type_exact bs h
right_tested (is_24 {k} l u) = bare_back 2 3 k l u
right_tested (is_25 {bs} h) = fixed_back 1 a_type IsType type_exact bs h
right_tested (is_26 {k} l u) = bare_back 1 free k l u

-- ---- the test

pub fits_right : (r : Row) → (fits r ≡ true) ↔ IsRight r
unfolding fits tested
fits_right r = (
  λ e. let z : 0 + r.rec.shape ≡ r.rec.shape = omega arith in
      subst (λ (n : ℕ). Right n r.kids r.rec.aux r.rec.lit) z
      (line_at 0 shapes lines r.rec.shape r.kids r.rec.aux r.rec.lit e),
  λ h. right_tested h,
)
