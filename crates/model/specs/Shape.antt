-- The shapes' table: for each shape its children, aux and literal (check 4), and the opcodes that are bound to a
-- shape (check 5).
-- In order: reading a literal part by part; the table; `fits`; `agrees`.
-- Assumes nothing.
use Rattle.std.specs.Prelude.{ℕ, zero, suc, Bool, true, false, not, ◌&&◌, List, [], ◌∷◌, map, eqb, leb, ltb, length, get_or, drop, Option, None, Some}
use Rattle.std.specs.Bool.{beq}
use Rattle.model.specs.Lists.{is_in}
use Rattle.model.specs.Tree.{Rec, Row}
use Rattle.model.specs.Opcodes.{Zero, Two, Three, ValUse, ValDef, BlockValue, FuncValue, Tuple, SelectField}
use Rattle.model.specs.Opcodes.{ValUseOp, ValDefOp, BlockValueOp, FuncValueOp, TupleOp, SelectFieldOp, IfOp, AndOp, OrOp}
use Rattle.model.specs.Opcodes.{HeightOp, InputsOp, OutputsOp, SelfBoxOp, GlobalOp}

-- ---- literals

-- a part at the start of a literal: what is left after it, or none where it does not stand there
abbrev pub Reader : Type 0
Reader = List ℕ → Option (List ℕ)

abbrev pub a_end : Reader
a_end bs = Some bs

unfoldable pub a_byte : Reader
a_byte [] = None
a_byte (b ∷ bs) = Some bs

-- "Ids are 4 bytes"
unfoldable pub a_id : Reader
a_id bs = elim (leb 4 (length bs)) [ true ↦ Some (drop 4 bs) | false ↦ None ]

-- "A type is a byte 1 to 255 and so many bytes, not looked into"
unfoldable pub a_type : Reader
a_type [] = None
a_type (n ∷ bs) = elim (ltb 0 n && leb n (length bs)) [ true ↦ Some (drop n bs) | false ↦ None ]

-- "Opt is 0, or 1 and a type"
unfoldable pub a_opt : Reader
a_opt [] = None
a_opt (zero ∷ bs) = Some bs
a_opt (suc zero ∷ bs) = a_type bs
a_opt (suc (suc n) ∷ bs) = None

unfoldable pub ◌then◌ : Reader → Reader → Reader
◌then◌ f g bs = elim (f bs) [ None ↦ None | Some rest ↦ g rest ]

infixr 50 ◌then◌
-- an argument, a definition's or a tagged variable's literal: "id, opt"
abbrev pub a_arg : Reader
a_arg = a_id then a_opt

unfoldable pub times : ℕ → Reader → Reader
times zero f = a_end
times (suc n) f = f then times n f

-- a count byte and so many parts
unfoldable pub a_counted : Reader → Reader
a_counted f [] = None
a_counted f (n ∷ bs) = times n f bs

-- a part that is the whole literal
unfoldable pub whole : Reader → List ℕ → Bool
whole f bs = elim (f bs) [ None ↦ false | Some rest ↦ eqb (length rest) 0 ]

unfoldable pub bits : List ℕ → Bool
bits [] = true
bits (b ∷ bs) = ltb b 2 && bits bs

-- ---- the table

-- the fewest and the most children, the greatest aux, and whether a literal is right at an aux
pub record Shape : Type 0 where
  pub least : ℕ
  pub most : ℕ
  pub aux : ℕ
  pub right : ℕ → List ℕ → Bool

-- a shape whose aux is 0 and whose literal is one part
abbrev pub plain : ℕ → ℕ → Reader → Shape
plain lo hi f = record { least = lo; most = hi; aux = 0; right = λ a bs. whole f bs }

-- as many children as a 16-bit count gives
abbrev pub free : ℕ
free = 65535

unfoldable pub shapes : List Shape
shapes =
    -- 0 Const: aux is the class, 0 to 6, plus 7 × the mark, 0 to 35
    record { least = 0; most = 0; aux = 251; right = λ a bs. leb 1 (length bs) } ∷
    -- 1 Unparsed
    record { least = 0; most = 0; aux = 0; right = λ a bs. true } ∷
    -- 2 Zero, 3 One, 4 Two, 5 Three, 6 Four
    plain 0 0 a_end ∷
    plain 1 1 a_end ∷
    plain 2 2 a_end ∷
    plain 3 3 a_end ∷
    plain 4 4 a_end ∷
    -- 7 ValUse, 8 ConstPlaceholder, 9 TaggedVar, 10 ValDef
    plain 0 0 a_id ∷
    plain 0 0 a_id ∷
    plain 0 0 a_arg ∷
    plain 1 1 a_arg ∷
    -- 11 BlockValue
    plain 1 free a_end ∷
    -- 12 FuncValue: aux counts the arguments
    record { least = 1; most = 1; aux = 15; right = λ a bs. whole (times a a_arg) bs } ∷
    -- 13 MethodCall, 14 ConcreteCollection
    plain 1 free (a_byte then a_byte then a_counted a_type) ∷
    plain 0 free a_type ∷
    -- 15 BoolCollection
    record { least = 0; most = 0; aux = 0; right = λ a bs. bits bs } ∷
    -- 16 Tuple, 17 SelectField, 18 ExtractRegisterAs
    plain 0 free a_end ∷
    plain 1 1 a_byte ∷
    plain 1 1 (a_byte then a_type) ∷
    -- 19 GetVar, 20 DeserializeContext, 21 DeserializeRegister
    plain 0 0 (a_byte then a_type) ∷
    plain 0 0 (a_byte then a_type) ∷
    plain 0 1 (a_byte then a_type) ∷
    -- 22 SigmaCollection, 23 NoneValue, 24 ByIndex
    plain 0 free a_end ∷
    plain 0 0 a_type ∷
    plain 2 3 a_end ∷
    -- 25 NumericCast, 26 FuncApply
    plain 1 1 a_type ∷
    plain 1 free a_end ∷
    []

-- what no record fits, for a shape over 26
abbrev pub no_shape : Shape
no_shape = record { least = 1; most = 0; aux = 0; right = λ a bs. false }

-- check 4: a record against its shape
unfoldable pub fits : Row → Bool
fits r =
    let s = get_or shapes r.rec.shape no_shape in
    leb s.least r.kids && leb r.kids s.most && leb r.rec.aux s.aux &&
    s.right r.rec.aux r.rec.lit

-- ---- opcodes and shapes

-- pairs of numbers, first and second
abbrev pub Pairs : Type 0
Pairs = List (ℕ × ℕ)

unfoldable pub shape_of : Pairs → ℕ → Option ℕ
shape_of [] o = None
shape_of (p ∷ ps) o = elim (eqb p.0 o) [ true ↦ Some p.1 | false ↦ shape_of ps o ]

-- "Only together, both ways"
unfoldable pub both_ways : Pairs
both_ways =
    (ValUseOp, ValUse) ∷ (ValDefOp, ValDef) ∷ (BlockValueOp, BlockValue) ∷ (FuncValueOp, FuncValue) ∷
    (SelectFieldOp, SelectField) ∷ (TupleOp, Tuple) ∷ []

-- the opcode has the shape, which others have too
unfoldable pub one_way : Pairs
one_way =
    (IfOp, Three) ∷ (AndOp, Two) ∷ (OrOp, Two) ∷ (HeightOp, Zero) ∷ (InputsOp, Zero) ∷ (OutputsOp, Zero) ∷
    (SelfBoxOp, Zero) ∷ (GlobalOp, Zero) ∷ []

-- check 5: opcode against shape; "00 for shapes 0 and 1 and no other"
unfoldable pub agrees : Rec → Bool
agrees r =
    beq (eqb r.opcode 0) (leb r.shape 1) &&
    elim (shape_of both_ways r.opcode) [
      | None ↦ not (is_in r.shape (map (λ p. p.1) both_ways))
      | Some s ↦ eqb s r.shape
    ] &&
    elim (shape_of one_way r.opcode) [ None ↦ true | Some s ↦ eqb s r.shape ]
