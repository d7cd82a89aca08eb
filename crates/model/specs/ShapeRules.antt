-- Condition 4: what a record of each shape has to be, a line a shape, as the paper lists them. It can only be that list
-- again, as Shape has it; but a literal is said to be parts put together, where the check reads it part by part.
-- In order: byte strings; the shapes; the condition; the arguments of a lambda.
-- Assumes nothing.
use Rattle.std.specs.Prelude.{◌≡◌, ◌⊎◌, List, [], ◌∷◌, ◌++◌, ℕ, zero, suc, ◌+◌, ◌*◌, ◌≤◌, ◌<◌, length, get_or}
use Rattle.model.specs.Bytes.{u32}
use Rattle.model.specs.Tree.{Row}
use Rattle.model.specs.Forest.{record_count}
use Rattle.model.specs.Places.{record_at}

-- ---- byte strings

abbrev pub Part : Type 1
Part = List ℕ → Type 0

abbrev pub IsByte : Part
IsByte bs = length bs ≡ 1

-- "Ids are 4 bytes"
abbrev pub IsId : Part
IsId bs = length bs ≡ 4

-- "A type is a byte 1 to 255 and so many bytes, not looked into"
abbrev pub IsType : Part
IsType bs = (n : ℕ) × (body : List ℕ) × (bs ≡ n ∷ body) × (1 ≤ n) × (length body ≡ n)

-- "Opt is 0, or 1 and a type"
abbrev pub IsOpt : Part
IsOpt bs = (bs ≡ 0 ∷ []) ⊎ ((t : List ℕ) × (bs ≡ 1 ∷ t) × IsType t)

-- one part and then another
abbrev pub ◌followed◌ : Part → Part → Part
◌followed◌ P Q bs = (a : List ℕ) × (b : List ℕ) × (bs ≡ a ++ b) × P a × Q b

infixr 50 ◌followed◌
-- so many of a part
abbrev pub Many : ℕ → Part → Part
Many zero P bs = bs ≡ []
Many (suc n) P bs = (P followed Many n P) bs

-- "a count byte, types"
abbrev pub Counted : Part
Counted bs = (n : ℕ) × (rest : List ℕ) × (bs ≡ n ∷ rest) × Many n IsType rest

-- "bytes 0 or 1"
abbrev pub Bits : Part
Bits bs = (i : ℕ) → i < length bs → get_or bs i 0 < 2

-- ---- the shapes

-- `Right shape children aux literal`. "Free" is any 16-bit count. "Aux is 0 but for shapes 0 and 12"
pub data Right : ℕ → ℕ → ℕ → List ℕ → Type 0 where
  -- "0 Const: 0; at least 1 byte"; "a mark from 0 to 35: aux becomes class plus 7 × mark", the class 0 to 6
  is_0 : {c m : ℕ} {bs : List ℕ} → c ≤ 6 → m ≤ 35 → 1 ≤ length bs → Right 0 0 (c + 7 * m) bs
  -- "1 Unparsed: 0; free"
  is_1 : {bs : List ℕ} → Right 1 0 0 bs
  -- "2 to 6 Zero, One, Two, Three, Four: 0 to 4; empty"
  is_2 : Right 2 0 0 []
  is_3 : Right 3 1 0 []
  is_4 : Right 4 2 0 []
  is_5 : Right 5 3 0 []
  is_6 : Right 6 4 0 []
  -- "7 ValUse: 0; id. 8 ConstPlaceholder: 0; id"
  is_7 : {bs : List ℕ} → IsId bs → Right 7 0 0 bs
  is_8 : {bs : List ℕ} → IsId bs → Right 8 0 0 bs
  -- "9 TaggedVar: 0; id, opt. 10 ValDef: 1; id, opt"
  is_9 : {bs : List ℕ} → (IsId followed IsOpt) bs → Right 9 0 0 bs
  is_10 : {bs : List ℕ} → (IsId followed IsOpt) bs → Right 10 1 0 bs
  -- "11 BlockValue: 1 or more, the last is the result; empty"
  is_11 : {k : ℕ} → 1 ≤ k → k ≤ 65535 → Right 11 k 0 []
  -- "12 FuncValue: 1; aux (0 to 15) times id, opt"
  is_12 : {a : ℕ} {bs : List ℕ} → a ≤ 15 → Many a (IsId followed IsOpt) bs → Right 12 1 a bs
  -- "13 MethodCall: 1 or more; two bytes, a count byte, types"
  is_13 : {k : ℕ} {bs : List ℕ} → 1 ≤ k → k ≤ 65535 → (IsByte followed IsByte followed Counted) bs → Right 13 k 0 bs
  -- "14 ConcreteCollection: free; type"
  is_14 : {k : ℕ} {bs : List ℕ} → k ≤ 65535 → IsType bs → Right 14 k 0 bs
  -- "15 BoolCollection: 0; bytes 0 or 1"
  is_15 : {bs : List ℕ} → Bits bs → Right 15 0 0 bs
  -- "16 Tuple: free; empty"
  is_16 : {k : ℕ} → k ≤ 65535 → Right 16 k 0 []
  -- "17 SelectField: 1; a byte"
  is_17 : {bs : List ℕ} → IsByte bs → Right 17 1 0 bs
  -- "18 ExtractRegisterAs: 1; byte, type"
  is_18 : {bs : List ℕ} → (IsByte followed IsType) bs → Right 18 1 0 bs
  -- "19 GetVar and 20 DeserializeContext: 0; byte, type"
  is_19 : {bs : List ℕ} → (IsByte followed IsType) bs → Right 19 0 0 bs
  is_20 : {bs : List ℕ} → (IsByte followed IsType) bs → Right 20 0 0 bs
  -- "21 DeserializeRegister: 0 or 1; byte, type"
  is_21 : {k : ℕ} {bs : List ℕ} → k ≤ 1 → (IsByte followed IsType) bs → Right 21 k 0 bs
  -- "22 SigmaCollection: free; empty"
  is_22 : {k : ℕ} → k ≤ 65535 → Right 22 k 0 []
  -- "23 NoneValue: 0; type"
  is_23 : {bs : List ℕ} → IsType bs → Right 23 0 0 bs
  -- "24 ByIndex: 2 or 3; empty"
  is_24 : {k : ℕ} → 2 ≤ k → k ≤ 3 → Right 24 k 0 []
  -- "25 NumericCast: 1; type"
  is_25 : {bs : List ℕ} → IsType bs → Right 25 1 0 bs
  -- "26 FuncApply: 1 or more; empty"
  is_26 : {k : ℕ} → 1 ≤ k → k ≤ 65535 → Right 26 k 0 []

-- ---- the condition

abbrev pub IsRight : Row → Type 0
IsRight r = Right r.rec.shape r.kids r.rec.aux r.rec.lit

-- "4, a record against its shape"
abbrev pub ShapeOffends : List ℕ → ℕ → Type 0
ShapeOffends forest p = (p < record_count forest) × (IsRight (record_at forest p) → ⊥)

-- ---- the arguments of a lambda

-- the literal has i as the id of its k-th "id, opt", from 0
abbrev pub IdAt : List ℕ → ℕ → ℕ → Type 0
IdAt lit k i =
    (before : List ℕ) × (id : List ℕ) × (rest : List ℕ) × (lit ≡ before ++ (id ++ rest)) ×
    Many k (IsId followed IsOpt) before × IsId id × (u32 id ≡ i)
