-- Names of the shapes and opcodes that definitions compare with. In order: shapes, by their place in the table of
-- shapes; opcodes.
-- Assumes nothing.
use Rattle.std.specs.Prelude.{ℕ}

-- ---- shapes

abbrev pub Const : ℕ
Const = 0

abbrev pub Unparsed : ℕ
Unparsed = 1

abbrev pub Zero : ℕ
Zero = 2

abbrev pub Two : ℕ
Two = 4

abbrev pub Three : ℕ
Three = 5

abbrev pub ValUse : ℕ
ValUse = 7

abbrev pub ValDef : ℕ
ValDef = 10

abbrev pub BlockValue : ℕ
BlockValue = 11

abbrev pub FuncValue : ℕ
FuncValue = 12

abbrev pub Tuple : ℕ
Tuple = 16

abbrev pub SelectField : ℕ
SelectField = 17

-- ---- opcodes

abbrev pub ValUseOp : ℕ
ValUseOp = 0x72

abbrev pub ValDefOp : ℕ
ValDefOp = 0xD6

abbrev pub BlockValueOp : ℕ
BlockValueOp = 0xD8

abbrev pub FuncValueOp : ℕ
FuncValueOp = 0xD9

abbrev pub TupleOp : ℕ
TupleOp = 0x86

abbrev pub SelectFieldOp : ℕ
SelectFieldOp = 0x8C

abbrev pub IfOp : ℕ
IfOp = 0x95

-- && and ||
abbrev pub AndOp : ℕ
AndOp = 0xED

abbrev pub OrOp : ℕ
OrOp = 0xEC

abbrev pub HeightOp : ℕ
HeightOp = 0xA3

abbrev pub InputsOp : ℕ
InputsOp = 0xA4

abbrev pub OutputsOp : ℕ
OutputsOp = 0xA5

abbrev pub SelfBoxOp : ℕ
SelfBoxOp = 0xA7

abbrev pub GlobalOp : ℕ
GlobalOp = 0xDD
