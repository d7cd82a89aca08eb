-- The sheet of a forest, which `show` prints: a line a record, as bytes; each line ends with a newline.
-- A line: the record's number, right-aligned in three columns; twice as many spaces as its depth (a root has depth 1);
-- its shape's name; its opcode in hex, and the opcode's name where the shape does not say it. Then, each after two
-- spaces, what the record has of these: a constant's class, with its mark if that is not 0, as `SInt mark 3`; `id N` of
-- a use or a definition; `args N N` of a lambda; `field N` of a selection; `literal` and the literal in hex, if it is
-- not empty.
-- An opcode's number means the operation that the ErgoTree specification gives it. Names are the paper's where it has
-- one; an opcode's is otherwise that of its operation, spelled as the Rust spells it.
-- In order: names; bytes and spaces; what a record has; its line; trees; forests.
-- Assumes nothing.
use Rattle.std.specs.Prelude.{ℕ, zero, suc, ◌+◌, ◌-◌, ◌*◌, true, false, List, [], ◌∷◌, ◌++◌, eqb, length, get_or, replicate}
use Rattle.model.specs.Answer.{Answer, refused, good}
use Rattle.model.specs.Tree.{Rec, class, mark, Tree, Trees, node, nil, cons, size}
use Rattle.model.specs.Opcodes.{Const}
use Rattle.model.specs.Binding.{val_use, val_def, block, lambda, field, other, kind, id_of, arg_ids}
use Rattle.model.specs.Accept.{accept}
use Rattle.model.specs.Text.{text}
use Rattle.model.specs.Lister.{numeral, hex_byte, refusal}

-- ---- names: a table is a list of numbers with their names

abbrev pub Names : Type 0
Names = List (ℕ × List ℕ)

-- the name of a number, behind a text that sets it off; nothing if it has none
unfoldable pub named : List ℕ → Names → ℕ → List ℕ
named before [] n = []
named before (e ∷ es) n = elim (eqb e.0 n) [ true ↦ before ++ e.1 | false ↦ named before es n ]

unfoldable pub shape_names : Names
shape_names =
    (0, text "Const") ∷ (1, text "Unparsed") ∷ (2, text "Zero") ∷ (3, text "One") ∷ (4, text "Two") ∷
    (5, text "Three") ∷ (6, text "Four") ∷ (7, text "ValUse") ∷ (8, text "ConstPlaceholder") ∷
    (9, text "TaggedVar") ∷ (10, text "ValDef") ∷ (11, text "BlockValue") ∷ (12, text "FuncValue") ∷
    (13, text "MethodCall") ∷ (14, text "ConcreteCollection") ∷ (15, text "BoolCollection") ∷ (16, text "Tuple") ∷
    (17, text "SelectField") ∷ (18, text "ExtractRegisterAs") ∷ (19, text "GetVar") ∷
    (20, text "DeserializeContext") ∷ (21, text "DeserializeRegister") ∷ (22, text "SigmaCollection") ∷
    (23, text "NoneValue") ∷ (24, text "ByIndex") ∷ (25, text "NumericCast") ∷ (26, text "FuncApply") ∷ []

-- of constants' classes
unfoldable pub class_names : Names
class_names =
    (0, text "SBoolean") ∷ (1, text "SByte") ∷ (2, text "SShort") ∷ (3, text "SInt") ∷ (4, text "SLong") ∷
    (5, text "SString") ∷ (6, text "other") ∷ []

-- of opcodes, by the numbers that the ErgoTree specification gives to operations; those that stand with one shape of
-- their own have none
unfoldable pub opcode_names : Names
opcode_names =
    (0x7E, text "Upcast") ∷ (0x7F, text "True") ∷ (0x80, text "False") ∷ (0x82, text "GroupGenerator") ∷
    (0x8F, text "LT") ∷ (0x90, text "LE") ∷ (0x91, text "GT") ∷ (0x92, text "GE") ∷ (0x93, text "EQ") ∷
    (0x94, text "NEQ") ∷ (0x95, text "IF") ∷ (0x96, text "AND") ∷ (0x97, text "OR") ∷
    (0x99, text "MINUS") ∷ (0x9A, text "PLUS") ∷ (0x9C, text "MULTIPLY") ∷ (0x9D, text "DIVISION") ∷
    (0x9E, text "MODULO") ∷ (0xA1, text "MIN") ∷ (0xA2, text "MAX") ∷
    (0xA3, text "HEIGHT") ∷ (0xA4, text "INPUTS") ∷ (0xA5, text "OUTPUTS") ∷
    (0xA6, text "LastBlockUtxoRootHash") ∷ (0xA7, text "SELF_BOX") ∷ (0xAC, text "MinerPubkey") ∷
    (0xB1, text "SIZE_OF") ∷ (0xDD, text "GLOBAL") ∷ (0xE5, text "OptionGetOrElse") ∷
    (0xEC, text "BIN_OR") ∷ (0xED, text "BIN_AND") ∷ (0xEF, text "LOGICAL_NOT") ∷ (0xF0, text "NEGATION") ∷
    (0xF4, text "BIN_XOR") ∷ (0xFE, text "Context") ∷ []

-- ---- bytes and spaces

-- bytes in hex
unfoldable pub hex_bytes : List ℕ → List ℕ
hex_bytes [] = []
hex_bytes (b ∷ bs) = hex_byte b ++ hex_bytes bs

abbrev pub spaces : ℕ → List ℕ
spaces n = replicate n 32

-- ---- what a record has

-- ids in a row
unfoldable pub id_texts : List ℕ → List ℕ
id_texts [] = []
id_texts (i ∷ is) = text " " ++ numeral i ++ id_texts is

-- the ids of a lambda's arguments, if it has any
unfoldable pub args_text : List ℕ → List ℕ
args_text [] = []
args_text (i ∷ is) = text "  args" ++ id_texts (i ∷ is)

unfoldable pub id_text : Rec → List ℕ
id_text r = text "  id " ++ numeral (id_of r)

-- a mark, if it is not 0
unfoldable pub mark_text : ℕ → List ℕ
mark_text zero = []
mark_text (suc m) = text " mark " ++ numeral (suc m)

-- of a constant
unfoldable pub const_text : ℕ → List ℕ
const_text aux = named (text "  ") class_names (class aux) ++ mark_text (mark aux)

unfoldable pub own_text : Rec → List ℕ
own_text r = elim (kind r.shape) [
  | val_use ↦ id_text r
  | val_def ↦ id_text r
  | block ↦ []
  | lambda ↦ args_text (arg_ids r)
  | field ↦ text "  field " ++ numeral (get_or r.lit 0 0)
  | other ↦ elim (eqb r.shape Const) [ true ↦ const_text r.aux | false ↦ [] ]
]

unfoldable pub literal_text : List ℕ → List ℕ
literal_text [] = []
literal_text (b ∷ bs) = text "  literal " ++ hex_bytes (b ∷ bs)

-- ---- the line of record i, at depth d

unfoldable pub place_text : ℕ → ℕ → List ℕ
place_text i d = spaces (3 - length (numeral i)) ++ numeral i ++ spaces (2 * d)

unfoldable pub opcode_text : ℕ → List ℕ
opcode_text n = text " " ++ hex_byte n ++ named (text " ") opcode_names n

unfoldable pub record_line : ℕ → ℕ → Rec → List ℕ
record_line i d r =
    place_text i d ++ named [] shape_names r.shape ++ opcode_text r.opcode ++ own_text r ++
    literal_text r.lit ++ text "\n"

-- ---- trees at depth d, whose records are numbered in file order, from i on

unfoldable mutual
  pub tree_lines : ℕ → ℕ → Tree → List ℕ
  tree_lines i d (node r ts) = record_line i d r ++ trees_lines (suc i) (suc d) ts

  pub trees_lines : ℕ → ℕ → Trees → List ℕ
  trees_lines i d nil = []
  trees_lines i d (cons t ts) = tree_lines i d t ++ trees_lines (i + size t) d ts

-- ---- forests

-- of an accepted forest
unfoldable pub forest_lines : Trees → List ℕ
forest_lines ts = trees_lines 0 1 ts

-- the lines of a forest's records, or, where a check from 2 to 10, or 16, refuses it, the one line of that refusal
unfoldable pub sheet_of : Answer Trees → List ℕ
sheet_of (refused n p) = refusal n p
sheet_of (good ts) = forest_lines ts

unfoldable pub sheet : List ℕ → List ℕ
sheet bs = sheet_of (accept bs)
