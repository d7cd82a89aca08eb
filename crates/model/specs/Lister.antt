-- The lister's lines ("Trees to compare", at its end), as bytes; each line ends with a newline.
-- Assumes nothing.
use Rattle.std.specs.Prelude.{ℕ, zero, suc, ◌+◌, ◌/◌, ◌%◌, Bool, true, false, List, [], ◌∷◌, ◌++◌, ltb, length, ℤ, pos, negsuc}
use Rattle.model.specs.Answer.{Answer, refused, good}
use Rattle.model.specs.Tree.{nil, cons}
use Rattle.model.specs.Intern.{Node, constant, unparsed, argument, func, operation, Sym, Out}
use Rattle.model.specs.Gate.{usage, should_hoist}
use Rattle.model.specs.Call.{Written, ample, run, interned, reached_of}
use Rattle.model.specs.Savings.{savings}
use Rattle.model.specs.Rules.{Rule, is_argument, used_at_most_once, context_property, global, scalar_constant, hoisted}
use Rattle.model.specs.Rules.{no_definition, rules_of}
use Rattle.model.specs.Text.{text}

-- ---- numbers

-- a number in decimal, of at most `fuel` digits, before `rest`
unfoldable pub digits : ℕ → ℕ → List ℕ → List ℕ
digits zero n rest = rest
digits (suc fuel) n rest =
    elim (ltb n 10) [ true ↦ (48 + n) ∷ rest | false ↦ digits fuel (n / 10) ((48 + n % 10) ∷ rest) ]

-- below 2^64: twenty digits are enough
unfoldable pub numeral : ℕ → List ℕ
numeral n = digits 20 n []

unfoldable pub hex_digit : ℕ → ℕ
hex_digit n = elim (ltb n 10) [ true ↦ 48 + n | false ↦ 55 + n ]

unfoldable pub hex_byte : ℕ → List ℕ
hex_byte n = hex_digit (n / 16) ∷ hex_digit (n % 16) ∷ []

-- ---- a symbol's line: symbol, tag, opcode, scope, usage, gate

-- "C constant, U unparsed, A argument, O other"
unfoldable pub tag_of : Node → List ℕ
tag_of constant = text "C"
tag_of unparsed = text "U"
tag_of argument = text "A"
tag_of (func xs sc) = text "O"
tag_of (operation brs) = text "O"

-- "00 unless O"
unfoldable pub opcode_shown : Node → ℕ → ℕ
opcode_shown constant op = 0
opcode_shown unparsed op = 0
opcode_shown argument op = 0
opcode_shown (func xs sc) op = op
opcode_shown (operation brs) op = op

unfoldable pub yes_no : Bool → List ℕ
yes_no true = text "y"
yes_no false = text "n"

unfoldable pub line : ℕ → ℕ → Sym → List ℕ
line i uses s =
    numeral i ++ text " " ++ tag_of s.node ++ text " " ++
    hex_byte (opcode_shown s.node s.rec.opcode) ++ text " " ++ numeral s.scope ++ text " " ++
    numeral uses ++ text " " ++ yes_no (should_hoist s uses) ++ text "\n"

-- the lines of symbols from number i on, each used as often as `uses` says
unfoldable pub lines_from : (ℕ → ℕ) → ℕ → List Sym → List ℕ
lines_from uses i [] = []
lines_from uses i (s ∷ ss) = line i (uses i) s ++ lines_from uses (suc i) ss

unfoldable pub symbol_lines : (ℕ → ℕ) → List Sym → List ℕ
symbol_lines uses ss = text "symbols " ++ numeral (length ss) ++ text "\n" ++ lines_from uses 0 ss

-- ---- the line of a definition: id and saving

-- "A saving below zero is printed with a minus"
unfoldable pub signed : ℤ → List ℕ
signed (pos n) = numeral n
signed (negsuc n) = text "-" ++ numeral (suc n)

unfoldable pub saving_line : ℕ × ℤ → List ℕ
saving_line s = numeral s.0 ++ text " " ++ signed s.1 ++ text "\n"

unfoldable pub saving_lines : List (ℕ × ℤ) → List ℕ
saving_lines [] = []
saving_lines (s ∷ ss) = saving_line s ++ saving_lines ss

-- ---- the line of a symbol and its rule

unfoldable pub rule_text : Rule → List ℕ
rule_text is_argument = text "argument"
rule_text used_at_most_once = text "used at most once"
rule_text context_property = text "context property"
rule_text global = text "GLOBAL"
rule_text scalar_constant = text "scalar constant"
rule_text (hoisted sc) = text "hoisted in scope " ++ numeral sc
rule_text no_definition = text "no definition written"

unfoldable pub rule_line : ℕ × Rule → List ℕ
rule_line r = numeral r.0 ++ text " " ++ rule_text r.1 ++ text "\n"

unfoldable pub rule_lines : List (ℕ × Rule) → List ℕ
rule_lines [] = []
rule_lines (r ∷ rs) = rule_line r ++ rule_lines rs

-- ---- the line of a refusal: number n, place p

unfoldable pub refusal : ℕ → ℕ → List ℕ
refusal n p = text "refused " ++ numeral n ++ text " at " ++ numeral p ++ text "\n"

-- ---- what is printed for a forest, the main call being lent 65,535 output bytes

-- usage is `flat_usage_reachable` from the root, which is the gate's own count (request A.2), and y is said at it; after the
-- symbols' lines stand those of the written tree's definitions (request A.1), and then the rules (request A.4)
unfoldable pub lines_of : Answer Written → Out → List ℕ
lines_of (refused n p) o = refusal n p
lines_of (good w) (refused n p) = []
lines_of (good w) (good o) =
    symbol_lines (usage (reached_of o)) o.1.syms ++ saving_lines (savings (cons w.tree nil)) ++ rule_lines (rules_of o)

unfoldable pub lister : List ℕ → List ℕ
lister bs = lines_of (run (ample bs)) (interned bs)
