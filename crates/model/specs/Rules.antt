-- The rule beside each symbol (request A.4): "for each symbol reached from the root and in symbol order, its number and the
-- first that holds".
-- In order: the rule of a symbol; the rules of the symbols reached; what is proved of rules.
-- Assumes nothing.
use Rattle.std.specs.Prelude.{◌≡◌, ℕ, zero, suc, Bool, true, false, List, [], ◌∷◌, ◌++◌, map, ltb, length, Option, None, Some}
use Rattle.model.specs.Lists.{is_in}
use Rattle.model.specs.Intern.{Sym, State}
use Rattle.model.specs.Gate.{Graph, sym_of, reach, usage, is_context_property, is_internal, is_const}
use Rattle.model.specs.Schedule.{is_arg}
use Rattle.model.specs.Labels.{labelled, defined_of, WrittenBlock, blocks_of}
use Rattle.model.specs.Call.{reached_of}

-- ---- the rule of a symbol

pub data Rule : Type 0 where
  is_argument used_at_most_once context_property global scalar_constant : Rule
  hoisted : ℕ → Rule
  no_definition : Rule

-- the first five: whether each holds of a symbol that is used so often
unfoldable pub tests : Sym → ℕ → List (Bool × Rule)
tests y uses =
    (is_arg y.node, is_argument) ∷
    (ltb uses 2, used_at_most_once) ∷
    (is_context_property y, context_property) ∷
    (is_internal y, global) ∷
    (is_const y, scalar_constant) ∷
    []

-- "the first that holds", and r if none does
unfoldable pub first_rule : List (Bool × Rule) → Rule → Rule
first_rule [] r = r
first_rule (t ∷ ts) r = elim t.0 [ true ↦ t.1 | false ↦ first_rule ts r ]

-- "the scope for which the first such block in record order is written": of the blocks that hold a definition of s
unfoldable pub first_scope : ℕ → List WrittenBlock → Option ℕ
first_scope s [] = None
first_scope s (b ∷ bs) = elim (is_in s b.symbols) [ true ↦ Some b.scope | false ↦ first_scope s bs ]

-- "at least one written block holds that symbol's definition", or no definition is written
abbrev pub by_blocks : Option ℕ → Rule
by_blocks None = no_definition
by_blocks (Some sc) = hoisted sc

unfoldable pub rule_of : Graph → List WrittenBlock → ℕ → Rule
rule_of g bs s = first_rule (tests (sym_of g s) (usage g s)) (by_blocks (first_scope s bs))

-- ---- the rules of the symbols reached

-- the numbers below n that are in a list, the lowest first
unfoldable pub in_order : ℕ → List ℕ → List ℕ
in_order zero is = []
in_order (suc n) is = in_order n is ++ elim (is_in n is) [ true ↦ n ∷ [] | false ↦ [] ]

-- the blocks of the tree that is written
abbrev pub written_blocks : Graph → ℕ → List WrittenBlock
written_blocks g root = blocks_of (labelled g root)

-- of the root's symbol and the state that interning leaves
unfoldable pub rules_of : ℕ × State → List (ℕ × Rule)
rules_of o =
    let g = reached_of o in
    let reached = reach o.1.syms (suc o.0) (o.0 ∷ []) in
    map (λ s. (s, rule_of g (written_blocks g o.0) s)) (in_order (length o.1.syms) reached)

-- ---- what is proved of rules, for a graph whose root is symbol `root`

abbrev pub among_five : Rule → Bool
among_five is_argument = true
among_five used_at_most_once = true
among_five context_property = true
among_five global = true
among_five scalar_constant = true
among_five (hoisted sc) = false
among_five no_definition = false

-- "no symbol given one of the first five has a written definition"
abbrev pub FiveUnwritten : Graph → ℕ → Type 0
FiveUnwritten g root =
    (s : ℕ) → among_five (rule_of g (written_blocks g root) s) ≡ true → is_in s (defined_of (labelled g root)) ≡ false

-- "Hoisted is said exactly when": whatever else holds of the symbol
pub record HoistedExactly (g : Graph) (root : ℕ) : Type 0 where
  pub said : (s sc : ℕ) → first_scope s (written_blocks g root) ≡ Some sc
      → rule_of g (written_blocks g root) s ≡ hoisted sc
  pub only : (s sc : ℕ) → rule_of g (written_blocks g root) s ≡ hoisted sc
      → first_scope s (written_blocks g root) ≡ Some sc
