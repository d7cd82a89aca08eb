-- Rules, computed: of p(z,z); of symbols that the gate holds back; of arguments; of the scopes of thunks and lambdas; of a
-- symbol that belongs to another branch; of one that several blocks hold; which block is the first. At the end, lines.
-- Assumes nothing.
use Rattle.std.specs.Prelude.{ℕ, ◌≡◌, refl, List, [], ◌∷◌, None, Some}
use Rattle.model.specs.Answer.{refused, good}
use Rattle.model.specs.Tree.{rec, Tree, node, nil, cons}
use Rattle.model.specs.Intern.{Out, intern_last, intern_forest}
use Rattle.model.specs.Call.{reached_of}
use Rattle.model.specs.Labels.{WrittenBlock}
use Rattle.model.specs.Rules.{Rule, is_argument, used_at_most_once, context_property, global, scalar_constant, hoisted}
use Rattle.model.specs.Rules.{no_definition, first_scope, written_blocks, rules_of}
use Rattle.model.specs.Text.{text}
use Rattle.model.specs.Lister.{rule_lines}
use Rattle.model.specs.Computing.{computing}
use Rattle.model.specs.Examples.{z, h, k, x, n, p, if, s1, L, u, block1, one}

abbrev rules_in : Out → List (ℕ × Rule)
rules_in (refused m at) = []
rules_in (good o) = rules_of o

abbrev blocks_written : Out → List WrittenBlock
blocks_written (refused m at) = []
blocks_written (good o) = written_blocks (reached_of o) o.0

-- a tree's rules, and the blocks of the tree that is written for it
abbrev Rules : Tree → List (ℕ × Rule) → List WrittenBlock → Type 0
Rules t rs bs =
    let o = intern_last (intern_forest (one t)) in (rules_in o ≡ rs) × (blocks_written o ≡ bs)

abbrev block : ℕ → List ℕ → WrittenBlock
block sc ss = record { scope = sc; symbols = ss }

-- "as in `0 hoisted in scope 0`"
pub pair_rules : Rules (p z z) ((0, hoisted 0) ∷ (1, used_at_most_once) ∷ []) (block 0 (0 ∷ []) ∷ [])
unfolding computing
pair_rules = (refl, refl)

-- GLOBAL
abbrev G : Tree
G = node (rec 2 0xDD 0 []) nil

-- what stays inline though it is used twice: HEIGHT, an SInt, GLOBAL
pub inline_rules : Rules (p (p h h) (p k (p G (p k G))))
    ((0, context_property) ∷ (1, used_at_most_once) ∷ (2, scalar_constant) ∷ (3, global) ∷ (4, used_at_most_once) ∷
    (5, used_at_most_once) ∷ (6, used_at_most_once) ∷ (7, used_at_most_once) ∷ []) []
unfolding computing
inline_rules = (refl, refl)

-- a scalar that is used once is called so first
pub first_holds : Rules (p k h) ((0, used_at_most_once) ∷ (1, used_at_most_once) ∷ (2, used_at_most_once) ∷ []) []
unfolding computing
first_holds = (refl, refl)

-- an argument, and what its lambda defines
pub lambda_rules : Rules (L 7 (p (n (u 7)) (n (u 7))))
    ((0, is_argument) ∷ (1, hoisted 1) ∷ (2, used_at_most_once) ∷ (3, used_at_most_once) ∷ []) (block 1 (1 ∷ []) ∷ [])
unfolding computing
lambda_rules = (refl, refl)

-- the same in two thunks is a symbol in each, defined in its own
pub thunk_rules : Rules (if z (p (n z) (n z)) (p (n z) (n z)))
    ((0, hoisted 0) ∷ (1, hoisted 1) ∷ (2, used_at_most_once) ∷ (3, hoisted 2) ∷ (4, used_at_most_once) ∷
    (5, used_at_most_once) ∷ []) (block 0 (0 ∷ []) ∷ block 1 (1 ∷ []) ∷ block 2 (3 ∷ []) ∷ [])
unfolding computing
thunk_rules = (refl, refl)

-- symbol 1 is the field in the first branch; 2 is the other field, which nothing reaches
pub unreached_rules : Rules (if z (s1 z) (s1 z)) ((0, hoisted 0) ∷ (1, hoisted 1) ∷ (3, used_at_most_once) ∷ [])
    (block 0 (0 ∷ []) ∷ block 1 (1 ∷ []) ∷ [])
unfolding computing
unreached_rules = (refl, refl)

-- field 2
abbrev s2 : Tree → Tree
s2 a = node (rec 17 0x8C 0 (2 ∷ [])) (cons a nil)

-- field 1 belongs to the first branch, where field 2 was met, and is used twice in the second: the gate lets it, and it has
-- no definition
pub elsewhere_rules : Rules (if z (s2 z) (p (s1 z) (s1 z)))
    ((0, hoisted 0) ∷ (1, no_definition) ∷ (2, used_at_most_once) ∷ (3, used_at_most_once) ∷ (4, used_at_most_once) ∷ [])
    (block 0 (0 ∷ []) ∷ [])
unfolding computing
elsewhere_rules = (refl, refl)

-- symbol 4 is inline wherever field 1 of it is: three blocks hold symbol 1, all for its own scope
pub copied_rules : Rules (block1 1 (if h (p x x) z) (if z (s1 (u 1)) (p (s1 (u 1)) (s1 (u 1)))))
    ((0, used_at_most_once) ∷ (1, hoisted 1) ∷ (2, used_at_most_once) ∷ (3, used_at_most_once) ∷ (4, used_at_most_once) ∷
    (5, used_at_most_once) ∷ (6, hoisted 3) ∷ (8, used_at_most_once) ∷ (9, used_at_most_once) ∷ [])
    (block 3 (6 ∷ []) ∷ block 1 (1 ∷ []) ∷ block 1 (1 ∷ []) ∷ block 1 (1 ∷ []) ∷ [])
unfolding computing
copied_rules = (refl, refl)

-- the first of the blocks that hold the symbol, whatever else they hold; definitions inside other blocks are not theirs
pub first_of_blocks : (first_scope 1 (block 4 (2 ∷ []) ∷ block 2 (3 ∷ 1 ∷ []) ∷ block 3 (1 ∷ []) ∷ []) ≡ Some 2)
    × (first_scope 1 (block 4 (2 ∷ []) ∷ []) ≡ None)
unfolding computing
first_of_blocks = (refl, refl)

-- a line of each rule, with the paper's words
pub rule_lines_read : rule_lines ((0, is_argument) ∷ (1, used_at_most_once) ∷ (2, context_property) ∷ (3, global) ∷ []) ≡
    text "0 argument\n1 used at most once\n2 context property\n3 GLOBAL\n"
unfolding computing
rule_lines_read = refl

pub rule_lines_last : rule_lines ((4, scalar_constant) ∷ (5, hoisted 0) ∷ (511, no_definition) ∷ []) ≡
    text "4 scalar constant\n5 hoisted in scope 0\n511 no definition written\n"
unfolding computing
rule_lines_last = refl
