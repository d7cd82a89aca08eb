-- Lines of `template` for small forests, a filling, and one of a forest that is no template, in the letters of the marked
-- examples.
-- Assumes nothing.
use Rattle.std.specs.Prelude.{◌≡◌, refl, List, [], ◌∷◌, ℕ, ◌+◌, ◌*◌}
use Rattle.std.proofs.Common.{arith}
use Rattle.model.specs.Answer.{good}
use Rattle.model.specs.Tree.{rec, Tree, node, nil, cons, serialise}
use Rattle.model.specs.Opcodes.{Const}
use Rattle.model.specs.Call.{ample, run}
use Rattle.model.specs.Text.{text}
use Rattle.model.specs.Template.{Filling, fill_forest}
use Rattle.model.specs.TemplateLine.{template_line}
use Rattle.model.specs.Computing.{computing}
use Rattle.model.specs.Examples.{x, x_of, k_of, n, p, u, block1, one}

-- ---- lines

-- an other-class constant with a mark and a value
abbrev pub fee : ℕ → List ℕ → Tree
fee m value = node (rec Const 0 (6 + 7 * m) value) nil

abbrev pub one_byte : List ℕ
one_byte = 1 ∷ []

abbrev pub two_bytes : List ℕ
two_bytes = 9 ∷ 9 ∷ []

pub line-shared : template_line (serialise (one (p (x_of 1) (x_of 1)))) ≡ text "template: 1 definitions, 1 parameters\n"
unfolding computing
line-shared = refl

pub line_apart : template_line (serialise (one (p (x_of 1) (x_of 2)))) ≡ text "template: 0 definitions, 2 parameters\n"
unfolding computing
line_apart = refl

-- one mark, two classes: two parameters
pub line_classes : template_line (serialise (one (p (x_of 1) (k_of 1)))) ≡ text "template: 0 definitions, 2 parameters\n"
unfolding computing
line_classes = refl

-- no mark, no parameter
pub line_plain : template_line (serialise (one (p x x))) ≡ text "template: 1 definitions, 0 parameters\n"
unfolding computing
line_plain = refl

-- records 3 and 4 have another value than record 1; an environment tree counts, too
pub line-two_values : template_line (serialise (one (p (fee 5 one_byte) (p (fee 5 two_bytes) (fee 5 two_bytes))))) ≡
    text "two values of mark 5 at 3\n"
unfolding computing
line-two_values = refl

pub line_across : template_line (serialise (cons (fee 5 one_byte) (one (n (fee 5 two_bytes))))) ≡ text "two values of mark 5 at 2\n"
unfolding computing
line_across = refl

-- the call's refusal comes first
pub line_refused : template_line (serialise (one (p (fee 5 one_byte) (p (fee 5 two_bytes) (u 3))))) ≡ text "refused 10 at 4\n"
unfolding computing
line_refused = refl

-- ---- a filling: all parameters equal, which marks are for

abbrev pub equal : Filling
equal = record { literal = λ a. two_bytes; some_bytes = λ a l. omega arith }

-- p(n(1),p(n(2),n(1))) of two parameters: n(1) gets a definition, n(2) none
abbrev pub script : List ℕ → Tree
script value = p (n (fee 1 value)) (p (n (fee 2 value)) (n (fee 1 value)))

abbrev pub shared : List ℕ → Tree
shared value = block1 1 (n (fee 1 value)) (p (u 1) (p (n (fee 2 value)) (u 1)))

pub template_filled : fill_forest equal (serialise (one (script one_byte))) ≡ serialise (one (script two_bytes))
unfolding computing
template_filled = refl

pub filled_written : run (ample (fill_forest equal (serialise (one (script one_byte))))) ≡ good (record {
  tree = shared two_bytes;
  bytes = serialise (one (shared two_bytes));
  symbols = 6;
  readings = 8;
})
unfolding computing
filled_written = refl

-- ---- no template: with two values of parameter 1 nothing is shared, and filled something is

abbrev pub two : List ℕ → List ℕ → Tree
two value other = p (n (fee 1 value)) (n (fee 1 other))

pub two-written : run (ample (serialise (one (two one_byte two_bytes)))) ≡ good (record {
  tree = two one_byte two_bytes;
  bytes = serialise (one (two one_byte two_bytes));
  symbols = 5;
  readings = 5;
})
unfolding computing
two-written = refl

pub two_filled : run (ample (fill_forest equal (serialise (one (two one_byte two_bytes))))) ≡ good (record {
  tree = block1 1 (n (fee 1 two_bytes)) (p (u 1) (u 1));
  bytes = serialise (one (block1 1 (n (fee 1 two_bytes)) (p (u 1) (u 1))));
  symbols = 3;
  readings = 5;
})
unfolding computing
two_filled = refl
