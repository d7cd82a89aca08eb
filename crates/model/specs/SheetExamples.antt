-- Sheets of small forests, as `show` prints them, in the letters of the marked examples.
-- Assumes nothing.
use Rattle.std.specs.Prelude.{◌≡◌, refl, ◌++◌}
use Rattle.model.specs.Tree.{cons, serialise}
use Rattle.model.specs.Text.{text}
use Rattle.model.specs.Sheet.{sheet}
use Rattle.model.specs.Computing.{computing}
use Rattle.model.specs.Examples.{z, x, x_of, k, k_of, n, p, s1, L, u, block1, one}

pub sheet-sum : sheet (serialise (one (p z z))) ≡
    text "  0  Two 9A PLUS\n" ++
    text "  1    Zero FE Context\n" ++
    text "  2    Zero FE Context\n"
unfolding computing
sheet-sum = refl

pub sheet_lambda : sheet (serialise (one (L 7 (p (u 7) k)))) ≡
    text "  0  FuncValue D9  args 7  literal 0700000000\n" ++
    text "  1    Two 9A PLUS\n" ++
    text "  2      ValUse 72  id 7  literal 07000000\n" ++
    text "  3      Const 00  SInt  literal 0402\n"
unfolding computing
sheet_lambda = refl

pub sheet_block : sheet (serialise (one (block1 1 x (s1 (u 1))))) ≡
    text "  0  BlockValue D8\n" ++
    text "  1    ValDef D6  id 1  literal 0100000000\n" ++
    text "  2      Const 00  other  literal 0701\n" ++
    text "  3    SelectField 8C  field 1  literal 01\n" ++
    text "  4      ValUse 72  id 1  literal 01000000\n"
unfolding computing
sheet_block = refl

-- marks, of which 0 is not shown
pub sheet_marked : sheet (serialise (one (p (k_of 3) (p (x_of 35) k)))) ≡
    text "  0  Two 9A PLUS\n" ++
    text "  1    Const 00  SInt mark 3  literal 0402\n" ++
    text "  2    Two 9A PLUS\n" ++
    text "  3      Const 00  other mark 35  literal 0701\n" ++
    text "  4      Const 00  SInt  literal 0402\n"
unfolding computing
sheet_marked = refl

-- two trees
pub sheet-trees : sheet (serialise (cons (n z) (one z))) ≡
    text "  0  One F0 NEGATION\n" ++
    text "  1    Zero FE Context\n" ++
    text "  2  Zero FE Context\n"
unfolding computing
sheet-trees = refl

pub sheet_refused : sheet (serialise (one (u 3))) ≡ text "refused 10 at 0\n"
unfolding computing
sheet_refused = refl
