-- One opcode, one shape, computed: an opcode as Two and as ByIndex, in one tree and in two; what is no fault, 00 under
-- both its shapes and ByIndex with two and three children; 16 before 8, and 7 before 16; the archive lister's line.
-- Assumes nothing.
use Rattle.std.specs.Prelude.{ℕ, zero, suc, ◌≡◌, refl, [], ◌∷◌}
use Rattle.model.specs.Answer.{refused, good}
use Rattle.model.specs.Tree.{rec, Tree, Trees, node, nil, cons, serialise}
use Rattle.model.specs.Accept.{accept}
use Rattle.model.specs.Materialize.{val_def_of}
use Rattle.model.specs.Text.{text}
use Rattle.model.specs.Lister.{lister}
use Rattle.model.specs.ArchiveLister.{archive_lister}
use Rattle.model.specs.Computing.{computing}
use Rattle.model.specs.Examples.{z, k, n, p, tuple, one}

-- ByIndex under 9A, which p has as Two
abbrev b : Trees → Tree
b ts = node (rec 24 0x9A 0 []) ts

abbrev two : Trees
two = cons z (cons z nil)

-- Unparsed
abbrev raw : Tree
raw = node (rec 1 0 0 (7 ∷ [])) nil

pub in_one_tree : accept (serialise (one (tuple (p z z) (b two)))) ≡ refused 16 4
unfolding computing
in_one_tree = refl

-- the root's is the later one
pub in_two_trees : accept (serialise (cons (b two) (one (n (p z z))))) ≡ refused 16 4
unfolding computing
in_two_trees = refl

-- the last record
pub at_the_end : accept (serialise (one (tuple (n z) (node (rec 2 0xF0 0 []) nil)))) ≡ refused 16 3
unfolding computing
at_the_end = refl

pub zero_zero : accept (serialise (one (p k raw))) ≡ good (one (p k raw))
unfolding computing
zero_zero = refl

pub two_or_three : accept (serialise (one (tuple (b two) (b (cons z two))))) ≡ good (one (tuple (b two) (b (cons z two))))
unfolding computing
two_or_three = refl

-- a definition out of place at 1, before the place of 16
pub before_8 : accept (serialise (one (tuple (val_def_of 1 (p z z)) (b two)))) ≡ refused 16 5
unfolding computing
before_8 = refl

-- n of n of .., so often
abbrev nested : ℕ → Tree → Tree
nested zero t = t
nested (suc m) t = n (nested m t)

-- too deep at 65, after the place of 16, which is 1
pub after_7 : accept (serialise (one (n (node (rec 22 0xF0 0 []) (one (nested 63 z)))))) ≡ refused 7 64
unfolding computing
after_7 = refl

pub archive_line : archive_lister (serialise (one (tuple (p z z) (b two)))) ≡ text "mixed 9A\n"
unfolding computing
archive_line = refl

pub lister_line : lister (serialise (one (tuple (p z z) (b two)))) ≡ text "refused 16 at 4\n"
unfolding computing
lister_line = refl

-- elsewhere it is the lister's
pub archive_else : archive_lister (serialise (one (p z z))) ≡ lister (serialise (one (p z z)))
unfolding computing
archive_else = refl
