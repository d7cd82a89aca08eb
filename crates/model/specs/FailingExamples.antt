-- What becomes of a value, computed: a forest whose value is kept; one that gains a value, since an unused definition is
-- dropped; and one with an environment tree and one with a SelectField, whose value is lost.
-- In order: the letters; what they mean; the root's value and the written tree's; the four forests.
-- Assumes nothing.
use Rattle.std.specs.Prelude.{ℕ, zero, suc, ◌+◌, ◌/◌, ◌≡◌, refl, true, false, not, List, [], ◌∷◌, eqb, Option, None, Some}
use Rattle.model.specs.Answer.{refused, good}
use Rattle.model.specs.Tree.{Rec, rec, Tree, Trees, node, nil, cons, root, serialise}
use Rattle.model.specs.Forest.{trees_of}
use Rattle.model.specs.Opcodes.{Two, SelectField, SelectFieldOp, IfOp, AndOp, HeightOp}
use Rattle.model.specs.Call.{ample, run}
use Rattle.model.specs.Failing.{Semantics, eval}
use Rattle.model.specs.Computing.{computing, evaluating}
use Rattle.model.specs.Examples.{z, h, k, p, if, s1, u, block1, one}

-- ---- the letters: a division, ED and field 2, besides those of Examples

abbrev pub div : Tree → Tree → Tree
div a b = node (rec Two 0x9D 0 []) (cons a (cons b nil))

abbrev pub and : Tree → Tree → Tree
and a b = node (rec Two AndOp 0 []) (cons a (cons b nil))

abbrev pub s2 : Tree → Tree
s2 a = node (rec SelectField SelectFieldOp 0 (2 ∷ [])) (cons a nil)

-- ---- what they mean

-- what a list gives for a number; none, if it has nothing for it
pub given_for : List (ℕ × Option ℕ) → ℕ → Option ℕ
given_for [] i = None
given_for (e ∷ es) i = elim (eqb e.0 i) [ true ↦ e.1 | false ↦ given_for es i ]

pub quotient : ℕ → ℕ → Option ℕ
quotient a zero = None
quotient a (suc b) = Some (a / suc b)

-- HEIGHT is 5 and k is 0; z fails, like a register that is not there. Field 1 is 0, and field 2 fails. p adds, a division
-- fails at 0, IF gives the branch taken, and ED the last value that it finds
pub arithmetic : Rec → List ℕ → Option ℕ
arithmetic r [] = given_for ((HeightOp, Some 5) ∷ (0, Some 0) ∷ []) r.opcode
arithmetic r (a ∷ []) =
    elim r.lit [ [] ↦ given_for ((AndOp, Some a) ∷ []) r.opcode | i ∷ bs ↦ given_for ((1, Some 0) ∷ []) i ]
arithmetic r (a ∷ b ∷ []) =
    given_for ((0x9A, Some (a + b)) ∷ (0x9D, quotient a b) ∷ (IfOp, Some b) ∷ (AndOp, Some b) ∷ []) r.opcode
arithmetic r (a ∷ b ∷ c ∷ vs) = None

-- 0 is false: IF takes its second branch, and ED skips the right
pub numbered : Semantics ℕ
numbered = record { apply = arithmetic; takes = λ v. not (eqb v 0); skips = λ op v. eqb v 0 }

-- ---- the root's value; what the call writes, and the value of the tree read back from it

pub root_value : Trees → Option ℕ
root_value ts = eval numbered (root ts) []

pub wrote : Trees → List ℕ
wrote ts = elim (run (ample (serialise ts))) [ refused n p ↦ [] | good w ↦ w.bytes ]

pub written_value : Trees → Option ℕ
written_value ts = eval numbered (root (trees_of (wrote ts))) []

computed : Unit {0}
unfolding computing evaluating given_for quotient arithmetic numbered root_value wrote written_value
computed = tt

-- ---- kept: the branch that is not taken would fail, and the definition stays in the other

abbrev pub kept : Trees
kept = one (if h (p (div h h) (div h h)) (div h k))

pub kept-written : wrote kept ≡ serialise (one (if h (block1 1 (div h h) (p (u 1) (u 1))) (div h k)))
unfolding computed
kept-written = refl

pub kept_values : (root_value kept ≡ Some 2) × (written_value kept ≡ Some 2)
unfolding computed
kept_values = (refl, refl)

-- ---- gained: the definition fails, and is not used

abbrev pub unused : Trees
unused = one (block1 1 (div h k) h)

pub unused-written : wrote unused ≡ serialise (one h)
unfolding computed
unused-written = refl

pub unused_values : (root_value unused ≡ None) × (written_value unused ≡ Some 5)
unfolding computed
unused_values = (refl, refl)

-- ---- lost, with an environment tree: it makes z, in the outermost scope, so z is defined in that scope

abbrev pub environment : Trees
environment = cons z (one (and k (p z z)))

pub environment-written : wrote environment ≡ serialise (one (block1 1 z (and k (p (u 1) (u 1)))))
unfolding computed
environment-written = refl

pub environment_values : (root_value environment ≡ Some 0) × (written_value environment ≡ None)
unfolding computed
environment_values = (refl, refl)

-- ---- lost, with a SelectField: field 1 makes field 2, too, in the outermost scope

abbrev pub fields : Trees
fields = one (and (s1 h) (p (s2 h) (s2 h)))

pub fields-written : wrote fields ≡ serialise (one (block1 1 (s2 h) (and (s1 h) (p (u 1) (u 1)))))
unfolding computed
fields-written = refl

pub fields_values : (root_value fields ≡ Some 0) × (written_value fields ≡ None)
unfolding computed
fields_values = (refl, refl)
