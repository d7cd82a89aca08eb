-- Request A.5: "the meaning we sell includes which parameter a value came from", a parameter being a constant's mark. Said
-- of a forest that is interned, and of the tree that is written for it; `theory` (Promise/Parameters) proves
-- `ParametersKept` of every accepted forest. What it says of symbols has two conditions: the constant's symbol is one of
-- those of the state after it (`there`), and these are the first of those at the end (`Leads`).
-- In order: paths in an unfolding; the constants of a tree; a constant's symbol; the statement.
-- Assumes nothing.
use Rattle.std.specs.Prelude.{◌≡◌, ◌↔◌, List, [], ◌∷◌, ℕ, zero, suc, ◌<◌, length, Option, None, Some}
use Rattle.model.specs.Answer.{good}
use Rattle.model.specs.Tree.{Rec, mark, Tree, Trees, node, nil, cons, root}
use Rattle.model.specs.Opcodes.{Const}
use Rattle.model.specs.Forest.{trees_of}
use Rattle.model.specs.Unfold.{Unfolded, Unfoldeds, arg, lam, made, done, more, unfolded}
use Rattle.model.specs.Intern.{State, Env, sym_at, intern}
use Rattle.model.specs.Call.{tree_of}

-- ---- paths in an unfolding

-- operand j, from 0; a lambda's one operand is its body
unfoldable pub operand_in : Unfoldeds → ℕ → Option Unfolded
operand_in done j = None
operand_in (more u us) zero = Some u
operand_in (more u us) (suc j) = operand_in us j

unfoldable pub operand : Unfolded → ℕ → Option Unfolded
operand (arg e p) j = None
operand (lam s o a opts us) j = operand_in us j
operand (made r us) j = operand_in us j

-- what a path leads to: the numbers of the operands on the way down
unfoldable pub part_at : List ℕ → Unfolded → Option Unfolded
part_at [] u = Some u
part_at (j ∷ path) u = elim (operand u j) [ None ↦ None | Some v ↦ part_at path v ]

-- the constant r, with its class, mark and literal
abbrev pub ConstantAt : List ℕ → Unfolded → Rec → Type 0
ConstantAt path u r = part_at path u ≡ Some (made r done)

-- ---- the constants of a tree

abbrev mutual
  pub EachConstant : (Rec → Type 0) → Tree → Type 0
  EachConstant P (node r ts) = (r.shape ≡ Const → P r) × EachConstants P ts

  pub EachConstants : (Rec → Type 0) → Trees → Type 0
  EachConstants P nil = Unit {0}
  EachConstants P (cons t ts) = EachConstant P t × EachConstants P ts

-- ---- a constant's symbol

-- the constant r, read from some state, as some record, in some scope, with some ids bound, has symbol s, which is one of
-- those of the state st after it
pub record HasSymbol (r : Rec) (s : ℕ) (st : State) : Type 0 where
  pub is_constant : r.shape ≡ Const
  pub place : ℕ
  pub scope : ℕ
  pub env : Env
  pub before : State
  pub reads : intern (node r nil) place scope env before ≡ good (s, st)
  pub there : s < length st.syms

-- the symbols of st are the first of those of fin. That it is so with every state of an interning and the last one is to
-- be seen at `push`, which alone makes symbols and puts them at the end; proved is it of the reading of a checked tree
abbrev pub Leads : State → State → Type 0
Leads st fin = (i : ℕ) → i < length st.syms → sym_at st.syms i ≡ sym_at fin.syms i

-- ---- the statement

-- the constant r stands at a path of what the written tree unfolds to, and of what the root unfolds to
abbrev pub AlikeAt : List ℕ → ℕ × State → List ℕ → Rec → Type 0
AlikeAt forest o path r =
    ConstantAt path (unfolded (tree_of o)) r × ConstantAt path (unfolded (root (trees_of forest))) r

-- of an interned forest, with the root's symbol and the state at the end
pub record ParametersKept (forest : List ℕ) (o : ℕ × State) : Type 0 where
  -- "the symbol keeps the mark": a constant's symbol has the constant's own record, to the end
  pub keeps_mark : (r : Rec) (s : ℕ) (st : State) → HasSymbol r s st → Leads st o.1 →
      (sym_at o.1.syms s).rec ≡ r
  -- "Constants are equal only if their marks are too": no two with different marks ever have one symbol
  pub marks_apart : (r q : Rec) (s : ℕ) (st st' : State) → HasSymbol r s st → HasSymbol q s st' → Leads st o.1 →
      Leads st' o.1 → mark r.aux ≡ mark q.aux
  -- each constant of the written tree, with its mark, stands at some path of what the tree unfolds to, and at the same
  -- path of what the root unfolds to. Not said is that the path leads to this very record, and not to one equal to it
  pub stands : EachConstant (λ r. (path : List ℕ) × AlikeAt forest o path r) (tree_of o)
  -- whatever the path, a constant that stands there in one of the two stands there in the other
  pub same_path : (path : List ℕ) (r : Rec) →
      ConstantAt path (unfolded (tree_of o)) r ↔ ConstantAt path (unfolded (root (trees_of forest))) r
