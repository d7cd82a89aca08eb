-- Failing operations (request A.8): "Customers write divisions." What an operation or a leaf gives may be missing, and then
-- so is the value of all that needs it. If the root of a forest of one tree with no lambda and no SelectField has a value,
-- the written tree has that value. `theory` (Failing) proves `ValuesKept`. "The reverse does not hold, since an unused
-- definition is dropped": FailingExamples computes such a forest, one whose value is kept, and one each with an environment
-- tree and with a SelectField whose value is lost.
-- The value of a tree takes nothing from the pass.
-- In order: values that may be missing; what operations mean; ids in force; operands, of which some may be skipped; the
-- value of a tree; the forests of the request; the statement, of the tree that document 01 defines, of the call, and of
-- every forest and every call.
-- Assumes nothing.
use Rattle.std.specs.Prelude.{◌≡◌, Bool, true, false, not, ◌&&◌, ◌||◌, List, [], ◌∷◌, ℕ, suc, eqb, length, get_or, take, Option, None, Some}
use Rattle.model.specs.Tree.{Rec, Tree, Trees, node, nil, cons, top, root}
use Rattle.model.specs.Opcodes.{FuncValue, SelectField, IfOp, AndOp, OrOp}
use Rattle.model.specs.Forest.{tree_count, trees_of}
use Rattle.model.specs.Binding.{Kind, kind, val_use, val_def, block, lambda, field, other, id_of}
use Rattle.model.specs.Intern.{State}
use Rattle.model.specs.Call.{Call, tree_of, numbers, out_after}
use Rattle.model.specs.Places.{record_at}
use Rattle.model.specs.Trace.{Interned}
use Rattle.model.specs.Conditions.{Accepted}

-- ---- values that may be missing: `none` where finding one fails

-- go on with a value, if there is one
abbrev pub ◌>>=◌ : {A B : Type 0} → Option A → (A → Option B) → Option B
◌>>=◌ None f = None
◌>>=◌ (Some a) f = f a

infixl 10 ◌>>=◌
-- ---- what operations mean, with values of any type

pub record Semantics (W : Type 0) : Type 0 where
  -- "the meaning of an operation or a leaf": "any function of its shape, opcode, aux, literal and operands' values,
  -- allowed to fail". The values are those of the operands that were not skipped, in their order
  pub apply : Rec → List W → Option W
  -- "IF takes one branch": operand 1 if this holds of the condition's value, else operand 2
  pub takes : W → Bool
  -- "ED, EC may skip the right": so they do if this holds of the opcode and the left operand's value
  pub skips : ℕ → W → Bool

-- ---- ids in force, with their values, the newest first

abbrev pub Values : Type 0 → Type 0
Values W = List (ℕ × W)

-- the value of a use, by its id; an id not in force is never met in an accepted forest
unfoldable pub value_in : {W : Type 0} → Values W → ℕ → Option W
value_in [] i = None
value_in (m ∷ ms) i = elim (eqb m.0 i) [ true ↦ Some m.1 | false ↦ value_in ms i ]

module _ {W : Type 0} (s : Semantics W) where
  -- ---- operands: "all operands first, save that IF takes one branch and ED, EC may skip the right"

  -- operand j, from 0, of an opcode is skipped, where operand 0 gave this: "Skipping depends only on the value of the
  -- condition or left operand"
  unfoldable pub skipped : ℕ → ℕ → Option W → Bool
  skipped op j None = false
  skipped op j (Some v) =
      (eqb op IfOp && ((eqb j 1 && not (s.takes v)) || (eqb j 2 && s.takes v)))
      || ((eqb op AndOp || eqb op OrOp) && (eqb j 1 && s.skips op v))

  -- the values of the operands from j on that are not skipped; each of these must have one
  unfoldable pub found_from : ℕ → ℕ → Option W → List (Option W) → Option (List W)
  found_from op j c [] = Some []
  found_from op j c (o ∷ os) =
      elim (skipped op j c) [
        | true ↦ found_from op (suc j) c os
        | false ↦ do
          v ← o
          vs ← found_from op (suc j) c os
          Some (v ∷ vs)
      ]

  -- an operation or a leaf, by what its operands give
  unfoldable pub applied : Rec → List (Option W) → Option W
  applied r os = do
    vs ← found_from r.opcode 0 (get_or os 0 None) os
    s.apply r vs

  -- ---- the value of a tree: "Values are found eagerly: a definition before what follows it"

  -- a record by its kind: os is what its children give as operands, o what they give as a block's children. A lambda has
  -- no value, since the request leaves lambdas out; a SelectField is an operation, so that it can be said what is lost
  -- with it
  unfoldable pub eval_kind : Kind → Rec → Values W → List (Option W) → Option W → Option W
  eval_kind val_use r ms os o = value_in ms (id_of r)
  eval_kind val_def r ms os o = o
  eval_kind block r ms os o = o
  eval_kind lambda r ms os o = None
  eval_kind field r ms os o = applied r os
  eval_kind other r ms os o = applied r os

  unfoldable mutual
    pub eval : Tree → Values W → Option W
    eval (node r ts) ms = eval_kind (kind r.shape) r ms (eval_all ts ms) (eval_last ts ms)

    pub eval_all : Trees → Values W → List (Option W)
    eval_all nil ms = []
    eval_all (cons t ts) ms = eval t ms ∷ eval_all ts ms

    -- what a block of these children gives; a definition's one child gives its value
    pub eval_last : Trees → Values W → Option W
    eval_last nil ms = None
    eval_last (cons t nil) ms = eval t ms
    eval_last (cons t (cons u us)) ms = do
      v ← eval t ms
      eval_last (cons u us) ((id_of (top t), v) ∷ ms)

-- ---- the forests of the request: "of one tree with no lambda and no SelectField"

pub record Simple (forest : List ℕ) : Type 0 where
  pub one_tree : tree_count forest ≡ 1
  pub no_lambda : (p : ℕ) → (record_at forest p).rec.shape ≡ FuncValue → ⊥
  pub no_field : (p : ℕ) → (record_at forest p).rec.shape ≡ SelectField → ⊥

-- ---- the statement: "If the root has a value, the written tree has that value"

-- of the tree that document 01 defines for an accepted forest: o is the root's symbol, with all symbols and scopes
abbrev pub KeepsValue : {W : Type 0} → Semantics W → List ℕ → Type 0
KeepsValue {W} s forest =
    Accepted forest → (o : ℕ × State) → Interned forest o → (v : W) →
    eval s (root (trees_of forest)) [] ≡ Some v → eval s (tree_of o) [] ≡ Some v

-- of a call, with any output of its length: after number 0, the tree read back from the written bytes has the root's value
abbrev pub CallKeepsValue : {W : Type 0} → Semantics W → Call → Type 0
CallKeepsValue {W} s c =
    (out : List ℕ) → length out ≡ c.room → (numbers c).number ≡ 0 → (v : W) →
    eval s (root (trees_of c.forest)) [] ≡ Some v →
    eval s (root (trees_of (take (numbers c).len (out_after c out)))) [] ≡ Some v

-- with values of any type, whatever operations mean
abbrev pub ValuesKept : Type 1
ValuesKept =
    (W : Type 0) (s : Semantics W) →
    ((forest : List ℕ) → Simple forest → KeepsValue s forest) × ((c : Call) → Simple c.forest → CallKeepsValue s c)
