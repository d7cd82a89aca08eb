-- Every definition of the written tree has its label, and no other record has one: there are as many symbols defined as ValDef
-- records (`defined_counted`), if no symbol but an argument has a ValDef's record.
--
-- In order: definitions in two parts; a record and its label; a tree; the written tree.
-- Assumes nothing.
use mathlib.Core.Path.{◌≡◌, refl, ap, ◌∙◌}
use mathlib.Core.Bool.{Bool, true, false}
use mathlib.Core.List.{List, [], ◌∷◌, ◌++◌}
use Prim.Native.Nat.{ℕ, suc, ◌+◌}
use native.Mathlib.Omega.{arith}
use lib.Dec.{eqb}
use lib.ListN.{length, length-append}
use Rattle.model.specs.Tree.{Rec, Row, rows, rows_of}
use Rattle.model.specs.Opcodes.{ValDef}
use Rattle.model.specs.Gate.{Graph, sym_of}
use Rattle.model.specs.Schedule.{is_arg}
use Rattle.model.specs.Template.{definitions}
use Rattle.model.specs.Labels.{Label, no_label, defines, block_for, LTree, LTrees, lnode, lnil, lcons, erase, erase_all}
use Rattle.model.specs.Labels.{labelled, symbol_here, defined_of, defined_in}
use Rattle.labels.proofs.Records.{All, AllOf, labelled_all}

-- ---- definitions in two parts

definitions_append : (xs ys : List Row) → definitions (xs ++ ys) ≡ definitions xs + definitions ys
unfolding definitions
definitions_append [] ys = omega arith
definitions_append (x ∷ xs) ys = go (eqb x.rec.shape ValDef) (definitions_append xs ys)
  where
    go : (b : Bool) → definitions (xs ++ ys) ≡ definitions xs + definitions ys →
        ◌≡◌ {A = ℕ} (elim b [ true ↦ suc (definitions (xs ++ ys)) | false ↦ definitions (xs ++ ys) ])
        (elim b as (λ z. ℕ) [ true ↦ suc (definitions xs) | false ↦ definitions xs ] + definitions ys)
    go true e = omega arith
    go false e = e

-- ---- a record and its label

-- a ValDef's record is labelled as a definition, and no other is
abbrev Told : Label → Label → Rec → Type 0
Told p no_label r = eqb r.shape ValDef ≡ false
Told p (defines s) r = eqb r.shape ValDef ≡ true
Told p (block_for sc) r = eqb r.shape ValDef ≡ false

here_counted : (p l : Label) (r : Rec) (n : ℕ) → Told p l r →
    length (symbol_here l) + n ≡ elim (eqb r.shape ValDef) as (λ z. ℕ) [ true ↦ suc n | false ↦ n ]
here_counted p no_label r n h = rw h (omega arith)
here_counted p (defines s) r n h = rw h (omega arith)
here_counted p (block_for sc) r n h = rw h (omega arith)

-- ---- a tree

mutual
  unfolding defined_of definitions rows erase

  tree_counted : (p : Label) (t : LTree) → All Told p t → length (defined_of t) ≡ definitions (rows (erase t))
  tree_counted p (lnode l r ts) h =
      length-append (symbol_here l) (defined_in ts)
      ∙ ap (λ (n : ℕ). length (symbol_here l) + n) (trees_counted l ts h.1)
      ∙ here_counted p l r (definitions (rows_of (erase_all ts))) h.0

  trees_counted : (p : Label) (ts : LTrees) → AllOf Told p ts →
      length (defined_in ts) ≡ definitions (rows_of (erase_all ts))
  trees_counted p lnil h = refl
  trees_counted p (lcons t ts) h =
      omega (
        arith,
        length-append (defined_of t) (defined_in ts),
        tree_counted p t h.0,
        trees_counted p ts h.1,
        definitions_append (rows (erase t)) (rows_of (erase_all ts)),
      )

-- ---- the written tree

-- no symbol but an argument has a ValDef's record
abbrev pub NoDefs : Graph → Type 0
NoDefs g = (s : ℕ) → is_arg (sym_of g s).node ≡ false → eqb (sym_of g s).rec.shape ValDef ≡ false

pub defined_counted : (g : Graph) → NoDefs g → (root : ℕ) →
    length (defined_of (labelled g root)) ≡ definitions (rows (erase (labelled g root)))
defined_counted g h root = tree_counted no_label (labelled g root) (labelled_all g Told record {
  use_of = λ p i. refl;
  block = λ p sc. refl;
  lambda = λ p n lit. refl;
  own = λ p s e. h s e;
  definition = λ sc s i env e. refl;
} root no_label)
