-- The written tree has no opcode, other than 00, with two shapes, since the forest has none (`written_one_shape`). Each
-- record of it is a symbol's, which has the shape that the forest gives its opcode, or one of those that the pass makes: a
-- use, a definition, a block or a lambda, whose opcodes check 5 binds to their shapes, in the forest too.
-- In order: rows by a table of opcodes; the forest's records; the written tree's records; the law.
-- Assumes nothing.
use mathlib.Core.Path.{◌≡◌, refl, ap, sym, ◌∙◌, subst}
use mathlib.Core.Logic.{inl, inr}
use mathlib.Core.Bool.{Bool, true, false, not, ◌&&◌}
use Rattle.std.specs.Prelude.{Option, None, Some}
use Rattle.std.proofs.lemmas.Option.{same_Some}
use mathlib.Core.List.{List, [], ◌∷◌, ◌++◌, map}
use Prim.Native.Nat.{ℕ}
use native.Mathlib.Decide.{dec_lt}
use native.Mathlib.Omega.{arith}
use lib.Dec.{eqb}
use lib.ListN.{length, get_or-eq_default}
use borrow.Author.Tests.{eqb-true, eq-eqb}
use Rattle.model.specs.Answer.{good}
use Rattle.model.specs.Tree.{Rec, Row, Tree, Trees, node, nil, cons, rows_of}
use Rattle.model.specs.Shape.{Pairs, shape_of, both_ways, agrees}
use Rattle.model.specs.Forest.{rows_in, trees_of, opcode_shapes, other_shape, check16}
use Rattle.model.specs.Accept.{checks}
use Rattle.model.specs.Places.{no_record, record_at}
use Rattle.model.specs.Intern.{State, intern_forest, intern_last}
use Rattle.model.specs.Gate.{reachable, sym_of}
use Rattle.model.specs.Call.{tree_of, reached_of}
use Rattle.model.specs.Labels.{Label, no_label, LTree, LTrees, lnode, lnil, lcons, erase, erase_all, labelled}
use Rattle.laws.proofs.Apart.{none_some}
use Rattle.laws.proofs.Members.{clash}
use Rattle.laws.proofs.Opcodes.{or_else, shape_joined}
use Rattle.laws.specs.Clear.{Clear}
use Rattle.laws.proofs.Clear.{clear_first}
use Rattle.laws.proofs.Checks.{Passes}
use Rattle.laws.proofs.Holds.{holds_good}
use Rattle.laws.proofs.Symbols.{every_sym}
use Rattle.labels.proofs.Erased.{labelled_erased}
use Rattle.labels.proofs.Records.{All, AllOf, labelled_all}
use Rattle.theory.specs.Checked.{Fine, Fines}
use Rattle.theory.proofs.Acceptance.Each.{Each, EachIn, EachRow, forest_each, trees_rows}
use Rattle.theory.proofs.Acceptance.Records.{shape_bound}
use Rattle.theory.proofs.Acceptance.Accept.{checked-trees}
use Rattle.theory.proofs.Acceptance.OneShape.{ByTable, OneShape, own_shape}
use Rattle.theory.proofs.Interning.Records.{Recorded, recorded_at, records_kept}

-- ---- rows by a table

module _ (table : Pairs) where
  -- a shape that rows by the table give an opcode is the table's
  given_shape : (rs : List Row) → EachRow (ByTable table) rs → (o s : ℕ) → eqb o 0 ≡ false →
      shape_of (opcode_shapes rs) o ≡ Some s → shape_of table o ≡ Some s
  unfolding shape_of
  given_shape [] h o s z e = absurd (none_some e)
  given_shape (r ∷ rs) h o s z e = go (eqb r.rec.opcode o) refl h.0 (given_shape rs h.1 o s z) e
    where
      go : (b : Bool) → eqb r.rec.opcode o ≡ b → ByTable table r.rec →
          (shape_of (opcode_shapes rs) o ≡ Some s → shape_of table o ≡ Some s) →
          elim b as (λ z. Option ℕ) [ true ↦ Some r.rec.shape | false ↦ shape_of (opcode_shapes rs) o ] ≡ Some s → shape_of table o ≡ Some s
      go true f (inl k) rest e = absurd (clash (eqb o 0) (eq-eqb o 0 (sym (eqb-true _ _ f) ∙ k)) z)
      go true f (inr k) rest e = ap (shape_of table) (sym (eqb-true _ _ f)) ∙ k ∙ e
      go false f k rest e = rest e

  module _ (all : List Row) (shaped : EachRow (ByTable table) all) where
    -- none of them has another shape in the others
    same_shape : (r : Rec) → ByTable table r → other_shape all r ≡ false
    unfolding other_shape
    same_shape r h = go (eqb r.opcode 0) refl (shape_of (opcode_shapes all) r.opcode) refl h
      where
        go : (b : Bool) → eqb r.opcode 0 ≡ b → (o : Option ℕ) → shape_of (opcode_shapes all) r.opcode ≡ o → ByTable table r →
            (not b && elim o [ None ↦ false | Some s ↦ not (eqb s r.shape) ]) ≡ false
        go true e o f k = refl
        go false e None f k = refl
        go false e (Some s) f (inl k) = absurd (clash (eqb r.opcode 0) (eq-eqb r.opcode 0 k) e)
        go false e (Some s) f (inr k) =
            ap not (eq-eqb s r.shape (same_Some _ _ (sym (given_shape all shaped r.opcode s e f) ∙ k)))

    none_other : (rs : List Row) → EachRow (ByTable table) rs → Clear (map (λ r. other_shape all r.rec) rs)
    none_other [] h = tt
    none_other (r ∷ rs) h = (same_shape r.rec h.0, none_other rs h.1)

    one_shape : OneShape all
    one_shape = clear_first _ (none_other all shaped)

-- ---- the forest's records

module _ (forest : List ℕ) where
  -- the opcodes that check 5 binds both ways, and then those of the forest
  abbrev table : Pairs
  table = both_ways ++ opcode_shapes (rows_in forest)

  module _ (pass : Passes (checks forest)) where
    own : (p : ℕ) → ByTable (opcode_shapes (rows_in forest)) (record_at forest p).rec
    unfolding checks check16
    own p = elim (dec_lt p (length (rows_in forest))) [
      | yes l ↦ own_shape (rows_in forest) pass.1.1.1.1.1.1.0 p l
      | no l ↦ inl (ap (λ (r : Row). r.rec.opcode) (get_or-eq_default (rows_in forest) no_record (omega (arith, l))))
    ]

    by_table : (r : Rec) → agrees r ≡ true → ByTable (opcode_shapes (rows_in forest)) r → ByTable table r
    by_table r a (inl k) = inl k
    by_table r a (inr k) = inr (shape_joined both_ways _ r.opcode ∙ go (shape_of both_ways r.opcode) refl)
      where
        go : (o : Option ℕ) → shape_of both_ways r.opcode ≡ o →
            or_else o (shape_of (opcode_shapes (rows_in forest)) r.opcode) ≡ Some r.shape
        go None e = k
        go (Some s) e = ap Some (shape_bound r s a e)

    mutual
      tree_shaped : (t : Tree) → Each (ByTable (opcode_shapes (rows_in forest))) t → Fine t → Each (ByTable table) t
      tree_shaped (node r ts) h f = (by_table r f.1 h.0, trees_shaped ts h.1 f.2)

      trees_shaped : (ts : Trees) → EachIn (ByTable (opcode_shapes (rows_in forest))) ts → Fines ts →
          EachIn (ByTable table) ts
      trees_shaped nil h f = tt
      trees_shaped (cons t ts) h f = (tree_shaped t h.0 f.0, trees_shaped ts h.1 f.1)

    forest_shaped : EachIn (ByTable table) (trees_of forest)
    forest_shaped =
        trees_shaped (trees_of forest) (forest_each (ByTable (opcode_shapes (rows_in forest))) forest own)
        (checked-trees forest pass).fine

-- ---- the written tree's records

mutual
  unfolding erase

  all_erased : (P : Rec → Type 0) (p : Label) (t : LTree) → All (λ p l r. P r) p t → Each P (erase t)
  all_erased P p (lnode l r ts) h = (h.0, all_of_erased P l ts h.1)

  all_of_erased : (P : Rec → Type 0) (p : Label) (ts : LTrees) → AllOf (λ p l r. P r) p ts → EachIn P (erase_all ts)
  all_of_erased P p lnil h = tt
  all_of_erased P p (lcons t ts) h = (all_erased P p t h.0, all_of_erased P p ts h.1)

module _ (forest : List ℕ) (pass : Passes (checks forest)) (o : ℕ × State)
    (is : intern_last (intern_forest (trees_of forest)) ≡ good o) where
  symbols_shaped : Recorded (ByTable (table forest)) o.1.syms
  symbols_shaped =
      holds_good _ is (records_kept (ByTable (table forest)) (λ r n h. h) (trees_of forest) (forest_shaped forest pass))

  written_shaped : Each (ByTable (table forest)) (tree_of o)
  unfolding reachable tree_of shape_of both_ways
  written_shaped =
      subst (Each (ByTable (table forest))) (labelled_erased o.1.syms o.1.scopes o.0)
      (all_erased (ByTable (table forest)) no_label (labelled (reached_of o) o.0)
      (labelled_all (reached_of o) (λ p l r. ByTable (table forest) r) record {
        use_of = λ p i. inr refl;
        block = λ p sc. inr refl;
        lambda = λ p n lit. inr refl;
        own = λ p s e. own s;
        definition = λ sc s i env e. inr refl;
      } o.0 no_label))
    where
      own : (s : ℕ) → ByTable (table forest) (sym_of (reached_of o) s).rec
      own =
          every_sym (λ s y. ByTable (table forest) y.rec) o.1.syms (recorded_at (ByTable (table forest)) o.1.syms symbols_shaped)
          (λ s. inl refl)

  -- ---- the law

  pub written_one_shape : OneShape (rows_of (cons (tree_of o) nil))
  written_one_shape =
      one_shape (table forest) _ (trees_rows (ByTable (table forest)) (cons (tree_of o) nil) (written_shaped, tt))
