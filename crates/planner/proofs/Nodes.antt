-- A symbol planned. In order: trees in general; a use; a symbol without an id; leaves; an operation's row; a lambda.
-- Assumes nothing.
use Prim.Native.Nat.{ℕ, zero, suc, ◌+◌, ◌<◌}
use mathlib.Core.Path.{◌≡◌, refl, sym, ap, ◌∙◌, subst}
use Rattle.std.specs.Prelude.{Option, None, Some}
use mathlib.Core.Logic.{◌⊎◌, inl, inr}
use mathlib.Core.List.{List, [], ◌∷◌}
use native.Mathlib.Omega.{arith}
use lib.ListN.{get_or}
use Rattle.model.specs.Tree.{Row, Tree, rows, depth}
use Rattle.model.specs.Intern.{Env}
use Rattle.model.specs.Gate.{sym_of}
use Rattle.model.specs.Gate as model
use Rattle.model.specs.Materialize.{val_use_of, id_given, build_node, build_step, build_value, process_scope}
use Rattle.laws.proofs.Trees.{use_rows, use_depth}
use Rattle.laws.proofs.Building.{build_step_lem, build_use}
use Rattle.key.specs.declared.Leaf.{Leaf}
use Rattle.key.specs.declared.Node.TheVariants.{Const, Unparsed, Arg}
use Rattle.key.specs.Key.{symbol_at}
use Rattle.plan.specs.declared.Planned.TheVariants.{Copy, ValUse}
use Rattle.plan.specs.Plan.{row_for}
use Rattle.planner.specs.declared.Plan.{Plan}
use Rattle.planner.specs.Grew.{Grows, Grown}
use Rattle.planner.specs.declared.source.Source.{Source}
use Rattle.planner.specs.Building.{Maps, id_in, operand_tree}
use Rattle.planner.specs.Sources.{GraphIn}
use Rattle.planner.specs.Planning.{Plans, fresh_tree}
use Rattle.planner.proofs.Growing.{over_then, grows_as, grows_few}
use Rattle.planner.proofs.Loaded.{fresh_is, rec_of_lem, source_fits, leaf_is}
use Rattle.planner.proofs.Graphs.{kids_low, body_lower}

-- ---- trees in general

module _ {x : Source} {ids pl : List ℕ} {p : Plan} {above : ℕ} {pl' : List ℕ} {r : Option Plan} where
  -- the same tree, otherwise said
  plans_as : {t u : model.Graph → ℕ → Env → Tree} → Plans x ids pl p above t pl' r
      → ((gr : model.Graph) (sc : ℕ) (env : Env) → GraphIn x gr → Maps ids env
      → t gr sc env ≡ u gr sc env)
      → Plans x ids pl p above u pl' r
  plans_as h e = record {
    grown = λ gr sc env st maps.
        subst (λ (u : Tree). Grown x.forest.now pl p above u pl' r) (e gr sc env st maps) (h.grown gr sc env st maps);
    few = h.few;
  }

  -- a tree of one row
  plans_row : {row : Row} → Grows x.forest.now pl p (row ∷ []) (above + 1) pl' r
      → (tree : model.Graph → ℕ → Env → Tree)
      → ((gr : model.Graph) (sc : ℕ) (env : Env) → GraphIn x gr → Maps ids env
      → (rows (tree gr sc env) ≡ row ∷ []) × (depth (tree gr sc env) ≡ 1))
      → Plans x ids pl p above tree pl' r
  plans_row h tree e = record {
    grown = λ gr sc env st maps.
        grows_as h (sym (e gr sc env st maps).0) (omega (arith, (e gr sc env st maps).1));
    few = grows_few h;
  }

  -- an operand in a thunk
  pub plans_thunk : (s last : ℕ) {scope : Option ℕ} (b : ℕ) → scope ≡ Some b
      → Plans x ids pl p above (λ gr sc env. process_scope gr (build_value gr) s b env last) pl' r
      → Plans x ids pl p above (λ gr sc env. operand_tree scope gr s sc env last) pl' r
  plans_thunk s last b e h =
      plans_as h (λ gr sc env st maps. ap (λ (y : Option ℕ). operand_tree y gr s sc env last) (sym e))

-- a tree whose first row has no room
pub plans_over : {x : Source} {ids pl : List ℕ} {p : Plan} {above d : ℕ} {pl' : List ℕ} {row : Row}
    → Grows x.forest.now pl p (row ∷ []) d pl' None → (tree : model.Graph → ℕ → Env → Tree)
    → ((gr : model.Graph) (sc : ℕ) (env : Env) → GraphIn x gr → Maps ids env
    → (rest : List Row) × (rows (tree gr sc env) ≡ row ∷ rest))
    → Plans x ids pl p above tree pl' None
plans_over h tree starts = record {
  grown = λ gr sc env st maps. let w = starts gr sc env st maps in record { is = rw w.1 (over_then h.is w.0) };
  few = tt;
}

-- ---- symbol s

use_row : (bs : List ℕ) (i : ℕ) → rows (val_use_of i) ≡ row_for bs (ValUse i) ∷ []
unfolding row_for
use_row bs i = use_rows i

pub given_some : (i : ℕ) → (i ≡ 0 → ⊥) → id_in i ≡ Some i
given_some zero n = absurd (n refl)
given_some (suc i) n = refl

module _ {x : Source} {ids pl : List ℕ} {p : Plan} {above : ℕ} {pl' : List ℕ} {r : Option Plan} (s : ℕ)
    (lt : s < x.graph.symbols) (last : ℕ) where
  -- its id
  pub plans_use : (get_or ids s 0 ≡ 0 → ⊥) → Grows x.forest.now pl p (row_for x.forest.now (ValUse (get_or ids s 0)) ∷ []) (above + 1) pl' r
      → Plans x ids pl p above (λ gr sc env. build_value gr s sc env last) pl' r
  plans_use n h =
      plans_row h (λ gr sc env. build_value gr s sc env last)
      (λ gr sc env st maps. let e = is gr sc env st maps in
      (ap rows e ∙ use_row x.forest.now (get_or ids s 0), ap depth e ∙ use_depth (get_or ids s 0)))
    where
      is : (gr : model.Graph) (sc : ℕ) (env : Env) → GraphIn x gr → Maps ids env
          → build_value gr s sc env last ≡ val_use_of (get_or ids s 0)
      is gr sc env st maps =
          build_use gr (kids_low st) s (body_lower st s lt) sc env last (get_or ids s 0)
          (maps.is s (omega (arith, x.graph.scoped.few)) ∙ given_some (get_or ids s 0) n)

  -- it has no id
  pub plans_new : get_or ids s 0 ≡ 0 → Plans x ids pl p above (fresh_tree s last) pl' r
      → Plans x ids pl p above (λ gr sc env. build_value gr s sc env last) pl' r
  unfolding build_step
  plans_new z h =
      plans_as h (λ gr sc env st maps.
      let e : id_given env s ≡ None = maps.is s (omega (arith, x.graph.scoped.few)) ∙ ap id_in z in
      sym (build_step_lem gr (kids_low st) s (body_lower st s lt) sc env last ∙ rw (e, build_step)))

  -- a record of the forest, as it stands
  pub plans_leaf : (l : Leaf) → ((symbol_at x.graph.words.now s).node ≡ Const l) ⊎ ((symbol_at x.graph.words.now s).node ≡ Unparsed l)
      → Grows x.forest.now pl p (row_for x.forest.now (Copy l.source) ∷ []) (above + 1) pl' r
      → Plans x ids pl p above (fresh_tree s last) pl' r
  unfolding build_node
  plans_leaf l (inl e) h =
      plans_row h (fresh_tree s last) (λ gr sc env st maps.
      let q = leaf_is x.forest.now l.source (source_fits x s lt (Const l) e).0 (sym_of gr s).rec (rec_of_lem x s lt (Const l)
      e gr st) in
      let f = fresh_is x s lt (Const l) e gr sc env last st in
      (ap rows f ∙ q.0, ap depth f ∙ q.1))
  plans_leaf l (inr e) h =
      plans_row h (fresh_tree s last) (λ gr sc env st maps.
      let q = leaf_is x.forest.now l.source (source_fits x s lt (Unparsed l) e).0 (sym_of gr s).rec (rec_of_lem x s lt
      (Unparsed l) e gr st) in
      let f = fresh_is x s lt (Unparsed l) e gr sc env last st in
      (ap rows f ∙ q.0, ap depth f ∙ q.1))

  pub plans_argument : (l : Leaf) → (symbol_at x.graph.words.now s).node ≡ Arg l
      → Grows x.forest.now pl p (row_for x.forest.now (ValUse 0) ∷ []) (above + 1) pl' r
      → Plans x ids pl p above (fresh_tree s last) pl' r
  unfolding build_node
  plans_argument l e h =
      plans_row h (fresh_tree s last) (λ gr sc env st maps.
      let f = fresh_is x s lt (Arg l) e gr sc env last st in
      (ap rows f ∙ use_row x.forest.now 0, ap depth f ∙ use_depth 0))
