-- The written tree of filled symbols is the written tree, filled: `materialize_fills`.
-- In order: lists of trees; blocks; scopes; symbols; the tree.
-- Assumes nothing.
use mathlib.Core.Path.{◌≡◌, refl, ap, ap₂, sym, ◌∙◌}
use mathlib.Core.Bool.{Bool, true, false, not, ◌&&◌}
use Rattle.std.specs.Prelude.{Option, None, Some}
use mathlib.Core.List.{List, [], ◌∷◌, map}
use Prim.Native.Nat.{ℕ, suc, ◌+◌}
use lib.Dec.{eqb}
use lib.ListN.{length, get_or}
use Rattle.model.specs.Tree.{Rec, rec, Tree, Trees, node, nil, cons, top, snoc}
use Rattle.model.specs.Opcodes.{ValUse, BlockValue, BlockValueOp, FuncValue, FuncValueOp}
use Rattle.model.specs.Binding.{id_of}
use Rattle.model.specs.Intern.{Node, constant, unparsed, argument, func, operation, Sym, Scope, thunked, Env}
use Rattle.model.specs.Gate.{Graph, sym_of, reachable, usage}
use Rattle.model.specs.Schedule.{schedule}
use Rattle.model.specs.Materialize.{val_use_of, val_def_of, renames, only_of, wrap_block, Builder, id_given, member, Defined, define}
use Rattle.model.specs.Materialize.{process_scope, build_op, arg_lit, arg_env, build_node, build_step, build_value, materialize}
use Rattle.laws.proofs.Down.{down_related}
use Rattle.model.specs.Template.{is_parameter, Filling, fill_rec, fill_tree, fill_trees, fill_sym}
use Rattle.theory.proofs.Templates.Records.{Other, other_stays, shape_other}
use Rattle.theory.proofs.Templates.Keys.{at_related}
use Rattle.theory.proofs.Templates.Orders.{fill_graph, reachable_fills, scope_kept, is_arg_kept, should_hoist_kept}
use Rattle.theory.proofs.Templates.Orders.{schedule_kept}

module _ (f : Filling) where
  -- ---- lists of trees

  snoc_fills : (ts : Trees) (t : Tree) → fill_trees f (snoc ts t) ≡ snoc (fill_trees f ts) (fill_tree f t)
  unfolding snoc
  snoc_fills nil t = refl
  snoc_fills (cons u ts) t = ap (cons (fill_tree f u)) (snoc_fills ts t)

  -- trees none of which is a parameter
  abbrev Others : Trees → Type 0
  Others nil = Unit {0}
  Others (cons t ts) = Other (top t) × Others ts

  abbrev fill_defined : Defined → Defined
  fill_defined d = record { defs = fill_trees f d.defs; env = d.env; last = d.last }

  -- ---- blocks

  renames_kept : (d : Tree) (ds : Trees) (r : Tree) → Other (top d) →
      renames (fill_tree f d) (fill_trees f ds) (fill_tree f r) ≡ renames d ds r
  unfolding renames
  renames_kept d nil r o = refl
  renames_kept (node x xs) (cons (node v vs) ws) (node r ts) o =
      ap (λ (z : Rec). eqb v.shape ValUse && eqb r.shape ValUse && eqb (id_of (fill_rec f r)) (id_of z)) (other_stays f x o)
      ∙ go (eqb v.shape ValUse) (eqb r.shape ValUse) refl
    where
      go : (a b : Bool) → eqb r.shape ValUse ≡ b →
          (a && b && eqb (id_of (fill_rec f r)) (id_of x)) ≡ (a && b && eqb (id_of r) (id_of x))
      go true true e = ap (λ (z : Rec). eqb (id_of z) (id_of x)) (other_stays f r (shape_other r 6 e))
      go true false e = refl
      go false true e = refl
      go false false e = refl

  only_of_fills : (ts : Trees) (r : Tree) → fill_tree f (only_of ts r) ≡ only_of (fill_trees f ts) (fill_tree f r)
  only_of_fills nil r = refl
  only_of_fills (cons t ts) r = refl

  wrap_block_fills : (ds : Trees) (r : Tree) → Others ds →
      fill_tree f (wrap_block ds r) ≡ wrap_block (fill_trees f ds) (fill_tree f r)
  unfolding wrap_block snoc is_parameter
  wrap_block_fills nil r h = refl
  wrap_block_fills (cons (node x xs) nil) r h =
      go (renames (node x xs) xs r)
      ∙ ap (λ (b : Bool). elim b as (λ z. Tree) [
        | true ↦ only_of (fill_trees f xs) (fill_tree f r)
        | false ↦ node (rec BlockValue BlockValueOp 0 []) (cons (fill_tree f (node x xs)) (cons (fill_tree f r) nil))
      ]) (sym (renames_kept (node x xs) xs r h.0))
    where
      go : (b : Bool) → ◌≡◌ {A = Tree}
          (fill_tree f (elim b [
            | true ↦ only_of xs r
            | false ↦ node (rec BlockValue BlockValueOp 0 []) (cons (node x xs) (cons r nil))
          ]))
          (elim b [
            | true ↦ only_of (fill_trees f xs) (fill_tree f r)
            | false ↦ node (rec BlockValue BlockValueOp 0 []) (cons (fill_tree f (node x xs)) (cons (fill_tree f r) nil))
          ])
      go true = only_of_fills xs r
      go false = refl
  wrap_block_fills (cons d (cons e ds)) r h =
      ap (λ (z : Trees). node (rec BlockValue BlockValueOp 0 []) (cons (fill_tree f d) (cons (fill_tree f e) z))) (snoc_fills ds r)

  -- ---- scopes

  module _ (g : Graph) where
    member_kept : (sc : ℕ) (env : Env) (s : ℕ) → member (fill_graph f g) sc env s ≡ member g sc env s
    unfolding member usage
    member_kept sc env s =
        ap (λ (b : Bool). b && elim (id_given env s) as (λ z. Bool) [ None ↦ true | Some i ↦ false ])
        (ap₂ ◌&&◌ (ap₂ (λ (a : ℕ) (b : Bool). eqb a sc && not b) (scope_kept f g s) (is_arg_kept f g s))
        (should_hoist_kept f g s (usage g s)))

    module _ (build' build : Builder)
        (built : (s sc : ℕ) (env : Env) (last : ℕ) → build' s sc env last ≡ fill_tree f (build s sc env last)) where
      define_fills : (sc : ℕ) (order : List ℕ) (env : Env) (last : ℕ) →
          define (fill_graph f g) build' sc order env last ≡ fill_defined (define g build sc order env last)
      unfolding define val_def_of is_parameter
      define_fills sc [] env last = refl
      define_fills sc (s ∷ order) env last =
          ap (by (fill_graph f g) build') (member_kept sc env s)
          ∙ go (member g sc env s)
          (ap₂ (λ (t : Tree) (d : Defined).
          record { defs = cons (val_def_of (suc last) t) d.defs; env = d.env; last = d.last })
          (built s sc env last) (define_fills sc order ((s, suc last) ∷ env) (suc last)))
          (define_fills sc order env last)
        where
          next : Graph → Builder → Defined
          next x b =
              let d = define x b sc order ((s, suc last) ∷ env) (suc last) in
              record { defs = cons (val_def_of (suc last) (b s sc env last)) d.defs; env = d.env; last = d.last }

          by : Graph → Builder → Bool → Defined
          by x b m = elim m [ true ↦ next x b | false ↦ define x b sc order env last ]

          go : (m : Bool) → next (fill_graph f g) build' ≡ fill_defined (next g build) →
              define (fill_graph f g) build' sc order env last ≡ fill_defined (define g build sc order env last) →
              by (fill_graph f g) build' m ≡ fill_defined (by g build m)
          go true p q = p
          go false p q = q

      define_others : (sc : ℕ) (order : List ℕ) (env : Env) (last : ℕ) → Others (define g build sc order env last).defs
      unfolding define val_def_of is_parameter
      define_others sc [] env last = tt
      define_others sc (s ∷ order) env last =
          go (member g sc env s) (define_others sc order ((s, suc last) ∷ env) (suc last))
          (define_others sc order env last)
        where
          with_one : Defined
          with_one =
              let d = define g build sc order ((s, suc last) ∷ env) (suc last) in
              record { defs = cons (val_def_of (suc last) (build s sc env last)) d.defs; env = d.env; last = d.last }

          go : (m : Bool) → Others (define g build sc order ((s, suc last) ∷ env) (suc last)).defs →
              Others (define g build sc order env last).defs →
              Others (elim m as (λ z. Defined) [ true ↦ with_one | false ↦ define g build sc order env last ]).defs
          go true p q = (refl, p)
          go false p q = q

      scope_fills : (root sc : ℕ) (env : Env) (last : ℕ) →
          process_scope (fill_graph f g) build' root sc env last ≡ fill_tree f (process_scope g build root sc env last)
      unfolding process_scope
      scope_fills root sc env last =
          let d = define g build sc (schedule g root sc) env last in
          ap (λ (order : List ℕ). wrapped build' (define (fill_graph f g) build' sc order env last))
          (schedule_kept f g root sc)
          ∙ (ap (wrapped build') (define_fills sc (schedule g root sc) env last)
          ∙ (ap (wrap_block (fill_trees f d.defs)) (built root sc d.env d.last)
          ∙ sym (wrap_block_fills d.defs (build root sc d.env d.last)
          (define_others sc (schedule g root sc) env last))))
        where
          wrapped : Builder → Defined → Tree
          wrapped b d = wrap_block d.defs (b root sc d.env d.last)

      -- ---- symbols

      build_op_fills : (sc : ℕ) (env : Env) (last op j : ℕ) (ks brs : List ℕ) →
          build_op (fill_graph f g) build' sc env last op j ks brs ≡ fill_trees f (build_op g build sc env last op j ks brs)
      unfolding build_op
      build_op_fills sc env last op j [] brs = refl
      build_op_fills sc env last op j (k ∷ ks) [] =
          ap₂ cons (built k sc env last) (build_op_fills sc env last op (suc j) ks [])
      build_op_fills sc env last op j (k ∷ ks) (b ∷ brs) =
          go (thunked op j)
          (cons (process_scope g build k b env last) (build_op g build sc env last op (suc j) ks brs))
          (cons (build k sc env last) (build_op g build sc env last op (suc j) ks (b ∷ brs)))
          (ap₂ cons (scope_fills k b env last) (build_op_fills sc env last op (suc j) ks brs))
          (ap₂ cons (built k sc env last) (build_op_fills sc env last op (suc j) ks (b ∷ brs)))
        where
          go : (m : Bool) (x y : Trees) {x' y' : Trees} → x' ≡ fill_trees f x → y' ≡ fill_trees f y →
              ◌≡◌ {A = Trees} (elim m [ true ↦ x' | false ↦ y' ]) (fill_trees f (elim m [ true ↦ x | false ↦ y ]))
          go true x y p q = p
          go false x y p q = q

      -- a symbol and its filling
      node_fills : (y : Sym) (nd : Node) (sc : ℕ) (env : Env) (last : ℕ) →
          build_node (fill_graph f g) build' (fill_sym f y) nd sc env last ≡ fill_tree f (build_node g build y nd sc env last)
      unfolding build_node val_use_of is_parameter
      node_fills y constant sc env last = refl
      node_fills y unparsed sc env last = refl
      node_fills y argument sc env last = refl
      node_fills y (func xs body) sc env last =
          ap (λ (t : Tree). node (rec FuncValue FuncValueOp (length xs) (arg_lit last xs)) (cons t nil))
          (scope_fills (get_or y.kids 0 0) body (arg_env last xs env) (suc (last + length xs)))
      node_fills y (operation brs) sc env last =
          ap (node (fill_rec f y.rec)) (build_op_fills sc env last y.rec.opcode 0 y.kids brs)

      step_fills : (s sc : ℕ) (env : Env) (last : ℕ) →
          build_step (fill_graph f g) build' s sc env last ≡ fill_tree f (build_step g build s sc env last)
      unfolding build_step val_use_of build_node is_parameter
      step_fills s sc env last = go (id_given env s)
        where
          made : Graph → Builder → Sym → Tree
          made h b y = build_node h b y y.node sc env last

          by : Graph → Builder → Option ℕ → Tree
          by h b o = elim o [ Some i ↦ val_use_of i | None ↦ made h b (sym_of h s) ]

          go : (o : Option ℕ) → by (fill_graph f g) build' o ≡ fill_tree f (by g build o)
          go (Some i) = refl
          go None =
              at_related f (λ y' y. made (fill_graph f g) build' y' ≡ fill_tree f (made g build y))
              (λ y. node_fills y y.node sc env last) refl g.syms s

    -- ---- the tree

    value_fills : (s sc : ℕ) (env : Env) (last : ℕ) →
        build_value (fill_graph f g) s sc env last ≡ fill_tree f (build_value g s sc env last)
    unfolding build_value val_use_of is_parameter
    value_fills =
        down_related (λ (b' b : ℕ → Env → ℕ → Tree).
        (sc : ℕ) (env : Env) (last : ℕ) → b' sc env last ≡ fill_tree f (b sc env last))
        (λ sc env last. val_use_of 0) (λ sc env last. val_use_of 0) (λ sc env last. refl) (build_step (fill_graph f g))
        (build_step g) (λ v' v h n sc env last. step_fills v' v h n sc env last)

  pub materialize_fills : (ss : List Sym) (scs : List Scope) (root : ℕ) →
      materialize (map (fill_sym f) ss) scs root ≡ fill_tree f (materialize ss scs root)
  unfolding materialize
  materialize_fills ss scs root =
      ap (λ (h : Graph). process_scope h (build_value h) root 0 [] 0) (reachable_fills f ss scs root)
      ∙ scope_fills (reachable ss scs root) (build_value (fill_graph f (reachable ss scs root)))
      (build_value (reachable ss scs root)) (value_fills (reachable ss scs root)) root 0 [] 0
