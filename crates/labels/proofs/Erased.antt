-- Without its labels the labelled tree is the written tree (`labelled_erased`).
--
-- In order: blocks; scopes, and their definitions; symbols; the written tree.
-- Assumes nothing.
use mathlib.Core.Path.{◌≡◌, refl, ap, ap₂, ◌∙◌}
use Rattle.std.specs.Prelude.{Option, None, Some}
use mathlib.Core.List.{List, [], ◌∷◌}
use Prim.Native.Nat.{ℕ, suc, ◌+◌}
use lib.ListN.{length, get_or}
use Rattle.model.specs.Opcodes.{BlockValue, FuncValue, BlockValueOp, FuncValueOp}
use Rattle.model.specs.Tree.{rec, Tree, Trees, node, nil, cons, below, snoc}
use Rattle.model.specs.Intern.{Node, constant, unparsed, argument, func, operation, Sym, Scope, thunked, Env}
use Rattle.model.specs.Gate.{Graph, sym_of, reachable}
use Rattle.model.specs.Schedule.{schedule}
use Rattle.model.specs.Materialize.{Builder, Defined, val_use_of, val_def_of, renames, only_of, wrap_block, id_given}
use Rattle.model.specs.Materialize.{member, define, process_scope, build_op, arg_lit, arg_env, build_node, build_step}
use Rattle.model.specs.Materialize.{build_value, materialize}
use Rattle.model.specs.Labels.{LTree, LTrees, lnode, lnil, lcons, l_below, erase, erase_all, l_snoc}
use Rattle.model.specs.Labels.{l_val_use_of, l_val_def_of, l_only_of, l_wrap_block, LBuilder, LDefined, l_define}
use Rattle.model.specs.Labels.{l_process_scope, l_build_op, l_build_node, l_build_step, l_build_value, labelled}
use Rattle.model.specs.Labels.{Unlabelled}
use Rattle.laws.proofs.Down.{if_related, down_related}

-- ---- blocks

snoc_erased : (ts : LTrees) (t : LTree) → erase_all (l_snoc ts t) ≡ snoc (erase_all ts) (erase t)
unfolding erase l_snoc snoc
snoc_erased lnil t = refl
snoc_erased (lcons x ts) t = ap (cons (erase x)) (snoc_erased ts t)

only_erased : (d r : LTree) → erase (l_only_of (l_below d) r) ≡ only_of (below (erase d)) (erase r)
unfolding erase
only_erased (lnode l x lnil) r = refl
only_erased (lnode l x (lcons t ts)) r = refl

wrap_erased : (sc : ℕ) (ds : LTrees) (r : LTree) → erase (l_wrap_block sc ds r) ≡ wrap_block (erase_all ds) (erase r)
unfolding erase l_wrap_block wrap_block
wrap_erased sc lnil r = refl
wrap_erased sc (lcons d lnil) r =
    if_related (λ x y. erase x ≡ y) (renames (erase d) (below (erase d)) (erase r)) _ _ _ _ (only_erased d r) refl
wrap_erased sc (lcons d (lcons e ds)) r =
    ap (λ (ts : Trees). node (rec BlockValue BlockValueOp 0 []) (cons (erase d) (cons (erase e) ts))) (snoc_erased ds r)

-- ---- scopes

-- a builder with labels and one without
abbrev Erases : LBuilder → Builder → Type 0
Erases f h = (s sc : ℕ) (env : Env) (last : ℕ) → erase (f s sc env last) ≡ h s sc env last

-- the same definitions, with labels and without, and the same ids after them
abbrev pub SameDefined : LDefined → Defined → Type 0
SameDefined l d = (erase_all l.defs ≡ d.defs) × (l.env ≡ d.env) × (l.last ≡ d.last)

module _ (g : Graph) (f : LBuilder) (h : Builder) (same : Erases f h) where
  define_related : (sc : ℕ) (order : List ℕ) (env : Env) (last : ℕ) →
      SameDefined (l_define g f sc order env last) (define g h sc order env last)
  unfolding l_define define erase l_val_def_of val_def_of
  define_related sc [] env last = (refl, refl, refl)
  define_related sc (s ∷ order) env last =
      let d = define_related sc order ((s, suc last) ∷ env) (suc last) in
      if_related SameDefined (member g sc env s) _ _ _ _
      (ap₂ cons (ap (val_def_of (suc last)) (same s sc env last)) d.0, d.1, d.2) (define_related sc order env last)

  process_erased : (root sc : ℕ) (env : Env) (last : ℕ) →
      erase (l_process_scope g f root sc env last) ≡ process_scope g h root sc env last
  unfolding l_process_scope process_scope
  process_erased root sc env last =
      let l = l_define g f sc (schedule g root sc) env last in
      let d = define_related sc (schedule g root sc) env last in
      wrap_erased sc l.defs (f root sc l.env l.last)
      ∙ ap₂ wrap_block d.0 (same root sc l.env l.last ∙ ap₂ (h root sc) d.1 d.2)

  -- ---- symbols

  op_erased : (sc : ℕ) (env : Env) (last op j : ℕ) (ks brs : List ℕ) →
      erase_all (l_build_op g f sc env last op j ks brs) ≡ build_op g h sc env last op j ks brs
  unfolding l_build_op build_op erase
  op_erased sc env last op j [] brs = refl
  op_erased sc env last op j (k ∷ ks) [] = ap₂ cons (same k sc env last) (op_erased sc env last op (suc j) ks [])
  op_erased sc env last op j (k ∷ ks) (b ∷ brs) =
      if_related (λ x y. erase_all x ≡ y) (thunked op j) _ _ _ _
      (ap₂ cons (process_erased k b env last) (op_erased sc env last op (suc j) ks brs))
      (ap₂ cons (same k sc env last) (op_erased sc env last op (suc j) ks (b ∷ brs)))

  node_erased : (y : Sym) (nd : Node) (sc : ℕ) (env : Env) (last : ℕ) →
      erase (l_build_node g f y nd sc env last) ≡ build_node g h y nd sc env last
  unfolding l_build_node build_node erase l_val_use_of val_use_of
  node_erased y constant sc env last = refl
  node_erased y unparsed sc env last = refl
  node_erased y argument sc env last = refl
  node_erased y (func xs body) sc env last =
      ap (λ (t : Tree). node (rec FuncValue FuncValueOp (length xs) (arg_lit last xs)) (cons t nil))
      (process_erased (get_or y.kids 0 0) body (arg_env last xs env) (suc (last + length xs)))
  node_erased y (operation brs) sc env last =
      ap (node y.rec) (op_erased sc env last y.rec.opcode 0 y.kids brs)

  step_erased : Erases (l_build_step g f) (build_step g h)
  unfolding l_build_step build_step erase l_val_use_of val_use_of
  step_erased s sc env last = go (id_given env s)
    where
      go : (o : Option ℕ) →
          erase (elim o as (λ z. LTree) [
            | Some i ↦ l_val_use_of i
            | None ↦ l_build_node g f (sym_of g s) (sym_of g s).node sc env last
          ]) ≡
          elim o as (λ z. Tree) [
            | Some i ↦ val_use_of i
            | None ↦ build_node g h (sym_of g s) (sym_of g s).node sc env last
          ]
      go (Some i) = refl
      go None = node_erased (sym_of g s) (sym_of g s).node sc env last

-- ---- the written tree

module _ (g : Graph) where
  pub value_erased : (s sc : ℕ) (env : Env) (last : ℕ) →
      erase (l_build_value g s sc env last) ≡ build_value g s sc env last
  unfolding l_build_value build_value erase l_val_use_of val_use_of
  value_erased =
      down_related (λ (x : ℕ → Env → ℕ → LTree) (y : ℕ → Env → ℕ → Tree).
      (sc : ℕ) (env : Env) (last : ℕ) → erase (x sc env last) ≡ y sc env last)
      (λ sc env last. l_val_use_of 0) (λ sc env last. val_use_of 0) (λ sc env last. refl) (l_build_step g)
      (build_step g) (λ f h same. step_erased g f h same)

  pub define_erased : (sc : ℕ) (order : List ℕ) (env : Env) (last : ℕ) →
      SameDefined (l_define g (l_build_value g) sc order env last) (define g (build_value g) sc order env last)
  define_erased = define_related g (l_build_value g) (build_value g) value_erased

pub labelled_erased : (ss : List Sym) (scs : List Scope) (root : ℕ) → Unlabelled ss scs root
unfolding labelled materialize
labelled_erased ss scs root =
    let g = reachable ss scs root in process_erased g (l_build_value g) (build_value g) (value_erased g) root 0 [] 0
