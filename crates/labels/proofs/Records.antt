-- What holds of every record that building makes, with its label and its parent's, holds of every record of the written tree
-- (`labelled_all`).
--
-- In order: all records of a tree; what is asked of the records that are made; definitions and blocks; scopes and symbols; the
-- written tree.
-- `l_wrap_block` may take a definition off its value, so what stands below a definition is asked for below any record.
-- Assumes nothing.
use mathlib.Core.Path.{◌≡◌, refl}
use mathlib.Core.Bool.{Bool, true, false}
use mathlib.Core.List.{List, [], ◌∷◌, ◌++◌}
use Prim.Native.Nat.{ℕ, suc, ◌+◌}
use lib.ListN.{length, get_or}
use Rattle.std.specs.Prelude.{Option, None, Some}
use Rattle.model.specs.Bytes.{put32}
use Rattle.model.specs.Tree.{below, Rec, rec}
use Rattle.model.specs.Opcodes.{ValUse, ValDef, BlockValue, FuncValue}
use Rattle.model.specs.Opcodes.{ValUseOp, ValDefOp, BlockValueOp, FuncValueOp}
use Rattle.model.specs.Intern.{Node, constant, unparsed, argument, func, operation, Env, thunked}
use Rattle.model.specs.Gate.{Graph, sym_of}
use Rattle.model.specs.Schedule.{is_arg, schedule}
use Rattle.model.specs.Materialize.{renames, id_given, member, arg_lit, arg_env}
use Rattle.model.specs.Labels.{Label, no_label, defines, block_for, LTree, LTrees, lnode, lnil, lcons, l_below, erase}
use Rattle.model.specs.Labels.{l_snoc, l_val_use_of, l_val_def_of, l_only_of, l_wrap_block, LBuilder, LDefined, l_define}
use Rattle.model.specs.Labels.{l_process_scope, l_build_op, l_build_node, l_build_step, l_build_value, labelled}
use Rattle.laws.proofs.Walks.{if_holds}
use Rattle.laws.proofs.Down.{down_related}

-- ---- all records

abbrev mutual
  -- Q of each record, after its parent's label and its own; the tree stands below a record labelled p
  pub All : (Label → Label → Rec → Type 0) → Label → LTree → Type 0
  All Q p (lnode l r ts) = Q p l r × AllOf Q l ts

  pub AllOf : (Label → Label → Rec → Type 0) → Label → LTrees → Type 0
  AllOf Q p lnil = Unit {0}
  AllOf Q p (lcons t ts) = All Q p t × AllOf Q p ts

-- ---- what is asked of the records that are made, for any parent's label p

pub record OfMade (g : Graph) (Q : Label → Label → Rec → Type 0) : Type 0 where
  pub use_of : (p : Label) (i : ℕ) → Q p no_label (rec ValUse ValUseOp 0 (put32 i))
  pub block : (p : Label) (sc : ℕ) → Q p (block_for sc) (rec BlockValue BlockValueOp 0 [])
  pub lambda : (p : Label) (n : ℕ) (lit : List ℕ) → Q p no_label (rec FuncValue FuncValueOp n lit)
  -- of a symbol that is no argument
  pub own : (p : Label) (s : ℕ) → is_arg (sym_of g s).node ≡ false → Q p no_label (sym_of g s).rec
  -- a definition stands in a block
  pub definition : (sc s i : ℕ) (env : Env) → member g sc env s ≡ true →
      Q (block_for sc) (defines s) (rec ValDef ValDefOp 0 (put32 i ++ (0 ∷ [])))

module _ (g : Graph) (Q : Label → Label → Rec → Type 0) (made : OfMade g Q) where
  -- ---- definitions and blocks

  all_snoc : (p : Label) (ts : LTrees) (t : LTree) → AllOf Q p ts → All Q p t → AllOf Q p (l_snoc ts t)
  unfolding l_snoc
  all_snoc p lnil t h k = (k, tt)
  all_snoc p (lcons x ts) t h k = (h.0, all_snoc p ts t h.1 k)

  -- definitions in a block for scope sc: right there, and what stands below them is right anywhere
  abbrev Defs : ℕ → LTrees → Type 0
  Defs sc lnil = Unit {0}
  Defs sc (lcons d ds) = All Q (block_for sc) d × ((p : Label) → AllOf Q p (l_below d)) × Defs sc ds

  defs_all : (sc : ℕ) (ds : LTrees) → Defs sc ds → AllOf Q (block_for sc) ds
  defs_all sc lnil h = tt
  defs_all sc (lcons d ds) h = (h.0, defs_all sc ds h.2)

  only_all : (p : Label) (ts : LTrees) (r : LTree) → AllOf Q p ts → All Q p r → All Q p (l_only_of ts r)
  only_all p lnil r h k = k
  only_all p (lcons t ts) r h k = h.0

  wrap_all : (p : Label) (sc : ℕ) (ds : LTrees) (r : LTree) → Defs sc ds → ((q : Label) → All Q q r) →
      All Q p (l_wrap_block sc ds r)
  unfolding l_wrap_block
  wrap_all p sc lnil r h k = k p
  wrap_all p sc (lcons d lnil) r h k =
      if_holds (All Q p) (renames (erase d) (below (erase d)) (erase r)) _ _ (only_all p (l_below d) r (h.1 p) (k p))
      (made.block p sc, (h.0, (k (block_for sc), tt)))
  wrap_all p sc (lcons d (lcons e ds)) r h k =
      let all = defs_all sc (lcons d (lcons e ds)) h in
      (made.block p sc, (all.0, (all.1.0, all_snoc (block_for sc) ds r all.1.1 (k (block_for sc)))))

  -- ---- scopes and symbols, for a builder of trees that are right anywhere

  abbrev Builds : (ℕ → Env → ℕ → LTree) → Type 0
  Builds f = (sc : ℕ) (env : Env) (last : ℕ) (p : Label) → All Q p (f sc env last)

  module _ (f : LBuilder) (built : (s : ℕ) → Builds (f s)) where
    define_defs : (sc : ℕ) (order : List ℕ) (env : Env) (last : ℕ) → Defs sc (l_define g f sc order env last).defs
    unfolding l_define l_val_def_of
    define_defs sc [] env last = tt
    define_defs sc (s ∷ order) env last =
        go (member g sc env s) refl (define_defs sc order ((s, suc last) ∷ env) (suc last)) (define_defs sc order env last)
      where
        d : LDefined
        d = l_define g f sc order ((s, suc last) ∷ env) (suc last)

        one : LDefined
        one = record {
          defs = lcons (l_val_def_of s (suc last) (f s sc env last)) d.defs;
          env = d.env;
          last = d.last;
        }

        go : (b : Bool) → member g sc env s ≡ b → Defs sc d.defs → Defs sc (l_define g f sc order env last).defs →
            Defs sc (elim b as (λ z. LDefined) [ true ↦ one | false ↦ l_define g f sc order env last ]).defs
        go true e h k = (
          (made.definition sc s (suc last) env e, (built s sc env last (defines s), tt)),
          (λ p. (built s sc env last p, tt)),
          h,
        )
        go false e h k = k

    process_all : (root : ℕ) → Builds (l_process_scope g f root)
    unfolding l_process_scope
    process_all root sc env last p =
        let d = l_define g f sc (schedule g root sc) env last in
        wrap_all p sc d.defs (f root sc d.env d.last) (define_defs sc (schedule g root sc) env last)
        (built root sc d.env d.last)

    op_all : (sc : ℕ) (env : Env) (last op j : ℕ) (ks brs : List ℕ) (p : Label) →
        AllOf Q p (l_build_op g f sc env last op j ks brs)
    unfolding l_build_op
    op_all sc env last op j [] brs p = tt
    op_all sc env last op j (k ∷ ks) [] p = (built k sc env last p, op_all sc env last op (suc j) ks [] p)
    op_all sc env last op j (k ∷ ks) (b ∷ brs) p =
        if_holds (AllOf Q p) (thunked op j) _ _ (process_all k b env last p, op_all sc env last op (suc j) ks brs p)
        (built k sc env last p, op_all sc env last op (suc j) ks (b ∷ brs) p)

    node_all : (s : ℕ) (nd : Node) → is_arg nd ≡ is_arg (sym_of g s).node → Builds (l_build_node g f (sym_of g s) nd)
    unfolding l_build_node l_val_use_of
    node_all s constant e sc env last p = (made.own p s (cc), tt)
    node_all s unparsed e sc env last p = (made.own p s (cc), tt)
    node_all s argument e sc env last p = (made.use_of p 0, tt)
    node_all s (func xs body) e sc env last p = (
      made.lambda p (length xs) (arg_lit last xs),
      (process_all (get_or (sym_of g s).kids 0 0) body (arg_env last xs env) (suc (last + length xs)) no_label, tt),
    )
    node_all s (operation brs) e sc env last p =
        (made.own p s (cc), op_all sc env last (sym_of g s).rec.opcode 0 (sym_of g s).kids brs no_label)

    step_all : (s : ℕ) → Builds (l_build_step g f s)
    unfolding l_build_step l_val_use_of
    step_all s sc env last p = go (id_given env s)
      where
        go : (o : Option ℕ) → All Q p (elim o as (λ z. LTree) [
          | Some i ↦ l_val_use_of i
          | None ↦ l_build_node g f (sym_of g s) (sym_of g s).node sc env last
        ])
        go (Some i) = (made.use_of p i, tt)
        go None = node_all s (sym_of g s).node refl sc env last p

  -- ---- the written tree

  value_all : (s : ℕ) → Builds (l_build_value g s)
  unfolding l_build_value l_val_use_of
  value_all s =
      down_related (λ (x y : ℕ → Env → ℕ → LTree). Builds x) (λ sc env last. l_val_use_of 0) (λ sc env last. l_val_use_of 0)
      (λ sc env last p. (made.use_of p 0, tt)) (l_build_step g) (l_build_step g) (λ f f′ h n. step_all f h n) s

  -- whatever it is said to stand below
  pub labelled_all : (root : ℕ) (p : Label) → All Q p (labelled g root)
  unfolding labelled
  labelled_all root p = process_all (l_build_value g) value_all root 0 [] 0 p
