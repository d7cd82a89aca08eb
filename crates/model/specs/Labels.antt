-- The written tree with labels (request A.4): a definition carries the symbol that it defines, a block the scope for which it
-- is written. Each function with l_ is Materialize's without it, with labels put; `erase` takes them off again, and what is
-- left is the tree that `materialize` gives (`Unlabelled`).
-- In order: labelled trees; the records that are made; scopes; symbols; the written tree; its blocks and definitions.
-- Assumes nothing.
use Rattle.std.specs.Prelude.{◌≡◌, ℕ, suc, ◌+◌, true, false, List, [], ◌∷◌, ◌++◌, length, get_or, None, Some}
use Rattle.model.specs.Bytes.{put32}
use Rattle.model.specs.Down.{down}
use Rattle.model.specs.Tree.{Rec, rec, Tree, Trees, node, nil, cons, below}
use Rattle.model.specs.Opcodes.{ValUse, ValDef, BlockValue, FuncValue}
use Rattle.model.specs.Opcodes.{ValUseOp, ValDefOp, BlockValueOp, FuncValueOp}
use Rattle.model.specs.Intern.{Node, constant, unparsed, argument, func, operation, Sym, Scope, thunked, Env}
use Rattle.model.specs.Gate.{Graph, sym_of, reachable}
use Rattle.model.specs.Schedule.{schedule}
use Rattle.model.specs.Materialize.{renames, id_given, member, arg_lit, arg_env, materialize}

-- ---- labelled trees

-- what a record is written as: a definition of a symbol, a block for a scope, or neither
pub data Label : Type 0 where
  no_label : Label
  defines block_for : ℕ → Label

mutual
  pub data LTree : Type 0 where
    lnode : Label → Rec → LTrees → LTree

  pub data LTrees : Type 0 where
    lnil : LTrees
    lcons : LTree → LTrees → LTrees

abbrev pub l_below : LTree → LTrees
l_below (lnode l r ts) = ts

-- without the labels
unfoldable mutual
  pub erase : LTree → Tree
  erase (lnode l r ts) = node r (erase_all ts)

  pub erase_all : LTrees → Trees
  erase_all lnil = nil
  erase_all (lcons t ts) = cons (erase t) (erase_all ts)

unfoldable pub l_snoc : LTrees → LTree → LTrees
l_snoc lnil r = lcons r lnil
l_snoc (lcons t ts) r = lcons t (l_snoc ts r)

-- ---- the records that are made

unfoldable pub l_val_use_of : ℕ → LTree
l_val_use_of i = lnode no_label (rec ValUse ValUseOp 0 (put32 i)) lnil

-- of symbol s
unfoldable pub l_val_def_of : ℕ → ℕ → LTree → LTree
l_val_def_of s i v = lnode (defines s) (rec ValDef ValDefOp 0 (put32 i ++ (0 ∷ []))) (lcons v lnil)

abbrev pub l_only_of : LTrees → LTree → LTree
l_only_of lnil r = r
l_only_of (lcons t ts) r = t

-- for scope sc
unfoldable pub l_wrap_block : ℕ → LTrees → LTree → LTree
l_wrap_block sc lnil r = r
l_wrap_block sc (lcons d lnil) r =
    elim (renames (erase d) (below (erase d)) (erase r)) [
      | true ↦ l_only_of (l_below d) r
      | false ↦ lnode (block_for sc) (rec BlockValue BlockValueOp 0 []) (lcons d (lcons r lnil))
    ]
l_wrap_block sc (lcons d (lcons e ds)) r =
    lnode (block_for sc) (rec BlockValue BlockValueOp 0 []) (lcons d (lcons e (l_snoc ds r)))

-- ---- scopes

abbrev pub LBuilder : Type 0
LBuilder = ℕ → ℕ → Env → ℕ → LTree

pub record LDefined : Type 0 where
  pub defs : LTrees
  pub env : Env
  pub last : ℕ

unfoldable pub l_define : Graph → LBuilder → ℕ → List ℕ → Env → ℕ → LDefined
l_define g build sc [] env last = record { defs = lnil; env = env; last = last }
l_define g build sc (s ∷ order) env last =
    elim (member g sc env s) [
      | true ↦
          let d = l_define g build sc order ((s, suc last) ∷ env) (suc last) in
          record {
            defs = lcons (l_val_def_of s (suc last) (build s sc env last)) d.defs;
            env = d.env;
            last = d.last;
          }
      | false ↦ l_define g build sc order env last
    ]

unfoldable pub l_process_scope : Graph → LBuilder → ℕ → ℕ → Env → ℕ → LTree
l_process_scope g build root sc env last =
    let d = l_define g build sc (schedule g root sc) env last in
    l_wrap_block sc d.defs (build root sc d.env d.last)

-- ---- symbols

unfoldable pub l_build_op : Graph → LBuilder → ℕ → Env → ℕ → ℕ → ℕ → List ℕ → List ℕ → LTrees
l_build_op g build sc env last op j [] brs = lnil
l_build_op g build sc env last op j (k ∷ ks) [] =
    lcons (build k sc env last) (l_build_op g build sc env last op (suc j) ks [])
l_build_op g build sc env last op j (k ∷ ks) (b ∷ brs) =
    elim (thunked op j) [
      | true ↦ lcons (l_process_scope g build k b env last) (l_build_op g build sc env last op (suc j) ks brs)
      | false ↦ lcons (build k sc env last) (l_build_op g build sc env last op (suc j) ks (b ∷ brs))
    ]

unfoldable pub l_build_node : Graph → LBuilder → Sym → Node → ℕ → Env → ℕ → LTree
l_build_node g build y constant sc env last = lnode no_label y.rec lnil
l_build_node g build y unparsed sc env last = lnode no_label y.rec lnil
l_build_node g build y argument sc env last = l_val_use_of 0
l_build_node g build y (func xs body) sc env last =
    lnode no_label (rec FuncValue FuncValueOp (length xs) (arg_lit last xs))
    (lcons (l_process_scope g build (get_or y.kids 0 0) body (arg_env last xs env) (suc (last + length xs))) lnil)
l_build_node g build y (operation brs) sc env last =
    lnode no_label y.rec (l_build_op g build sc env last y.rec.opcode 0 y.kids brs)

unfoldable pub l_build_step : Graph → LBuilder → LBuilder
l_build_step g build s sc env last =
    elim (id_given env s) [ Some i ↦ l_val_use_of i | None ↦ l_build_node g build (sym_of g s) (sym_of g s).node sc env last ]

unfoldable pub l_build_value : Graph → LBuilder
l_build_value g = down (λ sc env last. l_val_use_of 0) (l_build_step g)

-- ---- the written tree, of a graph whose root is symbol `root`

unfoldable pub labelled : Graph → ℕ → LTree
labelled g root = l_process_scope g (l_build_value g) root 0 [] 0

abbrev pub Unlabelled : List Sym → List Scope → ℕ → Type 0
Unlabelled ss scs root = erase (labelled (reachable ss scs root) root) ≡ materialize ss scs root

-- ---- its definitions and blocks, in record order

abbrev pub symbol_here : Label → List ℕ
symbol_here no_label = []
symbol_here (defines s) = s ∷ []
symbol_here (block_for sc) = []

-- the symbols that have a definition anywhere in a tree
unfoldable mutual
  pub defined_of : LTree → List ℕ
  defined_of (lnode l r ts) = symbol_here l ++ defined_in ts

  pub defined_in : LTrees → List ℕ
  defined_in lnil = []
  defined_in (lcons t ts) = defined_of t ++ defined_in ts

-- a written block: the scope for which it is written, and the symbols whose definitions it holds
pub record WrittenBlock : Type 0 where
  pub scope : ℕ
  pub symbols : List ℕ

abbrev pub label_of : LTree → Label
label_of (lnode l r ts) = l

-- a block holds the definitions among its children
unfoldable pub held_by : LTrees → List ℕ
held_by lnil = []
held_by (lcons t ts) = symbol_here (label_of t) ++ held_by ts

abbrev pub block_here : Label → LTrees → List WrittenBlock
block_here no_label ts = []
block_here (defines s) ts = []
block_here (block_for sc) ts = record { scope = sc; symbols = held_by ts } ∷ []

unfoldable mutual
  pub blocks_of : LTree → List WrittenBlock
  blocks_of (lnode l r ts) = block_here l ts ++ blocks_in ts

  pub blocks_in : LTrees → List WrittenBlock
  blocks_in lnil = []
  blocks_in (lcons t ts) = blocks_of t ++ blocks_in ts
