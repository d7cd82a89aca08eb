-- The written tree (materialize.rs: `process_scope`, `build_value`, `build_func`, `build_op`, `wrap_block`).
-- Assumes nothing.
use Rattle.std.specs.Prelude.{ℕ, suc, ◌+◌, Bool, true, false, not, ◌&&◌, List, [], ◌∷◌, ◌++◌, eqb, length, get_or, Option, None, Some}
use Rattle.model.specs.Bytes.{put32}
use Rattle.model.specs.Down.{down}
use Rattle.model.specs.Tree.{rec, Tree, Trees, node, nil, cons, top, below, snoc}
use Rattle.model.specs.Opcodes.{ValUse, ValDef, BlockValue, FuncValue}
use Rattle.model.specs.Opcodes.{ValUseOp, ValDefOp, BlockValueOp, FuncValueOp}
use Rattle.model.specs.Binding.{id_of}
use Rattle.model.specs.Intern.{Node, constant, unparsed, argument, func, operation, Sym, Scope, thunked, Env}
use Rattle.model.specs.Gate.{Graph, sym_of, reachable, usage, should_hoist}
use Rattle.model.specs.Schedule.{is_arg, schedule}

-- ---- the records that are made

unfoldable pub val_use_of : ℕ → Tree
val_use_of i = node (rec ValUse ValUseOp 0 (put32 i)) nil

-- "its definitions have no type"
unfoldable pub val_def_of : ℕ → Tree → Tree
val_def_of i v = node (rec ValDef ValDefOp 0 (put32 i ++ (0 ∷ []))) (cons v nil)

-- the result is a use of definition d, whose value is a use
unfoldable pub renames : Tree → Trees → Tree → Bool
renames d nil r = false
renames d (cons v vs) r = eqb (top v).shape ValUse && eqb (top r).shape ValUse && eqb (id_of (top r)) (id_of (top d))

abbrev pub only_of : Trees → Tree → Tree
only_of nil r = r
only_of (cons t ts) r = t

-- definitions and a result: the result alone if there are none, the value if the one definition only renames it
unfoldable pub wrap_block : Trees → Tree → Tree
wrap_block nil r = r
wrap_block (cons d nil) r =
    elim (renames d (below d) r) [
      | true ↦ only_of (below d) r
      | false ↦ node (rec BlockValue BlockValueOp 0 []) (cons d (cons r nil))
    ]
wrap_block (cons d (cons e ds)) r = node (rec BlockValue BlockValueOp 0 []) (cons d (cons e (snoc ds r)))

-- ---- scopes. `env` gives symbols their ids, `last` is the last id given

abbrev pub Builder : Type 0
Builder = ℕ → ℕ → Env → ℕ → Tree

unfoldable pub id_given : Env → ℕ → Option ℕ
id_given [] s = None
id_given (b ∷ bs) s = elim (eqb b.0 s) [ true ↦ Some b.1 | false ↦ id_given bs s ]

-- the symbol gets a definition in scope sc
unfoldable pub member : Graph → ℕ → Env → ℕ → Bool
member g sc env s =
    eqb (sym_of g s).scope sc && not (is_arg (sym_of g s).node) && should_hoist (sym_of g s) (usage g s) &&
    elim (id_given env s) [ None ↦ true | Some i ↦ false ]

-- definitions, the ids of symbols after them, and the last of these
pub record Defined : Type 0 where
  pub defs : Trees
  pub env : Env
  pub last : ℕ

-- the symbols of an order that get a definition; a definition's value is built before its number is given
unfoldable pub define : Graph → Builder → ℕ → List ℕ → Env → ℕ → Defined
define g build sc [] env last = record { defs = nil; env = env; last = last }
define g build sc (s ∷ order) env last =
    elim (member g sc env s) [
      | true ↦
          let d = define g build sc order ((s, suc last) ∷ env) (suc last) in
          record {
            defs = cons (val_def_of (suc last) (build s sc env last)) d.defs;
            env = d.env;
            last = d.last;
          }
      | false ↦ define g build sc order env last
    ]

unfoldable pub process_scope : Graph → Builder → ℕ → ℕ → Env → ℕ → Tree
process_scope g build root sc env last =
    let d = define g build sc (schedule g root sc) env last in
    wrap_block d.defs (build root sc d.env d.last)

-- ---- symbols

-- an operation's children from operand j on: a thunk is a scope of its own, the next of `brs`
unfoldable pub build_op : Graph → Builder → ℕ → Env → ℕ → ℕ → ℕ → List ℕ → List ℕ → Trees
build_op g build sc env last op j [] brs = nil
build_op g build sc env last op j (k ∷ ks) [] = cons (build k sc env last) (build_op g build sc env last op (suc j) ks [])
build_op g build sc env last op j (k ∷ ks) (b ∷ brs) =
    elim (thunked op j) [
      | true ↦ cons (process_scope g build k b env last) (build_op g build sc env last op (suc j) ks brs)
      | false ↦ cons (build k sc env last) (build_op g build sc env last op (suc j) ks (b ∷ brs))
    ]

-- a lambda's literal, its arguments numbered after `last`
unfoldable pub arg_lit : ℕ → List (ℕ × List ℕ) → List ℕ
arg_lit last [] = []
arg_lit last (a ∷ xs) = put32 (suc last) ++ (a.1 ++ arg_lit (suc last) xs)

abbrev pub arg_env : ℕ → List (ℕ × List ℕ) → Env → Env
arg_env last [] env = env
arg_env last (a ∷ xs) env = arg_env (suc last) xs ((a.0, suc last) ∷ env)

-- a symbol that has no id. An argument outside its lambda is never met; a lambda's body is numbered from one past its
-- arguments
unfoldable pub build_node : Graph → Builder → Sym → Node → ℕ → Env → ℕ → Tree
build_node g build y constant sc env last = node y.rec nil
build_node g build y unparsed sc env last = node y.rec nil
build_node g build y argument sc env last = val_use_of 0
build_node g build y (func xs body) sc env last =
    node (rec FuncValue FuncValueOp (length xs) (arg_lit last xs))
    (cons (process_scope g build (get_or y.kids 0 0) body (arg_env last xs env) (suc (last + length xs))) nil)
build_node g build y (operation brs) sc env last =
    node y.rec (build_op g build sc env last y.rec.opcode 0 y.kids brs)

unfoldable pub build_step : Graph → Builder → Builder
build_step g build s sc env last =
    elim (id_given env s) [ Some i ↦ val_use_of i | None ↦ build_node g build (sym_of g s) (sym_of g s).node sc env last ]

unfoldable pub build_value : Graph → Builder
build_value g = down (λ sc env last. val_use_of 0) (build_step g)

-- the written tree of a root's symbol
unfoldable pub materialize : List Sym → List Scope → ℕ → Tree
materialize ss scs root = let g = reachable ss scs root in process_scope g (build_value g) root 0 [] 0
