-- What the functions that plan ask and answer. In order: where a tree is planned; ids given, for as long as a scope
-- lasts; a tree planned, and which symbols its rows define; the tree of a symbol without an id; a scope's definitions; an
-- operation's operands. x is what is planned from, pl the plan's words.
--
-- Why ids and depths fit: along a path to lower symbols a scope gives at most 512 definitions their ids and a lambda at
-- most 16 to arguments and body, and the depth grows by at most three a symbol; so `last + above` grows by less than
-- 1,024 for each symbol that the path goes down (`room`).
-- Assumes nothing.
use Rattle.std.specs.Prelude.{ℕ, ◌+◌, ◌*◌, ◌<◌, ◌≤◌, ◌≡◌, ◌⊎◌, List, ◌++◌, Option, IfSome, drop, length, get_or}
use Rattle.model.specs.Tree.{Tree, Trees, rows_of}
use Rattle.model.specs.Intern.{Env}
use Rattle.model.specs.Gate.{sym_of}
use Rattle.model.specs.Gate as model
use Rattle.model.specs.Materialize.{Defined, define, build_op, build_node, build_value}
use Rattle.model.specs.Labels.{LTree, LTrees, l_define, l_build_op, l_build_node, l_build_value, defined_in}
use Rattle.laws.specs.Members.{In}
use Rattle.regions.specs.Regions.{PLAN}
use Rattle.key.specs.declared.Func.{Func}
use Rattle.key.specs.declared.Operation.{Operation}
use Rattle.key.specs.declared.Node.TheVariants.{Lambda}
use Rattle.key.specs.Key.{branches_of, symbol_at}
use Rattle.symbols.specs.Symbols.{kids_at}
use Rattle.planner.specs.declared.source.Source.{Source}
use Rattle.planner.specs.declared.Plan.{Plan}
use Rattle.planner.specs.Grew.{Grew, Over, defined_to, Defining, Grown, deep_in, GrownAll}
use Rattle.planner.specs.Building.{ArgOf, Maps, left_at}
use Rattle.planner.specs.Sources.{GraphIn, New}

-- ---- where a tree is planned

-- symbol s of n, with the last id, how many levels are above, the plan so far and its words
pub record Site (n s slack last above : ℕ) (p : Plan) (pl : List ℕ) : Type 0 where
  pub low : s < n
  pub room : last + above + 1024 * s + slack ≤ 524288
  pub count : p.rows ≤ 256
  pub words : PLAN.size ≤ length pl

-- ---- ids given, for as long as a scope lasts

-- no id is after the last
abbrev pub UpTo : List ℕ → ℕ → Type 0
UpTo ids last = (t : ℕ) → get_or ids t 0 ≤ last

-- what holds of them while symbol s is built: besides, arguments of lambdas up to s are not in force, so they have none
pub record Ids (x : Source) (ids : List ℕ) (s last : ℕ) : Type 0 where
  pub up_to : UpTo ids last
  pub outer : (t a : ℕ) (f : Func) → t ≤ s → (symbol_at x.graph.words.now t).node ≡ Lambda f → ArgOf x.forest.now f a
      → get_or ids a 0 ≡ 0

-- symbol t, of an order, had no id and has one after `last`
pub record AddedAt (x : Source) (ids order : List ℕ) (last : ℕ) (ids' : List ℕ) (t : ℕ) : Type 0 where
  pub among : In t order
  pub new : New x ids t
  pub after : last < get_or ids' t 0

-- no id changed but those that symbols of an order got
abbrev pub Added : Source → List ℕ → List ℕ → ℕ → List ℕ → Type 0
Added x ids order last ids' = (t : ℕ) → (get_or ids' t 0 ≡ get_or ids t 0) ⊎ AddedAt x ids order last ids' t

-- ---- a tree planned

-- the tree of a graph, a scope and ids, for the graph that x has and the ids that stand for `ids`
pub record Plans (x : Source) (ids pl : List ℕ) (p : Plan) (above : ℕ)
    (tree : model.Graph → ℕ → Env → Tree) (pl' : List ℕ) (r : Option Plan) : Type 0 where
  pub grown : (gr : model.Graph) (sc : ℕ) (env : Env) → GraphIn x gr → Maps ids env
      → Grown x.forest.now pl p above (tree gr sc env) pl' r
  pub few : IfSome r (λ q. q.rows ≤ 256)

-- the symbols that a tree's rows define, for such a graph and such ids: those of the tree with labels
pub record Labels (x : Source) (ids pl : List ℕ) (p : Plan) (symbols : model.Graph → ℕ → Env → List ℕ)
    (pl' : List ℕ) (r : Option Plan) : Type 0 where
  pub are : (gr : model.Graph) (sc : ℕ) (env : Env) → GraphIn x gr → Maps ids env
      → Defining pl p (symbols gr sc env) pl' r

-- ---- a symbol without an id

abbrev pub fresh_tree : ℕ → ℕ → model.Graph → ℕ → Env → Tree
fresh_tree s last gr sc env = build_node gr (build_value gr) (sym_of gr s) (sym_of gr s).node sc env last

abbrev pub l_fresh_tree : ℕ → ℕ → model.Graph → ℕ → Env → LTree
l_fresh_tree s last gr sc env = l_build_node gr (l_build_value gr) (sym_of gr s) (sym_of gr s).node sc env last

-- ---- a scope's definitions

-- what is defined, planned: the definitions, the ids given, and the last of them
pub record DefinesIn (bs pl : List ℕ) (p : Plan) (above : ℕ) (d : Defined) (pl' map' : List ℕ) (r : Plan)
    (last' : ℕ) : Type 0 where
  pub grown : Grew bs pl p (rows_of d.defs) (deep_in above d.defs) pl' r
  pub maps : Maps map' d.env
  pub last_is : last' ≡ d.last

-- those of an order, in scope sc
pub record Defines (x : Source) (map pl : List ℕ) (p : Plan) (above sc : ℕ) (order : List ℕ)
    (last count : ℕ) (pl' map' : List ℕ) (r : Plan) (last' : ℕ) : Type 0 where
  pub defined : (gr : model.Graph) (env : Env) → GraphIn x gr → Maps map env
      → DefinesIn x.forest.now pl p above (define gr (build_value gr) sc order env last) pl' map' r last'
  pub few : r.rows ≤ 256
  pub ids : last' ≤ last + count

-- more than p has room for
pub record DefinesOver (x : Source) (map : List ℕ) (p : Plan) (sc : ℕ) (order : List ℕ) (last : ℕ) : Type 0 where
  pub over : (gr : model.Graph) (env : Env) → GraphIn x gr → Maps map env
      → Over p (rows_of (define gr (build_value gr) sc order env last).defs)

-- the symbols of an order that get a definition, with those that their values define
abbrev pub order_symbols : ℕ → List ℕ → ℕ → model.Graph → ℕ → Env → List ℕ
order_symbols sc order last gr at env = defined_in (l_define gr (l_build_value gr) sc order env last).defs

-- ---- an operation's operands

-- those from operand j on
abbrev pub operands_left : Source → ℕ → ℕ → Operation → ℕ → ℕ → model.Graph → ℕ → Env → Trees
operands_left x s op o last j gr sc env =
    build_op gr (build_value gr) sc env last op j (drop j (kids_at x.graph.words.now s)) (left_at op (branches_of o.branches) j)

-- the operands before j of operation s are planned, from words pl and plan p to words pl₁ and plan q: once those left
-- are planned too, all are
pub record Leads (x : Source) (ids pl : List ℕ) (p : Plan) (above s op : ℕ) (o : Operation) (last j : ℕ)
    (pl₁ : List ℕ) (q : Plan) : Type 0 where
  pub all : (gr : model.Graph) (sc : ℕ) (env : Env) → GraphIn x gr → Maps ids env
      → (pl₂ : List ℕ) (r : Option Plan)
      → GrownAll x.forest.now pl₁ q above (operands_left x s op o last j gr sc env) pl₂ r
      → GrownAll x.forest.now pl p above (operands_left x s op o last 0 gr sc env) pl₂ r

abbrev pub l_operands_left : Source → ℕ → ℕ → Operation → ℕ → ℕ → model.Graph → ℕ → Env → LTrees
l_operands_left x s op o last j gr sc env =
    l_build_op gr (l_build_value gr) sc env last op j (drop j (kids_at x.graph.words.now s)) (left_at op (branches_of o.branches) j)

-- and their rows define those symbols that operands from j on do not
pub record LeadsLabels (x : Source) (ids pl : List ℕ) (p : Plan) (s op : ℕ) (o : Operation) (last j : ℕ)
    (pl₁ : List ℕ) (q : Plan) : Type 0 where
  pub are : (gr : model.Graph) (sc : ℕ) (env : Env) → GraphIn x gr → Maps ids env
      → defined_to pl₁ q ++ defined_in (l_operands_left x s op o last j gr sc env)
      ≡ defined_to pl p ++ defined_in (l_operands_left x s op o last 0 gr sc env)
