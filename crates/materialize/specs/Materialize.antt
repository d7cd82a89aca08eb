-- What is asked and answered of the root: its uses are counted, and its tree is planned. bs are the forest's bytes, ws
-- the words: n symbols in m scopes, their uses counted, and region PLAN.
-- Assumes nothing.
use Rattle.std.specs.Prelude.{ℕ, ◌+◌, ◌*◌, ◌<◌, ◌≤◌, ◌≡◌, List, Option, MatchOption, IfSome, length, get_or}
use Rattle.model.specs.Tree.{Tree, rows, depth}
use Rattle.model.specs.Gate.{reachable, usage}
use Rattle.model.specs.Gate as model
use Rattle.model.specs.Materialize.{materialize}
use Rattle.model.specs.Labels.{labelled, defined_of}
use Rattle.laws.specs.Frame.{Agree, Frame}
use Rattle.regions.specs.Regions.{PLAN, end}
use Rattle.symbols.specs.Symbols.{syms_of}
use Rattle.scopes.specs.Scopes.{scopes_of}
use Rattle.gate.specs.Gate.{uses_at}
use Rattle.plan.specs.Plan.{plan_from, symbols_in, AllWritable, planned_rows}
use Rattle.planner.specs.declared.Plan.{Plan}

abbrev pub root_graph : List ℕ → List ℕ → ℕ → ℕ → ℕ → model.Graph
root_graph bs ws n m root = reachable (syms_of bs ws n) (scopes_of ws m) root

-- the written tree
abbrev pub root_tree : List ℕ → List ℕ → ℕ → ℕ → ℕ → Tree
root_tree bs ws n m root = materialize (syms_of bs ws n) (scopes_of ws m) root

-- the symbols that its definitions are of
abbrev pub root_symbols : List ℕ → List ℕ → ℕ → ℕ → ℕ → List ℕ
root_symbols bs ws n m root = defined_of (labelled (root_graph bs ws n m root) root)

-- the uses of the symbols reached from the root are counted, in words us
abbrev pub CountedIn : List ℕ → List ℕ → ℕ → ℕ → ℕ → List ℕ → Type 0
CountedIn bs ws n m root us = (s : ℕ) → s < n → get_or us s 0 ≡ usage (root_graph bs ws n m root) s

-- and in region USES
abbrev pub Counted : List ℕ → List ℕ → ℕ → ℕ → ℕ → Type 0
Counted bs ws n m root = (s : ℕ) → s < n → uses_at ws s ≡ usage (root_graph bs ws n m root) s

-- the plan that planning begins with
abbrev pub no_rows : Plan
no_rows = record { rows = 0; deepest = 0 }

-- no word changed but the plan's
abbrev pub PlanOnly : List ℕ → List ℕ → Type 0
PlanOnly ws ws' = Frame PLAN.first (end PLAN) ws ws'

-- tree t is plan p. Words of the plan's region past its rows are as they were
pub record PlannedAs (bs ws : List ℕ) (t : Tree) (ws' : List ℕ) (p : Plan) : Type 0 where
  pub count : p.rows ≡ length (rows t)
  pub few : p.rows ≤ 256
  pub plan : planned_rows bs ws' PLAN.first p.rows ≡ rows t
  pub writable : AllWritable bs (plan_from ws' PLAN.first p.rows)
  pub deepest : p.deepest ≡ depth t
  pub rest : Agree ws ws' (PLAN.first + 3 * p.rows) (end PLAN)

-- the root's tree is planned, with the symbols of its definitions, unless it has more rows than a plan
pub record Materialized (bs ws : List ℕ) (n m root : ℕ) (ws' : List ℕ) (r : Option Plan) : Type 0 where
  pub planned : MatchOption r (256 < length (rows (root_tree bs ws n m root)))
      (λ p. PlannedAs bs ws (root_tree bs ws n m root) ws' p)
  pub symbols : IfSome r (λ p. symbols_in (plan_from ws' PLAN.first p.rows) ≡ root_symbols bs ws n m root)
  pub kept : PlanOnly ws ws'
