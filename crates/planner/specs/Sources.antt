-- What is planned from, as the definitions have it. In order: the graph, with the uses counted; symbols that get a
-- definition.
-- Assumes nothing.
use Rattle.std.specs.Prelude.{ℕ, ◌+◌, ◌<◌, ◌≡◌, Bool, false, List, get_or, ltb}
use Rattle.model.specs.Intern.{Env}
use Rattle.model.specs.Gate.{usage}
use Rattle.model.specs.Gate as model
use Rattle.model.specs.Materialize.{member}
use Rattle.laws.specs.Defining.{members_in}
use Rattle.laws.specs.Range.{range}
use Rattle.symbols.specs.Symbols.{syms_of}
use Rattle.scopes.specs.Scopes.{scopes_of}
use Rattle.planner.specs.declared.source.Source.{Source}
use Rattle.planner.specs.Building.{an_arg, Maps}

-- ---- the graph, with the uses counted

pub record GraphIn (x : Source) (gr : model.Graph) : Type 0 where
  pub syms : gr.syms ≡ syms_of x.forest.now x.graph.words.now x.graph.symbols
  pub scopes : gr.scopes ≡ scopes_of x.graph.words.now x.graph.scopes
  pub uses : (s : ℕ) → s < x.graph.symbols → get_or x.uses.now s 0 ≡ usage gr s

-- ---- symbols that get a definition in scope sc

-- symbol s has no id, and is no lambda's argument
pub record New (x : Source) (ids : List ℕ) (s : ℕ) : Type 0 where
  pub none : get_or ids s 0 ≡ 0
  pub no_arg : an_arg x.forest.now x.graph.words.now s ≡ false

abbrev pub Member : Source → List ℕ → ℕ → ℕ → Bool → Type 0
Member x ids sc s r = (gr : model.Graph) (env : Env) → GraphIn x gr → Maps ids env → r ≡ member gr sc env s

abbrev pub Members : Source → List ℕ → ℕ → List ℕ → ℕ → Type 0
Members x ids sc order r =
    (gr : model.Graph) (env : Env) → GraphIn x gr → Maps ids env → r ≡ members_in gr sc env order

-- whether there is one among the symbols up to `root`
abbrev pub AnyMember : Source → List ℕ → ℕ → ℕ → Bool → Type 0
AnyMember x ids sc root r =
    (gr : model.Graph) (env : Env) → GraphIn x gr → Maps ids env
    → r ≡ ltb 0 (members_in gr sc env (range 0 (root + 1)))
