-- What the main call answers, as model has it. In order: the five numbers; an answer and the output after it; the words
-- after it; a tree that is planned; what is left in the words for a caller that does not clear them.
-- Assumes nothing.
use Rattle.std.specs.Prelude.{ℕ, suc, ◌≤◌, ◌<◌, ◌≡◌, Option, MatchOption, IfSome, List, [], ◌∷◌, ◌++◌, length, drop, replicate, Result, Ok, Err}
use Rattle.model.specs.Answer.{good}
use Rattle.model.specs.Answer as answer
use Rattle.model.specs.Tree.{Tree, size, depth, rows}
use Rattle.model.specs.Forest.{trees_of}
use Rattle.model.specs.Accept.{accept}
use Rattle.model.specs.Intern.{State}
use Rattle.model.specs.Lists.{is_in}
use Rattle.model.specs.Gate.{reach, usage}
use Rattle.model.specs.Labels.{labelled, defined_of}
use Rattle.model.specs.Call.{Numbers, numbers_of, out_with, tree_of, interned, reached_of}
use Rattle.model.specs.Call as call
use Rattle.laws.specs.Frame.{Frame}
use Rattle.regions.specs.Regions.{SYMBOLS, PLAN, WORDS}
use Rattle.symbols.specs.Symbols.{syms_of}
use Rattle.gate.specs.Gate.{uses_at, reached_at, bit}
use Rattle.graph.specs.Graph.{Arena}
use Rattle.plan.specs.Plan.{plan_from, symbols_in, AllWritable, planned_rows}
use Rattle.planner.specs.declared.Plan.{Plan}
use Rattle.refusal.specs.declared.Refusal.{Refusal}
use Rattle.refusal.specs.Refusal.{number_of}
use Rattle.cse.specs.declared.Written.{Written}

-- ---- the five numbers

abbrev pub five : ℕ → ℕ → ℕ → ℕ → ℕ → Numbers
five number place len symbols readings =
    record { number = number; place = place; len = len; symbols = symbols; readings = readings }

-- "A refusal gives zero for the last three"
abbrev pub numbers_in : Result Written Refusal → Numbers
numbers_in (Ok w) = five 0 0 w.length w.symbols w.readings
numbers_in (Err r) = five (number_of r.check) r.place 0 0 0

-- ---- an answer

-- r tells answer a, and the output is as it says
pub record Tells (a : answer.Answer call.Written) (out : List ℕ) (r : Result Written Refusal) (out' : List ℕ) : Type 0
  where
    pub numbers : numbers_in r ≡ numbers_of a
    pub output : out' ≡ out_with a out

-- ---- words

-- the first n words are 0, the others as they were
unfoldable pub cleared : ℕ → List ℕ → List ℕ
cleared n ws = replicate n 0 ++ drop n ws

-- no word changed but those that the call is lent at least
abbrev pub LentOnly : List ℕ → List ℕ → Type 0
LentOnly ws ws' = Frame SYMBOLS.first WORDS ws ws'

-- ---- a planned tree

-- tree t is planned in the words from PLAN on, as p says
pub record PlanOf (bs ws : List ℕ) (t : Tree) (p : Plan) : Type 0 where
  pub count : p.rows ≡ size t
  pub plan : planned_rows bs ws PLAN.first p.rows ≡ rows t
  pub deepest : p.deepest ≡ depth t

-- its rows can be written
pub record PlanWritable (bs ws : List ℕ) (p : Plan) : Type 0 where
  pub words : WORDS ≤ length ws
  pub few : p.rows ≤ 256
  pub writable : AllWritable bs (plan_from ws PLAN.first p.rows)

-- the tree that document 01 defines for o is planned, and can be written, or it has more than 256 records
pub record Planned (bs ws ws' : List ℕ) (o : ℕ × State) (r : Option Plan) : Type 0 where
  pub tree : MatchOption r (256 < size (tree_of o)) (λ p. PlanOf bs ws' (tree_of o) p)
  pub ready : IfSome r (λ p. PlanWritable bs ws' p)
  pub kept : LentOnly ws ws'

-- ---- what is left in the words

-- the n symbols of an accepted forest, as interning made them, their scopes, which of them the root reaches, and their uses from
-- it; and, in the plan of the written tree, the symbols that its definitions are of
pub record Held (bs ws : List ℕ) (n : ℕ) : Type 0 where
  pub words : WORDS ≤ length ws
  pub made : ℕ × State
  pub accepted : accept bs ≡ good (trees_of bs)
  pub interns : interned bs ≡ good made
  pub scopes : ℕ
  pub arena : Arena bs ws n scopes
  pub syms : syms_of bs ws n ≡ made.1.syms
  pub uses : (s : ℕ) → s < n → uses_at ws s ≡ usage (reached_of made) s
  pub reached : (s : ℕ) → s < n → reached_at ws s ≡ bit (is_in s (reach made.1.syms (suc made.0) (made.0 ∷ [])))
  pub defined : symbols_in (plan_from ws PLAN.first (size (tree_of made))) ≡ defined_of (labelled (reached_of made) made.0)

-- n is the answer's count of symbols, where a tree was written
abbrev pub Counts : ℕ → Result Written Refusal → Type 0
Counts n (Ok w) = w.symbols ≡ n
Counts n (Err r) = Unit {0}

-- the answer's symbols are held, where a tree was written
abbrev pub HeldAfter : List ℕ → List ℕ → Result Written Refusal → Type 0
HeldAfter bs ws (Ok w) = Held bs ws w.symbols
HeldAfter bs ws (Err r) = Unit {0}
