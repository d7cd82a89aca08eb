-- What the contracts of orders and free lists say. In order: the two orders; the neighbours of a symbol; lists that are
-- lent; what the functions give.
-- Assumes nothing.
use Rattle.std.specs.Prelude.{ℕ, ◌<◌, ◌≤◌, ◌≡◌, Bool, true, false, ◌||◌, List, [], length, get_or}
use Rattle.model.specs.Lists.{is_in}
use Rattle.model.specs.Gate.{Graph, sym_of}
use Rattle.model.specs.Schedule.{is_arg, local, deeper, outside, is_outside, rel_of, visit, body_neighbours, neighbours}
use Rattle.model.specs.Schedule.{collect, free_vars, schedule, local_dep_order}
use Rattle.laws.specs.Members.{Under}
use Rattle.graph.specs.declared.held.Graph as code
use Rattle.graph.specs.Tests.{held_in}
use Rattle.outsiders.specs.Outsiders.{Held}
use Rattle.schedule.specs.declared.scheduler.Order.{Order}
use Rattle.schedule.specs.declared.scheduler.Order.TheVariants.{Body, Schedule}
use Rattle.schedule.specs.declared.scheduler.Scheduler.{Scheduler}

-- ---- the two orders: a body's order in a scope, a scope's schedule

abbrev pub scope_of : Order → ℕ
scope_of (Body cs) = cs
scope_of (Schedule sc) = sc

unfoldable pub order_of : Graph → Order → ℕ → List ℕ
order_of g (Body cs) s = body_neighbours g (free_vars g) cs s
order_of g (Schedule sc) s = neighbours g sc s

-- symbol d is passed over
unfoldable pub passed : Graph → Order → ℕ → Bool
passed g (Body cs) d = is_arg (sym_of g d).node || is_outside (rel_of g d cs)
passed g (Schedule sc) d = false

-- a schedule does not go into arguments
unfoldable pub stops : Graph → Order → ℕ → Bool
stops g (Body cs) s = false
stops g (Schedule sc) s = is_arg (sym_of g s).node

-- the neighbours of s, with those that are passed over
unfoldable pub near_of : Graph → Order → ℕ → List ℕ
near_of g o s =
    elim (stops g o s) [
      | true ↦ []
      | false ↦ elim (rel_of g s (scope_of o)) [ local ↦ (sym_of g s).kids | deeper ↦ free_vars g s | outside ↦ [] ]
    ]

-- a visit, unless the symbol is passed over
unfoldable pub step_of : Graph → Order → ℕ → List ℕ → List ℕ
step_of g o d out = elim (passed g o d) [ true ↦ out | false ↦ visit (order_of g o) d out ]

-- what body symbol s hangs on
unfoldable pub needs_of : Graph → ℕ → ℕ → List ℕ
needs_of g cs s = elim (rel_of g s cs) [ local ↦ local_dep_order (sym_of g s) | deeper ↦ free_vars g s | outside ↦ [] ]

-- a visit of a symbol that is not passed over
abbrev pub visit_of : Graph → Order → ℕ → List ℕ → List ℕ
visit_of g o s = visit (order_of g o) s

-- ---- the neighbours of a symbol

-- the graph of a scheduler
abbrev pub graph_in : Scheduler → Graph
graph_in w = held_in w.graph w.forest.now []

-- they are these, all lower
pub record Near (w : Scheduler) (s : ℕ) (near : List ℕ) : Type 0 where
  pub below : Under s near
  pub is : near ≡ near_of (graph_in w) w.order s

-- s lies deeper, so they are its free list
pub record LiesDeeper (w : Scheduler) (s : ℕ) : Type 0 where
  pub goes_on : stops (graph_in w) w.order s ≡ false
  pub lies : rel_of (graph_in w) s (scope_of w.order) ≡ deeper

-- ---- lists that are lent

-- what an order lists of the symbols visited: a schedule these themselves, a body's order their outsiders
unfoldable pub listed : Graph → Order → List ℕ → List ℕ
listed g (Body cs) vs = collect g (free_vars g) cs vs []
listed g (Schedule sc) vs = vs

-- symbols vs were visited: these were seen, and the list has what their order lists of them
pub record Shows (w : Scheduler) (seen : List Bool) (list vs : List ℕ) : Type 0 where
  pub held : Held w.graph.symbols list
  pub known : (s : ℕ) → s < 512 → get_or seen s false ≡ is_in s vs
  pub is : list ≡ listed (graph_in w) w.order vs

-- some symbols were
pub record Lent (w : Scheduler) (seen : List Bool) (list : List ℕ) : Type 0 where
  pub visited : List ℕ
  pub shows : Shows w seen list visited

-- ---- what the functions give

-- whichever were visited before, f of them have been now
pub record Walked (w : Scheduler) (f : Graph → List ℕ → List ℕ) (seen : List Bool) (list : List ℕ) (seen' : List Bool)
    (list' : List ℕ) : Type 0 where
  pub shows : (vs : List ℕ) → Shows w seen list vs → Shows w seen' list' (f (graph_in w) vs)

-- the schedule of scope `sc` from `root`, of a graph that is held, over a forest of bytes bs
pub record Scheduled (bs : List ℕ) (g : code.Graph) (root sc : ℕ) (order : List ℕ) : Type 0 where
  pub fit : length order ≤ 512
  pub is : (slots : List ℕ) → order ≡ schedule (held_in g bs slots) root sc
  pub low : (k : ℕ) → k < length order → get_or order k 0 ≤ root
