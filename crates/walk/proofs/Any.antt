-- One walk for all four checks: where it finds nothing, no check finds anything.
-- In order: a test that another implies; the tests of a record; the walks.
-- Assumes nothing.
use mathlib.Core.Path.{◌≡◌}
use mathlib.Core.Bool.{Bool, false, ◌||◌}
use Rattle.std.specs.Prelude.{None}
use lib.Dec.{ltb}
use Rattle.model.specs.Lists.{first}
use Rattle.model.specs.Tree.{Rec, Tree, Trees, node, nil, cons}
use Rattle.model.specs.Faults.{Check, faults, faults_in}
use Rattle.model.specs.Binding.{misplaced_at, rebound_at, unbound_at}
use Rattle.laws.proofs.Members.{or_neither}
use Rattle.laws.specs.Clear.{Clear}
use Rattle.laws.proofs.Clear.{clear_head, clear_tail, clear_cons, first_clear, clear_first}
use Rattle.walk.specs.declared.Test.{Test}
use Rattle.walk.specs.declared.Test.TheVariants.{Any, Depth, Definitions, Bindings, Uses}
use Rattle.walk.specs.Faults.{Ctx, start, testing, any_at, test_at, check_by}

-- ---- where q is false wherever p is, a walk that p leaves clear is clear for q

module _ (p q : Ctx → Rec → Bool) (covers : (c : Ctx) (r : Rec) → p c r ≡ false → q c r ≡ false) where
  abbrev P : Check Ctx
  P = testing p

  abbrev Q : Check Ctx
  Q = testing q

  mutual
    unfolding faults

    clear_tree : (t : Tree) (c : Ctx) → Clear (faults P t c) → Clear (faults Q t c)
    clear_tree (node r ts) c h = (covers c r h.0, clear_trees ts (P.inner r c) h.1)

    clear_trees : (ts : Trees) (c : Ctx) → Clear (faults_in P ts c) → Clear (faults_in Q ts c)
    clear_trees nil c h = tt
    clear_trees (cons t ts) c h =
        clear_cons Q t ts c (clear_tree t (P.here c ts) (clear_head P t ts c h))
        (clear_trees ts (P.later t c) (clear_tail P t ts c h))

-- ---- the tests of a record

-- where none of the four offends, no single test does
any_covers : (t : Test) (c : Ctx) (r : Rec) → any_at c r ≡ false → test_at t c r ≡ false
unfolding any_at
any_covers t c r h =
    let uses = or_neither (ltb 64 c.depth || misplaced_at c.def r || rebound_at c.ids r) (unbound_at c.ids r) h in
    let bindings = or_neither (ltb 64 c.depth || misplaced_at c.def r) (rebound_at c.ids r) uses.0 in
    let two = or_neither (ltb 64 c.depth) (misplaced_at c.def r) bindings.0 in
    elim t as (λ z. test_at z c r ≡ false) [
      | Any ↦ h
      | Depth ↦ two.0
      | Definitions ↦ two.1
      | Bindings ↦ bindings.1
      | Uses ↦ uses.1
    ]

-- ---- the walks

pub any_none : (t : Test) (ts : Trees) → first (faults_in (check_by Any) ts start) ≡ None →
    first (faults_in (check_by t) ts start) ≡ None
any_none t ts e = clear_first _ (clear_trees any_at (test_at t) (any_covers t) ts start (first_clear _ e))
