-- Free lists in words that change after them. Assumes nothing.
use Prim.Native.Nat.{ℕ, ◌≤◌}
use mathlib.Core.List.{List, []}
use native.Mathlib.Omega.{arith}
use Rattle.laws.specs.Frame.{Frame}
use Rattle.regions.specs.Regions.{SLOTS, FREE_LISTS, end}
use Rattle.graph.specs.Graph.{Arena, graph_of}
use Rattle.graph.proofs.Laws.{Still, still_above, graph_agree}
use Rattle.free_lists.specs.FreeLists.{Lists}
use Rattle.free_lists.proofs.Laws.{lists_agree}

pub lists_above : {lo hi n m : ℕ} {bs ws ws' : List ℕ} → Frame lo hi ws ws' → end FREE_LISTS ≤ lo → Arena bs ws n m →
    Lists (graph_of bs ws n m []) ws n → Lists (graph_of bs ws' n m []) ws' n
lists_above {lo} {hi} {n} {m} {bs} {ws} {ws'} f le a h =
    let still : Still ws ws' SLOTS.size n m = still_above f (omega arith) (omega arith) a.scoped in
    rw (graph_agree still bs a.sound [])
    (lists_agree _ ws ws' n a.scoped.few (λ k l r. f.before k (omega arith)) h)
