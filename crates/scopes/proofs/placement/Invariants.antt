-- `scopes::placement` in its loops: what stays, and what falls. Assumes nothing.
use Prim.Native.Nat.{ℕ, ◌<◌, ◌≤◌}
use mathlib.Core.Path.{◌≡◌}
use mathlib.Core.List.{List}
use Rattle.model.specs.Intern.{climb}
use Rattle.scopes.specs.Scopes.{scopes_of, outward, Tracks}
use Rattle.scopes.proofs.placement.Given as given

abbrev pub invariant-loop-k : given.invariant-loop-k
invariant-loop-k l =
    (l.k ≤ l.cur)
    × ((m : ℕ) (deps : List ℕ) → l.cur < m → Tracks (scopes_of l.work m) l.levels deps (outward (scopes_of l.work m) l.cur)
    → Tracks (scopes_of l.work m) l.levels deps (outward (scopes_of l.work m) l.k)
    × (climb (scopes_of l.work m) deps (outward (scopes_of l.work m) l.k)
    ≡ climb (scopes_of l.work m) deps (outward (scopes_of l.work m) l.cur)))

abbrev pub decreases-loop-k : given.decreases-loop-k
decreases-loop-k l =
    l.k
