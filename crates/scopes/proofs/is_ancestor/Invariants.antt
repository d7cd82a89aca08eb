-- `scopes::is_ancestor` in its loops: what stays, and what falls. Assumes nothing.
use Prim.Native.Nat.{ℕ, ◌<◌, ◌≤◌}
use mathlib.Core.Path.{◌≡◌}
use Rattle.model.specs.Lists.{is_in}
use Rattle.model.specs.Intern.{scope_at}
use Rattle.scopes.specs.Scopes.{scopes_of}
use Rattle.scopes.proofs.is_ancestor.Given as given

abbrev pub invariant-loop-k : given.invariant-loop-k
invariant-loop-k l =
    (l.k ≤ l.sc)
    × ((m : ℕ) → l.sc < m
    → is_in l.ancestor (scope_at (scopes_of l.work m) l.k).around
    ≡ is_in l.ancestor (scope_at (scopes_of l.work m) l.sc).around)

abbrev pub decreases-loop-k : given.decreases-loop-k
decreases-loop-k l =
    l.k
