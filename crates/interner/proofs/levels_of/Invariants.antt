-- `interner::levels_of` in its loop: what stays. Assumes nothing.
use Prim.Native.Nat.{ℕ}
use mathlib.Core.Path.{◌≡◌}
use Rattle.symbols.specs.Words.{pending_from}
use Rattle.scopes.specs.Levels.{has}
use Rattle.interner.specs.Levels.{any_has}
use Rattle.interner.proofs.levels_of.Given as given

abbrev pub invariant-loop-k : given.invariant-loop-k
invariant-loop-k l =
    (j : ℕ) → has l.all j ≡ any_has l.work j (pending_from l.work l.held l.k)
