-- `bindings::resolve` in its loop: what stays. Assumes nothing.
use mathlib.Core.Path.{◌≡◌}
use Rattle.model.specs.Intern.{resolve}
use Rattle.bindings.specs.Bindings.{env_of}
use Rattle.bindings.proofs.resolve.Given as given

abbrev pub invariant-loop-k : given.invariant-loop-k
invariant-loop-k l = resolve (env_of l.work l.k) l.id ≡ resolve (env_of l.work l.n) l.id
