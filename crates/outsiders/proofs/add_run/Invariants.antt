-- `outsiders::add_run` in its loop: what stays. Assumes nothing.
use mathlib.Core.Path.{◌≡◌}
use lib.ListN.{take}
use Rattle.model.specs.Lists.{union}
use Rattle.outsiders.specs.Outsiders.{Held}
use Rattle.outsiders.proofs.add_run.Given as given

abbrev pub invariant-loop-d : given.invariant-loop-d
invariant-loop-d l = Held 512 l.list.items × (l.list.items ≡ union l.initial.list.items (take l.d-index l.run))
