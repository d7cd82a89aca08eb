-- `outsiders::add_run` meets its contract. Assumes nothing.
use mathlib.Core.Path.{refl}
use Rattle.model.specs.Lists.{union}
use Rattle.laws.proofs.Falls.{under_at}
use Rattle.outsiders.proofs.Lists.{held_add, union_next}
use Rattle.outsiders.proofs.add_run.Goals as goal

pub loop-d-init : goal.loop-d-init
unfolding union
loop-d-init c = (c.requires.held, refl)

pub add-requires : goal.add-requires
add-requires c = (under_at _ _ c.requires.below _ c.loop-d-test.true, c.loop-d.invariant.0)

pub loop-d-preserved : goal.loop-d-preserved
loop-d-preserved c = (
  rw c.add.ensures (held_add _ _ _ c.loop-d.invariant.0 (under_at _ _ c.requires.below _ c.loop-d-test.true)),
  rw (c.add.ensures, c.loop-d.invariant.1) (union_next _ _ _ _ c.loop-d-test.true refl),
)
