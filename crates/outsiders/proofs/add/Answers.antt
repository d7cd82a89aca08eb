-- `outsiders::add` meets its contract. Assumes nothing.
use mathlib.Core.Path.{◌∙◌}
use native.Mathlib.Omega.{arith}
use Rattle.outsiders.proofs.Lists.{found_is, add_old, add_new, held_room}
use Rattle.outsiders.proofs.add.Goals as goal

pub push-requires : goal.push-requires
push-requires c = (
  omega arith,
  held_room _ _ _ c.requires.1 c.requires.0
      (found_is _ _ c.deref.ensures.0 c.has.ensures ∙ c.if-not-has.true),
)

pub returns-then-not-has : goal.returns-then-not-has
returns-then-not-has c =
    c.push.ensures.items ∙ add_new _ _ c.deref.ensures.0 c.has.ensures c.if-not-has.true

pub returns-else-not-has : goal.returns-else-not-has
returns-else-not-has c = add_old _ _ c.deref.ensures.0 c.has.ensures c.if-not-has.false
