-- `shape::parts::times_part` in its loop: what is left holds the parts that are left. Assumes nothing.
use Rattle.std.proofs.Common.{◌≡◌, ◌-◌}
use Rattle.model.specs.Shape.{Reader, times}
use Rattle.shape.specs.Reading.{TakesOff}
use Rattle.shape.proofs.parts.times_part.Given as goal

abbrev pub invariant-loop : goal.invariant-loop
invariant-loop g l =
    (f : Reader) → TakesOff (goal.F-post g l.part) f → times (l.n - l.counter) f l.rest ≡ times l.n f l.lit
