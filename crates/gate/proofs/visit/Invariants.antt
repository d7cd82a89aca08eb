-- `gate::visit` in its loop: what stays. Assumes nothing.
use Prim.Native.Nat.{suc, ◌-◌}
use mathlib.Core.Path.{◌≡◌}
use Rattle.symbols.specs.Symbols.{kids_at}
use Rattle.gate.specs.Gate.{visited_down}
use Rattle.gate.proofs.Turns.{Going}
use Rattle.gate.proofs.visit.Given as given

abbrev pub invariant-loop-s : given.invariant-loop-s
invariant-loop-s l =
    Going l.initial.work l.work (suc l.root) (l.root - l.s) ×
    (visited_down (kids_at l.initial.work) l.work (suc l.s)
    ≡ visited_down (kids_at l.initial.work) l.initial.work (suc l.root))
