-- `gate::note_all` in its loop: what stays. Assumes nothing.
use mathlib.Core.Path.{◌≡◌}
use Rattle.symbols.specs.Words.{words_from}
use Rattle.gate.specs.Gate.{all_noted}
use Rattle.gate.proofs.note_all.Given as given

abbrev pub invariant-loop-k : given.invariant-loop-k
invariant-loop-k l =
    l.work ≡ all_noted l.initial.work (words_from l.initial.work l.at l.k)
