-- `replay_check::put_spaced` in its loop: what stays. Assumes nothing.
use lib.ListN.{take}
use Rattle.output.specs.Output.{Put}
use Rattle.replay_check.specs.Line.{spaced}
use Rattle.replay_check.proofs.put_spaced.Given as given

-- the first numbers are put
abbrev pub invariant-loop-end : given.invariant-loop-end
invariant-loop-end l = Put l.initial.out (spaced (take l.end-index l.ends)) l.out
