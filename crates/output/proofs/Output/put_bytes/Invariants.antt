-- `output::Output::put_bytes` in its loop: what stays. Assumes nothing.
use mathlib.Core.Path.{◌≡◌}
use lib.Seq.{paste}
use Rattle.output.proofs.Output.put_bytes.Given as given

-- the bytes so far are copied
abbrev pub invariant-loop-k : given.invariant-loop-k
invariant-loop-k l = l.place ≡ paste l.initial.place 0 l.bytes l.k
