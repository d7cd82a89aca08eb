-- `replay_check::rows` in its loop: what was printed, and what is left of the list. Assumes nothing.
use Rattle.std.proofs.Common.{IfSome, length}
use Rattle.replay_check.proofs.Answering.{Going}
use Rattle.replay_check.proofs.rows.Given as goal

abbrev pub invariant-loop-k : goal.invariant-loop-k
invariant-loop-k g l =
    IfSome (g.R.Read.remaining l.initial.input)
    (λ bs. Going (length l.initial.forest) 65536 l._k bs (g.R.Read.remaining l.input) (g.W.Write.contents l.initial.output)
    (g.W.Write.contents l.output))
