-- `replay_check::rows` meets its contract. Assumes nothing.
use Rattle.replay_check.proofs.Answering.{going_start, going_turn, going_stop, going_end}
use Rattle.replay_check.proofs.rows.Goals as goal

pub loop-k-init : goal.loop-k-init
loop-k-init g c = going_start _ _ _ _

pub loop-k-preserved : goal.loop-k-preserved
loop-k-preserved g c =
    let more = c.if-not-branch.false in
    going_turn _ _ _ _ _ _ _ _ _ c.loop-k-test.true c.loop-k.invariant
    (rw (c.loop-k.auto.forest, more) at c.in_ok-row.ensures)

pub returns-after-loop-k : goal.returns-after-loop-k
returns-after-loop-k g c = going_end _ _ _ _ _ _ _ c.loop-k-test.false c.loop-k.invariant

pub returns-then-not-branch : goal.returns-then-not-branch
returns-then-not-branch g c =
    let more = c.if-not-branch.true in
    going_stop _ _ _ _ _ _ _ _ _ c.loop-k.invariant (rw (c.loop-k.auto.forest, more) at c.in_ok-row.ensures)
