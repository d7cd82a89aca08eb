-- `replay_check::answer` meets its contract. Assumes nothing.
use Rattle.streams.proofs.Puts.{puts_as}
use Rattle.replay_check.proofs.Accepted.{line_of_entries}
use Rattle.replay_check.proofs.answer.Goals as goal

pub returns-in-Ok : goal.returns-in-Ok
returns-in-Ok g c =
    let e = c.in-Ok.ensures in
    puts_as c.write_accepted.result (g.W.Write.contents c.args.output.now)
    (g.W.Write.contents c.write_accepted.new.output)
    (line_of_entries _ _ _ _ e.forest.0 c.record_count.ensures e.judged.is e.ends) c.write_accepted.ensures
