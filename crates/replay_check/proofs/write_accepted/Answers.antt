-- `replay_check::write_accepted` meets its contract. Assumes nothing.
use Rattle.streams.proofs.Taken.{taken}
use Rattle.replay_check.proofs.write_accepted.Goals as goal

pub returns : goal.returns
returns g c = rw (taken c.put_accepted-n.ensures) at c.write_all.ensures.bytes
