-- `template::put_verdict` meets its contract. Assumes nothing.
use Rattle.template.proofs.put_verdict.Goals as goal

pub returns-in-Some : goal.returns-in-Some
returns-in-Some c w e = rw (← c.in-Some.ensures.value) (c.put_two_values.ensures w)
