-- `lines::put_savings` in its loop: what stays. Assumes nothing.
use lib.ListN.{take}
use Rattle.model.specs.Lister.{saving_lines}
use Rattle.output.specs.Output.{Put}
use Rattle.lines.proofs.put_savings.Given as given

-- the lines of the first definitions are put
abbrev pub invariant-loop-id : given.invariant-loop-id
invariant-loop-id l = Put l.initial.out (saving_lines (take l.id-index l.savings)) l.out
