-- `lines::put_lines` in its loop: what stays. Assumes nothing.
use Rattle.output.specs.Output.{Put}
use Rattle.lines.specs.Lines.{lines_to}
use Rattle.lines.proofs.put_lines.Given as given

-- the lines of the first s symbols are put
abbrev pub invariant-loop-s : given.invariant-loop-s
invariant-loop-s l = Put l.initial.out (lines_to l.forest l.work l.s) l.out
