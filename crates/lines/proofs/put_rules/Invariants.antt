-- `lines::put_rules` in its loop: what stays. Assumes nothing.
use Rattle.model.specs.Lister.{rule_lines}
use Rattle.output.specs.Output.{Put}
use Rattle.rules.specs.Rules.{rules_to}
use Rattle.lines.proofs.put_rules.Given as given

-- the lines of those of the first s symbols that are reached are put
abbrev pub invariant-loop-s : given.invariant-loop-s
invariant-loop-s l = Put l.initial.out (rule_lines (rules_to l.forest l.work l.n l.rows l.s)) l.out
