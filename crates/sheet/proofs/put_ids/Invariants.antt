-- `sheet::put_ids` in its loop: what stays. Assumes nothing.
use Rattle.model.specs.Sheet.{id_texts}
use Rattle.shape.specs.Iterating.{args_left}
use Rattle.walk.specs.Words.{arg_ids_at}
use Rattle.output.specs.declared.Output.{Output}
use Rattle.sheet.specs.Clip.{PutClipped}
use Rattle.sheet.proofs.Lines.{ids}
use Rattle.sheet.proofs.put_ids.Given as goal

-- what puts the ids that are left has put all of them
abbrev pub invariant-loop-arg : goal.invariant-loop-arg
invariant-loop-arg l =
    (o' : Output) → PutClipped l.out (id_texts (ids (args_left l.arg-iterator))) o' →
    PutClipped l.initial.out (id_texts (arg_ids_at l.n l.lit)) o'
