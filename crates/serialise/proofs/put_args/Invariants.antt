-- `serialise::put_args` in its loop: what stays. Assumes nothing.
use Rattle.shape.specs.Iterating.{args_left}
use Rattle.serialise.proofs.Args.{Writing}
use Rattle.serialise.proofs.put_args.Given as given

abbrev pub invariant-loop-arg : given.invariant-loop-arg
invariant-loop-arg l = Writing l.lit l.n l.last l.initial.out l.out (args_left l.arg-iterator) l.id
