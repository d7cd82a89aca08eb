-- `interner::alloc_args` in its loop: what stays. Assumes nothing.
use Rattle.interner.proofs.Arguments.{SoFar}
use Rattle.interner.proofs.alloc_args.Given as given

abbrev pub invariant-loop : given.invariant-loop
invariant-loop l =
    SoFar l.forest l.initial.work l.initial.st l.cur l.at l.count l.counter l.work l.st
