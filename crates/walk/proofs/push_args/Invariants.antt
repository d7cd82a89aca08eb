-- `walk::push_args` in its loop: what stays. Assumes nothing.
use mathlib.Core.Path.{◌≡◌}
use Rattle.std.specs.Iterator.Adapters.{zip_first, zip_second, rev_source}
use Rattle.shape.specs.Iterating.{args_left}
use Rattle.walk.proofs.Args.{Pushing}
use Rattle.walk.proofs.push_args.Given as given

-- the numbers that are left are those below as many as the arguments that are left
abbrev pub invariant-loop-k : given.invariant-loop-k
invariant-loop-k l =
    let r = rev_source (zip_first l.k-iterator) in
    record {
      start : r.start ≡ 0;
      pushing : Pushing l.lit l.n l.top l.initial.work l.work (args_left (zip_second l.k-iterator)) r.end;
    }
