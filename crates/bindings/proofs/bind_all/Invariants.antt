-- `bindings::bind_all` in its loop: what stays. Assumes nothing.
use mathlib.Core.Path.{◌≡◌}
use Rattle.std.specs.Iterator.Adapters.{zip_first, zip_second, rev_source}
use Rattle.shape.specs.Iterating.{args_left}
use Rattle.bindings.proofs.Args.{Binding}
use Rattle.bindings.proofs.bind_all.Given as given

-- the numbers that are left are those below as many as the arguments that are left
abbrev pub invariant-loop-k : given.invariant-loop-k
invariant-loop-k l =
    let r = rev_source (zip_first l.k-iterator) in
    record {
      start : r.start ≡ 0;
      binding :
          Binding l.lit l.n l.top l.first l.initial.work l.work (args_left (zip_second l.k-iterator)) r.end l.symbol;
    }
