-- `walk::push_args` meets its contract. Assumes nothing.
use mathlib.Core.Path.{ap, ◌∙◌}
use mathlib.Core.Logic.{⊎_elim}
use native.Mathlib.Omega.{arith}
use Rattle.std.specs.Iterator.Adapters.{zip_first, zip_second, rev_source}
use Rattle.shape.specs.Iterating.{args_left}
use Rattle.walk.proofs.Args.{push_start, push_at, push_none, push_end}
use Rattle.walk.proofs.push_args.Goals as goal

pub loop-k-init : goal.loop-k-init
loop-k-init c =
    let e = c.into_iter-k-iterator.ensures.into_iter_gives in
    let z = c.zip-k-items.ensures in
    let f = ap rev_source (ap zip_first e ∙ z.first) ∙ c.rev.ensures.source in
    record {
      start = ap (λ r. r.start) f;
      pushing =
          push_start _ _ _ _ _ _ (ap args_left (ap zip_second e ∙ z.second) ∙ c.new.ensures)
          (ap (λ r. r.end) f ∙ c.from.ensures);
    }

pub loop-k-preserved : goal.loop-k-preserved
loop-k-preserved c =
    let s = c.in-Some.ensures.steps in
    let i = c.loop-k.invariant in
    record {
      start = s.0.0 ∙ i.start;
      pushing =
          rw s.0.1.1
          (push_at _ _ _ _ _ _ _ i.pushing _ _ s.1 _ s.0.1.2 (omega arith) (omega arith));
    }

pub returns : goal.returns
returns c =
    let i = c.loop-k.invariant in
    push_end _ _ _ _ _ _ _ i.pushing
    (⊎_elim (λ r. push_none _ _ _ _ _ _ _ i.pushing (omega (arith, r.1.1.0, i.start))) (λ r. r.1.0) c.in-None.ensures.steps) (omega arith)
