-- `bindings::bind_all` meets its contract. Assumes nothing.
use mathlib.Core.Path.{ap, ◌∙◌}
use mathlib.Core.Logic.{⊎_elim}
use native.Mathlib.Omega.{arith}
use Rattle.std.specs.Iterator.Adapters.{zip_first, zip_second, rev_source}
use Rattle.shape.specs.Iterating.{args_left}
use Rattle.bindings.proofs.Args.{bind_start, bind_at, bind_none, bind_end}
use Rattle.bindings.proofs.bind_all.Goals as goal

pub loop-k-init : goal.loop-k-init
loop-k-init c =
    let e = c.into_iter-k-iterator.ensures.into_iter_gives in
    let z = c.zip-k-items.ensures in
    let f = ap rev_source (ap zip_first e ∙ z.first) ∙ c.rev.ensures.source in
    record {
      start = ap (λ r. r.start) f;
      binding =
          bind_start _ _ _ _ _ _ _ (ap args_left (ap zip_second e ∙ z.second) ∙ c.new.ensures)
          (ap (λ r. r.end) f ∙ c.from.ensures);
    }

pub loop-k-preserved : goal.loop-k-preserved
loop-k-preserved c =
    let i = c.loop-k.invariant in
    let s = c.in-Some.ensures.steps in
    record {
      start = s.0.0 ∙ i.start;
      binding = bind_at _ _ _ _ _ _ _ _ _ i.binding _ _ s.1 _ s.0.1.2 _ (rw s.0.1.1 at c.bind.ensures);
    }

pub returns : goal.returns
returns c =
    let i = c.loop-k.invariant in
    bind_end _ _ _ _ _ _ _ _ _ i.binding
    (⊎_elim (λ r. bind_none _ _ _ _ _ _ _ _ _ i.binding (omega (arith, r.1.1.0, i.start))) (λ r. r.1.0)
    c.in-None.ensures.steps)
