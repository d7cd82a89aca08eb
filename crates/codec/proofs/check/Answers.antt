-- `codec::check` meets its contract. Assumes nothing.
use mathlib.Core.Path.{◌≡◌, refl, sym, ◌∙◌}
use native.Mathlib.Omega.{arith}
use Rattle.codec.proofs.Accepting.{few_records}
use Rattle.codec.proofs.Ends.{entries_noted, zeros_refused}
use Rattle.codec.proofs.check.Goals as goal

pub returns-in_err-formed-clause-ends : goal.returns-in_err-formed-clause-ends
returns-in_err-formed-clause-ends c =
    c.fill.ensures.after (λ y f. f)
    ∙ zeros_refused _ _ _ _ (omega arith) (rw c.in_err-formed.was at c.layout.ensures)

pub returns-in-Err-clause-ends : goal.returns-in-Err-clause-ends
returns-in-Err-clause-ends c =
    let laid : c.in_ok-formed.formed.laid ≡ c.args.bytes.now = (rw c.in_ok-formed.was at c.layout.ensures).0 in
    c.fill-in-Err.ensures.after (λ y f. f)
    ∙ zeros_refused _ _ _ _ (omega arith) (rw (c.in-Err.is, laid) at c.bindings.ensures.is)

pub returns-clause-ends : goal.returns-clause-ends
returns-clause-ends c =
    let laid : c.in_ok-formed.formed.laid ≡ c.args.bytes.now = (rw c.in_ok-formed.was at c.layout.ensures).0 in
    rw laid at (entries_noted _ (few_records _ c.in_ok-formed.formed.formed)
    (sym (rw c.in_default.is at c.bindings.ensures.is)) c.args.ends.now _ _ (omega arith) (c.fill.ensures.after (λ y f. f))
    (c.bindings.ensures.ends (rw c.in_default.is refl)) c.bindings.ensures.entries)
