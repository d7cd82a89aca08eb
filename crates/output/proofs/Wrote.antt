-- The same bytes, written. Assumes nothing.
use Prim.Native.Nat.{ℕ}
use mathlib.Core.Path.{◌≡◌, subst}
use mathlib.Core.List.{List}
use Rattle.output.specs.Output.{Wrote}

pub wrote_as : {out : List ℕ} {at : ℕ} {bytes bytes' out' : List ℕ} {next : ℕ} → bytes ≡ bytes' →
    Wrote out at bytes out' next → Wrote out at bytes' out' next
wrote_as {out} {at} {bytes} {bytes'} {out'} {next} e = subst (λ (z : List ℕ). Wrote out at z out' next) e
