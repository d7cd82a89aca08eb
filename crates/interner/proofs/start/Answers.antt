-- `interner::start` meets its contract. Assumes nothing.
use mathlib.Core.Path.{ap, ◌∙◌}
use mathlib.Core.List.{List}
use Prim.Native.Nat.{ℕ}
use lib.ListN.{set}
use Rattle.regions.specs.Regions.{SCOPES}
use Rattle.interner.proofs.Starting.{started}
use Rattle.interner.proofs.start.Goals as goal

pub returns : goal.returns
returns c =
    started c.args.work.now c.requires _
    (c.open_outermost.ensures ∙ ap (λ (z : List ℕ). set z SCOPES.first 0) c.start.ensures)
