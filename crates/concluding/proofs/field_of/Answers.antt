-- `concluding::field_of` meets its contract. Assumes nothing.
use native.Mathlib.Omega.{arith}
use mathlib.Core.Path.{ap}
use lib.ListN.{length}
use Rattle.concluding.proofs.Selecting.{field_literal}
use Rattle.concluding.proofs.field_of.Goals as goal

pub bounds-lit-0 : goal.bounds-lit-0
bounds-lit-0 c =
    omega (
      arith,
      ap length c.literal-lit.ensures,
      field_literal c.args.forest.now.laid c.args.i c.args.forest.now.formed c.requires.i_bound.0 c.requires.i_bound.1,
    )
