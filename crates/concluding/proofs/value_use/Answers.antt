-- `concluding::value_use` meets its contract. Assumes nothing.
use native.Mathlib.Omega.{arith}
use mathlib.Core.Path.{◌∙◌, ap}
use lib.ListN.{length}
use Rattle.model.specs.Intern.{resolve}
use Rattle.walk.proofs.Bridge.{use_literal}
use Rattle.walk.proofs.Tests.{id_is}
use Rattle.bindings.specs.Bindings.{env_of}
use Rattle.concluding.proofs.value_use.Goals as goal

pub id-id-requires : goal.id-id-requires
id-id-requires c =
    let uses = c.requires.uses in
    omega (
      arith,
      ap length c.literal.ensures,
      use_literal c.args.forest.now.laid c.args.i c.args.forest.now.formed uses.from uses.shape,
    )

pub returns : goal.returns
returns c =
    c.resolve.ensures ∙ ap (resolve (env_of c.args.work.now c.args.top)) (id_is _ _ _ c.id-id.ensures c.literal.ensures)
