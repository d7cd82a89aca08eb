-- `serialise::put_row` meets its contract. Assumes nothing.
use Rattle.plan.specs.Plan.{row_for}
use Rattle.serialise.proofs.put_row.Goals as goal

pub returns-in-ValDef : goal.returns-in-ValDef
unfolding row_for
returns-in-ValDef c =
    rw c.in-ValDef.is (c.put_val_def.ensures c.in-ValDef.field-1)
