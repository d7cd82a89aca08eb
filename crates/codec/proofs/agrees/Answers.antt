-- `codec::agrees` meets its contract. Assumes nothing.
use Rattle.record.specs.Record.{row_at}
use Rattle.codec.proofs.Rows.{agrees-made}
use Rattle.codec.proofs.agrees.Goals as goal

pub returns : goal.returns
returns c =
    let a = c.args in
    agrees-made (row_at a.forest.now a.i).rec _ _ c.shape.ensures c.opcode.ensures c.agrees.result c.agrees.ensures
