-- `codec::fits` meets its contract. Assumes nothing.
use Rattle.record.specs.Record.{row_at}
use Rattle.codec.proofs.Rows.{fits-made}
use Rattle.codec.proofs.fits.Goals as goal

pub returns : goal.returns
returns c =
    let a = c.args in
    fits-made (row_at a.forest.now a.i) _ _ _ _ c.shape.ensures c.kids.ensures.0 c.aux.ensures c.literal.ensures
    c.fits.result c.fits.ensures
