-- `sheet::put_const` meets its contract. Assumes nothing.
use Rattle.sheet.proofs.Clipping.{clipped_then, clipped_as}
use Rattle.sheet.proofs.Lines.{const_text_lem}
use Rattle.sheet.proofs.put_const.Goals as goal

pub returns : goal.returns
returns c =
    clipped_as (clipped_then c.put_class.ensures c.put_mark.ensures)
    (const_text_lem _ c.class.ensures c.mark.ensures)
