-- `sheet::put_mark` meets its contract. Assumes nothing.
use mathlib.Core.Path.{ap}
use Rattle.model.specs.Text.{text}
use Rattle.model.specs.Lister.{numeral}
use Rattle.sheet.proofs.Clipping.{clipped_none, clipped_then, clipped_as}
use Rattle.sheet.proofs.Lines.{mark_none, mark_some}
use Rattle.sheet.proofs.put_mark.Goals as goal

pub returns-then-mark-eq0 : goal.returns-then-mark-eq0
returns-then-mark-eq0 c =
    clipped_as (clipped_none _) (mark_none _ c.if-mark-eq0.true)

pub returns : goal.returns
unfolding text
returns c =
    clipped_as
    (clipped_then c.put_text.ensures (clipped_as c.put_number.ensures (ap numeral c.from.ensures)))
    (mark_some _ c.if-mark-eq0.false)
