-- `sheet::put_field` meets its contract. Assumes nothing.
use mathlib.Core.Path.{ap}
use Rattle.model.specs.Text.{text}
use Rattle.model.specs.Lister.{numeral}
use Rattle.sheet.proofs.Clipping.{clipped_then, clipped_as}
use Rattle.sheet.proofs.put_field.Goals as goal

pub returns : goal.returns
unfolding text
returns c =
    clipped_then c.put_text.ensures (clipped_as c.put_number.ensures (ap numeral c.from.ensures))
