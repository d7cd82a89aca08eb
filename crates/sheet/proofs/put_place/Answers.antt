-- `sheet::put_place` meets its contract. Assumes nothing.
use mathlib.Core.Path.{ap}
use Rattle.model.specs.Sheet.{spaces, place_text}
use Rattle.sheet.proofs.Clipping.{clipped_then, clipped_as}
use Rattle.sheet.proofs.put_place.Goals as goal

pub returns : goal.returns
unfolding place_text
returns c =
    let padded = clipped_as c.put_spaces.ensures (ap spaces c.pad.ensures) in
    clipped_then (clipped_then padded c.put_number.ensures) c.put_spaces-2.ensures
