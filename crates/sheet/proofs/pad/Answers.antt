-- `sheet::pad` meets its contract. Assumes nothing.
use native.Mathlib.Omega.{arith}
use Rattle.sheet.proofs.Lines.{pad_2, pad_1, pad_0}
use Rattle.sheet.proofs.pad.Goals as goal

pub returns-in-0-to-9 : goal.returns-in-0-to-9
returns-in-0-to-9 c =
    pad_2 _ (omega (arith, c.ranges.i)) (omega arith)

pub returns-in-10-to-99 : goal.returns-in-10-to-99
returns-in-10-to-99 c =
    pad_1 _ (omega (arith, c.ranges.i)) (omega arith) (omega arith)

pub returns-in_default : goal.returns-in_default
returns-in_default c =
    pad_0 _ (omega (arith, c.ranges.i)) (omega arith)
