-- `sheet::put_args` meets its contract. Assumes nothing.
use Rattle.model.specs.Text.{text}
use Rattle.sheet.proofs.Clipping.{clipped_none, clipped_then, clipped_as}
use Rattle.sheet.proofs.Lines.{args_none_text, args_text_lem}
use Rattle.sheet.proofs.put_args.Goals as goal

pub returns-then-n-eq0 : goal.returns-then-n-eq0
returns-then-n-eq0 c =
    clipped_as (clipped_none _) (args_none_text _ _ c.if-n-eq0.true)

pub returns : goal.returns
unfolding text
returns c =
    let a = c.args in
    clipped_as (clipped_then c.put_text.ensures c.put_ids.ensures)
    (args_text_lem a.n a.lit.now c.if-n-eq0.false)
