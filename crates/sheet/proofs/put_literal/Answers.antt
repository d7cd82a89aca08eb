-- `sheet::put_literal` meets its contract. Assumes nothing.
use borrow.Author.Rules.{rules}
use Rattle.model.specs.Text.{text}
use Rattle.sheet.proofs.Clipping.{clipped_none, clipped_then, clipped_as}
use Rattle.sheet.proofs.Lines.{literal_none, literal_some}
use Rattle.sheet.proofs.put_literal.Goals as goal

pub returns-then-is_empty : goal.returns-then-is_empty
returns-then-is_empty c =
    clipped_as (clipped_none _) (literal_none c.args.lit.now (search rules))

pub returns : goal.returns
unfolding text
returns c =
    clipped_as (clipped_then c.put_text.ensures c.put_hexes.ensures)
    (literal_some c.args.lit.now (search rules))
