-- `sheet::put_ids` meets its contract. Assumes nothing.
use mathlib.Core.Path.{ap, ◌∙◌}
use Rattle.model.specs.Text.{text}
use Rattle.model.specs.Lister.{numeral}
use Rattle.model.specs.Sheet.{id_texts}
use Rattle.shape.specs.Iterating.{args_left}
use Rattle.shape.proofs.Reading.{all_stand}
use Rattle.sheet.proofs.Clipping.{clipped_none, clipped_then, clipped_as}
use Rattle.sheet.proofs.Lines.{ids, ids_none, ids_more}
use Rattle.sheet.proofs.put_ids.Goals as goal

pub new-arg-items-requires : goal.new-arg-items-requires
new-arg-items-requires c =
    all_stand _ _ c.requires

pub loop-arg-init : goal.loop-arg-init
loop-arg-init c o' v =
    let e = ap args_left c.into_iter-arg-iterator.ensures.into_iter_gives ∙ c.new-arg-items.ensures in
    clipped_as v (ap (λ xs. id_texts (ids xs)) e)

pub loop-arg-preserved : goal.loop-arg-preserved
unfolding text
loop-arg-preserved c o' v =
    let number = clipped_as c.put_number.ensures (ap numeral c.from.ensures) in
    c.loop-arg.invariant o'
    (clipped_as (clipped_then (clipped_then c.put.ensures number) v) (ids_more _ _ _ c.in-Some.ensures.steps))

pub returns : goal.returns
returns c =
    c.loop-arg.invariant _ (clipped_as (clipped_none _) (ids_none _ c.in-None.ensures.steps.0))
