-- `tables::same_key` meets its contract. Assumes nothing.
use mathlib.Core.Path.{◌∙◌}
use Rattle.tables.proofs.Keys.{loaded_slots, kids_differ, recs_decide}
use Rattle.tables.proofs.same_key.Goals as goal

pub same_kids-requires : goal.same_kids-requires
same_kids-requires c =
    let a = c.requires.s_bound in
    (loaded_slots _ _ _ c.load-y.ensures c.requires.sound, a.1, a.2)

pub returns-then-same_kids : goal.returns-then-same_kids
returns-then-same_kids c =
    recs_decide _ _ _ c.load-y.ensures _ _ _ _ c.same_kids.ensures
    c.if-same_kids.true _ _ c.source.ensures c.field.ensures
    c.same_rec.ensures

pub returns-else-same_kids : goal.returns-else-same_kids
returns-else-same_kids c =
    c.if-same_kids.false
    ∙ kids_differ _ _ _ c.load-y.ensures _ _ _ _ c.same_kids.ensures c.if-same_kids.false
