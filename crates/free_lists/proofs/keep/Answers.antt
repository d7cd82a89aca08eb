-- `free_lists::keep` meets its contract. Assumes nothing.
use mathlib.Core.Path.{sym, ◌∙◌}
use Rattle.free_lists.proofs.Keeping.{none_outermost, none_leaf, keep_past, keep_empty}
use Rattle.free_lists.proofs.keep.Goals as goal
use Rattle.free_lists.proofs.keep.Goals.{else-scope-ne0-via-then-scope-ne0+then-count-ne0+else-first-le-LIMIT}
use Rattle.free_lists.proofs.keep.Goals.{else-scope-ne0-via-then-scope-ne0+else-count-ne0}
use Rattle.free_lists.proofs.keep.Goals.{else-scope-ne0-via-else-scope-ne0}

pub returns : goal.returns
returns c =
    let p = c.requires in
    let q = c.end_at-first.ensures in
    elim c.else-scope-ne0.branch [
      | else-scope-ne0-via-then-scope-ne0+then-count-ne0+else-first-le-LIMIT w ↦
          keep_past _ _ _ _ q p.lists _ w.if-first-le-LIMIT.false
      | else-scope-ne0-via-then-scope-ne0+else-count-ne0 w ↦
          keep_empty _ _ _ _ q p.lists _ (none_leaf _ _ _ _ p.arena (sym p.scope_value.1 ∙ w.if-count-ne0.false))
      | else-scope-ne0-via-else-scope-ne0 w ↦
          keep_empty _ _ _ _ q p.lists _ (none_outermost _ _ _ _ p.arena (sym p.scope_value.0 ∙ w.if-scope-ne0.false))
    ]
