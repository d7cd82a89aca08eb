-- `archive_lister::list` meets its contract. Assumes nothing.
use mathlib.Core.Path.{sym, ◌∙◌}
use Rattle.archive_lister.proofs.Text.{mixed_text, other_text}
use Rattle.archive_lister.proofs.list.Goals as goal

pub returns-in-Some-clause-text : goal.returns-in-Some-clause-text
returns-in-Some-clause-text c =
    mixed_text c.args.forest.now _ (sym c.mixed_opcode.ensures.opcode ∙ c.in-Some.is) _ _ _ c.put_mixed.ensures

pub returns-in-None-clause-text : goal.returns-in-None-clause-text
returns-in-None-clause-text c =
    c.list.ensures.listed.text ∙ sym (other_text c.args.forest.now (sym c.mixed_opcode.ensures.opcode ∙ c.in-None.is))
