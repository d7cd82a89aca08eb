-- `interner::pair_projection` meets its contract. Assumes nothing.
use mathlib.Core.Path.{◌∙◌, sym, ap}
use Rattle.interner.specs.Step.{given}
use Rattle.interner.proofs.Fields.{recalled, not_recalled}
use Rattle.interner.proofs.pair_projection.Goals as goal

pub returns-in-Some : goal.returns-in-Some
returns-in-Some c =
    recalled c.requires.projects c.args.field _ _ c.requires.rep
    (sym c.recall.ensures ∙ c.in-Some.is)
    (ap (given c.args.st.now) c.picked.ensures)

pub returns-in-None : goal.returns-in-None
returns-in-None c =
    not_recalled c.requires.projects c.args.field
    (sym c.recall.ensures ∙ c.in-None.is) c.new_projections.ensures
