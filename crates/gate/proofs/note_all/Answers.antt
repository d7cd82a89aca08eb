-- `gate::note_all` meets its contract. Assumes nothing.
use mathlib.Core.Path.{refl, ◌∙◌}
use Rattle.symbols.specs.Words.{words_from}
use Rattle.gate.specs.Gate.{all_noted}
use Rattle.gate.proofs.Run.{kid_fits, run_more}
use Rattle.gate.proofs.note_all.Goals as goal

pub loop-k-init : goal.loop-k-init
unfolding words_from all_noted
loop-k-init c =
    refl

pub note-requires : goal.note-requires
note-requires c =
    kid_fits c.args.work.now c.args.at c.args.count c.requires c.loop-k.k c.loop-k-test.true _ c.loop-k.invariant

pub loop-k-preserved : goal.loop-k-preserved
loop-k-preserved c =
    let a = c.args in
    c.note.ensures
    ∙ run_more a.work.now a.at a.count c.requires c.loop-k.k c.loop-k-test.true _ c.loop-k.invariant
