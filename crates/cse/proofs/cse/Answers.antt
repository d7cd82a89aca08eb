-- `cse::cse` meets its contract. Assumes nothing.
use native.Mathlib.Omega.{arith}
use mathlib.Core.Path.{◌∙◌, refl}
use Rattle.model.specs.Answer.{refused}
use Rattle.model.specs.Call.{call_of, written}
use Rattle.regions.specs.Regions.{SYMBOLS, WORDS}
use Rattle.laws.proofs.Frame.{frame_drop}
use Rattle.std.specs.Prelude.{Err}
use Rattle.cse.proofs.Words.{after_few, after_enough, cleared_kept}
use Rattle.cse.proofs.Telling.{no_words, tells_refused, run_few, run_enough}
use Rattle.cse.proofs.Demanding.{told_gives}
use Rattle.cse.proofs.cse.Goals as goal

pub returns-then-work-lt-WORDS : goal.returns-then-work-lt-WORDS
returns-then-work-lt-WORDS c =
    let bs = c.args.forest.now in
    let out = c.args.out.now in
    let ws = c.args.work.now in
    told_gives bs out ws out ws (refused 1 0) (Err no_words) (run_few (call_of bs out ws) (omega arith))
    (tells_refused (refused 1 0) out no_words refl) (after_few ws (omega arith))

pub returns : goal.returns
returns c =
    let bs = c.args.forest.now in
    let out = c.args.out.now in
    let ws = c.args.work.now in
    let kept = frame_drop SYMBOLS.first WORDS WORDS ws c.pass-r.new.work c.pass-r.ensures.lent_only (omega arith) in
    told_gives bs out ws c.pass-r.new.out c.clear.new.work (written (call_of bs out ws)) c.pass-r.result
    (run_enough (call_of bs out ws) (omega arith)) c.pass-r.ensures.tells
    (c.clear.ensures ∙ cleared_kept ws WORDS _ kept ∙ after_enough ws (omega arith))
