-- `cse::check` meets its contract. Assumes nothing.
use mathlib.Core.Path.{sym, ◌∙◌}
use native.Mathlib.Omega.{arith}
use Rattle.std.proofs.lemmas.Result.{err_from_is_err_and}
use Rattle.cse.proofs.Words.{after_few}
use Rattle.cse.proofs.Telling.{no_words}
use Rattle.cse.proofs.Alone.{checking_few, checking_enough, told_refused, told_good, few_entries, enough_entries, enough_words}
use Rattle.cse.proofs.checking.check.Goals as goal

-- too few words

pub returns-then-work-lt-WORDS-clause-told : goal.returns-then-work-lt-WORDS-clause-told
returns-then-work-lt-WORDS-clause-told c = told_refused _ no_words (sym (checking_few _ c.args.forest.now (omega arith)))

pub returns-then-work-lt-WORDS-clause-ends : goal.returns-then-work-lt-WORDS-clause-ends
returns-then-work-lt-WORDS-clause-ends c =
    c.fill.ensures.after (λ y f. f) ∙ few_entries _ c.args.forest.now _ (omega arith) (omega arith)

pub returns-then-work-lt-WORDS-clause-work_after : goal.returns-then-work-lt-WORDS-clause-work_after
returns-then-work-lt-WORDS-clause-work_after c = after_few c.args.work.now (omega arith)

-- refused

pub returns-in_err-checked-clause-told : goal.returns-in_err-checked-clause-told
returns-in_err-checked-clause-told c =
    let p = err_from_is_err_and c.from_residual.result c.from_residual.ensures.1 in
    rw (p.1, p.2) (told_refused _ c.in_err-checked.field-0.0
    (c.in_err-checked.ensures.judged.is ∙ sym (checking_enough _ c.args.forest.now (omega arith))))

pub returns-in_err-checked-clause-ends : goal.returns-in_err-checked-clause-ends
returns-in_err-checked-clause-ends c =
    enough_entries c.args.forest.now c.args.work.now (omega arith) _ c.check-checked.ensures.ends

pub returns-in_err-checked-clause-work_after : goal.returns-in_err-checked-clause-work_after
returns-in_err-checked-clause-work_after c =
    enough_words c.args.forest.now c.args.work.now (omega arith) _ _ c.check-checked.ensures.judged.kept c.clear.ensures

-- accepted

pub returns-clause-told : goal.returns-clause-told
returns-clause-told c =
    told_good _ _ (c.in_ok-checked.ensures.judged.is ∙ sym (checking_enough _ c.args.forest.now (omega arith)))

pub returns-clause-ends : goal.returns-clause-ends
returns-clause-ends c =
    enough_entries c.args.forest.now c.args.work.now (omega arith) _ c.check-checked.ensures.ends

pub returns-clause-work_after : goal.returns-clause-work_after
returns-clause-work_after c =
    enough_words c.args.forest.now c.args.work.now (omega arith) _ _ c.check-checked.ensures.judged.kept c.clear.ensures
