-- `plan::store` meets its contract. Assumes nothing.
use Rattle.plan.proofs.Laws.{stored_words}
use Rattle.plan.proofs.store.Goals as goal

pub returns : goal.returns
returns c = stored_words c.args.words.now c.args.at c.args.p c.words_of.result c.words_of.ensures
