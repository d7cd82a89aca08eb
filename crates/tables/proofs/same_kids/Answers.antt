-- `tables::same_kids` meets its contract. Assumes nothing.
use Rattle.std.proofs.Common.{◌+◌, ◌∙◌, arith}
use Rattle.regions.specs.Regions.{SLOTS, PENDING}
use Rattle.symbols.proofs.Same.{slices_same}
use Rattle.symbols.proofs.Words.{words_slice}
use Rattle.tables.proofs.same_kids.Goals as goal

pub returns : goal.returns
returns c =
    let a = c.args in
    rw (
      ← words_slice a.work.now (SLOTS.first + a.kids) a.n (omega arith),
      ← words_slice a.work.now (PENDING.first + a.held) a.count (omega arith),
    )
    (c.eq.ensures ∙ slices_same _ _)
