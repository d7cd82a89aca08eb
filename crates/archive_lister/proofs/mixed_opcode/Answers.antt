-- `archive_lister::mixed_opcode` meets its contract. Assumes nothing.
use mathlib.Core.Path.{◌≡◌, sym, ap, ◌∙◌}
use native.Mathlib.Omega.{arith}
use Rattle.std.specs.Prelude.{Some}
use Rattle.refusal.specs.Refusal.{number_of}
use Rattle.record.specs.Record.{row_at}
use Rattle.archive_lister.proofs.Mixed.{mixed_laid, mixed_there, opcode_there, opcode_refused, opcode_accepted}
use Rattle.archive_lister.proofs.mixed_opcode.Goals as goal

pub new-requires : goal.new-requires
new-requires c =
    let is : number_of c.in-Err.r.check ≡ 16 = omega arith in
    mixed_laid c.args.forest.now _ _ (rw c.in-Err.is at c.check.ensures.judged.is) is

pub opcode-requires : goal.opcode-requires
opcode-requires c =
    let is : number_of c.in-Err.r.check ≡ 16 = omega arith in
    rw c.new.ensures (mixed_there c.args.forest.now _ _ (rw c.in-Err.is at c.check.ensures.judged.is) is)

pub returns-in-Err-clause-opcode : goal.returns-in-Err-clause-opcode
unfolding row_at
returns-in-Err-clause-opcode c =
    let is : number_of c.in-Err.r.check ≡ 16 = omega arith in
    ap Some (rw c.new.ensures at c.opcode.ensures)
    ∙ sym (opcode_there c.args.forest.now _ _ (rw c.in-Err.is at c.check.ensures.judged.is) is)

pub returns-in_default-clause-opcode : goal.returns-in_default-clause-opcode
returns-in_default-clause-opcode c =
    sym (opcode_refused c.args.forest.now _ _ (rw c.in-Err.is at c.check.ensures.judged.is)
    (λ (is : number_of c.in-Err.r.check ≡ 16). omega arith))

pub returns-in_default-2-clause-opcode : goal.returns-in_default-2-clause-opcode
returns-in_default-2-clause-opcode c =
    sym (opcode_accepted c.args.forest.now (rw c.in_default.is at c.check.ensures.judged.is))
