-- `writer::put_copy` meets its contract. Assumes nothing.
use native.Mathlib.Omega.{arith}
use mathlib.Core.Path.{◌≡◌, sym, ap, ◌∙◌}
use mathlib.Core.List.{List}
use Prim.Native.Nat.{ℕ}
use lib.ListN.{length}
use borrow.Author.Tests.{eqb-true}
use Rattle.std.proofs.lemmas.List.{nil_from_length}
use Rattle.model.specs.Bytes.{put16}
use Rattle.model.specs.Tree.{Row, row_bytes, row_len}
use Rattle.record.specs.Record.{row_at}
use Rattle.plan.specs.Plan.{row_for}
use Rattle.output.specs.declared.Output.{Output}
use Rattle.output.specs.Output.{Put}
use Rattle.writer.specs.Writer.{fixed}
use Rattle.output.proofs.Put.{put_none, put_as, put_then}
use Rattle.writer.proofs.put_copy.Goals as goal

-- the fixed bytes, then the literal
copied : (row : Row) {o o₁ o₂ : Output} {lit : List ℕ} {shape opcode kids aux : ℕ} → shape ≡ row.rec.shape
    → opcode ≡ row.rec.opcode → kids ≡ row.kids → aux ≡ row.rec.aux → lit ≡ row.rec.lit
    → Put o (fixed shape opcode kids aux) o₁ → Put o₁ lit o₂ → Put o (row_bytes row) o₂
unfolding row_bytes fixed put16
copied row a b c d e x y = put_as (rw (a, b, c, d, e)) (put_then x y)

pub put_fixed-requires : goal.put_fixed-requires
unfolding row_for row_len
put_fixed-requires c =
    record { room = omega (arith, c.requires.room); kids_bound = c.kids-kids.ensures.1 }

pub put_bytes-requires : goal.put_bytes-requires
unfolding row_for row_len fixed put16
put_bytes-requires c =
    let x = c.put_fixed.ensures in
    omega (arith, c.requires.room, x.ends, x.len, ap length c.literal-literal.ensures)

pub returns-then-is_empty : goal.returns-then-is_empty
unfolding row_for
returns-then-is_empty c =
    let x = c.put_fixed in
    let none = nil_from_length _ (eqb-true _ 0 (sym c.is_empty.ensures ∙ c.if-is_empty.true)) in
    copied (row_at c.args.forest.now c.args.i) c.shape-shape.ensures c.opcode-opcode.ensures
    c.kids-kids.ensures.0 c.aux-aux.ensures c.literal-literal.ensures x.ensures
    (put_as (sym none) (put_none x.new.out))

pub returns : goal.returns
unfolding row_for
returns c =
    copied (row_at c.args.forest.now c.args.i) c.shape-shape.ensures c.opcode-opcode.ensures
    c.kids-kids.ensures.0 c.aux-aux.ensures c.literal-literal.ensures c.put_fixed.ensures
    c.put_bytes.ensures
