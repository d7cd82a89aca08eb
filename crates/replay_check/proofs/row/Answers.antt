-- `replay_check::row` meets its contract. Assumes nothing.
use Rattle.std.proofs.Common.{◌≡◌, ℕ, ◌≤◌, List, length, take, arith}
use Rattle.std.proofs.lemmas.List.{length-take}
use Rattle.std.proofs.Math.Seq.{take_at}
use Rattle.replay_check.proofs.Answering.{row_short, row_large, row_cut, row_whole}
use Rattle.replay_check.proofs.row.Goals as goal

pub returns-then-branch-lt4 : goal.returns-then-branch-lt4
returns-then-branch-lt4 g c =
    let e = c.in_ok-read_full.ensures in
    row_short _ _ _ _ c.read_full.new.buf c.in_ok-read_full.field-0 c.read_full.auto.buf e.in_bounds.0 e.read
    c.if-branch-lt4.true

pub returns-then-forest-n : goal.returns-then-forest-n
returns-then-forest-n g c =
    let e = c.in_ok-read_full.ensures in
    row_large _ _ _ _ _ c.read_full.new.buf c.in_ok-read_full.field-0 _ c.read_full.auto.buf c.if-branch-lt4.false
    e.rest c.from_le_bytes-n.ensures c.if-forest-n.true

-- the part of the forest that is read into has n bytes
part : (n : ℕ) (forest bytes : List ℕ) → length bytes ≡ length (take n forest) → n ≤ length forest → length bytes ≡ n
part n forest bytes e l = omega (arith, e, length-take n forest)

pub returns-then-branch-n : goal.returns-then-branch-n
returns-then-branch-n g c =
    let e = c.in_ok-read_full.ensures in
    let f = c.in_ok-read_full-2.ensures in
    row_cut _ _ _ _ _ c.read_full.new.buf c.read_full-2.new.buf c.in_ok-read_full.field-0
    c.in_ok-read_full-2.field-0 _ c.read_full.auto.buf c.if-branch-lt4.false e.rest c.from_le_bytes-n.ensures
    c.if-forest-n.false (part _ _ _ c.read_full-2.auto.buf c.if-forest-n.false) f.in_bounds.0 f.read
    c.if-branch-n.true

pub returns : goal.returns
returns g c =
    let e = c.in_ok-read_full.ensures in
    let f = c.in_ok-read_full-2.ensures in
    let bytes = c.read_full-2.new.buf in
    let n = c.from_le_bytes-n.result in
    let long = part n c.args.forest.now bytes c.read_full-2.auto.buf c.if-forest-n.false in
    row_whole _ _ _ _ _ _ c.read_full.new.buf bytes c.in_ok-read_full.field-0 c.in_ok-read_full-2.field-0 n
    c.read_full.auto.buf c.if-branch-lt4.false e.rest c.from_le_bytes-n.ensures c.if-forest-n.false long
    c.if-branch-n.false f.rest (rw take_at at c.in_ok-answer.ensures)
