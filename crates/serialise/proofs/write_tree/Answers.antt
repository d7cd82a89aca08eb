-- `serialise::write_tree` meets its contract. In order: room for each part; the whole. Assumes nothing.
use Prim.Native.Nat.{◌+◌, ◌*◌}
use mathlib.Core.Path.{ap}
use native.Mathlib.Omega.{arith}
use lib.ListN.{length}
use Rattle.std.proofs.Common.{rules}
use Rattle.model.specs.Bytes.{put16}
use Rattle.laws.proofs.Lengths.{directory-length}
use Rattle.plan.specs.Plan.{planned_rows}
use Rattle.output.proofs.Put.{put_wrote}
use Rattle.serialise.proofs.Rows.{planned_length, tree_length, tree_parts}
use Rattle.serialise.proofs.write_tree.Goals as goal

pub put_16-requires-clause-room : goal.put_16-requires-clause-room
put_16-requires-clause-room c =
    let a = c.args in
    omega (arith, ap length c.new-tree.ensures.start.0, tree_length a.forest.now a.work.now a.at a.n)

pub put_16-requires-2-clause-room : goal.put_16-requires-2-clause-room
unfolding put16
put_16-requires-2-clause-room c =
    let a = c.args in
    let p = c.put_16.ensures in
    omega (arith, ap length c.new-tree.ensures.start.0, p.ends, p.len, tree_length a.forest.now a.work.now a.at a.n)

pub put_directory-requires-clause-room : goal.put_directory-requires-clause-room
unfolding put16
put_directory-requires-clause-room c =
    let a = c.args in
    let p = c.put_16.ensures in
    let q = c.put_16-2.ensures in
    let t = tree_length a.forest.now a.work.now a.at a.n in
    omega (arith, ap length c.new-tree.ensures.start.0, p.ends, p.len, q.ends, q.len, t)

pub put_directory-requires-clause-n_bound : goal.put_directory-requires-clause-n_bound
put_directory-requires-clause-n_bound c =
    let a = c.args in
    omega (arith, c.requires.n_len_bound, tree_length a.forest.now a.work.now a.at a.n)

pub put_bodies-requires-clause-room : goal.put_bodies-requires-clause-room
unfolding put16
put_bodies-requires-clause-room c =
    let a = c.args in
    let p = c.put_16.ensures in
    let q = c.put_16-2.ensures in
    let d = c.put_directory.ensures in
    let t = tree_length a.forest.now a.work.now a.at a.n in
    let rs = planned_rows a.forest.now a.work.now a.at a.n in
    omega (
      arith,
      ap length c.new-tree.ensures.start.0,
      p.ends,
      p.len,
      q.ends,
      q.len,
      d.ends,
      d.len,
      t,
      planned_length a.forest.now a.work.now a.at a.n,
      directory-length (4 + 4 * a.n) rs,
    )

pub returns : goal.returns
returns c =
    let a = c.args in
    let start = c.new-tree.ensures.start in
    let tree =
    tree_parts a.forest.now a.work.now a.at a.n c.put_16.ensures c.put_16-2.ensures c.put_directory.ensures
    c.put_bodies.ensures in
    let w = put_wrote start.0 start.1 tree in
    let ends = w.ends in
    let holds = w.holds in
    search rules
