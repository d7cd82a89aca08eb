-- `serialise::put_lambda` meets its contract. Assumes nothing.
use mathlib.Core.Path.{ap}
use native.Mathlib.Omega.{arith}
use lib.ListN.{length}
use Rattle.model.specs.Bytes.{put16}
use Rattle.model.specs.Tree.{row_len}
use Rattle.writer.specs.Writer.{fixed}
use Rattle.serialise.proofs.Rows.{lambda_put}
use Rattle.serialise.proofs.put_lambda.Goals as goal

pub put_fixed-requires : goal.put_fixed-requires
unfolding row_len
put_fixed-requires c =
    omega (arith, c.requires)

pub put_args-requires : goal.put_args-requires
unfolding row_len fixed put16
put_args-requires c =
    let a = c.aux-aux.ensures in
    let l = c.literal-lit.ensures in
    let p = c.put_fixed.ensures in
    let r = c.requires.renumbered in
    record {
      all = rw (a, l) r.args;
      room = omega (arith, c.requires.room, p.ends, p.len, ap length l);
      n_bound = omega (arith, a, r.fit);
    }

pub returns : goal.returns
returns c =
    lambda_put c.args.forest.now c.args.i c.args.last c.aux-aux.ensures c.literal-lit.ensures c.put_fixed.ensures
    c.put_args.ensures
