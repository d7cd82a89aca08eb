-- `lines::put_lines` meets its contract. Assumes nothing.
use native.Mathlib.Omega.{arith}
use Rattle.lines.proofs.Lines.{lines_start, lines_turn, lines_end}
use Rattle.lines.proofs.put_lines.Goals as goal

pub loop-s-init : goal.loop-s-init
loop-s-init c =
    lines_start _ _ _

pub put_line-requires : goal.put_line-requires
put_line-requires c =
    let h = c.requires.listable in
    let p = c.loop-s.invariant in
    let far = lines_end c.args.forest.now c.args.work.now _ p in
    record {
      sound = h.sound _ (omega arith);
      s_bound = (omega (arith, h.few), h.words);
      room = omega (arith, c.requires.room, far, p.len);
    }

pub loop-s-preserved : goal.loop-s-preserved
loop-s-preserved c =
    lines_turn _ _ _ c.loop-s.invariant (c.put_line.ensures _ (omega arith))
