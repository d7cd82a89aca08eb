-- `replay::is_work` meets its contract. Assumes nothing.
use Rattle.std.proofs.Common.{replicate}
use Rattle.std.proofs.lemmas.List.{length-replicate}
use Rattle.replay.proofs.Before.{filled_front, is_before, before_front}
use Rattle.replay.proofs.is_work.Goals as goal

pub returns-then-all_are : goal.returns-then-all_are
returns-then-all_are c =
    let ws = c.args.work.now in
    let n = c.args.cleared in
    let s = c.split_at.ensures in
    let cleared = filled_front ws _ 0 n c.all_are.result c.all_are.ensures s.front s.front_len in
    let rest = c.all_are-then-all_are in
    is_before (replicate n 0) ws 2779096485 n (length-replicate n 0) rest.result _ rest.ensures s.back
    (cleared.0 c.if-all_are.true)

pub returns-else-all_are : goal.returns-else-all_are
returns-else-all_are c =
    let ws = c.args.work.now in
    let n = c.args.cleared in
    let s = c.split_at.ensures in
    let cleared = filled_front ws _ 0 n c.all_are.result c.all_are.ensures s.front s.front_len in
    (λ t. cc, λ e. cleared.1 (before_front (replicate n 0) ws 2779096485 n (length-replicate n 0) e))
