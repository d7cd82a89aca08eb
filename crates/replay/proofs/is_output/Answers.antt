-- `replay::is_output` meets its contract. Assumes nothing.
use Rattle.std.proofs.Common.{◌≡◌, length, take, rules, refl}
use Rattle.replay.proofs.Before.{is_before, before_front}
use Rattle.replay.proofs.is_output.Goals as goal

pub returns-then-eq : goal.returns-then-eq
returns-then-eq c =
    is_before c.args.tree.now c.args.out.now 165 _ refl c.all_are.result _ c.all_are.ensures c.split_at.ensures.back
    (search rules)

pub returns-else-eq : goal.returns-else-eq
returns-else-eq c =
    let differs : take (length c.args.tree.now) c.args.out.now ≡ c.args.tree.now → ⊥ = search rules in
    rw c.if-eq.false (λ t. cc, λ e. absurd (differs (before_front c.args.tree.now c.args.out.now 165 _ refl e)))
