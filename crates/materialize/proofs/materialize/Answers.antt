-- `materialize::materialize` meets its contract. In order: the words in their parts; the function it calls; the contract.
-- Assumes nothing.
use Prim.Native.Nat.{ℕ, ◌-◌}
use mathlib.Core.Path.{◌≡◌, ap, ◌∙◌}
use mathlib.Core.List.{List, ◌++◌}
use native.Mathlib.Omega.{arith}
use lib.ListN.{length, take, drop, length-drop}
use lib.Seq.{take_all}
use Rattle.materialize.proofs.Root.{lent, counted_lent, materialized}
use Rattle.materialize.proofs.materialize.Goals as goal

cut : {ws rest : List ℕ} (made pl others : List ℕ) → ws ≡ made ++ rest → rest ≡ pl ++ others
    → ws ≡ made ++ (pl ++ others)
cut made pl others e f = e ∙ ap (λ (z : List ℕ). made ++ z) f

past : (k : ℕ) (xs : List ℕ) → take (length xs - k) (drop k xs) ≡ drop k xs
past k xs = take_all _ _ (omega (arith, length-drop k xs))

pub plan_root-requires-clause-buildable : goal.plan_root-requires-clause-buildable
plan_root-requires-clause-buildable c =
    let made = c.split_at_mut-made in
    let plan = c.split_at_mut-plan in
    let pl = plan.result.0.now in
    let others = plan.result.1.now in
    lent c.requires.buildable _ pl others (cut _ pl others made.ensures.value plan.ensures.value) made.ensures.front_len

pub plan_root-requires-clause-counted : goal.plan_root-requires-clause-counted
plan_root-requires-clause-counted c =
    let made = c.split_at_mut-made in
    let plan = c.split_at_mut-plan in
    let pl = plan.result.0.now in
    let others = plan.result.1.now in
    counted_lent c.requires.buildable _ pl others (cut _ pl others made.ensures.value plan.ensures.value)
    made.ensures.front_len plan.ensures.front_len _ (past _ others) c.requires.counted

pub returns : goal.returns
returns c =
    let made = c.split_at_mut-made in
    let plan = c.split_at_mut-plan in
    let pl = plan.result.0.now in
    let others = plan.result.1.now in
    materialized c.requires.buildable _ pl others (cut _ pl others made.ensures.value plan.ensures.value)
    made.ensures.front_len plan.ensures.front_len _ c.plan_root.new.plan c.plan_root.auto.plan c.plan_root.ensures.plans
    c.plan_root.ensures.labels
