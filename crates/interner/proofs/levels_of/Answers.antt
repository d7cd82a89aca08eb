-- `interner::levels_of` meets its contract. Assumes nothing.
use Prim.Native.Nat.{◌+◌}
use mathlib.Core.Path.{◌≡◌}
use native.Mathlib.Omega.{arith}
use Rattle.regions.specs.Regions.{PENDING}
use Rattle.interner.proofs.Levels.{levels_none, levels_more}
use Rattle.interner.proofs.levels_of.Goals as goal

pub loop-k-init : goal.loop-k-init
loop-k-init c =
    let a = c.args in
    λ j. levels_none a.work.now (PENDING.first + a.held) j c.empty-all.result (c.empty-all.ensures j)

pub loop-k-preserved : goal.loop-k-preserved
loop-k-preserved c =
    let l = c.loop-k in
    let a = c.args in
    λ j. levels_more a.work.now (PENDING.first + a.held) l.k l.all c.join-all.result c.load-y.result
    c.load-y.ensures j (l.invariant j) (c.join-all.ensures j)

pub returns : goal.returns
returns c =
    let l = c.loop-k in
    let a = c.args in
    let e : l.k ≡ a.count = omega arith in
    rw e at l.invariant
