-- `cse::planned` meets its contract. Assumes nothing.
use native.Mathlib.Omega.{arith}
use Prim.Native.Nat.{◌≤◌}
use mathlib.Core.Path.{◌≡◌, refl}
use Rattle.std.specs.Prelude.{Option, None, Some, IfSome}
use lib.ListN.{length}
use Rattle.regions.specs.Regions.{WORDS}
use Rattle.codec.proofs.Accepting.{passes_accepts}
use Rattle.planner.specs.declared.Plan.{Plan}
use Rattle.cse.proofs.Buildable.{arena_countable, root_low, buildable}
use Rattle.cse.proofs.Planning.{uses_counted, planned_tree, held}
use Rattle.cse.proofs.planned.Goals as goal

some_held : (r : Option Plan) {A : Type 0} → ((p : Plan) → r ≡ Some p → A) → IfSome r (λ p. A)
some_held None h = tt
some_held (Some p) h = h p refl

pub reach_and_count-requires : goal.reach_and_count-requires
reach_and_count-requires c =
    let q = c.requires in
    let bs = c.args.forest.now.formed.laid in
    let taken = passes_accepts bs c.args.forest.now.formed.formed c.args.forest.now.passes in
    let low = root_low bs c.args.work.now c.args.st q.rep c.args.root taken q.root_made in
    record { countable = arena_countable q.rep.words q.rep.arena; root_lt_n = omega (arith, low) }

pub materialize-requires : goal.materialize-requires
materialize-requires c =
    let bs = c.args.forest.now.formed.laid in
    let taken = passes_accepts bs c.args.forest.now.formed.formed c.args.forest.now.passes in
    let ws = c.args.work.now in
    let st = c.args.st in
    let root = c.args.root in
    let q = c.requires in
    let counted = c.reach_and_count.new.work in
    let reached = c.reach_and_count.ensures in record {
      buildable = buildable bs ws st q.rep root taken q.root_made counted reached.kept;
      long = omega (arith, q.rep.words, c.reach_and_count.auto.work);
      root_lt_symbols = root_low bs ws st q.rep root taken q.root_made;
      counted = uses_counted bs ws st q.rep root counted reached;
    }

pub returns : goal.returns
returns c =
    let bs = c.args.forest.now.formed.laid in
    let taken = passes_accepts bs c.args.forest.now.formed.formed c.args.forest.now.passes in
    let ws = c.args.work.now in
    let st = c.args.st in
    let q = c.requires in
    let counted = c.reach_and_count.new.work in
    let reached = c.reach_and_count.ensures in
    let done = c.materialize in
    let long : WORDS ≤ length done.new.work =
    omega (arith, q.rep.words, c.reach_and_count.auto.work, done.auto.work) in record {
      planned =
          planned_tree bs ws st q.rep c.args.root counted reached done.new.work done.result long done.ensures;
      held = some_held done.result
          (held bs ws st q.rep c.args.root counted reached done.new.work done.result long done.ensures taken q.root_made);
    }
