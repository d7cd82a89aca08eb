-- A tree has no use of an id, if it is checked both where that id is in force and where it is not: each use is of an
-- id that is in force, and no record binds the id anew. `use_absent`, which Main uses of the written tree and id 0: an
-- argument outside its lambda would be written as a use of 0, so it is never met.
-- Assumes nothing.
use mathlib.Core.Path.{◌≡◌}
use mathlib.Core.Logic.{◌⊎◌, inl, inr}
use mathlib.Core.List.{List, ◌++◌}
use Prim.Native.Nat.{ℕ}
use Rattle.model.specs.Lists.{twice}
use Rattle.model.specs.Tree.{Tree, Trees, node, nil, cons}
use Rattle.model.specs.Faults.{faults}
use Rattle.model.specs.Binding.{id_of, inside, after, rebound, rebound_in, unbound, unbound_in}
use Rattle.model.specs.Demand3.{NoUse, NoUses}
use Rattle.laws.specs.Clear.{Clear}
use Rattle.laws.proofs.Clear.{clear_left, clear_right}
use Rattle.laws.specs.Members.{In}
use Rattle.theory.proofs.Acceptance.Records.{use_bound}
use Rattle.laws.proofs.Members.{in_left, in_right, in_either, or_neither, any_in_false}

-- ids in force, and the same with i among them
pub record Apart (i : ℕ) (ids more : List ℕ) : Type 0 where
  pub absent : In i ids → ⊥
  pub present : In i more

-- what a record binds, none of which is i
apart_more : (i : ℕ) (own ids more : List ℕ) → (In i own → ⊥) → Apart i ids more → Apart i (own ++ ids) (own ++ more)
apart_more i own ids more h a =
    record { absent = λ k. go (in_either i own ids k); present = in_right i own more a.present }
  where
    go : In i own ⊎ In i ids → ⊥
    go (inl k) = h k
    go (inr k) = a.absent k

mutual
  unfolding faults after

  pub use_absent : (i : ℕ) (t : Tree) (ids more : List ℕ) → Apart i ids more → Clear (rebound t more) →
      Clear (unbound t ids) →
      NoUse i t × (In i (after t) → ⊥)
  use_absent i (node r ts) ids more a fresh known =
      let inner = apart_more i (inside r) ids more (λ k. own (in_right i (after (node r ts)) (inside r) k)) a in
      let below = uses_absent i ts (inside r ++ ids) (inside r ++ more) inner fresh.1 known.1 in
      let here : r.shape ≡ 7 → id_of r ≡ i → ⊥ = λ s e. a.absent (rw (← e) (use_bound r ts ids known s)) in
      ((here, below), λ k. own (in_left i (after (node r ts)) (inside r) k))
    where
      own : In i (after (node r ts) ++ inside r) → ⊥
      own k =
          any_in_false i (after (node r ts) ++ inside r) more
          (or_neither _ (twice (after (node r ts) ++ inside r)) fresh.0).0 k a.present

  uses_absent : (i : ℕ) (ts : Trees) (ids more : List ℕ) → Apart i ids more → Clear (rebound_in ts more) →
      Clear (unbound_in ts ids) → NoUses i ts
  uses_absent i nil ids more a fresh known = tt
  uses_absent i (cons t ts) ids more a fresh known =
      let w = use_absent i t ids more a (clear_left (rebound t more) _ fresh) (clear_left (unbound t ids) _ known) in (
        w.0,
        uses_absent i ts (after t ++ ids) (after t ++ more) (apart_more i (after t) ids more w.1 a)
            (clear_right (rebound t more) _ fresh) (clear_right (unbound t ids) _ known),
      )
