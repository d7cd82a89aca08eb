-- Demand 3 holds of every call, over the definitions: `demand_3`. What it says stands in model, specs/Demand3 and
-- Conditions: read them first. The rest of the crate proves it: the files below, that each check fails exactly where its
-- condition holds (Places for 2 to 6, with ShapeRules and OpcodeRules; Depths for 7, OneShape for 16, Placed for 8, Ids
-- for 9 and 10; Counted for 11 and 12), and so that the call's number is that of the first refusal that applies (Order,
-- Exactly); the folders, that the written tree keeps the meaning and is accepted.
-- Assumes nothing.
pub mod Literals
pub mod ShapeRules
pub mod OpcodeRules
pub mod Nesting
pub mod Faulty
pub mod Places
pub mod Depths
pub mod OneShape
pub mod Placed
pub mod Extents
pub mod Arguments
pub mod Forces
pub mod Ids
pub mod Trace
pub mod Counted
pub mod Order
pub mod Exactly
use mathlib.Core.Path.{◌≡◌, refl, ap, ◌∙◌}
use mathlib.Core.Logic.{inl, inr}
use mathlib.Core.Bool.{Bool, true, false}
use mathlib.Core.List.{List}
use Prim.Native.Nat.{ℕ, ◌≤◌, ◌<◌}
use lib.Dec.{ltb}
use lib.ListN.{length}
use borrow.Author.Tests.{ltb-true, ltb-false}
use Rattle.model.specs.Answer.{Answer, good}
use Rattle.model.specs.Tree.{Trees, nil, cons, size, depth, root}
use Rattle.model.specs.Forest.{trees_of}
use Rattle.model.specs.Accept.{checks, accept}
use Rattle.model.specs.Unfold.{unfolded}
use Rattle.model.specs.Intern.{State}
use Rattle.model.specs.Call.{Call, tree_of, bytes_of, Written, written_of, run, numbers_of, numbers, out_with, out_after}
use Rattle.laws.proofs.Checks.{Passes, checked_good}
use Rattle.model.specs.Demand3.{Writes, Demand3}
use Rattle.theory.proofs.Promise.Main.{meaning_kept, bytes_accepted, argument_never_met}
use Rattle.model.specs.Trace.{Interned}
use Rattle.model.specs.Conditions.{NoneApplies, at_13, at_14}
use Rattle.theory.proofs.Demand3.Trace.{interning}
use Rattle.theory.proofs.Demand3.Counted.{interned_exactly}
use Rattle.theory.proofs.Demand3.Order.{call_passes, passes_accepted}
use Rattle.theory.proofs.Demand3.Exactly.{zero_passes, zero_both, refusal_both}

at_most : (a b : ℕ) → (b < a → ⊥) → a ≤ b
at_most a b h = go (ltb b a) refl
  where
    go : (t : Bool) → ltb b a ≡ t → a ≤ b
    go true e = absurd (h (ltb-true b a e))
    go false e = ltb-false b a e

module _ (c : Call) (none : NoneApplies c) (pass : Passes (checks c.forest)) (o : ℕ × State)
    (is : interning c.forest ≡ good o) (answer : run c ≡ good (written_of o)) where
  so : Interned c.forest o
  so = (interned_exactly c.forest o).0 is

  few : size (tree_of o) ≤ 256
  few = at_most _ _ (λ l. none 13 0 (at_13 o so (inl l)))

  short : length (bytes_of o) ≤ 65535
  short = at_most _ _ (λ l. none 13 0 (at_13 o so (inr (inl l))))

  flat : depth (tree_of o) ≤ 64
  flat = at_most _ _ (λ l. none 14 0 (at_14 o so l))

  read_again : Passes (checks (bytes_of o)) × (trees_of (bytes_of o) ≡ cons (tree_of o) nil)
  unfolding accept
  read_again =
      checked_good (checks (bytes_of o)) (trees_of (bytes_of o)) (cons (tree_of o) nil)
      (bytes_accepted c.forest pass o is few short flat)

  writes_of : (out : List ℕ) → Writes c out (numbers c) (out_after c out)
  unfolding numbers numbers_of out_after out_with written_of root
  writes_of out = record {
    interned = o;
    defined = so;
    stands = ap (λ (a : Answer Written). out_with a out) answer;
    answers = ap numbers_of answer;
    fits_in = at_most _ _ (λ l. none 13 0 (at_13 o so (inr (inr l))));
    accepted = passes_accepted (bytes_of o) read_again.0;
    reads_back = read_again.1;
    no_zero_use = argument_never_met c.forest pass o is few;
    keeps = ap (λ (ts : Trees). unfolded (root ts)) read_again.1 ∙ meaning_kept c.forest pass o is;
  }

-- for every call
pub demand_3 : (c : Call) → Demand3 c
demand_3 c out l = record {
  zero_exactly = zero_both c;
  refusal_exactly = refusal_both c;
  writes = λ e.
      let w = call_passes c (zero_passes c e) in
      writes_of c ((zero_both c).0 e) w.0 w.1.0 w.1.1 w.1.2 out;
}
