-- What is written for an accepted forest: the tree of its symbols unfolds to what the root unfolds to; it is checked
-- if it has at most 256 records; and its bytes, if not too many, are accepted and read back as the tree. No use of id
-- 0 is written.
-- In order: the tree of an interned forest; the promise, which the statement of demand 3 uses.
-- Assumes nothing.
use mathlib.Core.Path.{◌≡◌, refl, ◌∙◌, subst}
use mathlib.Core.Logic.{inl}
use mathlib.Core.Bool.{false}
use mathlib.Core.List.{List, [], ◌∷◌}
use Prim.Native.Nat.{ℕ, ◌≤◌}
use native.Mathlib.Omega.{arith}
use lib.ListN.{length}
use Rattle.model.specs.Answer.{good, ◌>>=◌}
use Rattle.model.specs.Tree.{Tree, nil, cons, size, depth, root}
use Rattle.model.specs.Forest.{trees_of}
use Rattle.model.specs.Accept.{checks, accept}
use Rattle.model.specs.Unfold.{arg, unfolded}
use Rattle.model.specs.Intern.{State, Out, intern_forest, intern_last}
use Rattle.model.specs.Gate.{reachable}
use Rattle.model.specs.Materialize.{materialize}
use Rattle.model.specs.Call.{interned, tree_of, bytes_of}
use Rattle.laws.proofs.Checks.{Passes, passes_checked}
use Rattle.laws.proofs.Holds.{Holds}
use Rattle.laws.specs.Members.{In}
use Rattle.laws.proofs.Members.{in_one}
use Rattle.theory.specs.Checked.{Checked}
use Rattle.theory.proofs.Acceptance.Bytes.{accept_serialised}
use Rattle.theory.specs.Good.{sym_count}
use Rattle.theory.proofs.Interning.Interned.{RootInterned, interned_ready}
use Rattle.theory.proofs.Building.Given.{Built, none_given}
use Rattle.theory.proofs.Building.Built.{root_built}
use Rattle.model.specs.Demand3.{NoUse}
use Rattle.theory.proofs.Promise.Uses.{use_absent}
use Rattle.theory.proofs.Promise.OneShape.{written_one_shape}

-- ---- the tree of an interned forest

module _ (o : ℕ × State) (t : Tree) (h : RootInterned o.1 o.0 t) where
  abbrev st : State
  st = o.1

  tree_built : Built st.syms [] 0 o.0 (tree_of o)
  unfolding tree_of materialize reachable
  tree_built =
      root_built (reachable st.syms st.scopes o.0) (sym_count st) h.inv.good h.inv.place_ok
      (λ x l xs b e. (h.inv.lam_ok x l xs b e).scope_low) o.0 h.low h.pair h.closed

  pub tree_unfolds : unfolded (tree_of o) ≡ unfolded t
  unfolding unfolded
  tree_unfolds =
      tree_built.means (λ a d. arg 0 0) [] (λ x i e. absurd (none_given x i e)) 0 ∙ h.means (λ a d. arg 0 0) 0

  -- with any ids in force that are 0
  checked_with : size (tree_of o) ≤ 256 → (ids : List ℕ) → ((i : ℕ) → In i ids → i ≤ 0) → Checked (tree_of o) false ids
  checked_with l ids low =
      tree_built.checked (omega arith) ids (record { low = low; given = λ x i e. absurd (none_given x i e) })

  tree_checked : size (tree_of o) ≤ 256 → Checked (tree_of o) false []
  tree_checked l = checked_with l [] (λ i m. absurd m)

  -- an argument outside its lambda would be written as a use of id 0
  no_zero_use : size (tree_of o) ≤ 256 → NoUse 0 (tree_of o)
  no_zero_use l =
      (use_absent 0 (tree_of o) [] (0 ∷ []) (record { absent = λ k. k; present = inl refl })
      (checked_with l (0 ∷ []) (λ i m. let e = in_one m in omega arith)).fresh
      (tree_checked l).known).0

-- ---- the promise

-- for an accepted forest, interned to the root's symbol and a state
module _ (forest : List ℕ) (pass : Passes (checks forest)) (o : ℕ × State)
    (is : intern_last (intern_forest (trees_of forest)) ≡ good o) where
  forest_accepted : accept forest ≡ good (trees_of forest)
  unfolding accept
  forest_accepted = passes_checked (checks forest) (trees_of forest) pass

  forest_interned : interned forest ≡ good o
  unfolding interned ◌>>=◌
  forest_interned = rw (forest_accepted, ◌>>=◌) is

  pub root_ready : RootInterned o.1 o.0 (root (trees_of forest))
  root_ready =
      subst (λ (a : Out). Holds (λ o. RootInterned o.1 o.0 (root (trees_of forest))) a) forest_interned
      (interned_ready forest (trees_of forest) forest_accepted)

  pub meaning_kept : unfolded (tree_of o) ≡ unfolded (root (trees_of forest))
  meaning_kept = tree_unfolds o (root (trees_of forest)) root_ready

  pub bytes_accepted : size (tree_of o) ≤ 256 → length (bytes_of o) ≤ 65535 → depth (tree_of o) ≤ 64 →
      accept (bytes_of o) ≡ good (cons (tree_of o) nil)
  unfolding bytes_of
  bytes_accepted few short flat =
      accept_serialised (tree_of o) (tree_checked o (root (trees_of forest)) root_ready few) few short flat
      (written_one_shape forest pass o is)

  pub argument_never_met : size (tree_of o) ≤ 256 → NoUse 0 (tree_of o)
  argument_never_met = no_zero_use o (root (trees_of forest)) root_ready
