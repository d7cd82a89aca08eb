-- Children that opened no scope, counted again. In order: what `repeats` says of two states; to read the children again
-- gives what the first reading gave, with its readings counted (`repeated_is`); the words still hold the state.
-- Assumes nothing.
use Prim.Native.Nat.{ℕ, suc, ◌+◌, ◌≤◌}
use mathlib.Core.Path.{◌≡◌, sym, ◌∙◌}
use mathlib.Core.Bool.{Bool, true}
use mathlib.Core.List.{List}
use native.Mathlib.Omega.{arith}
use borrow.Author.Tests.{eqb-true, leb-true}
use lib.Dec.{eqb, leb}
use lib.ListN.{length}
use Rattle.laws.proofs.Members.{and_both}
use Rattle.walk.specs.Walk.{rec_at, kid_trees_at}
use Rattle.bindings.specs.Bindings.{env_of}
use Rattle.tables.specs.declared.Tables.{Tables}
use Rattle.interner.specs.declared.State.{State}
use Rattle.interner.specs.State.{abs_of, Rep}
use Rattle.opening.proofs.Counts.{scopes_count, readings_rep}
use Rattle.standing.specs.Standing.{WellAll}
use Rattle.standing.proofs.Next.{again_more, again_same}
use Rattle.intern.specs.declared.Here.{Here}
use Rattle.intern.specs.Steps.{KidsStep}
use Rattle.intern.specs.Steps.{repeats, repeated}
use Rattle.intern.specs.Intern.{kids_read, kids_answer}
use Rattle.intern.proofs.Records.{Gave}

-- ---- two states

module _ (before after : State) (e : repeats before after ≡ true) where
  both : (eqb after.scopes before.scopes ≡ true)
      × (leb (after.readings + after.readings) (2048 + before.readings) ≡ true)
  both = and_both _ _ e

  repeats_scopes : after.scopes ≡ before.scopes
  repeats_scopes = eqb-true after.scopes before.scopes both.0

  pub repeats_few : after.readings + after.readings ≤ 2048 + before.readings
  repeats_few = leb-true (after.readings + after.readings) (2048 + before.readings) both.1

-- ---- children read again

module _ {bs ws : List ℕ} {t : Tables} {st : State} {i : ℕ} {at : Here} {b : Bool} {n : ℕ} {ws₁ : List ℕ} {k : KidsStep}
    (well : WellAll (kid_trees_at bs i) b (rec_at bs i).opcode 0 at.scope (env_of ws at.top) (abs_of bs ws t st) 1)
    (gave : Gave bs ws t st i at b n ws₁ k) (e : repeats st k.st ≡ true) where
  no_scope : length (abs_of bs ws₁ t k.st).scopes ≡ length (abs_of bs ws t st).scopes
  no_scope = scopes_count bs ws₁ t k.st ∙ repeats_scopes st k.st e ∙ sym (scopes_count bs ws t st)

  pub repeated-more : st.readings ≤ k.st.readings
  repeated-more = again_more well (suc i) _ gave.is no_scope

  pub repeated_is : kids_read bs i at.scope (env_of ws at.top) (abs_of bs ws₁ t k.st)
      ≡ kids_answer bs ws₁ t at.held n (repeated st k)
  repeated_is = again_same well (suc i) _ gave.is no_scope (omega (arith, repeats_few st k.st e, repeated-more))

  pub repeated_rep : Rep bs ws₁ k.st → Rep bs ws₁ (repeated st k).st
  repeated_rep rep =
      readings_rep bs ws₁ k.st _ rep (omega (arith, repeats_few st k.st e, repeated-more))
