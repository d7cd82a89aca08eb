-- What is left of the operands of a record, once some are read.
-- In order: what is left; the invariant.
-- Assumes nothing.
use Prim.Native.Nat.{ℕ, ◌+◌, ◌-◌, ◌*◌, ◌≤◌}
use mathlib.Core.Path.{◌≡◌}
use mathlib.Core.Bool.{Bool}
use mathlib.Core.List.{List}
use Rattle.std.specs.Prelude.{IsOk}
use Rattle.model.specs.Tree.{many, depths}
use Rattle.model.specs.Intern.{intern_all}
use Rattle.walk.specs.Walk.{trees_from, WellFormed}
use Rattle.symbols.specs.Words.{pending_from}
use Rattle.bindings.specs.Bindings.{env_of}
use Rattle.tables.specs.declared.Tables.{Tables}
use Rattle.tables.specs.Tables.{Open}
use Rattle.interner.specs.declared.State.{State}
use Rattle.interner.specs.State.{abs_of, Rep}
use Rattle.key.specs.Key.{branches_of}
use Rattle.concluding.specs.Concluding.{Branched}
use Rattle.standing.specs.Standing.{WellAll}
use Rattle.intern.specs.declared.Here.{Here}
use Rattle.intern.specs.Steps.{KidsStep}
use Rattle.intern.specs.Words.{Kept}
use Rattle.intern.specs.Intern.{trees, Plain, Operands}
use Rattle.intern.proofs.After.{after, Thunks, thunk_count}

-- of `count` operands from record i on, j are read and `left` are left, from record `next` on
pub record Remains (bs : List ℕ) (t : Tables) (i count op : ℕ) (at : Here) (ws₀ : List ℕ) (st₀ : State) (ws : List ℕ)
    (k : KidsStep) (next top j left : ℕ) : Type 0 where
  pub sum : j + left ≡ count
  pub rep : Rep bs ws k.st
  pub opened : Open t k.st.entries
  pub outcome : IsOk k.outcome
  pub there : left ≤ many (trees_from bs next)
  pub is : after (pending_from ws at.held j) (branches_of k.branches)
      (intern_all (trees bs next left) op j next at.scope (env_of ws top) (abs_of bs ws t k.st))
      ≡ intern_all (trees bs i count) op 0 i at.scope (env_of ws₀ at.top) (abs_of bs ws₀ t st₀)
  pub shallow : depths (trees bs next left) ≤ depths (trees bs i count)
  pub block : Bool
  pub plain : Plain op block
  pub paid : ℕ
  pub well : WellAll (trees bs next left) block op j at.scope (env_of ws top) (abs_of bs ws t k.st) paid
  pub onward : i ≤ next
  pub held : at.held + j ≤ next
  pub pending : at.held + j ≤ 256
  pub more : at.top ≤ top
  pub few : top ≤ 14 * (64 - depths (trees bs i count)) + next
  pub branched : Branched k.branches
  pub thunks : Thunks j (thunk_count k.branches)
  pub kept : Kept at ws₀ ws st₀ k.st

-- the loop's invariant, with what was asked
pub record Reading (bs : List ℕ) (t : Tables) (i count op : ℕ) (at : Here) (ws₀ : List ℕ) (st₀ : State) (ws : List ℕ)
    (k : KidsStep) (next top j : ℕ) : Type 0 where
  pub sound : WellFormed bs
  pub first : Operands bs ws₀ t st₀ i count op at
  pub left : ℕ
  pub remains : Remains bs t i count op at ws₀ st₀ ws k next top j left
