-- What the Rust guards by `expect` and `unreachable!`, said of the definitions: none can be met after checks 4 to 10.
-- codec.rs, "recompose: fewer rebuilt children than the template": `many_op` (laws, Building) and `kids_fit`.
-- materialize.rs, "build_op on a non-Op symbol" and "op_of on a non-Op symbol": `build_op` is called on an `operation`
-- only, which has an opcode, `has_opcode`; `branch_scopes[next_branch]`, past its end: `scopes_fit`.
-- intern.rs, "global scope is always open": `tables_open`, here at the end, and in Bounds.Sound at every point.
-- A use without a binding: `use_bound` in Acceptance.Records. `val_use(0)`, an argument outside its lambda:
-- `argument_never_met` in Main.
-- Assumes nothing.
use mathlib.Core.Path.{◌≡◌, subst}
use mathlib.Core.Bool.{true}
use mathlib.Core.List.{List}
use Prim.Native.Nat.{ℕ, ◌≤◌, ◌<◌}
use lib.ListN.{length}
use Rattle.model.specs.Answer.{good}
use Rattle.model.specs.Tree.{Trees, root}
use Rattle.model.specs.Shape.{fits}
use Rattle.model.specs.Accept.{accept}
use Rattle.model.specs.Intern.{operation, State}
use Rattle.model.specs.Call.{interned}
use Rattle.laws.proofs.Holds.{Holds}
use Rattle.theory.specs.Good.{NodeOk, sym_count, scope_count, rec_at, sym_kids, node_at}
use Rattle.theory.proofs.Interning.Interned.{RootInterned, interned_ready}
use Rattle.theory.specs.Sound.{thunks, NodeSound, StateSound, Any}
use Rattle.theory.proofs.Bounds.Limits.{forest_sound}

-- of an operation symbol: an opcode of its own, as many children as its shape has, a branch scope for each thunk
pub record Operation (st : State) (s : ℕ) (brs : List ℕ) : Type 0 where
  pub has_opcode : 2 ≤ (rec_at st.syms s).shape
  pub kids_fit : fits (record { rec = rec_at st.syms s; kids = length (sym_kids st.syms s) }) ≡ true
  pub scopes_fit : length brs ≡ thunks (rec_at st.syms s).opcode 0 (sym_kids st.syms s)

pub record NeverMet (st : State) : Type 0 where
  pub tables_open : 1 ≤ length st.tables
  pub operations : (s : ℕ) (brs : List ℕ) → s < sym_count st → node_at st.syms s ≡ operation brs → Operation st s brs

pub never_met : (forest : List ℕ) (ts : Trees) → accept forest ≡ good ts → (o : ℕ × State) → interned forest ≡ good o →
    NeverMet o.1
never_met forest ts e o is = record {
  tables_open = sound.tables_open;
  operations = λ s brs l q.
      let w = subst (NodeSound Any s (scope_count o.1) (rec_at o.1.syms s) (sym_kids o.1.syms s)) q
      (sound.syms_sound s l).node_sound in
      let v = subst (NodeOk o.1.syms o.1.scopes s) q (ready.inv.good s l).node_is in
      record { has_opcode = w.1; kids_fit = v.0.fits_is; scopes_fit = w.2 };
}
  where
    ready : RootInterned o.1 o.0 (root ts)
    ready = subst (Holds (λ o. RootInterned o.1 o.0 (root ts))) is (interned_ready forest ts e)

    sound : StateSound Any o.1
    sound = (forest_sound forest ts e o is).sound
