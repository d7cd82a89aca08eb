-- Trees that open no scope are read again at once: `reread_all`. The same symbols come of them, nothing new is made,
-- and as many readings are counted once more. So the second reading of a Tuple's input need not be made where the first
-- opens no scope and the readings suffice.
--
-- In order: what is asked of the state and the bindings, from what is known of them at every point of interning
-- (`sound_tabled`, `bound-fits`); that no reading is taken back (`reread_more`); the law; and that such trees have no
-- thunk (`reread-no-thunks`). The folder proves it: Later says what a later state finds; Finds, Projections and Kinds
-- go through the steps of a record, Walk through trees.
-- Assumes nothing.
pub mod Later
pub mod Finds
pub mod Projections
pub mod Kinds
pub mod Walk
use mathlib.Core.Path.{◌≡◌, refl, ap, sym, ◌∙◌}
use mathlib.Core.Logic.{◌⊎◌, inl, inr}
use mathlib.Core.Bool.{Bool, true, false}
use mathlib.Core.List.{List, [], ◌∷◌}
use Prim.Native.Nat.{ℕ, ◌+◌, ◌-◌, ◌≤◌, ◌<◌}
use native.Mathlib.Omega.{arith}
use lib.Dec.{eqb}
use lib.ListN.{length}
use borrow.Author.Tests.{eqb-true}
use Rattle.model.specs.Answer.{good}
use Rattle.model.specs.Tree.{Trees}
use Rattle.model.specs.Intern.{State, Env, resolve, intern_all}
use Rattle.laws.proofs.Holds.{holds_good}
use Rattle.laws.specs.Members.{In}
use Rattle.laws.proofs.Members.{in_or-not}
use Rattle.theory.specs.Good.{sym_count}
use Rattle.theory.specs.Inv.{keys}
use Rattle.theory.specs.Sound.{StateSound}
use Rattle.theory.proofs.Interning.Reread.Later.{with_readings, Tabled, Low, later_none, Calm}
use Rattle.theory.proofs.Interning.Reread.Kinds.{EnvFits, CalmAll, RereadsAll}
use Rattle.theory.proofs.Interning.Reread.Walk.{intern_all_rereads}

-- ---- what is asked

pub sound_tabled : {B : ℕ → Type 0} {s : State} → StateSound B s → Tabled s
sound_tabled h =
    record { some_table = h.tables_open; entries_low = h.tables_low; memo_low = h.memo_low }

-- an id that is not bound has symbol 0
resolve_none : (env : Env) (i : ℕ) → (In i (keys env) → ⊥) → resolve env i ≡ 0
unfolding resolve
resolve_none [] i h = refl
resolve_none (b ∷ env) i h = go (resolve_none env i (λ k. h (inr k))) (eqb b.0 i) refl
  where
    go : resolve env i ≡ 0 → (t : Bool) → eqb b.0 i ≡ t →
        ◌≡◌ {A = ℕ} (elim t [ true ↦ b.1 | false ↦ resolve env i ]) 0
    go e true t = absurd (h (inl (sym (eqb-true b.0 i t))))
    go e false t = e

pub bound-fits : (env : Env) (n : ℕ) → ((i : ℕ) → In i (keys env) → resolve env i < n) → EnvFits env n
bound-fits env n h i = go (in_or-not i (keys env))
  where
    go : In i (keys env) ⊎ (In i (keys env) → ⊥) → Low n (resolve env i)
    go (inl k) = omega (arith, h i k)
    go (inr k) = omega (arith, resolve_none env i k)

-- ---- trees read again

module _ (ts : Trees) (op j at cur : ℕ) (env : Env) (s : State) (os : List ℕ × List ℕ × State) (tabled : Tabled s)
    (bound : EnvFits env (sym_count s)) (first : intern_all ts op j at cur env s ≡ good os)
    (no_scope : length os.2.scopes ≡ length s.scopes) where
  calm_all : CalmAll (λ v. intern_all ts op j at cur env v) s os
  calm_all =
      let f : State → _ = λ v. intern_all ts op j at cur env v in
      (holds_good (RereadsAll (EnvFits env (sym_count s)) f s) first (intern_all_rereads ts op j at cur env s)).calm bound
      tabled no_scope

  pub reread_more : s.readings ≤ os.2.readings
  reread_more = omega (arith, calm_all.calm.counted)

  pub reread_all : os.2.readings + (os.2.readings - s.readings) ≤ 2048 →
      intern_all ts op j at cur env os.2
      ≡ good (os.0, os.1, with_readings os.2 (os.2.readings + (os.2.readings - s.readings)))
  reread_all few =
      let c : Calm (λ v. intern_all ts op j at cur env v) s os.2 (λ v. (os.0, os.1, v)) = calm_all.calm in
      let n : c.count ≡ os.2.readings - s.readings = omega (arith, c.counted) in
      c.again os.2 (later_none os.2) (omega arith)
      ∙ ap (λ (n : ℕ). good (os.0, os.1, with_readings os.2 (os.2.readings + n))) n
