-- From one state that is seen from a scope to the next (`Standing`).
-- In order: what is bound (`env_low`); the start; a reading counted; a thunk opened; a lambda's scope opened; a step of
-- interning (`step_stands`), and what it gives (`step_gives`, `result_of`).
-- Enter and Next add what is checked and paid for.
-- Assumes nothing.
use mathlib.Core.Path.{refl, sym}
use mathlib.Core.Logic.{◌⊎◌, inl, inr}
use Rattle.std.specs.Prelude.{None, Some}
use mathlib.Core.List.{List, [], ◌∷◌}
use Prim.Native.Nat.{ℕ, ◌<◌}
use native.Mathlib.Omega.{arith}
use Rattle.model.specs.Tree.{Rec}
use Rattle.model.specs.Intern.{Sym, Scope, State, Env, start, read, open_thunk}
use Rattle.laws.specs.ArgLists.{bound_by}
use Rattle.laws.specs.Members.{In}
use Rattle.interner.specs.Levels.{Bound}
use Rattle.theory.specs.Good.{sym_count, scope_count}
use Rattle.theory.specs.Inv.{HasArg, keys, EnvOk, Fits, Grow}
use Rattle.theory.proofs.Interning.Inv.{has_arg, arg_in, env_later, fits_back}
use Rattle.theory.proofs.Interning.Inv.{grow-same}
use Rattle.theory.proofs.Interning.Finish.{Step}
use Rattle.theory.proofs.Interning.Finish as finish
use Rattle.theory.proofs.Interning.Fresh.{bind_args_cases}
use Rattle.theory.proofs.Interning.Scopes.{open_grows}
use Rattle.theory.proofs.Interning.Lambda.{with_args}
use Rattle.theory.proofs.Interning.Keep.{Symbols, InForce}
use Rattle.theory.proofs.Interning.Body.{ArgsDone, opened, opened_inv, opened_env}
use Rattle.theory.proofs.Interning.Operands.{thunk_opens}
use Rattle.theory.proofs.Interning.Walk.{read_inv}
use Rattle.theory.proofs.Interning.Interned.{start_inv}
use Rattle.theory.specs.Sound.{StateSound, Any}
use Rattle.theory.proofs.Bounds.Steps.{read_sound, open_more}
use Rattle.theory.proofs.Bounds.Kinds.{EnvLow}
use Rattle.theory.proofs.Bounds.Trees.{start_sound, thunk_sound}
use Rattle.standing.specs.Standing.{Standing, Result}
use Rattle.standing.proofs.Forced.{bound_later, bound-inside, bound-own}

-- ---- what is bound

-- a state has its own symbols and scopes
whole : (st : State) → Fits st.syms st.scopes st
whole st = record { syms_fit = λ i l. refl; scopes_fit = λ b l. refl }

pub env_ok : {cur : ℕ} {env : Env} {st : State} (h : Standing cur env st) →
    EnvOk st.syms (sym_count st) env h.args
env_ok {st} h = (h.inv st.syms st.scopes (whole st)).1

pub env_low : {cur : ℕ} {env : Env} {st : State} → Standing cur env st → EnvLow (keys env) env (sym_count st)
env_low h i k = (k, (env_ok h).low i k)

-- ---- the start, and readings

pub start_stands : Standing 0 [] start
unfolding start
start_stands = record {
  args = [];
  sound = start_sound Any;
  current = omega arith;
  inv = λ fin scs f. (
    start_inv fin scs (sym (f.scopes_fit 0 (omega arith))),
    record { low = λ i h. absurd h; deps_in = λ i a h. absurd h; ids = λ i a h. absurd h },
  );
  in_scopes = λ a h. absurd h;
}

pub read_stands : {cur : ℕ} {env : Env} {st : State} → Standing cur env st → st.readings < 2048 →
    Standing cur env (read st)
read_stands {st} h l = record {
  args = h.args;
  sound = read_sound Any st l h.sound;
  current = h.current;
  inv = λ fin scs f.
      let w = h.inv fin scs (fits_back fin scs st (read st) (grow-same st (read st) refl refl) f) in
      (read_inv w.0, w.1);
  in_scopes = h.in_scopes;
}

-- ---- scopes that open

pub thunk_stands : {cur : ℕ} {env : Env} {st : State} → Standing cur env st →
    Standing (scope_count st) env (open_thunk cur st)
thunk_stands {cur} {st} h = record {
  args = h.args;
  sound = thunk_sound Any cur st h.sound h.current;
  current = omega (arith, open_more cur None ([] ∷ st.tables) st);
  inv = λ fin scs f.
      let g = open_grows cur None ([] ∷ st.tables) st in
      let w = h.inv fin scs (fits_back fin scs st (open_thunk cur st) g f) in
      (thunk_opens cur st h.args fin scs f w.0, w.1);
  in_scopes = λ a k. bound-inside cur None ([] ∷ st.tables) st a (h.in_scopes a k);
}

-- the body of a lambda, with its arguments md made
pub body_stands : {cur : ℕ} {env : Env} {st : State} {r : Rec} {md : Symbols} (h : Standing cur env st) →
    ArgsDone st h.args cur r md → StateSound Any (opened cur md) →
    Standing (scope_count md.2) (with_args r md.0 env) (opened cur md)
body_stands {cur} {env} {st} {r} {md} h made sound = record {
  args = with_args r md.0 h.args;
  sound = sound;
  current = omega (arith, open_more cur (Some md.0) md.2.tables md.2);
  inv = λ fin scs f.
      let w = h.inv fin scs (fits_back fin scs st md.2 made.step.grows
      (fits_back fin scs md.2 (opened cur md) (open_grows cur (Some md.0) md.2.tables md.2) f)) in
      (opened_inv made f w.0, opened_env made f w.0 w.1);
  in_scopes = λ a k.
      let i = has_arg a (with_args r md.0 h.args) k in
      bound a i.0 (bind_args_cases i.0 a (bound_by r) md.0 h.args i.1);
}
  where
    bound : (a i : ℕ) → HasArg i a h.args ⊎ In a md.0 → Bound (opened cur md).scopes (scope_count md.2) a
    bound a i (inl k) =
        bound-inside cur (Some md.0) md.2.tables md.2 a
        (bound_later made.step.grows h.current (h.in_scopes a (arg_in i a h.args k)))
    bound a i (inr k) = bound-own cur md.0 md.2.tables md.2 a k

-- ---- a step of interning

module _ {cur : ℕ} {env : Env} {st st' : State} {Post : List Sym → List Scope → Type 0} (h : Standing cur env st)
    (s : Step st st' h.args cur (InForce st env h.args) Post) where
  -- with more ids bound, or the same
  pub step_stands : (env' : Env) → StateSound Any st' →
      ((fin : List Sym) (scs : List Scope) → EnvOk fin (sym_count st') env h.args → Post fin scs →
      EnvOk fin (sym_count st') env' h.args) →
      Standing cur env' st'
  step_stands env' sound bind = record {
    args = h.args;
    sound = sound;
    current = omega (arith, h.current, s.grows.more_scopes);
    inv = λ fin scs f.
        let w = h.inv fin scs (fits_back fin scs st st' s.grows f) in
        let v = s.keeps fin scs f w.0 w.1 in
        let ok = env_later fin (sym_count st) (sym_count st') env h.args s.grows.more_syms w.1 in
        (v.0, bind fin scs ok v.1);
    in_scopes = λ a k. bound_later s.grows h.current (h.in_scopes a k);
  }

  pub step_gives : Post st'.syms st'.scopes
  step_gives =
      let f = whole st' in
      let w = h.inv st'.syms st'.scopes (fits_back st'.syms st'.scopes st st' s.grows f) in
      (s.keeps st'.syms st'.scopes f w.0 w.1).1

-- a symbol that depends on arguments in force only, whose scopes are still there
pub result_of : {cur : ℕ} {env : Env} {st st' : State} (h : Standing cur env st) → Grow st st' → (s : ℕ) →
    finish.Result st'.syms (sym_count st') h.args s → Result st' cur s
result_of h g s w =
    record { low = w.low; forced = λ a k. bound_later g h.current (h.in_scopes a (w.within a k)) }
