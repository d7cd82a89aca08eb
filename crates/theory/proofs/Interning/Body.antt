-- A lambda's record: its arguments are made, its body is read in a scope of its own, and its symbol stands for it.
--
-- In order: the arguments (`ArgsDone`) and the scope that opens: in it the invariant holds with the arguments in force,
-- and ids mean what they meant outside, or the arguments; the lambda's symbol (`intern_func_keeps`).
-- Walk uses `intern_func_keeps`.
-- Assumes nothing.
use mathlib.Core.Path.{◌≡◌, refl, ap, sym, ◌∙◌}
use mathlib.Core.Bool.{Bool, true, false}
use Rattle.std.specs.Prelude.{Some}
use mathlib.Core.List.{List, [], ◌∷◌, ◌++◌}
use Prim.Native.Nat.{ℕ, suc, ◌<◌}
use native.Mathlib.Omega.{arith}
use lib.Dec.{ltb}
use lib.ListN.{length}
use borrow.Author.Tests.{ltb-true, ltb-false}
use Rattle.model.specs.Lists.{last}
use Rattle.model.specs.Answer.{◌>>=◌}
use Rattle.model.specs.Tree.{Rec, Trees, many}
use Rattle.model.specs.Binding.{arg_ids}
use Rattle.model.specs.Unfold.{Unfolded, Unfoldeds, Meaning, bind_from, unfold_all}
use Rattle.model.specs.Intern.{func, Sym, Scope, State, Env, Kids, resolve, open_scope, finish, alloc_args, intern_func}
use Rattle.laws.proofs.Holds.{Holds, holds_bind, holds_map}
use Rattle.laws.specs.Members.{In}
use Rattle.laws.proofs.Members.{clash}
use Rattle.laws.specs.ArgLists.{syms_in, opts_in, bound_by}
use Rattle.laws.proofs.ArgLists.{with_opts_syms}
use Rattle.theory.proofs.Meaning.Mean.{Val, bind_syms, mean_all, mean}
use Rattle.theory.proofs.Meaning.Coincide.{coincide, bind_syms_other}
use Rattle.theory.proofs.Acceptance.Records.{LamRec}
use Rattle.theory.specs.Good.{no_arg, args_at, deps_at, node_at, scope_count, sym_count}
use Rattle.theory.proofs.Interning.Good.{arg_of}
use Rattle.theory.specs.Inv.{Args, keys, Inv, EnvOk, Fits}
use Rattle.theory.proofs.Interning.Inv.{has_arg, env_later, grow_then, fits_back}
use Rattle.theory.proofs.Interning.Finish.{Step}
use Rattle.theory.proofs.Interning.Fresh.{ArgsMade, alloc_args_keeps, bind_args-keys}
use Rattle.theory.proofs.Interning.Fresh.{bind_args_cases, env_bind, EnvSem, Binds, bind_syms_binds, sem_bind}
use Rattle.theory.proofs.Interning.Scopes.{open_grows, open_is, open_inv}
use Rattle.theory.proofs.Interning.Lambda.{lam_of, args_with, with_args, BodyRead, LamDone, finish_lambda}
use Rattle.theory.proofs.Interning.Keep.{Symbols, Unfolding, AllStand, KeepsMeaning, KeepsMeanings, one_last, last_in_lem}

-- ---- the arguments and the body's scope

-- from state st, the arguments of a lambda of record r have been made
pub record ArgsDone (st : State) (A : Args) (cur : ℕ) (r : Rec) (md : Symbols) : Type 0 where
  pub step : Step st md.2 A cur (λ fin scs. Unit {0})
      (λ fin scs. ArgsMade fin (sym_count st) (sym_count md.2) md.0)
  pub many_args : length md.0 ≡ length (bound_by r)
  pub same_scopes : md.2.scopes ≡ st.scopes

pub args_done : (at cur : ℕ) (r : Rec) (st : State) (A : Args) →
    Holds (ArgsDone st A cur r) (alloc_args at cur r (bound_by r) st)
args_done at cur r st A =
    holds_map _ (ArgsDone st A cur r) (alloc_args at cur r (bound_by r) st) (alloc_args_keeps at cur r (bound_by r) st A)
    λ md h. record { step = h.0; many_args = h.1; same_scopes = h.2 }

-- the state in which the body is read
abbrev pub opened : ℕ → Symbols → State
opened cur md = open_scope cur (Some md.0) md.2.tables md.2

module _
    {st : State} {A : Args} {cur : ℕ} {r : Rec} {md : Symbols} (made : ArgsDone st A cur r md)
    {fin : List Sym} {scs : List Scope} (f : Fits fin scs (opened cur md)) (inv : Inv fin scs st A cur) where
  after_args : Inv fin scs md.2 A cur × ArgsMade fin (sym_count st) (sym_count md.2) md.0
  after_args =
      let g = open_grows cur (Some md.0) md.2.tables md.2 in
      made.step.keeps fin scs (fits_back fin scs md.2 (opened cur md) g f) inv tt

  -- no symbols but arguments have been made, and no scopes
  old_symbols : (x : ℕ) → x < sym_count md.2 → no_arg (node_at fin x) ≡ true → x < sym_count st
  old_symbols x l n = go (ltb x (sym_count st)) refl
    where
      go : (t : Bool) → ltb x (sym_count st) ≡ t → x < sym_count st
      go true e = ltb-true x (sym_count st) e
      go false e =
          let argument = after_args.1.only x (ltb-false x (sym_count st) e) l in
          absurd (clash (no_arg (node_at fin x)) n (ap no_arg argument))

  old_scopes : (b a : ℕ) → b < scope_count md.2 → In a (args_at scs b) → a < sym_count st
  old_scopes b a l h = inv.args_low b a (omega (arith, ap length made.same_scopes)) h

  pub opened_inv : Inv fin scs (opened cur md) (with_args r md.0 A) (scope_count md.2)
  opened_inv =
      open_inv fin scs cur (Some md.0) md.2.tables md.2 A (with_args r md.0 A) (sym_count st) f
      after_args.0 (λ i h. h) (λ a h. (after_args.1.fresh a h, after_args.1.low a h)) old_symbols old_scopes
      (λ i a h. bind_args_cases i a (bound_by r) md.0 A h)

  module _ {env : Env} (ok : EnvOk fin (sym_count st) env A) where
    pub opened_env : EnvOk fin (sym_count md.2) (with_args r md.0 env) (with_args r md.0 A)
    opened_env =
        env_bind fin (sym_count md.2) (bound_by r) md.0 env A arg
        (env_later fin (sym_count st) (sym_count md.2) env A made.step.grows.more_syms ok)
      where
        arg : (a : ℕ) → In a md.0 → (a < sym_count md.2) × (deps_at fin a ≡ a ∷ [])
        arg a h =
            let l = after_args.1.low a h in
            (l, (arg_of fin scs a (after_args.0.good a l) (after_args.1.nodes a h)).0)

    -- the lambda's arguments are in force in its body, and what was in force means the same there
    opened_sem : (ρ : Val) (ms : Meaning) (d : ℕ) → EnvSem fin env ms ρ →
        EnvSem fin (with_args r md.0 env) (bind_from (suc d) 0 (bound_by r) ms)
        (bind_syms (suc d) 0 (args_with r md.0) ρ)
    opened_sem ρ ms d sem =
        sem_bind fin scs (suc d) 0 (bound_by r) md.0 env ms inside made.many_args after_args.1.nodes binds old
      where
        inside : Val
        inside = bind_syms (suc d) 0 (args_with r md.0) ρ

        syms : syms_in (args_with r md.0) ≡ md.0
        syms = with_opts_syms (bound_by r) md.0 made.many_args

        binds : Binds inside (suc d) 0 md.0
        binds = rw syms at (bind_syms_binds (suc d) 0 (args_with r md.0) ρ (rw syms after_args.1.once))

        apart : (i a : ℕ) → In i (keys env) → In a (deps_at fin (resolve env i)) → In a (syms_in (args_with r md.0)) → ⊥
        apart i a h ha g =
            let q = has_arg a A (ok.deps_in i a h ha) in
            absurd (omega (arith, inv.arg_low q.0 a q.1, after_args.1.fresh a (rw syms at g)))

        old : EnvSem fin env ms inside
        old i h e =
            sem i h e
            ∙ coincide fin scs (sym_count st) inv.good (resolve env i) (ok.low i h) ρ inside
            (λ a ha y. sym (bind_syms_other (suc d) 0 (args_with r md.0) ρ a (apart i a h ha) y)) e

-- ---- the lambda's symbol

-- what a lambda of record r with the body ts unfolds to
abbrev pub lambda_of : Rec → Trees → Unfolding
lambda_of r ts ms d = lam_of r (opts_in (bound_by r)) (unfold_all ts (bind_from (suc d) 0 (bound_by r) ms) (suc d))

-- the body may be read from any state, with the lambda's ids bound before those in force
abbrev pub BodyKeeps : Kids → Rec → Env → Trees → Type 0
BodyKeeps kids r env ts =
    (c : ℕ) (e : Env) (B : Args) (s : State) → keys e ≡ arg_ids r ++ keys env →
    Holds (KeepsMeanings s B c e r.opcode 0 false ts) (kids c e s)

-- `apart`: the lambda's ids are not in force outside, by check 9
module _
    (at cur : ℕ) (r : Rec) (env : Env) (A : Args) (ts : Trees) (kids : Kids) (reads : BodyKeeps kids r env ts)
    (is : LamRec r) (one : many ts ≡ 1) (apart : (i : ℕ) → In i (keys env) → In i (arg_ids r) → ⊥) where
  -- after the arguments md, the body os has been read in its scope
  abbrev Body : Symbols → Symbols → Type 0
  Body md os =
      KeepsMeanings (opened cur md) (with_args r md.0 A) (scope_count md.2) (with_args r md.0 env)
      r.opcode 0 false ts os

  module _
      {st : State} {md os : Symbols} (made : ArgsDone st A cur r md) (body : Body md os)
      {fin : List Sym} {scs : List Scope} (f : Fits fin scs os.2) (inv : Inv fin scs st A cur)
      (ok : EnvOk fin (sym_count st) env A) where
    fits_open : Fits fin scs (opened cur md)
    fits_open = fits_back fin scs (opened cur md) os.2 body.step.grows f

    after_body : Inv fin scs os.2 (with_args r md.0 A) (scope_count md.2) ×
        AllStand fin scs (sym_count os.2) (with_args r md.0 A) (with_args r md.0 env) r.opcode 0 false ts
        os.0 os.1
    after_body = body.step.keeps fin scs f (opened_inv made fits_open inv) (opened_env made fits_open inv ok)

    body_read : BodyRead fin scs os.2 A cur (scope_count md.2) r md.0 (last os.0)
    body_read = record {
      lambda_is = is;
      many_args = made.many_args;
      inv = after_body.0;
      cur_low = low;
      scope_is = open_is fin scs cur (Some md.0) md.2.tables md.2 low fits_open;
      before = sym_count st;
      after = sym_count md.2;
      args_are = (after_args made fits_open inv).1;
      args_low = body.step.grows.more_syms;
      old = inv.arg_low;
      ids = λ i a h g. apart i (ok.ids i a h) g;
      body = after_body.1.results (last os.0) (last_in_lem os.0 (omega (arith, body.count)));
    }
      where
        low : cur < scope_count md.2
        low = (after_args made fits_open inv).0.cur_low

    body_means : (ρ : Val) (ms : Meaning) (d : ℕ) → EnvSem fin env ms ρ →
        mean_all (mean fin) (last os.0 ∷ []) (bind_syms (suc d) 0 (args_with r md.0) ρ) (suc d) ≡
        unfold_all ts (bind_from (suc d) 0 (bound_by r) ms) (suc d)
    body_means ρ ms d sem =
        rw (one_last os.0 (body.count ∙ one)) at
        (after_body.1.each_means refl _ _ (opened_sem made fits_open inv ok ρ ms d sem) (suc d))

  -- the arguments are made, the body has been read, and the lambda's symbol is found or made
  lambda_kept : {st : State} {md os : Symbols} {o : ℕ × State} → ArgsDone st A cur r md → Body md os →
      LamDone os.2 o.1 A cur (scope_count md.2) r md.0 (last os.0) o.0 →
      KeepsMeaning st A cur env (lambda_of r ts) o
  lambda_kept {st} {md} {os} {o} made body done = record {
    grows =
        grow_then made.step.grows
        (grow_then (open_grows cur (Some md.0) md.2.tables md.2)
        (grow_then body.step.grows done.grows));
    keeps = λ fin scs f inv ok.
        let g = fits_back fin scs os.2 o.1 done.grows f in
        let v = done.keeps fin scs f (body_read made body g inv ok) in
        let bodies = body_means made body g inv ok in
        (v.0, record { result = v.1; means = λ ρ ms sem d. v.2 ρ d ∙ ap lambda (bodies ρ ms d sem) });
  }
    where
      lambda : Unfoldeds → Unfolded
      lambda u = lam_of r (opts_in (bound_by r)) u

  pub intern_func_keeps : (st : State) → Holds (KeepsMeaning st A cur env (lambda_of r ts)) (intern_func at cur r env kids st)
  unfolding intern_func arg_ids
  intern_func_keeps st =
      holds_bind (ArgsDone st A cur r) P (alloc_args at cur r (bound_by r) st) _ (args_done at cur r st A) after-made
    where
      P : ℕ × State → Type 0
      P o = KeepsMeaning st A cur env (lambda_of r ts) o

      after-made : (md : Symbols) → ArgsDone st A cur r md → Holds P
          (kids (scope_count md.2) (with_args r md.0 env) (opened cur md) >>= λ os.
          finish at cur r os.0 md.0 (func (args_with r md.0) (scope_count md.2)) os.2)
      after-made md made =
          holds_bind (Body md) P (kids sc (with_args r md.0 env) (opened cur md)) _
          (reads sc (with_args r md.0 env) (with_args r md.0 A) (opened cur md)
          (bind_args-keys (bound_by r) md.0 env made.many_args)) λ os k.
          rw (one_last os.0 (k.count ∙ one))
          (holds_map _ P (finish at cur r (last os.0 ∷ []) md.0 (func (args_with r md.0) sc) os.2)
          (finish_lambda at cur sc r (last os.0) md.0 os.2 A) λ o done. lambda_kept made k done)
        where
          sc : ℕ
          sc = scope_count md.2
