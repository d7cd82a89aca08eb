-- Ids given to symbols while building, and what is kept when more are given: one to a definition, or some to a
-- lambda's arguments.
--
-- In order: who has an id; what holds of the ids given (`EnvFor`), of those in force (`IdsOk`) and of what they stand
-- for (`Stand`); a tree that is right for a symbol (`Built`); the three once a definition has its id (`env_def`,
-- `ids_def`, `stand_def`); the three in a lambda's body, once its arguments have theirs (`in_body`).
-- Scopes uses the laws of a definition, Built `in_body`.
-- Assumes nothing.
use mathlib.Core.Path.{◌≡◌, refl, ap, sym, ◌∙◌, subst}
use mathlib.Core.Logic.{◌⊎◌, inl, inr}
use mathlib.Core.Bool.{Bool, true, false}
use Rattle.std.specs.Prelude.{Some}
use mathlib.Core.List.{List, [], ◌∷◌, ◌++◌}
use Prim.Native.Nat.{ℕ, suc, ◌+◌, ◌≤◌, ◌<◌}
use native.Mathlib.Omega.{arith}
use lib.Dec.{eqb, ltb}
use lib.ListN.{length}
use borrow.Author.Tests.{eqb-true, eq-eqb, ne_eqb, ltb-true, ltb-false}
use Rattle.model.specs.Tree.{Tree, size}
use Rattle.model.specs.Unfold.{Unfolded, Meaning, meaning, bind_from, unfold_at}
use Rattle.model.specs.Intern.{func, Sym, Scope, Env}
use Rattle.model.specs.Materialize.{Builder, id_given, arg_env}
use Rattle.laws.proofs.Apart.{none_some}
use Rattle.laws.specs.Members.{In}
use Rattle.laws.proofs.Members.{clash, in_one, in_left, in_right, in_either}
use Rattle.laws.proofs.Walks.{if_holds}
use Rattle.laws.specs.ArgLists.{ArgList, syms_in}
use Rattle.theory.proofs.Meaning.Mean.{Val, bind_syms, mean}
use Rattle.theory.proofs.Meaning.Coincide.{mean_arg, coincide, bind_syms_other}
use Rattle.theory.specs.Checked.{Checked}
use Rattle.theory.specs.Good.{no_arg, Lam, Goods, deps_at, node_at}
use Rattle.theory.proofs.Interning.Good.{lam_of_lem, arg_of}
use Rattle.theory.proofs.Building.Numbered.{numbered, numbered_high, ArgAt, arg_sym, arg_id, meaning_at}
use Rattle.theory.proofs.Building.Numbered.{meaning_old, value_at}

-- ---- who has an id

abbrev pub Given : Env → ℕ → ℕ → Type 0
Given env s i = id_given env s ≡ Some i

abbrev pub Has : Env → ℕ → Type 0
Has env a = (i : ℕ) × Given env a i

-- all argument symbols that s depends on have an id
abbrev pub Covers : List Sym → Env → ℕ → Type 0
Covers fin env s = (a : ℕ) → In a (deps_at fin s) → Has env a

pub none_given : (s i : ℕ) → Given [] s i → ⊥
unfolding id_given
none_given s i e = none_some e

pub given_cases : (s j : ℕ) (env : Env) (t i : ℕ) → Given ((s, j) ∷ env) t i → ((s ≡ t) × (j ≡ i)) ⊎ Given env t i
unfolding id_given
given_cases s j env t i = go (eqb s t) refl
  where
    go : (b : Bool) → eqb s t ≡ b → elim b [ true ↦ Some j | false ↦ id_given env t ] ≡ Some i →
        ((s ≡ t) × (j ≡ i)) ⊎ Given env t i
    go true f e = inl (eqb-true s t f, cc)
    go false f e = inr e

has_new : (s j : ℕ) (env : Env) → Has ((s, j) ∷ env) s
unfolding id_given
has_new s j env = (j, rw (eq-eqb s s refl, id_given))

pub has_more : (s j : ℕ) (env : Env) (a : ℕ) → Has env a → Has ((s, j) ∷ env) a
unfolding id_given
has_more s j env a h =
    if_holds (λ o. (i : ℕ) × (o ≡ Some i)) (eqb s a) (Some j) (id_given env a) (j, refl) h

-- an argument of the list, with its id
abbrev IsArg : ℕ → ArgList → ℕ → ℕ → Type 0
IsArg last xs t i = (q : ℕ) × ArgAt last 0 xs t i q

given_args : (last p : ℕ) (xs : ArgList) (env : Env) (t i : ℕ) → Given (arg_env last xs env) t i →
    Given env t i ⊎ ((q : ℕ) × ArgAt last p xs t i q)
given_args last p [] env t i e = inl e
given_args last p (x ∷ xs) env t i e = go (given_args (suc last) (suc p) xs ((x.0, suc last) ∷ env) t i e)
  where
    first : ((x.0 ≡ t) × (suc last ≡ i)) ⊎ Given env t i → Given env t i ⊎ ((q : ℕ) × ArgAt last p (x ∷ xs) t i q)
    first (inl h) = inr (p, inl (sym h.0, sym h.1, refl))
    first (inr h) = inl h

    go : Given ((x.0, suc last) ∷ env) t i ⊎ ((q : ℕ) × ArgAt (suc last) (suc p) xs t i q) →
        Given env t i ⊎ ((q : ℕ) × ArgAt last p (x ∷ xs) t i q)
    go (inl e) = first (given_cases x.0 (suc last) env t i e)
    go (inr w) = inr (w.0, inr w.1)

has_old : (last : ℕ) (xs : ArgList) (env : Env) (a : ℕ) → Has env a → Has (arg_env last xs env) a
has_old last [] env a h = h
has_old last (x ∷ xs) env a h = has_old (suc last) xs ((x.0, suc last) ∷ env) a (has_more x.0 (suc last) env a h)

has_arg : (last : ℕ) (xs : ArgList) (env : Env) (a : ℕ) → In a (syms_in xs) → Has (arg_env last xs env) a
has_arg last [] env a h = absurd h
has_arg last (x ∷ xs) env a (inl e) =
    has_old (suc last) xs ((x.0, suc last) ∷ env) a (rw e (has_new x.0 (suc last) env))
has_arg last (x ∷ xs) env a (inr h) = has_arg (suc last) xs ((x.0, suc last) ∷ env) a h

-- ---- what holds of the ids

-- of those given, while symbols up to s are built: none is above the last; symbols with an id are below n, and what
-- they depend on has one too; arguments with an id are those of lambdas above s, the ones that are being built
pub record EnvFor (fin : List Sym) (n : ℕ) (env : Env) (last s : ℕ) : Type 0 where
  pub ids_low : (t i : ℕ) → Given env t i → i ≤ last
  pub low : (t i : ℕ) → Given env t i → t < n
  pub covers : (t i : ℕ) → Given env t i → Covers fin env t
  pub outer : (x : ℕ) → x < n → (xs : ArgList) (b : ℕ) → node_at fin x ≡ func xs b →
      (a : ℕ) → In a (syms_in xs) → Has env a → s < x

pub env_lower : (fin : List Sym) (n : ℕ) (env : Env) (last s k : ℕ) → k ≤ s → EnvFor fin n env last s →
    EnvFor fin n env last k
env_lower fin n env last s k l h = record {
  ids_low = h.ids_low;
  low = h.low;
  covers = h.covers;
  outer = λ x lx xs b e a m g. omega (arith, h.outer x lx xs b e a m g);
}

-- of those in force: they are the ids given, and none is above the last
pub record IdsOk (env : Env) (last : ℕ) (ids : List ℕ) : Type 0 where
  pub low : (i : ℕ) → In i ids → i ≤ last
  pub given : (s i : ℕ) → Given env s i → In i ids

-- an id in force stands for what its symbol stands for
abbrev pub Stand : List Sym → Env → Meaning → Val → Type 0
Stand fin env ms ρ = (s i : ℕ) → Given env s i → (d : ℕ) → meaning ms i d ≡ mean fin s ρ d

-- ---- a tree that is right for symbol s: it unfolds to what s stands for, and it is checked

-- a tree that blocks may be made in
abbrev pub Small : Tree → Type 0
Small t = size t < 65535

pub record Built (fin : List Sym) (env : Env) (last s : ℕ) (t : Tree) : Type 0 where
  pub means : (ρ : Val) (ms : Meaning) → Stand fin env ms ρ → (d : ℕ) → unfold_at t ms d ≡ mean fin s ρ d
  pub checked : Small t → (ids : List ℕ) → IdsOk env last ids → Checked t false ids

-- a builder whose tree of s is right, whatever ids are given
abbrev pub Builds : List Sym → ℕ → Builder → ℕ → Type 0
Builds fin n f s = (sc : ℕ) (env : Env) (last : ℕ) → EnvFor fin n env last s → Covers fin env s →
    Built fin env last s (f s sc env last)

-- ---- a definition of symbol s gets the next id

module _ (env : Env) (last s : ℕ) where
  abbrev with_def : Env
  with_def = (s, suc last) ∷ env

  pub ids_def : (ids : List ℕ) → IdsOk env last ids → IdsOk with_def (suc last) (suc last ∷ ids)
  ids_def ids h = record { low = λ i m. low i m; given = λ t i e. given t i (given_cases s (suc last) env t i e) }
    where
      low : (i : ℕ) → In i (suc last ∷ ids) → i ≤ suc last
      low i (inl e) = omega arith
      low i (inr m) = omega (arith, h.low i m)

      given : (t i : ℕ) → ((s ≡ t) × (suc last ≡ i)) ⊎ Given env t i → In i (suc last ∷ ids)
      given t i (inl e) = inl (sym e.1)
      given t i (inr e) = inr (h.given t i e)

  pub stand_def : (fin : List Sym) (ms : Meaning) (ρ : Val) (u : ℕ → Unfolded) →
      ((t i : ℕ) → Given env t i → i ≤ last) → ((d : ℕ) → u d ≡ mean fin s ρ d) →
      Stand fin env ms ρ → Stand fin with_def ((suc last, u) ∷ ms) ρ
  unfolding meaning
  stand_def fin ms ρ u lows hu h t i e d = go (given_cases s (suc last) env t i e)
    where
      go : ((s ≡ t) × (suc last ≡ i)) ⊎ Given env t i → meaning ((suc last, u) ∷ ms) i d ≡ mean fin t ρ d
      go (inl e) = rw (eq-eqb (suc last) i e.1, meaning) (hu d ∙ ap (λ (z : ℕ). mean fin z ρ d) e.0)
      go (inr e) = rw (ne_eqb (suc last) i (λ k. absurd (omega (arith, lows t i e))), meaning) (h t i e d)

  -- none is above the last
  pub ids_low_def : ((t i : ℕ) → Given env t i → i ≤ last) → (t i : ℕ) → Given with_def t i → i ≤ suc last
  ids_low_def h t i e = elim (given_cases s (suc last) env t i e) [
    | inl w ↦ omega (arith, w.1)
    | inr k ↦ omega (arith, h t i k)
  ]

  module _ (fin : List Sym) (scs : List Scope) (n : ℕ) (good : Goods fin scs n) where
    pub env_def : s < n → no_arg (node_at fin s) ≡ true → Covers fin env s → (r : ℕ) → EnvFor fin n env last r →
        EnvFor fin n with_def (suc last) r
    env_def l na cov r h = record {
      ids_low = ids_low_def h.ids_low;
      low = λ t i e. low t i (given_cases s (suc last) env t i e);
      covers = λ t i e a d. has_more s (suc last) env a (covers t i (given_cases s (suc last) env t i e) a d);
      outer = λ x lx xs b e a m q. outer x lx xs b e a m q.0 (given_cases s (suc last) env a q.0 q.1);
    }
      where
        low : (t i : ℕ) → ((s ≡ t) × (suc last ≡ i)) ⊎ Given env t i → t < n
        low t i (inl e) = omega (arith, e.0)
        low t i (inr e) = h.low t i e

        covers : (t i : ℕ) → ((s ≡ t) × (suc last ≡ i)) ⊎ Given env t i → Covers fin env t
        covers t i (inl e) = subst (Covers fin env) e.0 cov
        covers t i (inr e) = h.covers t i e

        outer : (x : ℕ) → x < n → (xs : ArgList) (b : ℕ) → node_at fin x ≡ func xs b → (a : ℕ) → In a (syms_in xs) →
            (i : ℕ) → ((s ≡ a) × (suc last ≡ i)) ⊎ Given env a i → r < x
        outer x lx xs b e a m i (inl q) =
            let is-arg = (lam_of_lem fin scs x xs b (good x lx) e).args_are a m in
            absurd (clash (no_arg (node_at fin s)) na (ap (λ (z : ℕ). no_arg (node_at fin z)) q.0 ∙ ap no_arg is-arg))
        outer x lx xs b e a m i (inr q) = h.outer x lx xs b e a m (i, q)

-- ---- the arguments of lambda s get the next ids, and its body k is built

-- a body is numbered from one past the arguments
abbrev pub last_in : ℕ → ArgList → ℕ
last_in last xs = suc (last + length xs)

pub record InBody (fin : List Sym) (n : ℕ) (env : Env) (last s : ℕ) (xs : ArgList) (k : ℕ) : Type 0 where
  pub low : k < s
  pub covers : Covers fin env s → Covers fin (arg_env last xs env) k
  pub envs : EnvFor fin n (arg_env last xs env) (last_in last xs) k
  pub ids : (l : List ℕ) → IdsOk env last l →
      IdsOk (arg_env last xs env) (last_in last xs) (syms_in (numbered last xs) ++ l)
  pub stands : (ρ : Val) (ms : Meaning) → Stand fin env ms ρ → (d : ℕ) →
      Stand fin (arg_env last xs env) (bind_from (suc d) 0 (numbered last xs) ms) (bind_syms (suc d) 0 xs ρ)

module _ (fin : List Sym) (scs : List Scope) (n : ℕ) (good : Goods fin scs n) (env : Env) (last s : ℕ) (l : s < n)
    (xs : ArgList) (b : ℕ) (nd : node_at fin s ≡ func xs b) (eb : EnvFor fin n env last s) where
  abbrev lm : Lam fin scs s xs b
  lm = lam_of_lem fin scs s xs b (good s l) nd

  abbrev with_args : Env
  with_args = arg_env last xs env

  abbrev last_id : ℕ
  last_id = last_in last xs

  either : (t i : ℕ) → Given with_args t i → Given env t i ⊎ IsArg last xs t i
  either t i e = given_args last 0 xs env t i e

  abbrev is_sym : (t i : ℕ) → IsArg last xs t i → In t (syms_in xs)
  is_sym t i w = arg_sym last 0 xs t i w.0 w.1

  abbrev is_id : (t i : ℕ) → IsArg last xs t i → In i (syms_in (numbered last xs))
  is_id t i w = arg_id last 0 xs t i w.0 w.1

  body_low : lm.body < s
  body_low = (good s l).low lm.body (rw lm.kids_is (inl refl))

  body_covers : Covers fin env s → Covers fin with_args lm.body
  body_covers cov a d = go (lm.cover a d)
    where
      go : In a (deps_at fin s) ⊎ In a (syms_in xs) → Has with_args a
      go (inl m) = has_old last xs env a (cov a m)
      go (inr m) = has_arg last xs env a m

  env_args : EnvFor fin n with_args last_id lm.body
  env_args = record {
    ids_low = λ t i e. ids_low t i (either t i e);
    low = λ t i e. low t i (either t i e);
    covers = λ t i e a d. covers t i (either t i e) a d;
    outer = λ x lx ys c e a m q. outer x lx ys c e a m q.0 (either a q.0 q.1);
  }
    where
      ids_low : (t i : ℕ) → Given env t i ⊎ IsArg last xs t i → i ≤ last_id
      ids_low t i (inl e) = omega (arith, eb.ids_low t i e)
      ids_low t i (inr w) = omega (arith, (numbered_high last xs i (is_id t i w)).1)

      low : (t i : ℕ) → Given env t i ⊎ IsArg last xs t i → t < n
      low t i (inl e) = eb.low t i e
      low t i (inr w) = omega (arith, lm.args_low t (is_sym t i w), l)

      covers : (t i : ℕ) → Given env t i ⊎ IsArg last xs t i → Covers fin with_args t
      covers t i (inl e) a d = has_old last xs env a (eb.covers t i e a d)
      covers t i (inr w) a d =
          let m = is_sym t i w in
          let own = (arg_of fin scs t (good t (low t i (inr w))) (lm.args_are t m)).0 in
          has_arg last xs env a (rw (in_one (rw own at d)) m)

      -- two lambdas share no argument
      outer : (x : ℕ) → x < n → (ys : ArgList) (c : ℕ) → node_at fin x ≡ func ys c → (a : ℕ) → In a (syms_in ys) →
          (i : ℕ) → Given env a i ⊎ IsArg last xs a i → lm.body < x
      outer x lx ys c e a m i (inl q) = omega (arith, eb.outer x lx ys c e a m (i, q), body_low)
      outer x lx ys c e a m i (inr w) = order (ltb x s) refl (ltb s x) refl
        where
          order : (p : Bool) → ltb x s ≡ p → (q : Bool) → ltb s x ≡ q → lm.body < x
          order true p q r = absurd (lm.fresh x (ltb-true x s p) ys c e a (is_sym a i w) m)
          order false p true r =
              absurd ((lam_of_lem fin scs x ys c (good x lx) e).fresh s (ltb-true s x r) xs b nd a m (is_sym a i w))
          order false p false r = omega (arith, ltb-false x s p, ltb-false s x r, body_low)

  ids_args : (ids : List ℕ) → IdsOk env last ids → IdsOk with_args last_id (syms_in (numbered last xs) ++ ids)
  ids_args ids ok = record { low = λ i m. low i (in_either i new ids m); given = λ t i e. given t i (either t i e) }
    where
      new : List ℕ
      new = syms_in (numbered last xs)

      low : (i : ℕ) → In i new ⊎ In i ids → i ≤ last_id
      low i (inl m) = omega (arith, (numbered_high last xs i m).1)
      low i (inr m) = omega (arith, ok.low i m)

      given : (t i : ℕ) → Given env t i ⊎ IsArg last xs t i → In i (new ++ ids)
      given t i (inl e) = in_right i new ids (ok.given t i e)
      given t i (inr w) = in_left i new ids (is_id t i w)

  -- symbols that had an id depend on none of the new arguments
  stand_args : (ρ : Val) (ms : Meaning) → Stand fin env ms ρ → (d : ℕ) →
      Stand fin with_args (bind_from (suc d) 0 (numbered last xs) ms) (bind_syms (suc d) 0 xs ρ)
  stand_args ρ ms st d t i e x = go (either t i e)
    where
      σ : Val
      σ = bind_syms (suc d) 0 xs ρ

      not_new : (a : ℕ) → Has env a → In a (syms_in xs) → ⊥
      not_new a q m = absurd (omega (arith, eb.outer s l xs b nd a m q))

      go : Given env t i ⊎ IsArg last xs t i → meaning (bind_from (suc d) 0 (numbered last xs) ms) i x ≡ mean fin t σ x
      go (inl e) =
          meaning_old (suc d) last 0 xs ms i (eb.ids_low t i e) x
          ∙ (st t i e x
          ∙ coincide fin scs n good t (eb.low t i e) ρ σ
          (λ a da y. sym (bind_syms_other (suc d) 0 xs ρ a (not_new a (eb.covers t i e a da)) y)) x)
      go (inr w) =
          meaning_at (suc d) last 0 xs ms t i w.0 w.1 x
          ∙ sym (mean_arg fin scs t (lm.args_are t (is_sym t i w)) σ x
          ∙ value_at (suc d) last 0 xs ρ t i w.0 lm.once w.1 x)

  pub in_body : InBody fin n env last s xs (lam_of_lem fin scs s xs b (good s l) nd).body
  in_body = record { low = body_low; covers = body_covers; envs = env_args; ids = ids_args; stands = stand_args }
