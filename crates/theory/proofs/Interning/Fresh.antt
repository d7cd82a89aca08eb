-- A lambda's argument symbols: fresh, each once, and bound.
--
-- In order: making them keeps the invariant (`ArgsMade`); laws of `bind_args`, which binds their ids; the environment
-- inside the lambda is in order (`env_bind`) and means what its symbols stand for (`EnvSem`, `sem_bind`). Lambda takes
-- `ArgsMade`, Body the rest, before a lambda's body is read, and Operands `sem_one`, at each definition.
-- Not here: laws of `with_opts`, which puts them in the lambda's node (laws, ArgLists).
-- Assumes nothing.
use mathlib.Core.Path.{◌≡◌, refl, ap, sym, ◌∙◌}
use mathlib.Core.Logic.{◌⊎◌, inl, inr}
use mathlib.Core.Bool.{Bool, true, false}
use mathlib.Core.List.{List, [], ◌∷◌, ◌++◌}
use Prim.Native.Nat.{ℕ, suc, ◌-◌, ◌≤◌, ◌<◌}
use native.Mathlib.Omega.{arith}
use lib.Dec.{eqb, ltb}
use lib.ListN.{length}
use borrow.Author.Tests.{eqb-false, eq-eqb, ne_eqb}
use Rattle.model.specs.Tree.{Rec}
use Rattle.model.specs.Unfold.{Unfolded, arg, Meaning, meaning, bind_from}
use Rattle.model.specs.Intern.{argument, func, Sym, Scope, State, Env, push, alloc, alloc_args, bind_args}
use Rattle.model.specs.Intern.{resolve}
use Rattle.laws.proofs.Apart.{false_true}
use Rattle.laws.proofs.Holds.{Holds, holds_bind, holds_guard}
use Rattle.laws.specs.Members.{In, Once}
use Rattle.laws.proofs.Members.{in_one}
use Rattle.laws.specs.ArgLists.{ArgList, syms_in}
use Rattle.theory.proofs.Meaning.Mean.{Val, bind_syms, mean}
use Rattle.theory.proofs.Meaning.Coincide.{mean_arg}
use Rattle.theory.specs.Good.{deps_at, node_at, sym_count, scope_count, SymOk}
use Rattle.theory.specs.Inv.{Args, HasArg, arg_syms, keys, LamApart, Inv, EnvOk, Fits}
use Rattle.theory.proofs.Interning.Inv.{lt_or, grow_none}
use Rattle.theory.proofs.Interning.Inv.{grow_then, fits_back}
use Rattle.theory.proofs.Interning.Push.{new_sym, push-count, push_grows, PartsAt, push_parts, push_inv}
use Rattle.theory.proofs.Interning.Finish.{Result, Step}

-- ---- making argument symbols

-- the symbols ss are the arguments, and all that is, from n up to m
pub record ArgsMade (fin : List Sym) (n m : ℕ) (ss : List ℕ) : Type 0 where
  pub fresh : (a : ℕ) → In a ss → n ≤ a
  pub low : (a : ℕ) → In a ss → a < m
  pub nodes : (a : ℕ) → In a ss → node_at fin a ≡ argument
  pub once : Once ss
  pub only : (x : ℕ) → n ≤ x → x < m → node_at fin x ≡ argument

abbrev Nothing : List Sym → List Scope → Type 0
Nothing fin scs = Unit {0}

-- what making one owes, and what making those of a list owes
abbrev OneMade : ℕ → State → Args → ℕ × State → Type 0
OneMade cur st A o =
    Step st o.1 A cur Nothing (λ fin scs. node_at fin o.0 ≡ argument)
    × (o.0 ≡ sym_count st)
    × (sym_count o.1 ≡ suc (sym_count st))
    × (o.1.scopes ≡ st.scopes)

abbrev pub AllMade : ℕ → ArgList → State → Args → List ℕ × List ℕ × State → Type 0
AllMade cur xs st A os =
    Step st os.2 A cur Nothing (λ fin scs. ArgsMade fin (sym_count st) (sym_count os.2) os.0)
    × (length os.0 ≡ length xs)
    × (os.2.scopes ≡ st.scopes)

-- the state with one more argument
abbrev with_arg : ℕ → Rec → State → State
with_arg cur r st = push cur r [] (sym_count st ∷ []) false argument st

arg_ok : (fin : List Sym) (scs : List Scope) (cur : ℕ) (r : Rec) (st : State) → Fits fin scs (with_arg cur r st) →
    (node_at fin (sym_count st) ≡ argument) × SymOk fin scs (sym_count st)
arg_ok fin scs cur r st f = (
  new.node_is,
  record {
    low = λ k lk. absurd (rw new.kids_is at lk);
    deps_low = λ a la. let e = in_one (rw new.deps_is at la) in omega arith;
    node_is = rw new.node_is (new.deps_is, new.kids_is);
  },
)
  where
    new : PartsAt fin (sym_count st) (new_sym cur r [] (sym_count st ∷ []) argument st)
    new = push_parts fin scs cur r [] (sym_count st ∷ []) false argument st f

arg_made : (at cur : ℕ) (r : Rec) (st : State) (A : Args) →
    Holds (OneMade cur st A) (alloc at cur r [] (sym_count st ∷ []) false argument st)
unfolding alloc push
arg_made at cur r st A = holds_guard (OneMade cur st A) (ltb (sym_count st) 512) 12 at _ λ l.
    (record { grows = push_grows cur r [] deps false argument st; keeps = keeps }, refl, count, refl)
  where
    deps : List ℕ
    deps = sym_count st ∷ []

    count : sym_count (with_arg cur r st) ≡ suc (sym_count st)
    count = push-count cur r [] deps false argument st

    keeps : (fin : List Sym) (scs : List Scope) → Fits fin scs (with_arg cur r st) → Inv fin scs st A cur → Unit {0} →
        Inv fin scs (with_arg cur r st) A cur × (node_at fin (sym_count st) ≡ argument)
    keeps fin scs f h u =
        let w = arg_ok fin scs cur r st f in
        (push_inv fin scs A cur r [] deps false argument st f h w.1 not_func false_true false_true, w.0)
      where
        not_func : (xs : ArgList) (c : ℕ) → argument ≡ func xs c →
            LamApart fin scs (scope_count st) A cur (sym_count st) xs c
        not_func xs c e = let z : ◌≡◌ {A = ℕ} 0 1 = cc in absurd (omega arith)

-- arguments made from n on: one, and the others
args_join : (fin : List Sym) (n m l a : ℕ) (ss : List ℕ) → a ≡ n → m ≡ suc n → m ≤ l → node_at fin a ≡ argument →
    ArgsMade fin m l ss → ArgsMade fin n l (a ∷ ss)
args_join fin n m l a ss ea em ml na h = record {
  fresh = fresh;
  low = low;
  nodes = nodes;
  once = (λ k. absurd (omega (arith, h.fresh a k)), h.once);
  only = λ x lx mx. only x (lt_or n x (omega arith)) mx;
}
  where
    fresh : (b : ℕ) → In b (a ∷ ss) → n ≤ b
    fresh b (inl e) = omega arith
    fresh b (inr k) = omega (arith, h.fresh b k)

    low : (b : ℕ) → In b (a ∷ ss) → b < l
    low b (inl e) = omega arith
    low b (inr k) = h.low b k

    nodes : (b : ℕ) → In b (a ∷ ss) → node_at fin b ≡ argument
    nodes b (inl e) = rw e na
    nodes b (inr k) = h.nodes b k

    only : (x : ℕ) → (n < x) ⊎ (n ≡ x) → x < l → node_at fin x ≡ argument
    only x (inl k) mx = h.only x (omega arith) mx
    only x (inr e) mx = rw (← e, ← ea) na

pub alloc_args_keeps : (at cur : ℕ) (r : Rec) (xs : ArgList) (st : State) (A : Args) →
    Holds (AllMade cur xs st A) (alloc_args at cur r xs st)
unfolding alloc_args
alloc_args_keeps at cur r [] st A = (record { grows = grow_none st; keeps = λ fin scs f h u. (h, none fin) }, refl, refl)
  where
    none : (fin : List Sym) → ArgsMade fin (sym_count st) (sym_count st) []
    none fin = record {
      fresh = λ a h. absurd h;
      low = λ a h. absurd h;
      nodes = λ a h. absurd h;
      once = tt;
      only = λ x l m. absurd (omega arith);
    }
alloc_args_keeps at cur r (x ∷ xs) st A =
    holds_bind _ _ _ _ (arg_made at cur r st A) λ o ho.
    holds_bind _ _ _ _ (alloc_args_keeps at cur r xs o.1 A) λ os hos. (
      record {
        grows = grow_then ho.0.grows hos.0.grows;
        keeps = λ fin scs f h u.
            let g = ho.0.keeps fin scs (fits_back fin scs o.1 os.2 hos.0.grows f) h tt in
            let k = hos.0.keeps fin scs f g.0 tt in
            let more = hos.0.grows.more_syms in
            (k.0, args_join fin (sym_count st) _ _ o.0 os.0 ho.1 ho.2 more g.1 k.1);
      },
      ap suc hos.1,
      hos.2 ∙ ho.3,
    )

-- ---- ids bound to symbols

pub bind_args-keys : (xs : ArgList) (ss : List ℕ) (env : Env) → length ss ≡ length xs →
    keys (bind_args xs ss env) ≡ syms_in xs ++ keys env
bind_args-keys [] [] env e = refl
bind_args-keys [] (a ∷ ss) env e = absurd (omega arith)
bind_args-keys (x ∷ xs) [] env e = absurd (omega arith)
bind_args-keys (x ∷ xs) (a ∷ ss) env e = ap (λ (l : List ℕ). x.0 ∷ l) (bind_args-keys xs ss env (omega arith))

pub bind_args_cases : (i a : ℕ) (xs : ArgList) (ss : List ℕ) (A : Args) → HasArg i a (bind_args xs ss A) →
    HasArg i a A ⊎ In a ss
bind_args_cases i a [] ss A h = inl h
bind_args_cases i a (x ∷ xs) [] A h = inl h
bind_args_cases i a (x ∷ xs) (b ∷ ss) A (inl e) = inr (inl e.1)
bind_args_cases i a (x ∷ xs) (b ∷ ss) A (inr h) =
    elim (bind_args_cases i a xs ss A h) [ inl k ↦ inl k | inr k ↦ inr (inr k) ]

pub bind_args_old : (i a : ℕ) (xs : ArgList) (ss : List ℕ) (A : Args) → HasArg i a A → HasArg i a (bind_args xs ss A)
bind_args_old i a [] ss A h = h
bind_args_old i a (x ∷ xs) [] A h = h
bind_args_old i a (x ∷ xs) (b ∷ ss) A h = inr (bind_args_old i a xs ss A h)

pub bind_args_new : (a : ℕ) (xs : ArgList) (ss : List ℕ) (A : Args) → length ss ≡ length xs → In a ss →
    (i : ℕ) × In i (syms_in xs) × HasArg i a (bind_args xs ss A)
bind_args_new a [] [] A e h = absurd h
bind_args_new a [] (b ∷ ss) A e h = absurd (omega arith)
bind_args_new a (x ∷ xs) [] A e h = absurd h
bind_args_new a (x ∷ xs) (b ∷ ss) A e (inl h) = (x.0, inl refl, inl (refl, h))
bind_args_new a (x ∷ xs) (b ∷ ss) A e (inr h) =
    let w = bind_args_new a xs ss A (omega arith) h in
    (w.0, inr w.1, inr w.2)

-- ---- the environment inside a lambda

-- an id that is not the one bound last
key_rest : (i j : ℕ) (env : Env) → eqb i j ≡ false → In j (i ∷ keys env) → In j (keys env)
key_rest i j env f (inl p) = absurd (eqb-false i j f (sym p))
key_rest i j env f (inr k) = k

-- one more id, of a symbol that depends on arguments in force only
pub env_add : {fin : List Sym} {n : ℕ} {env : Env} {A B : Args} (i : ℕ) {s : ℕ} → Result fin n B s →
    ((a : ℕ) → In a (arg_syms A) → In a (arg_syms B)) → ((j a : ℕ) → HasArg j a B → In j (i ∷ keys env)) →
    EnvOk fin n env A → EnvOk fin n ((i, s) ∷ env) B
unfolding resolve
env_add {fin} {n} {env} {A} {B} i {s} res more ids h = record {
  low = λ j. low j (eqb i j) refl;
  deps_in = λ j a. deps j a (eqb i j) refl;
  ids = ids;
}
  where
    low : (j : ℕ) (t : Bool) → eqb i j ≡ t → In j (i ∷ keys env) → elim t [ true ↦ s | false ↦ resolve env j ] < n
    low j true f k = res.low
    low j false f k = h.low j (key_rest i j env f k)

    deps : (j a : ℕ) (t : Bool) → eqb i j ≡ t → In j (i ∷ keys env) →
        In a (deps_at fin (elim t [ true ↦ s | false ↦ resolve env j ])) → In a (arg_syms B)
    deps j a true f k d = res.within a d
    deps j a false f k d = more a (h.deps_in j a (key_rest i j env f k) d)

pub env_bind : (fin : List Sym) (n : ℕ) (xs : ArgList) (ss : List ℕ) (env : Env) (A : Args) →
    ((a : ℕ) → In a ss → (a < n) × (deps_at fin a ≡ a ∷ [])) → EnvOk fin n env A →
    EnvOk fin n (bind_args xs ss env) (bind_args xs ss A)
env_bind fin n [] ss env A g h = h
env_bind fin n (x ∷ xs) [] env A g h = h
env_bind fin n (x ∷ xs) (a ∷ ss) env A g h =
    let w = g a (inl refl) in
    let rest = env_bind fin n xs ss env A (λ b k. g b (inr k)) h in
    env_add x.0 (record { low = w.0; within = λ b d. inl (in_one (rw w.1 at d)) }) (λ b k. inr k)
    (λ j b k. elim k [ inl e ↦ inl e.0 | inr q ↦ inr (rest.ids j b q) ]) rest

-- ---- what the environment means

-- what is in force means what its symbols stand for
abbrev pub EnvSem : List Sym → Env → Meaning → Val → Type 0
EnvSem fin env ms ρ = (i : ℕ) → In i (keys env) → (d : ℕ) → meaning ms i d ≡ mean fin (resolve env i) ρ d

pub sem_one : (fin : List Sym) (i s : ℕ) (f : ℕ → Unfolded) (env : Env) (ms : Meaning) (ρ : Val) →
    ((d : ℕ) → f d ≡ mean fin s ρ d) → EnvSem fin env ms ρ → EnvSem fin ((i, s) ∷ env) ((i, f) ∷ ms) ρ
unfolding resolve meaning
sem_one fin i s f env ms ρ e h j k d = go (eqb i j) refl
  where
    go : (b : Bool) → eqb i j ≡ b →
        ◌≡◌ {A = Unfolded} (elim b [ true ↦ f d | false ↦ meaning ms j d ])
        (mean fin (elim b [ true ↦ s | false ↦ resolve env j ]) ρ d)
    go true t = e d
    go false t = h j (key_rest i j env t k) d

-- a valuation binds symbols to lambda e, from position p on
abbrev pub Binds : Val → ℕ → ℕ → List ℕ → Type 0
Binds ρ e p [] = Unit {0}
Binds ρ e p (a ∷ ss) = ((d : ℕ) → ρ a d ≡ arg (d - e) p) × Binds ρ e (suc p) ss

-- it still does when one more symbol is bound that is none of them
binds_more : (e q p c : ℕ) (ρ : Val) (ss : List ℕ) → (In c ss → ⊥) → Binds ρ e p ss →
    Binds (λ s d. elim (eqb c s) [ true ↦ arg (d - e) q | false ↦ ρ s d ]) e p ss
binds_more e q p c ρ [] n h = tt
binds_more e q p c ρ (a ∷ ss) n h = (
  λ d. rw (ne_eqb c a (λ k. n (inl k))) (h.0 d),
  binds_more e q (suc p) c ρ ss (λ k. n (inr k)) h.1,
)

pub bind_syms_binds : (e p : ℕ) (xs : ArgList) (ρ : Val) → Once (syms_in xs) → Binds (bind_syms e p xs ρ) e p (syms_in xs)
unfolding bind_syms
bind_syms_binds e p [] ρ o = tt
bind_syms_binds e p (x ∷ xs) ρ o =
    let rest = bind_syms_binds e (suc p) xs ρ o.1 in
    (λ d. rw (eq-eqb x.0 x.0 refl, bind_syms), binds_more e p (suc p) x.0 _ (syms_in xs) o.0 rest)

pub sem_bind : (fin : List Sym) (scs : List Scope) (e p : ℕ) (xs : ArgList) (ss : List ℕ) (env : Env) (ms : Meaning)
    (ρ : Val) → length ss ≡ length xs → ((a : ℕ) → In a ss → node_at fin a ≡ argument) → Binds ρ e p ss →
    EnvSem fin env ms ρ → EnvSem fin (bind_args xs ss env) (bind_from e p xs ms) ρ
unfolding bind_from
sem_bind fin scs e p [] [] env ms ρ l n b h = h
sem_bind fin scs e p [] (a ∷ ss) env ms ρ l n b h = absurd (omega arith)
sem_bind fin scs e p (x ∷ xs) [] env ms ρ l n b h = absurd (omega arith)
sem_bind fin scs e p (x ∷ xs) (a ∷ ss) env ms ρ l n b h =
    let rest = sem_bind fin scs e (suc p) xs ss env ms ρ (omega arith) (λ c k. n c (inr k)) b.1 h in
    sem_one fin x.0 a (λ d. arg (d - e) p) (bind_args xs ss env) (bind_from e (suc p) xs ms) ρ own rest
  where
    own : (d : ℕ) → arg (d - e) p ≡ mean fin a ρ d
    own d = sym (b.0 d) ∙ sym (mean_arg fin scs a (n a (inl refl)) ρ d)
