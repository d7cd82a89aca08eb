-- A record's children: each is read in its own thunk or in its parent's scope; a definition is bound in those after it.
--
-- In order: a child, in its own thunk or not (`intern_scoped_keeps`); an id bound by a definition (`bind_def-keys`); no
-- children (`nil_keeps`); a child, and then the others (`cons_keeps`).
-- Walk uses these four.
-- Assumes nothing.
use mathlib.Core.Path.{◌≡◌, refl, ap, ap₂, sym, ◌∙◌}
use mathlib.Core.Logic.{inl, inr}
use mathlib.Core.Bool.{Bool, true, false, not, ◌&&◌}
use Rattle.std.specs.Prelude.{None}
use mathlib.Core.List.{List, [], ◌∷◌, ◌++◌}
use Prim.Native.Nat.{ℕ, suc, ◌≤◌}
use native.Mathlib.Omega.{arith}
use lib.ListN.{length, get_or}
use Rattle.model.specs.Lists.{last}
use Rattle.model.specs.Tree.{Tree, Trees, node, nil, cons, many, is_nil, top}
use Rattle.model.specs.Binding.{is_def, id_of, after}
use Rattle.model.specs.Unfold.{more, unfold_at, unfold_item, unfold_last}
use Rattle.model.specs.Intern.{Sym, Scope, State, Env, Out, open_thunk, close_thunk, drop_first, thunked, branch}
use Rattle.model.specs.Intern.{root_scope, bind_def, intern_scoped}
use Rattle.laws.proofs.Holds.{Holds, holds_bind, holds_map}
use Rattle.laws.proofs.Members.{clash}
use Rattle.laws.proofs.Walks.{if_holds}
use Rattle.theory.proofs.Meaning.Mean.{mean_all}
use Rattle.theory.specs.Checked.{Checked, CheckedIn}
use Rattle.theory.proofs.Acceptance.Checked.{checked-head, checked_place}
use Rattle.theory.specs.Good.{PairOk, PairsOk, out, scope_count, sym_count}
use Rattle.theory.specs.Inv.{Args, keys, Inv, EnvOk, Fits, Grow}
use Rattle.theory.proofs.Interning.Inv.{any_opened, any_closed, env_later, grow-same, inv_same}
use Rattle.theory.proofs.Interning.Inv.{fits_back, grow_none, grow_then}
use Rattle.theory.proofs.Interning.Finish.{Result, Results, Step, step_gives, step_then, result_later}
use Rattle.theory.proofs.Interning.Fresh.{env_add, sem_one}
use Rattle.theory.proofs.Interning.Scopes.{open_grows, open_is, open_inv, leave_inv, pair_of}
use Rattle.theory.proofs.Interning.Keep.{Symbols, Unfolding, Means, EachMeans, StandsFor, AllStand, InForce, KeepsMeaning}
use Rattle.theory.proofs.Interning.Keep.{KeepsMeanings}

-- ---- a child, in its own thunk or not

-- the same as `Kept`; and in a thunk the symbol may be built in the thunk's scope
abbrev pub KeptIn : Bool → State → Args → ℕ → Env → Unfolding → ℕ × State → Type 0
KeptIn t st A cur env u o =
    Step st o.1 A cur (InForce st env A)
    (λ fin scs. StandsFor fin (sym_count o.1) A env o.0 u × (t ≡ true → PairOk fin scs o.0 (scope_count st)))

module _ (cur : ℕ) (st : State) (A : Args) where
  pub thunk_opens : (fin : List Sym) (scs : List Scope) → Fits fin scs (open_thunk cur st) → Inv fin scs st A cur →
      Inv fin scs (open_thunk cur st) A (scope_count st)
  thunk_opens fin scs f inv =
      open_inv fin scs cur None ([] ∷ st.tables) st A A (sym_count st) f inv
      (λ i h. any_opened i st.tables h) (λ a h. absurd h) (λ x l n. l) (λ b a l h. inv.args_low b a l h)
      (λ i a h. inl h)

  thunk_closes : (fin : List Sym) (scs : List Scope) (s : State) → Fits fin scs (open_thunk cur st) →
      Inv fin scs st A cur → scope_count st ≤ scope_count s → Inv fin scs s A (scope_count st) →
      Inv fin scs (close_thunk s) A cur
  thunk_closes fin scs s f inv l h =
      inv_same (drop_first s.tables) s.memo s.readings (λ i h. any_closed i s.tables h) h.memo_ok
      (leave_inv fin scs cur (scope_count st) s A A h (omega (arith, inv.cur_low)) (ap (λ (z : Scope). z.around) is)
      (λ i a h. h) (λ i a h g. rw is at g))
    where
      is : get_or scs (scope_count st) root_scope ≡ record { around = out scs cur; args = None }
      is = open_is fin scs cur None ([] ∷ st.tables) st inv.cur_low f

module _ (cur : ℕ) (st : State) (A : Args) (env : Env) (u : Unfolding) where
  thunk_kept : (o : ℕ × State) → KeepsMeaning (open_thunk cur st) A (scope_count st) env u o →
      KeptIn true st A cur env u (o.0, close_thunk o.1)
  thunk_kept o k = record {
    grows = grow_then grows closes;
    keeps = λ fin scs f inv ok.
        let f₁ = fits_back fin scs o.1 (close_thunk o.1) closes f in
        let f₂ = fits_back fin scs (open_thunk cur st) o.1 k.grows f₁ in
        let w = k.keeps fin scs f₁ (thunk_opens cur st A fin scs f₂ inv) ok in
        let left = thunk_closes cur st A fin scs o.1 f₂ inv grows.more_scopes w.0 in
        (left, (w.1, λ e. pair_of fin scs o.1 A (scope_count st) o.0 w.0 w.1.result.low));
  }
    where
      grows : Grow st o.1
      grows = grow_then (open_grows cur None ([] ∷ st.tables) st) k.grows

      closes : Grow o.1 (close_thunk o.1)
      closes = grow-same o.1 (close_thunk o.1) refl refl

  pub intern_scoped_keeps : (t : Bool) (child : ℕ → State → Out) →
      ((c : ℕ) (s : State) → Holds (KeepsMeaning s A c env u) (child c s)) →
      Holds (KeptIn t st A cur env u) (intern_scoped t cur child st)
  unfolding intern_scoped
  intern_scoped_keeps false child h =
      holds_map (KeepsMeaning st A cur env u) (KeptIn false st A cur env u) (child cur st) (h cur st) λ o k.
      step_gives k λ fin scs w. (w, λ e. absurd (clash false e refl))
  intern_scoped_keeps true child h =
      holds_bind (KeepsMeaning (open_thunk cur st) A (scope_count st) env u) (KeptIn true st A cur env u)
      (child (scope_count st) (open_thunk cur st)) _ (h (scope_count st) (open_thunk cur st)) thunk_kept

-- ---- an id bound by a definition

pub bind_def_is : (t : Tree) (s : ℕ) (env : Env) → is_def t ≡ true → bind_def t s env ≡ (id_of (top t), s) ∷ env
unfolding bind_def
bind_def_is t s env e = rw (e, bind_def)

pub bind_def_other : (t : Tree) (s : ℕ) (env : Env) → is_def t ≡ false → bind_def t s env ≡ env
unfolding bind_def
bind_def_other t s env e = rw (e, bind_def)

pub bind_def-keys : (t : Tree) (s : ℕ) (env : Env) → keys (bind_def t s env) ≡ after t ++ keys env
unfolding bind_def after
bind_def-keys t s env = go (is_def t)
  where
    go : (b : Bool) → keys (elim b [ true ↦ (id_of (top t), s) ∷ env | false ↦ env ]) ≡
        elim b [ true ↦ id_of (top t) ∷ [] | false ↦ [] ] ++ keys env
    go true = refl
    go false = refl

-- an id bound to a symbol that depends on arguments in force only
env_more : {fin : List Sym} {n : ℕ} {env : Env} {A : Args} (i : ℕ) {s : ℕ} → Result fin n A s → EnvOk fin n env A →
    EnvOk fin n ((i, s) ∷ env) A
env_more i res h = env_add i res (λ a k. k) (λ j a k. inr (h.ids j a k)) h

pub bind_def_env : {fin : List Sym} {n : ℕ} {env : Env} {A : Args} (t : Tree) {s : ℕ} →
    Result fin n A s → EnvOk fin n env A → EnvOk fin n (bind_def t s env) A
unfolding bind_def
bind_def_env {fin} {n} {env} {A} t {s} res h =
    if_holds (λ e. EnvOk fin n e A) (is_def t) ((id_of (top t), s) ∷ env) env (env_more (id_of (top t)) res h) h

-- ---- no children; a child, and then the others

pub nil_keeps : (op j cur : ℕ) (env : Env) (A : Args) (b : Bool) (st : State) →
    KeepsMeanings st A cur env op j b nil ([], [], st)
unfolding many unfold_at mean_all
nil_keeps op j cur env A b st = record {
  count = refl;
  step = record { grows = grow_none st; keeps = λ fin scs f inv ok. (inv, none_stand fin scs) };
}
  where
    none_stand : (fin : List Sym) (scs : List Scope) → AllStand fin scs (sym_count st) A env op j b nil [] []
    none_stand fin scs = record {
      results = λ i h. absurd h;
      pairs = tt;
      each_means = λ e ρ ms sem d. refl;
      last_means = λ e n. absurd (clash true refl n);
    }

-- check 8: of a block the children before the last are definitions, and no other child is
pub is_def_is : (t : Tree) (ts : Trees) (b : Bool) (ids : List ℕ) → CheckedIn (cons t ts) b ids →
    is_def t ≡ (b && not (is_nil ts))
is_def_is t ts b ids c = go t (checked-head t ts b ids c)
  where
    go : (t : Tree) → Checked t (b && not (is_nil ts)) ids → is_def t ≡ (b && not (is_nil ts))
    go (node r us) h = checked_place r us (b && not (is_nil ts)) ids h

-- s stands for the first child t, and ks for the others, where t is bound if it is a definition
module _
    {fin : List Sym} {scs : List Scope} {n m : ℕ} {A : Args} {env : Env} {op j : ℕ} {b : Bool} {ts : Trees} {s : ℕ}
    {ks brs : List ℕ} (t : Tree) (def : is_def t ≡ (b && not (is_nil ts))) (h : StandsFor fin n A env s (unfold_at t))
    (k : AllStand fin scs m A (bind_def t s env) op (suc j) b ts ks brs) where
  cons_pairs : (sc : ℕ) → (thunked op j ≡ true → PairOk fin scs s sc) →
      PairsOk fin scs op j (s ∷ ks) (branch (thunked op j) sc brs)
  cons_pairs sc p = go (thunked op j) refl p brs k.pairs
    where
      go : (x : Bool) → thunked op j ≡ x → (x ≡ true → PairOk fin scs s sc) → (brs : List ℕ) →
          PairsOk fin scs op (suc j) ks brs → PairsOk fin scs op j (s ∷ ks) (branch x sc brs)
      go true e p brs q = rw (e, PairsOk) (p refl, q)
      go false e p [] q = tt
      go false e p (d ∷ brs) q = rw (e, PairsOk) q

  cons-each : b ≡ false → EachMeans fin env (s ∷ ks) (cons t ts)
  unfolding mean_all unfold_at
  cons-each e ρ ms sem d =
      let plain = def ∙ ap (λ (z : Bool). z && not (is_nil ts)) e in
      ap₂ more (h.means ρ ms sem d) (k.each_means e ρ ms (rw (bind_def_other t s env plain) sem) d)

  cons-last : b ≡ true → length ks ≡ many ts → Means fin env (last (s ∷ ks)) (unfold_last (cons t ts))
  unfolding many last unfold_last unfold_item
  cons-last e l = go ts ks l (ap (λ (z : Bool). z && not (is_nil ts)) (sym e) ∙ sym def) (k.last_means e)
    where
      go : (ts : Trees) (ks : List ℕ) → length ks ≡ many ts → (true && not (is_nil ts)) ≡ is_def t →
          (is_nil ts ≡ false → Means fin (bind_def t s env) (last ks) (unfold_last ts)) →
          Means fin env (last (s ∷ ks)) (unfold_last (cons t ts))
      go nil [] l e rest ρ ms sem d = h.means ρ ms sem d
      go nil (x ∷ ks) l e rest ρ ms sem d = absurd (omega arith)
      go (cons v vs) [] l e rest ρ ms sem d = absurd (omega arith)
      go (cons v vs) (x ∷ ks) l e rest ρ ms sem d =
          let after-t = sem_one fin (id_of (top t)) s (unfold_at t ms) env ms ρ (λ d. sym (h.means ρ ms sem d)) sem in
          rest refl ρ ((id_of (top t), unfold_at t ms) ∷ ms) (rw (bind_def_is t s env (sym e)) after-t) d

pub cons_keeps : (op j cur : ℕ) (env : Env) (A : Args) (b : Bool) (t : Tree) (ts : Trees) (st : State) →
    CheckedIn (cons t ts) b (keys env) →
    (o : ℕ × State) (os : Symbols) → KeptIn (thunked op j) st A cur env (unfold_at t) o →
    KeepsMeanings o.1 A cur (bind_def t o.0 env) op (suc j) b ts os →
    KeepsMeanings st A cur env op j b (cons t ts) (o.0 ∷ os.0, branch (thunked op j) (scope_count st) os.1, os.2)
unfolding many
cons_keeps op j cur env A b t ts st c o os h k = record {
  count = ap suc k.count;
  step =
      step_then h k.step
      (λ fin scs ok w.
      bind_def_env t w.0.result (env_later fin (sym_count st) (sym_count o.1) env A h.grows.more_syms ok))
      (λ fin scs inv w v. record {
        results = results fin w.0.result v.results;
        pairs = cons_pairs t def w.0 v (scope_count st) w.1;
        each_means = cons-each t def w.0 v;
        last_means = λ e n. cons-last t def w.0 v e k.count;
      });
}
  where
    def : is_def t ≡ (b && not (is_nil ts))
    def = is_def_is t ts b (keys env) c

    results : (fin : List Sym) → Result fin (sym_count o.1) A o.0 → Results fin (sym_count os.2) A os.0 →
        Results fin (sym_count os.2) A (o.0 ∷ os.0)
    results fin w v i (inl e) = rw e (result_later (sym_count os.2) k.step.grows.more_syms w)
    results fin w v i (inr e) = v i e
