-- Laws of the invariant of interning (`Inv`), and of states that grow.
--
-- In order: arguments in force (`Args`); tables; environments; states that grow (`Grow`, `Fits`); what is remembered,
-- and states with the same symbols and scopes (`inv_same`); the scopes around a scope have lower numbers (`out_low`);
-- placement stays within each scope whose arguments are depended on (`climb_stays`).
--
-- A state is judged from the symbols and scopes at the end, of which it has the first (`Fits`): so no fact on symbols
-- has to be carried from one state to the next. Push, Scopes, Lambda, Fields and Operands show that each step keeps it.
-- Assumes nothing.
use mathlib.Core.Path.{◌≡◌, refl, ap, ◌∙◌}
use mathlib.Core.Logic.{◌⊎◌, inl, inr}
use mathlib.Core.Bool.{Bool, true, false}
use Rattle.std.specs.Prelude.{Option, None, Some}
use mathlib.Core.List.{List, [], ◌∷◌}
use Prim.Native.Nat.{ℕ, suc, ◌≤◌, ◌<◌}
use native.Mathlib.Omega.{arith}
use native.Mathlib.Nat.{eq-or-lt_of_le, le_of_suc-le-suc}
use lib.Dec.{eqb}
use lib.ListN.{length, get_or}
use borrow.Author.Tests.{eqb-true}
use Rattle.model.specs.Lists.{any_in}
use Rattle.model.specs.Tree.{Rec}
use Rattle.model.specs.Intern.{Sym, Scope, State, Env, root_scope, climb, drop_first, recall, remember}
use Rattle.theory.specs.Inv.{Args, HasArg, arg_syms, InAny, Chain, HasKey, FieldOk, Inv, EnvOk, Grow, Fits}
use Rattle.laws.proofs.Induction.{strong}
use Rattle.laws.specs.Members.{In}
use Rattle.laws.proofs.Members.{any_in_false}
use Rattle.theory.specs.Good.{args_at, around_at, out, sym_count}

-- ---- arguments in force: an id and its symbol

pub has_arg : (a : ℕ) (A : Args) → In a (arg_syms A) → (i : ℕ) × HasArg i a A
has_arg a [] h = absurd h
has_arg a (p ∷ A) (inl e) = (p.0, inl (refl, e))
has_arg a (p ∷ A) (inr h) = let k = has_arg a A h in (k.0, inr k.1)

pub arg_in : (i a : ℕ) (A : Args) → HasArg i a A → In a (arg_syms A)
arg_in i a [] h = h
arg_in i a (p ∷ A) (inl e) = inl e.1
arg_in i a (p ∷ A) (inr h) = inr (arg_in i a A h)

-- ---- tables

-- a table opened, and one closed
pub any_opened : (i : ℕ) (ts : List (List ℕ)) → InAny i ([] ∷ ts) → InAny i ts
any_opened i ts (inl h) = absurd h
any_opened i ts (inr h) = h

pub any_closed : (i : ℕ) (ts : List (List ℕ)) → InAny i (drop_first ts) → InAny i ts
any_closed i [] h = h
any_closed i (t ∷ ts) h = inr h

-- ---- environments

pub env_later : (fin : List Sym) (n m : ℕ) (env : Env) (A : Args) → n ≤ m → EnvOk fin n env A → EnvOk fin m env A
env_later fin n m env A l h = record { low = λ i k. omega (arith, h.low i k); deps_in = h.deps_in; ids = h.ids }

-- ---- states that grow

-- what is there after one more is old or new
pub lt_or : (i n : ℕ) → i < suc n → (i < n) ⊎ (i ≡ n)
lt_or i n l = elim (eq-or-lt_of_le (le_of_suc-le-suc l)) [ inl e ↦ inr e | inr k ↦ inl k ]

pub grow_none : (st : State) → Grow st st
grow_none st = record {
  more_syms = omega arith;
  more_scopes = omega arith;
  same_syms = λ i l. refl;
  same_scopes = λ b l. refl;
}

-- a state with the symbols and scopes of another
pub grow-same : (st st' : State) → st.syms ≡ st'.syms → st.scopes ≡ st'.scopes → Grow st st'
grow-same st st' e f = record {
  more_syms = omega (arith, ap length e);
  more_scopes = omega (arith, ap length f);
  same_syms = λ i l. rw e;
  same_scopes = λ i l. rw f;
}

pub grow_then : {a b c : State} → Grow a b → Grow b c → Grow a c
grow_then g h = record {
  more_syms = omega arith;
  more_scopes = omega arith;
  same_syms = λ i l. g.same_syms i l ∙ h.same_syms i (omega arith);
  same_scopes = λ i l. g.same_scopes i l ∙ h.same_scopes i (omega arith);
}

pub fits_back : (fin : List Sym) (scs : List Scope) (a b : State) → Grow a b → Fits fin scs b → Fits fin scs a
fits_back fin scs a b g f = record {
  syms_fit = λ i l. g.same_syms i l ∙ f.syms_fit i (omega arith);
  scopes_fit = λ i l. g.same_scopes i l ∙ f.scopes_fit i (omega arith);
}

-- ---- what is remembered

-- a symbol with a key is one of more symbols
pub key_later : {fin : List Sym} {n : ℕ} (m : ℕ) {r : Rec} {ks : List ℕ} {i : ℕ} → n ≤ m → HasKey fin n r ks i →
    HasKey fin m r ks i
key_later m l h = record { low = omega (arith, h.low); rec_is = h.rec_is; kids_is = h.kids_is; made_is = h.made_is }

-- once (a, b) is remembered of p: what is recalled is this, or was before
pub recall_cases : (p a b : ℕ) (st : State) (q c d : ℕ) → recall (remember p a b st).memo q ≡ Some (c, d) →
    ((p ≡ q) × (a ≡ c) × (b ≡ d)) ⊎ (recall st.memo q ≡ Some (c, d))
unfolding recall
recall_cases p a b st q c d = go (eqb p q) refl
  where
    go : (t : Bool) → eqb p q ≡ t →
        ◌≡◌ {A = Option (ℕ × ℕ)} (elim t [ true ↦ Some (a, b) | false ↦ recall st.memo q ]) (Some (c, d)) →
        ((p ≡ q) × (a ≡ c) × (b ≡ d)) ⊎ (recall st.memo q ≡ Some (c, d))
    go true t e =
        let same : ◌≡◌ {A = ℕ × ℕ} (a, b) (c, d) = cc in
        inl (eqb-true p q t, ap (λ (z : ℕ × ℕ). z.0) same, ap (λ (z : ℕ × ℕ). z.1) same)
    go false t e = inr e

-- the invariant is of symbols and scopes, of tables that hold no more, and of what is remembered
pub inv_same : {fin : List Sym} {scs : List Scope} {st : State} {A : Args} {cur : ℕ} (ts : List (List ℕ))
    (memo : List (ℕ × ℕ × ℕ)) (n : ℕ) → ((i : ℕ) → InAny i ts → InAny i st.tables) →
    ((p a b : ℕ) → recall memo p ≡ Some (a, b) →
    FieldOk fin (sym_count st) p 1 a × FieldOk fin (sym_count st) p 2 b) → Inv fin scs st A cur →
    Inv fin scs (record { syms = st.syms; tables = ts; scopes = st.scopes; memo = memo; readings = n }) A cur
inv_same ts memo n tables memo_ok h = record {
  good = h.good;
  cur_low = h.cur_low;
  chain = h.chain;
  tables_ok = λ i k. h.tables_ok i (tables i k);
  memo_ok = memo_ok;
  args_low = h.args_low;
  arg_low = h.arg_low;
  lam_ok = h.lam_ok;
  arg_scope = h.arg_scope;
  place_ok = h.place_ok;
}

-- ---- placement

module _ (scs : List Scope) (m : ℕ) (chain : (b : ℕ) → b < m → Chain scs b) where
  -- scopes around a scope have lower numbers
  pub out_low : (c b : ℕ) → c < m → In b (out scs c) → b ≤ c
  out_low c b = strong Low step c
    where
      Low : ℕ → Type 0
      Low c = c < m → In b (out scs c) → b ≤ c

      up : (c : ℕ) → ((p : ℕ) → p < c → Low p) → c < m → In b (around_at scs c) → Chain scs c → b ≤ c
      up c ih l h (inl e) = absurd (rw e at h)
      up c ih l h (inr p) = omega (arith, p.1, ih p.0 p.1 (omega (arith, p.1)) (rw p.2 at h))

      step : (c : ℕ) → ((p : ℕ) → p < c → Low p) → Low c
      step c ih l (inl e) = omega arith
      step c ih l (inr h) = up c ih l h (chain c l)

  -- a new symbol stays within each scope whose arguments it depends on
  pub climb_stays : (deps : List ℕ) (a b c : ℕ) → In a deps → In a (args_at scs b) → c < m → In b (out scs c) →
      In b (out scs (climb scs deps (out scs c)))
  unfolding climb
  climb_stays deps a b c ha hb = strong Stays step c
    where
      Stays : ℕ → Type 0
      Stays c = c < m → In b (out scs c) → In b (out scs (climb scs deps (out scs c)))

      up : (c : ℕ) → ((p : ℕ) → p < c → Stays p) → c < m → Chain scs c → In b (around_at scs c) →
          In b (out scs (climb scs deps (around_at scs c)))
      up c ih l (inl e) h = absurd (rw e at h)
      up c ih l (inr p) h = rw p.2 (ih p.0 p.1 (omega (arith, p.1)) (rw p.2 at h))

      step : (c : ℕ) → ((p : ℕ) → p < c → Stays p) → Stays c
      step c ih l h = go (get_or scs c root_scope).args refl
        where
          some_args : (xs : List ℕ) → (get_or scs c root_scope).args ≡ Some xs → (t : Bool) → any_in xs deps ≡ t →
              In b (out scs c) → In b (out scs (elim t [ true ↦ c | false ↦ climb scs deps (around_at scs c) ]))
          some_args xs e true t k = k
          some_args xs e false t (inl p) = absurd (any_in_false a xs deps t (rw e at (rw p at hb)) ha)
          some_args xs e false t (inr k) = up c ih l (chain c l) k

          go : (o : Option (List ℕ)) → (get_or scs c root_scope).args ≡ o →
              In b (out scs (elim o [
                | None ↦ c
                | Some xs ↦ elim (any_in xs deps) [ true ↦ c | false ↦ climb scs deps (around_at scs c) ]
              ]))
          go None e = h
          go (Some xs) e = some_args xs e (any_in xs deps) refl h

-- climbing looks only at the scopes on its way
pub climb-same : (s t : List Scope) (deps l : List ℕ) →
    ((b : ℕ) → In b l → get_or s b root_scope ≡ get_or t b root_scope) → climb s deps l ≡ climb t deps l
unfolding climb
climb-same s t deps [] h = refl
climb-same s t deps (c ∷ l) h =
    ap (λ (z : Scope). stop z.args (climb s deps l)) (h c (inl refl))
    ∙ ap (stop (get_or t c root_scope).args) (climb-same s t deps l (λ b k. h b (inr k)))
  where
    stop : Option (List ℕ) → ℕ → ℕ
    stop o rest = elim o [ None ↦ c | Some xs ↦ elim (any_in xs deps) [ true ↦ c | false ↦ rest ] ]
