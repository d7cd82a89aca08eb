-- Opening and leaving a scope keeps the invariant of interning, and a scope's result may be built in it.
--
-- In order: the state with one more scope grows, and has it at the end (`open_grows`, `open_is`); the invariant inside
-- (`open_inv`) and outside again (`leave_inv`); a result inside is one that may be built there (`pair_of`).
-- Operands takes these at thunks, Body and Lambda at lambdas' bodies.
-- Assumes nothing.
use mathlib.Core.Path.{◌≡◌, ap, sym, ◌∙◌, refl}
use mathlib.Core.Logic.{◌⊎◌, inl, inr}
use mathlib.Core.Bool.{true}
use Rattle.std.specs.Prelude.{Option}
use mathlib.Core.List.{List, [], ◌∷◌}
use Prim.Native.Nat.{ℕ, suc, ◌≤◌, ◌<◌}
use native.Mathlib.Omega.{arith}
use lib.ListN.{length, get_or, get_or-append}
use lib.Seq.{get_or-append_seam}
use Rattle.model.specs.Binding.{arg_ids}
use Rattle.model.specs.Intern.{func, Sym, Scope, State, root_scope, open_scope}
use Rattle.laws.specs.Members.{In}
use Rattle.laws.specs.ArgLists.{ArgList, syms_in}
use Rattle.theory.specs.Good.{rec_at, sym_kids, deps_at, scope_at, node_at, sym_count, scope_count, no_arg, args_in, args_at, around_at, out, PairOk}
use Rattle.theory.proofs.Interning.Good.{lam_of_lem}
use Rattle.theory.specs.Inv.{Args, HasArg, InAny, Chain, LamApart, Inv, Fits, Grow}
use Rattle.theory.proofs.Interning.Inv.{fits_back, lt_or}
use Rattle.theory.proofs.Interning.Push.{one_more}

-- ---- the state with one more scope

-- a scope opened inside cur, among these scopes
abbrev new_scope : List Scope → ℕ → Option (List ℕ) → Scope
new_scope scs cur o = record { around = out scs cur; args = o }

module _ (cur : ℕ) (o : Option (List ℕ)) (ts : List (List ℕ)) (st : State) where
  open_count : length (open_scope cur o ts st).scopes ≡ suc (scope_count st)
  open_count = one_more st.scopes _

  pub open_grows : Grow st (open_scope cur o ts st)
  open_grows = record {
    more_syms = omega arith;
    more_scopes = omega (arith, open_count);
    same_syms = λ i l. refl;
    same_scopes = λ i l. sym (get_or-append st.scopes _ root_scope i l);
  }

-- the new scope, seen from the end
pub open_is : (fin : List Sym) (scs : List Scope) (cur : ℕ) (o : Option (List ℕ)) (ts : List (List ℕ)) (st : State) →
    cur < scope_count st → Fits fin scs (open_scope cur o ts st) →
    get_or scs (scope_count st) root_scope ≡ new_scope scs cur o
open_is fin scs cur o ts st l f =
    let old = fits_back fin scs st (open_scope cur o ts st) (open_grows cur o ts st) f in
    sym (f.scopes_fit (scope_count st) (omega (arith, open_count cur o ts st)))
    ∙ (get_or-append_seam st.scopes (new_scope st.scopes cur o) [] root_scope
    ∙ ap (λ (z : Scope). record { around = cur ∷ z.around; args = o }) (old.scopes_fit cur l))

-- ---- the invariant inside

-- the scope's arguments are new, from n on: symbols that are no arguments and arguments of other scopes are below n,
-- and nothing else comes into force; the tables hold no more than before
pub open_inv : (fin : List Sym) (scs : List Scope) (cur : ℕ) (o : Option (List ℕ)) (ts : List (List ℕ)) (st : State)
    (A B : Args) (n : ℕ) → Fits fin scs (open_scope cur o ts st) → Inv fin scs st A cur →
    ((i : ℕ) → InAny i ts → InAny i st.tables) →
    ((a : ℕ) → In a (args_in o) → (n ≤ a) × (a < sym_count st)) →
    ((x : ℕ) → x < sym_count st → no_arg (node_at fin x) ≡ true → x < n) →
    ((b a : ℕ) → b < scope_count st → In a (args_at scs b) → a < n) →
    ((i a : ℕ) → HasArg i a B → HasArg i a A ⊎ In a (args_in o)) →
    Inv fin scs (open_scope cur o ts st) B (scope_count st)
open_inv fin scs cur o ts st A B n f h tables new olds args_old split = record {
  good = h.good;
  cur_low = omega (arith, count);
  chain = λ b l. chain b (old_or_new_lem b l);
  tables_ok = λ i k. h.tables_ok i (tables i k);
  memo_ok = h.memo_ok;
  args_low = λ b a l. args_low b a (old_or_new_lem b l);
  arg_low = λ i a k. elim (split i a k) [ inl g ↦ h.arg_low i a g | inr g ↦ (new a g).1 ];
  lam_ok = lams;
  arg_scope = λ i a b k l. arg_scope i a b (split i a k) (old_or_new_lem b l);
  place_ok = λ s a b l k d m. places s a b l k d (old_or_new_lem b m);
}
  where
    c : ℕ
    c = scope_count st

    next : State
    next = open_scope cur o ts st

    count : scope_count next ≡ suc c
    count = open_count cur o ts st

    old_or_new_lem : (b : ℕ) → b < scope_count next → (b < c) ⊎ (b ≡ c)
    old_or_new_lem b l = lt_or b c (omega (arith, count))

    is : get_or scs c root_scope ≡ new_scope scs cur o
    is = open_is fin scs cur o ts st h.cur_low f

    around_is : around_at scs c ≡ out scs cur
    around_is = ap (λ (z : Scope). z.around) is

    args_is : args_at scs c ≡ args_in o
    args_is = ap (λ (z : Scope). args_in z.args) is

    chain : (b : ℕ) → (b < c) ⊎ (b ≡ c) → Chain scs b
    chain b (inl l) = h.chain b l
    chain b (inr e) = rw e (inr (cur, h.cur_low, around_is))

    args_low : (b a : ℕ) → (b < c) ⊎ (b ≡ c) → In a (args_at scs b) → a < sym_count st
    args_low b a (inl l) k = h.args_low b a l k
    args_low b a (inr e) k = (new a (rw (e, args_is) at k)).1

    lams : (x : ℕ) → x < sym_count st → (xs : ArgList) (b : ℕ) → node_at fin x ≡ func xs b →
        LamApart fin scs (scope_count next) B c x xs b
    lams x l xs b e = record {
      scope_low = omega (arith, was.scope_low, count);
      closed = closed;
      apart = λ i a k. apart i a (split i a k);
      ids_apart = λ i a k g. ids_apart i a k (split i a g);
    }
      where
        was : LamApart fin scs c A cur x xs b
        was = h.lam_ok x l xs b e

        old : x < n
        old = olds x l (ap no_arg e)

        closed : In b (out scs c) → ⊥
        closed (inl p) = absurd (omega (arith, was.scope_low))
        closed (inr k) = was.closed (rw around_is at k)

        apart : (i a : ℕ) → HasArg i a A ⊎ In a (args_in o) → In a (syms_in xs) → ⊥
        apart i a (inl k) d = was.apart i a k d
        apart i a (inr k) d =
            absurd (omega (arith, (new a k).0, old, (lam_of_lem fin scs x xs b (h.good x l) e).args_low a d))

        ids_apart : (i a k : ℕ) → HasArg i a A ⊎ In a (args_in o) → In k (sym_kids fin x) → In a (deps_at fin k) →
            In i (arg_ids (rec_at fin x)) → ⊥
        ids_apart i a k (inl g) lk la li = was.ids_apart i a k g lk la li
        ids_apart i a k (inr g) lk la li =
            let kx = (h.good x l).low k lk in
            absurd (omega (arith, (new a g).0, old, (h.good k (omega arith)).deps_low a la))

    arg_scope : (i a b : ℕ) → HasArg i a A ⊎ In a (args_in o) → (b < c) ⊎ (b ≡ c) → In a (args_at scs b) →
        In b (out scs c)
    arg_scope i a b (inl k) (inl l) d = inr (rw around_is (h.arg_scope i a b k l d))
    arg_scope i a b (inr k) (inl l) d = absurd (omega (arith, (new a k).0, args_old b a l d))
    arg_scope i a b s (inr e) d = inl e

    places : (s a b : ℕ) → s < sym_count st → no_arg (node_at fin s) ≡ true → In a (deps_at fin s) → (b < c) ⊎ (b ≡ c) →
        In a (args_at scs b) → In b (out scs (scope_at fin s))
    places s a b l k d (inl m) g = h.place_ok s a b l k d m g
    places s a b l k d (inr e) g =
        absurd (omega (arith, (new a (rw (e, args_is) at g)).0, olds s l k, (h.good s l).deps_low a d))

-- ---- the invariant outside again

-- what is in force outside was in force inside, and is no argument of the scope that is left
pub leave_inv : (fin : List Sym) (scs : List Scope) (cur sc : ℕ) (st : State) (A B : Args) →
    Inv fin scs st B sc → cur < scope_count st → around_at scs sc ≡ out scs cur →
    ((i a : ℕ) → HasArg i a A → HasArg i a B) →
    ((i a : ℕ) → HasArg i a A → In a (args_at scs sc) → ⊥) →
    Inv fin scs st A cur
leave_inv fin scs cur sc st A B h l e more apart = record {
  good = h.good;
  cur_low = l;
  chain = h.chain;
  tables_ok = h.tables_ok;
  memo_ok = h.memo_ok;
  args_low = h.args_low;
  arg_low = λ i a k. h.arg_low i a (more i a k);
  lam_ok = lams;
  arg_scope = λ i a b k m d. inner i a b k d (h.arg_scope i a b (more i a k) m d);
  place_ok = h.place_ok;
}
  where
    lams : (x : ℕ) → x < sym_count st → (xs : ArgList) (b : ℕ) → node_at fin x ≡ func xs b →
        LamApart fin scs (scope_count st) A cur x xs b
    lams x lx xs b n = let was = h.lam_ok x lx xs b n in record {
      scope_low = was.scope_low;
      closed = λ k. was.closed (inr (rw e k));
      apart = λ i a k. was.apart i a (more i a k);
      ids_apart = λ i a k g. was.ids_apart i a k (more i a g);
    }

    inner : (i a b : ℕ) → HasArg i a A → In a (args_at scs b) → In b (out scs sc) → In b (out scs cur)
    inner i a b k d (inl p) = absurd (apart i a k (rw p at d))
    inner i a b k d (inr g) = rw e at g

-- ---- results

-- every lambda that is there when a scope closes has its body elsewhere
pub pair_of : (fin : List Sym) (scs : List Scope) (st : State) (A : Args) (sc r : ℕ) → Inv fin scs st A sc →
    r < sym_count st → PairOk fin scs r sc
pair_of fin scs st A sc r h l x lx xs b e k = (h.lam_ok x (omega arith) xs b e).closed k
