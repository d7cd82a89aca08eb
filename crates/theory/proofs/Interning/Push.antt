-- A new symbol keeps the invariant of interning, if what is asked of it holds of it (`push_inv`).
--
-- In order: the state with one more symbol grows, and has it at the end (`push_grows`, `push-more`, `push_parts`); the
-- invariant; the deps that a new symbol gets are those of its children, no more and no less.
-- The symbol of a key (Finish), an argument (Fresh) and a lambda (Lambda) are made so.
-- Assumes nothing.
use mathlib.Core.Path.{◌≡◌, refl, ap, sym, ◌∙◌}
use mathlib.Core.Logic.{◌⊎◌, inl, inr}
use mathlib.Core.Bool.{Bool, true, false}
use mathlib.Core.List.{List, [], ◌∷◌, ◌++◌}
use Prim.Native.Nat.{ℕ, suc, ◌<◌}
use native.Mathlib.Omega.{arith}
use lib.ListN.{length, length-append, get_or-append}
use lib.Seq.{get_or-append_seam}
use Rattle.model.specs.Tree.{Rec}
use Rattle.model.specs.Intern.{Node, func, Sym, Scope, State, sym_at, no_sym, climb, placement, union_deps, enter, push}
use Rattle.laws.specs.Members.{In}
use Rattle.laws.proofs.Members.{union_left, union_right, union_cases}
use Rattle.laws.specs.ArgLists.{ArgList}
use Rattle.theory.specs.Good.{rec_at, sym_kids, deps_at, scope_at, node_at, sym_count, scope_count, no_arg, args_at, out, SymOk}
use Rattle.theory.specs.Inv.{Args, arg_syms, InAny, FieldOk, LamApart, Inv, Fits, Grow}
use Rattle.theory.proofs.Interning.Inv.{has_arg, lt_or, key_later}
use Rattle.theory.proofs.Interning.Inv.{out_low, climb_stays, climb-same}

-- ---- the state with one more symbol

pub one_more : {A : Type 0} (l : List A) (y : A) → length (l ++ (y ∷ [])) ≡ suc (length l)
one_more l y = simp length-append (omega arith)

abbrev pub new_sym : ℕ → Rec → List ℕ → List ℕ → Node → State → Sym
new_sym cur r ks deps nd st = record { rec = r; kids = ks; deps = deps; scope = placement st cur deps; node = nd }

module _ (cur : ℕ) (r : Rec) (ks deps : List ℕ) (b : Bool) (nd : Node) (st : State) where
  pub push-count : sym_count (push cur r ks deps b nd st) ≡ suc (sym_count st)
  unfolding push
  push-count = one_more st.syms _

  pub push-more : sym_count st < length (push cur r ks deps b nd st).syms
  push-more = omega (arith, push-count)

  pub push_grows : Grow st (push cur r ks deps b nd st)
  unfolding push
  push_grows = record {
    more_syms = omega (arith, push-count);
    more_scopes = omega arith;
    same_syms = λ i l. sym (get_or-append st.syms _ no_sym i l);
    same_scopes = λ i l. refl;
  }

-- the new symbol, seen from the end, by its parts
pub record PartsAt (fin : List Sym) (i : ℕ) (y : Sym) : Type 0 where
  pub rec_is : rec_at fin i ≡ y.rec
  pub kids_is : sym_kids fin i ≡ y.kids
  pub deps_is : deps_at fin i ≡ y.deps
  pub scope_is : scope_at fin i ≡ y.scope
  pub node_is : node_at fin i ≡ y.node

pub push_parts : (fin : List Sym) (scs : List Scope) (cur : ℕ) (r : Rec) (ks deps : List ℕ) (b : Bool) (nd : Node)
    (st : State) → Fits fin scs (push cur r ks deps b nd st) →
    PartsAt fin (sym_count st) (new_sym cur r ks deps nd st)
unfolding push
push_parts fin scs cur r ks deps b nd st f = record {
  rec_is = ap (λ (z : Sym). z.rec) is;
  kids_is = ap (λ (z : Sym). z.kids) is;
  deps_is = ap (λ (z : Sym). z.deps) is;
  scope_is = ap (λ (z : Sym). z.scope) is;
  node_is = ap (λ (z : Sym). z.node) is;
}
  where
    is : sym_at fin (sym_count st) ≡ new_sym cur r ks deps nd st
    is =
        sym (f.syms_fit (sym_count st) (push-more cur r ks deps b nd st))
        ∙ get_or-append_seam st.syms (new_sym cur r ks deps nd st) [] no_sym

-- ---- the invariant

pub enter_cases : (i n : ℕ) (ts : List (List ℕ)) → InAny i (enter n ts) → (i ≡ n) ⊎ InAny i ts
enter_cases i n [] h = absurd h
enter_cases i n (t ∷ ts) (inl (inl e)) = inl e
enter_cases i n (t ∷ ts) (inl (inr h)) = inr (inl h)
enter_cases i n (t ∷ ts) (inr h) = inr (inr h)

-- the symbol is good; if it is a lambda, it goes with what is in force; if it is shared, it is no argument; and if it
-- is no argument, it depends on arguments in force only
pub push_inv : (fin : List Sym) (scs : List Scope) (A : Args) (cur : ℕ) (r : Rec) (ks deps : List ℕ) (b : Bool)
    (nd : Node) (st : State) → Fits fin scs (push cur r ks deps b nd st) → Inv fin scs st A cur →
    SymOk fin scs (sym_count st) →
    ((xs : ArgList) (c : ℕ) → nd ≡ func xs c → LamApart fin scs (scope_count st) A cur (sym_count st) xs c) →
    (b ≡ true → no_arg nd ≡ true) →
    (no_arg nd ≡ true → (a : ℕ) → In a deps → In a (arg_syms A)) →
    Inv fin scs (push cur r ks deps b nd st) A cur
unfolding push placement
push_inv fin scs A cur r ks deps b nd st f h ok lam shared within = record {
  good = λ i l. elim (old_or_new_lem i l) [ inl k ↦ h.good i k | inr e ↦ rw e ok ];
  cur_low = h.cur_low;
  chain = h.chain;
  tables_ok = tables b shared;
  memo_ok = λ p a c e. (later p 1 a (h.memo_ok p a c e).0, later p 2 c (h.memo_ok p a c e).1);
  args_low = λ c a l k. omega (arith, h.args_low c a l k, count);
  arg_low = λ i a k. omega (arith, h.arg_low i a k, count);
  lam_ok = λ x l xs c e. lams x xs c e (old_or_new_lem x l);
  arg_scope = h.arg_scope;
  place_ok = λ s a c l. places s a c (old_or_new_lem s l);
}
  where
    n : ℕ
    n = sym_count st

    next : State
    next = push cur r ks deps b nd st

    count : sym_count next ≡ suc n
    count = push-count cur r ks deps b nd st

    new : PartsAt fin n (new_sym cur r ks deps nd st)
    new = push_parts fin scs cur r ks deps b nd st f

    old_or_new_lem : (i : ℕ) → i < sym_count next → (i < n) ⊎ (i ≡ n)
    old_or_new_lem i l = lt_or i n (omega (arith, count))

    later : (p j a : ℕ) → FieldOk fin n p j a → FieldOk fin (sym_count next) p j a
    later p j a k = key_later (sym_count next) (omega (arith, count)) k

    old : (i : ℕ) → InAny i st.tables → (i < sym_count next) × (no_arg (node_at fin i) ≡ true)
    old i k = (omega (arith, (h.tables_ok i k).0, count), (h.tables_ok i k).1)

    tables : (b : Bool) → (b ≡ true → no_arg nd ≡ true) → (i : ℕ) →
        InAny i (elim b [ true ↦ enter n st.tables | false ↦ st.tables ]) →
        (i < sym_count next) × (no_arg (node_at fin i) ≡ true)
    tables false sh i k = old i k
    tables true sh i k = elim (enter_cases i n st.tables k) [
      | inl e ↦ (omega (arith, count), rw (e, new.node_is) (sh refl))
      | inr j ↦ old i j
    ]

    lams : (x : ℕ) (xs : ArgList) (c : ℕ) → node_at fin x ≡ func xs c → (x < n) ⊎ (x ≡ n) →
        LamApart fin scs (scope_count st) A cur x xs c
    lams x xs c e (inl l) = h.lam_ok x l xs c e
    lams x xs c e (inr p) = rw p (lam xs c (sym new.node_is ∙ (rw p at e)))

    low : (c : ℕ) → In c (out scs cur) → c < scope_count st
    low c k = omega (arith, out_low scs (scope_count st) h.chain cur c h.cur_low k, h.cur_low)

    placement_is : placement st cur deps ≡ climb scs deps (out scs cur)
    placement_is =
        ap (λ (z : Scope). climb st.scopes deps (cur ∷ z.around)) (f.scopes_fit cur h.cur_low)
        ∙ climb-same st.scopes scs deps (out scs cur) (λ c k. f.scopes_fit c (low c k))

    -- the new symbol's scope
    place : (a c : ℕ) → no_arg nd ≡ true → In a deps → c < scope_count st → In a (args_at scs c) →
        In c (out scs (placement st cur deps))
    place a c k d m g =
        let w = has_arg a A (within k a d) in
        let around = h.arg_scope w.0 a c w.1 m g in
        rw placement_is (climb_stays scs (scope_count st) h.chain deps a c cur d g h.cur_low around)

    places : (s a c : ℕ) → (s < n) ⊎ (s ≡ n) → no_arg (node_at fin s) ≡ true → In a (deps_at fin s) →
        c < scope_count st → In a (args_at scs c) → In c (out scs (scope_at fin s))
    places s a c (inl l) k d m g = h.place_ok s a c l k d m g
    places s a c (inr e) k d m g =
        rw (e, new.scope_is) (place a c (rw (e, new.node_is) at k) (rw (e, new.deps_is) at d) m g)

-- ---- the deps of some children

-- a list of symbols that has the children as they are at the end
abbrev SameAt : List Sym → List Sym → List ℕ → Type 0
SameAt fin ss ks = (k : ℕ) → In k ks → sym_at ss k ≡ sym_at fin k

pub union_deps_covers : (fin ss : List Sym) (ks : List ℕ) → SameAt fin ss ks → (k a : ℕ) → In k ks →
    In a (deps_at fin k) → In a (union_deps ss ks)
unfolding union_deps
union_deps_covers fin ss [] h k a lk la = absurd lk
union_deps_covers fin ss (j ∷ ks) h k a (inl e) la =
    union_left a (deps_at ss j) (union_deps ss ks) (rw (h j (inl refl), In) (rw e at la))
union_deps_covers fin ss (j ∷ ks) h k a (inr lk) la =
    union_right a (deps_at ss j) (union_deps ss ks) (union_deps_covers fin ss ks (λ i l. h i (inr l)) k a lk la)

pub union_deps_from : (fin ss : List Sym) (ks : List ℕ) → SameAt fin ss ks → (a : ℕ) → In a (union_deps ss ks) →
    (k : ℕ) × In k ks × In a (deps_at fin k)
unfolding union_deps
union_deps_from fin ss [] h a la = absurd la
union_deps_from fin ss (j ∷ ks) h a la =
    go (union_cases a (deps_at ss j) (union_deps ss ks) la) (union_deps_from fin ss ks (λ i l. h i (inr l)) a)
  where
    go : In a (deps_at ss j) ⊎ In a (union_deps ss ks) →
        (In a (union_deps ss ks) → (k : ℕ) × In k ks × In a (deps_at fin k)) →
        (k : ℕ) × In k (j ∷ ks) × In a (deps_at fin k)
    go (inl d) rest = (j, inl refl, rw (h j (inl refl), In) at d)
    go (inr d) rest = let w = rest d in (w.0, inr w.1, w.2)
