-- The symbol of a lambda, found or made, stands for the lambda with the arguments that were made for it.
--
-- In order: what holds when a lambda's body has been read (`BodyRead`); leaving the body's scope; a lambda that is
-- found; a lambda that is made; both (`finish_lambda`).
--
-- A lambda that is found has arguments of its own. The body depends neither on those, which are not in force, nor on
-- the new ones: their ids are ids of the found lambda too, and its body depends on no argument in force with such an id
-- (`ids_apart` of the invariant, from check 9). So the body means the same under both.
--
-- Body uses `BodyRead` and `finish_lambda`.
-- Assumes nothing.
use mathlib.Core.Path.{◌≡◌, refl, ap, sym, ◌∙◌}
use mathlib.Core.Logic.{◌⊎◌, inl, inr}
use mathlib.Core.Bool.{true, false}
use Rattle.std.specs.Prelude.{Some}
use mathlib.Core.List.{List, [], ◌∷◌}
use Prim.Native.Nat.{ℕ, suc, ◌≤◌, ◌<◌}
use native.Mathlib.Omega.{arith}
use lib.ListN.{length, get_or}
use Rattle.model.specs.Lists.{without}
use Rattle.model.specs.Tree.{Rec}
use Rattle.model.specs.Binding.{kind, arg_ids}
use Rattle.model.specs.Unfold.{Unfolded, Unfoldeds, lam, more, done}
use Rattle.model.specs.Intern.{Node, constant, unparsed, argument, func, operation, Sym, Scope, State, sym_at, root_scope}
use Rattle.model.specs.Intern.{union_deps, push, finish, bind_args, with_opts}
use Rattle.laws.proofs.Holds.{Holds}
use Rattle.laws.specs.Members.{In}
use Rattle.laws.proofs.Members.{clash, without_keeps, without_cases, in_or-not, in_one}
use Rattle.laws.specs.ArgLists.{syms_in, opts_in, bound_by}
use Rattle.laws.proofs.ArgLists.{with_opts_syms, with_opts_opts, with_opts-length}
use Rattle.theory.proofs.Meaning.Mean.{Val, bind_syms, mean_all, mean}
use Rattle.theory.proofs.Meaning.Coincide.{mean_lam, coincide, bind_syms_other, AgreeOn}
use Rattle.theory.proofs.Acceptance.Records.{LamRec}
use Rattle.theory.specs.Good.{is_plain, no_arg, args_in, out, deps_at, sym_kids, node_at, rec_at, scope_count, sym_count, Plain, Lam, NodeOk, SymOk}
use Rattle.theory.proofs.Interning.Good.{lambda_not-plain}
use Rattle.theory.proofs.Interning.Good.{lam_of_lem}
use Rattle.theory.specs.Inv.{Args, HasArg, arg_syms, LamApart, Inv, Fits, Grow}
use Rattle.theory.proofs.Interning.Inv.{has_arg, arg_in}
use Rattle.theory.proofs.Interning.Inv.{grow_none, fits_back, out_low}
use Rattle.theory.proofs.Interning.Push.{new_sym, push_grows, PartsAt, push_parts, push-more, push_inv}
use Rattle.theory.proofs.Interning.Push.{union_deps_covers, union_deps_from}
use Rattle.theory.proofs.Interning.Finish.{Result, found_key, finish_cases}
use Rattle.theory.proofs.Interning.Fresh.{ArgsMade, bind_args_cases, bind_args_old, bind_args_new}
use Rattle.theory.proofs.Interning.Scopes.{leave_inv, pair_of}

-- ---- a lambda's meaning, and its body

-- the unfolding of a lambda: what its record and its opts say, and its body's unfolding
abbrev pub lam_of : Rec → List (List ℕ) → Unfoldeds → Unfolded
lam_of r os body = lam r.shape r.opcode r.aux os body

lam_of_same : {r s : Rec} {o p : List (List ℕ)} {u v : Unfoldeds} → r ≡ s → o ≡ p → u ≡ v → lam_of r o u ≡ lam_of s p v
lam_of_same e f g = cc

-- the argument symbols as' of a lambda of record r, with their opts
abbrev pub args_with : Rec → List ℕ → List (ℕ × List ℕ)
args_with r as' = with_opts (bound_by r) as'

-- ids in force, with those arguments bound
abbrev pub with_args : Rec → List ℕ → List (ℕ × ℕ) → List (ℕ × ℕ)
with_args r as' env = bind_args (bound_by r) as' env

-- symbol s stands for a lambda of record r with the argument symbols as' and the body k
abbrev pub LamMean : List Sym → Rec → List ℕ → ℕ → ℕ → Type 0
LamMean fin r as' k s =
    (ρ : Val) (d : ℕ) → mean fin s ρ d ≡
    lam_of r (opts_in (bound_by r)) (mean_all (mean fin) (k ∷ []) (bind_syms (suc d) 0 (args_with r as') ρ) (suc d))

-- the body of a lambda in scope cur has been read in scope sc, with the arguments as' bound; its symbol is k
pub record BodyRead
    (fin : List Sym) (scs : List Scope) (st : State) (A : Args) (cur sc : ℕ) (r : Rec) (as' : List ℕ) (k : ℕ)
    : Type 0 where
  pub lambda_is : LamRec r
  pub many_args : length as' ≡ length (bound_by r)
  pub inv : Inv fin scs st (with_args r as' A) sc
  pub cur_low : cur < sc
  pub scope_is : get_or scs sc root_scope ≡ record { around = out scs cur; args = Some as' }
  -- how many symbols there were before the arguments, and after them
  pub before : ℕ
  pub after : ℕ
  pub args_are : ArgsMade fin before after as'
  pub args_low : after ≤ sym_count st
  pub old : (i a : ℕ) → HasArg i a A → a < before
  pub ids : (i a : ℕ) → HasArg i a A → In i (arg_ids r) → ⊥
  pub body : Result fin (sym_count st) (with_args r as' A) k

-- the deps of the lambda's symbol, and the state with that symbol made
abbrev lam_deps : State → List ℕ → ℕ → List ℕ
lam_deps st as' k = without (union_deps st.syms (k ∷ [])) as'

abbrev lam_made : State → ℕ → ℕ → Rec → List ℕ → ℕ → State
lam_made st cur sc r as' k = push cur r (k ∷ []) (lam_deps st as' k) true (func (args_with r as') sc) st

module _
    {fin : List Sym} {scs : List Scope} {st : State} {A : Args} {cur sc : ℕ} {r : Rec} {as' : List ℕ} {k : ℕ}
    (pre : BodyRead fin scs st A cur sc r as' k) where
  new_args : syms_in (args_with r as') ≡ as'
  new_args = with_opts_syms (bound_by r) as' pre.many_args

  new_opts : opts_in (args_with r as') ≡ opts_in (bound_by r)
  new_opts = with_opts_opts (bound_by r) as' pre.many_args

  -- ---- leaving the body

  old_not_new : (i a : ℕ) → HasArg i a A → In a as' → ⊥
  old_not_new i a h g = absurd (omega (arith, pre.old i a h, pre.args_are.fresh a g))

  left_inv : Inv fin scs st A cur
  left_inv =
      leave_inv fin scs cur sc st A (with_args r as' A) pre.inv
      (omega (arith, pre.cur_low, pre.inv.cur_low)) (ap (λ (z : Scope). z.around) pre.scope_is)
      (λ i a h. bind_args_old i a (bound_by r) as' A h) (λ i a h g. old_not_new i a h (rw pre.scope_is at g))

  -- what the body depends on, but for the new arguments, was in force before
  body_outer : (a : ℕ) → In a (deps_at fin k) → (In a as' → ⊥) → In a (arg_syms A)
  body_outer a h g =
      let w = has_arg a (with_args r as' A) (pre.body.within a h) in
      go w.0 (bind_args_cases w.0 a (bound_by r) as' A w.1)
    where
      go : (i : ℕ) → HasArg i a A ⊎ In a as' → In a (arg_syms A)
      go i (inl w) = arg_in i a A w
      go i (inr w) = absurd (g w)

  -- ---- a lambda that is found

  -- a found symbol with a lambda's record is a lambda
  found_func : (i : ℕ) → i < sym_count st → rec_at fin i ≡ r → no_arg (node_at fin i) ≡ true →
      (xs : List (ℕ × List ℕ)) × (b : ℕ) × (node_at fin i ≡ func xs b)
  found_func i low re na = go (node_at fin i) refl (pre.inv.good i low).node_is na
    where
      plain : Plain fin i → ⊥
      plain p =
          let e : (rec_at fin i).shape ≡ 12 = ap (λ (z : Rec). z.shape) re ∙ pre.lambda_is.shape_is in
          clash (is_plain (kind (rec_at fin i).shape)) p.kind_is (lambda_not-plain (rec_at fin i).shape e)

      go : (nd : Node) → node_at fin i ≡ nd → NodeOk fin scs i nd → no_arg nd ≡ true →
          (xs : List (ℕ × List ℕ)) × (b : ℕ) × (node_at fin i ≡ func xs b)
      go constant e o n = absurd (plain o.0)
      go unparsed e o n = absurd (plain o.0)
      go argument e o n = absurd (clash false n refl)
      go (func xs b) e o n = (xs, b, e)
      go (operation brs) e o n = absurd (plain o.0)

  module _
      {i : ℕ} {xs : List (ℕ × List ℕ)} {b : ℕ}
      (low : i < sym_count st) (nd : node_at fin i ≡ func xs b) (re : rec_at fin i ≡ r) (ke : sym_kids fin i ≡ k ∷ []) where
    the_lambda : Lam fin scs i xs b
    the_lambda = lam_of_lem fin scs i xs b (pre.inv.good i low) nd

    body_is : the_lambda.body ≡ k
    body_is = let e = sym the_lambda.kids_is ∙ ke in cc

    -- its body depends neither on the new arguments nor on its own
    body_not_new : (a : ℕ) → In a (deps_at fin k) → In a as' → ⊥
    unfolding arg_ids
    body_not_new a h g =
        let w = bind_args_new a (bound_by r) as' A pre.many_args g in
        (pre.inv.lam_ok i low xs b nd).ids_apart w.0 a k w.2 (rw ke (inl refl)) h (rw re w.1)

    body_not-own : (a : ℕ) → In a (deps_at fin k) → In a (syms_in xs) → ⊥
    body_not-own a h g =
        let w = has_arg a (with_args r as' A) (pre.body.within a h) in
        (pre.inv.lam_ok i low xs b nd).apart w.0 a w.1 g

    found_result : Result fin (sym_count st) A i
    found_result = record {
      low = low;
      within = λ a h. let d = rw body_is at (the_lambda.from a h) in body_outer a d (body_not_new a d);
    }

    found_mean : LamMean fin r as' k i
    unfolding mean_all
    found_mean ρ d =
        mean_lam fin scs i xs b (pre.inv.good i low) nd ρ d
        ∙ lam_of_same re (the_lambda.opts_is ∙ ap (λ (z : Rec). opts_in (bound_by z)) re) bodies
      where
        own : Val
        own = bind_syms (suc d) 0 xs ρ

        new : Val
        new = bind_syms (suc d) 0 (args_with r as') ρ

        agree : AgreeOn (deps_at fin k) own new
        agree a h e =
            let n : In a (syms_in (args_with r as')) → ⊥ = λ g. body_not_new a h (rw new_args at g) in
            bind_syms_other (suc d) 0 xs ρ a (body_not-own a h) e
            ∙ sym (bind_syms_other (suc d) 0 (args_with r as') ρ a n e)

        bodies : mean_all (mean fin) (sym_kids fin i) own (suc d) ≡ mean_all (mean fin) (k ∷ []) new (suc d)
        bodies = rw ke
            (ap (λ (u : Unfolded). more u done)
            (coincide fin scs (sym_count st) pre.inv.good k pre.body.low own new agree (suc d)))

  -- ---- a lambda that is made

  module _ (f : Fits fin scs (lam_made st cur sc r as' k)) where
    new : PartsAt fin (sym_count st) (new_sym cur r (k ∷ []) (lam_deps st as' k) (func (args_with r as') sc) st)
    new = push_parts fin scs cur r (k ∷ []) (lam_deps st as' k) true (func (args_with r as') sc) st f

    same_body : (j : ℕ) → In j (k ∷ []) → sym_at st.syms j ≡ sym_at fin j
    same_body j h =
        let e = in_one h in
        let g = push_grows cur r (k ∷ []) (lam_deps st as' k) true (func (args_with r as') sc) st in
        (fits_back fin scs st (lam_made st cur sc r as' k) g f).syms_fit j (omega (arith, pre.body.low))

    -- its deps are its body's but for the arguments
    deps_body : (a : ℕ) → In a (lam_deps st as' k) → In a (deps_at fin k) × (In a as' → ⊥)
    deps_body a h =
        let w = without_cases a (union_deps st.syms (k ∷ [])) as' h in
        let v = union_deps_from fin st.syms (k ∷ []) same_body a w.0 in
        (rw (in_one v.1) at v.2, w.1)

    body_deps : (a : ℕ) → In a (deps_at fin k) → In a (deps_at fin (sym_count st)) ⊎ In a (syms_in (args_with r as'))
    body_deps a h = go (in_or-not a as')
      where
        all : In a (union_deps st.syms (k ∷ []))
        all = union_deps_covers fin st.syms (k ∷ []) same_body k a (inl refl) h

        go : In a as' ⊎ (In a as' → ⊥) → In a (deps_at fin (sym_count st)) ⊎ In a (syms_in (args_with r as'))
        go (inl g) = inr (rw new_args g)
        go (inr g) = inl (rw new.deps_is (without_keeps a (union_deps st.syms (k ∷ [])) as' all g))

    deps_outer : (a : ℕ) → In a (lam_deps st as' k) → In a (arg_syms A)
    deps_outer a h = let w = deps_body a h in body_outer a w.0 w.1

    made_lambda : Lam fin scs (sym_count st) (args_with r as') sc
    made_lambda = record {
      shape_is = ap (λ (z : Rec). z.shape) new.rec_is ∙ pre.lambda_is.shape_is;
      opcode_is = ap (λ (z : Rec). z.opcode) new.rec_is ∙ pre.lambda_is.opcode_is;
      aux_is =
          ap (λ (z : Rec). z.aux) new.rec_is ∙ pre.lambda_is.aux_is
          ∙ sym (with_opts-length (bound_by r) as' pre.many_args);
      aux_low = rw new.rec_is pre.lambda_is.aux_low;
      body = k;
      kids_is = new.kids_is;
      cover = body_deps;
      from = λ a h. (deps_body a (rw new.deps_is at h)).0;
      opts_is = new_opts ∙ ap (λ (z : Rec). opts_in (bound_by z)) (sym new.rec_is);
      valid = rw new_opts pre.lambda_is.valid;
      args_low = λ a h. omega (arith, pre.args_are.low a (rw new_args at h), pre.args_low);
      args_are = λ a h. pre.args_are.nodes a (rw new_args at h);
      once = rw new_args pre.args_are.once;
      scope_is = ap (λ (z : Scope). args_in z.args) pre.scope_is ∙ sym new_args;
      fresh = λ x l ys c e a h g.
          let w = bind_args_new a (bound_by r) as' A pre.many_args (rw new_args at h) in
          (pre.inv.lam_ok x l ys c e).apart w.0 a w.2 g;
      pair = pair_of fin scs st (with_args r as' A) sc k pre.inv pre.body.low;
    }

    made_ok : SymOk fin scs (sym_count st)
    made_ok = record {
      low = λ j h. let e = in_one (rw new.kids_is at h) in omega (arith, pre.body.low);
      deps_low = λ a h.
          let d = (pre.inv.good k pre.body.low).deps_low a (deps_body a (rw new.deps_is at h)).0 in
          omega (arith, pre.body.low);
      node_is = rw new.node_is made_lambda;
    }

    made_rel : LamApart fin scs (scope_count st) A cur (sym_count st) (args_with r as') sc
    made_rel = record {
      scope_low = pre.inv.cur_low;
      closed = λ h.
          let l = out_low scs (scope_count st) pre.inv.chain cur sc left_inv.cur_low h in
          absurd (omega (arith, pre.cur_low));
      apart = λ i a h g. old_not_new i a h (rw new_args at g);
      ids_apart = λ i a j h lj la li. pre.ids i a h (rw new.rec_is at li);
    }

    made_inv : Inv fin scs (lam_made st cur sc r as' k) A cur
    made_inv =
        push_inv fin scs A cur r (k ∷ []) (lam_deps st as' k) true (func (args_with r as') sc) st f left_inv made_ok
        rels (λ e. refl) (λ e. deps_outer)
      where
        rels : (xs : List (ℕ × List ℕ)) (c : ℕ) → func (args_with r as') sc ≡ func xs c →
            LamApart fin scs (scope_count st) A cur (sym_count st) xs c
        rels xs c e =
            let p : args_with r as' ≡ xs = cc in
            let q : sc ≡ c = cc in
            rw (p, q) at made_rel

    made_result : Result fin (sym_count (lam_made st cur sc r as' k)) A (sym_count st)
    made_result = record {
      low = push-more cur r (k ∷ []) (lam_deps st as' k) true (func (args_with r as') sc) st;
      within = λ a h. deps_outer a (rw new.deps_is at h);
    }

    made_mean : LamMean fin r as' k (sym_count st)
    made_mean ρ d =
        mean_lam fin scs (sym_count st) (args_with r as') sc made_ok new.node_is ρ d
        ∙ lam_of_same new.rec_is new_opts
        (ap (λ (z : List ℕ). mean_all (mean fin) z (bind_syms (suc d) 0 (args_with r as') ρ) (suc d)) new.kids_is)

-- ---- found or made

-- the symbol of a lambda whose body is read
pub record LamDone (st st' : State) (A : Args) (cur sc : ℕ) (r : Rec) (as' : List ℕ) (k s : ℕ) : Type 0 where
  pub grows : Grow st st'
  pub keeps : (fin : List Sym) (scs : List Scope) → Fits fin scs st' → BodyRead fin scs st A cur sc r as' k →
      Inv fin scs st' A cur × Result fin (sym_count st') A s × LamMean fin r as' k s

pub finish_lambda : (at cur sc : ℕ) (r : Rec) (k : ℕ) (as' : List ℕ) (st : State) (A : Args) →
    Holds (λ o. LamDone st o.1 A cur sc r as' k o.0) (finish at cur r (k ∷ []) as' (func (args_with r as') sc) st)
finish_lambda at cur sc r k as' st A =
    finish_cases (λ o. LamDone st o.1 A cur sc r as' k o.0) at cur r (k ∷ []) as' (func (args_with r as') sc) st
    (λ i e. record {
      grows = grow_none st;
      keeps = λ fin scs f pre.
          let key = found_key f pre.inv e in
          let v = found_func pre i key.low key.rec_is key.made_is in (
            left_inv pre,
            found_result pre key.low v.2 key.rec_is key.kids_is,
            found_mean pre key.low v.2 key.rec_is key.kids_is,
          );
    })
    (λ e l. record {
      grows = push_grows cur r (k ∷ []) (lam_deps st as' k) true (func (args_with r as') sc) st;
      keeps = λ fin scs f pre. (made_inv pre f, made_result pre f, made_mean pre f);
    })
