-- Arguments in force, as states grow and scopes open.
-- In order: what is in force stays so in a later state (`bound_later`); the deps of some results (`union_forced`);
-- in a scope that opens what is around it stays in force (`bound-inside`), and its own arguments are (`bound-own`).
-- Assumes nothing.
use mathlib.Core.Path.{◌≡◌, refl, ap, subst, sym, ◌∙◌}
use mathlib.Core.Logic.{inl, inr}
use mathlib.Core.Bool.{Bool, true, false}
use Rattle.std.specs.Prelude.{Option, Some}
use mathlib.Core.List.{List, [], ◌∷◌}
use Prim.Native.Nat.{ℕ, ◌<◌}
use lib.Dec.{ltb}
use lib.ListN.{length, get_or-eq_default}
use lib.Seq.{get_or-append_seam}
use borrow.Author.Tests.{ltb-true, ltb-false}
use Rattle.model.specs.Intern.{Scope, State, root_scope, scope_at, union_deps, open_scope}
use Rattle.laws.proofs.Apart.{none_some}
use Rattle.laws.specs.Members.{In, Every}
use Rattle.interner.specs.Levels.{Bound, InForce}
use Rattle.theory.specs.Good.{scope_count}
use Rattle.theory.specs.Inv.{Grow}
use Rattle.theory.proofs.Interning.Push.{union_deps_from}
use Rattle.theory.proofs.Interning.Scopes.{open_grows}
use Rattle.standing.specs.Standing.{Result}

-- ---- later states

-- what has arguments is a scope
lambda_low : (scs : List Scope) (b : ℕ) (xs : List ℕ) → (scope_at scs b).args ≡ Some xs → b < length scs
lambda_low scs b xs e = go (ltb b (length scs)) refl
  where
    go : (t : Bool) → ltb b (length scs) ≡ t → b < length scs
    go true f = ltb-true b (length scs) f
    go false f =
        let None = get_or-eq_default scs root_scope (ltb-false b (length scs) f) in
        none_some (sym (ap (λ (z : Scope). z.args) None) ∙ e)

args_later : {st st' : State} (b : ℕ) {xs : List ℕ} → Grow st st' → (scope_at st.scopes b).args ≡ Some xs →
    (scope_at st'.scopes b).args ≡ Some xs
args_later {st} b {xs} g e =
    subst (λ (z : Scope). z.args ≡ Some xs) (g.same_scopes b (lambda_low st.scopes b xs e)) e

pub bound_later : {st st' : State} {cur a : ℕ} → Grow st st' → cur < scope_count st → Bound st.scopes cur a →
    Bound st'.scopes cur a
bound_later {cur} g l b = record {
  scope = b.scope;
  around = subst (λ (z : Scope). In b.scope (cur ∷ z.around)) (g.same_scopes cur l) b.around;
  args = b.args;
  args_is = args_later b.scope g b.args_is;
  member = b.member;
}

-- ---- deps

pub union_forced : (st : State) (cur : ℕ) (ks : List ℕ) → Every (Result st cur) ks →
    InForce st.scopes cur (union_deps st.syms ks)
union_forced st cur ks h a k =
    let w = union_deps_from st.syms st.syms ks (λ i m. refl) a k in
    (h w.0 w.1).forced a w.2

-- ---- scopes that open

module _ (cur : ℕ) (o : Option (List ℕ)) (ts : List (List ℕ)) (st : State) where
  new_is : scope_at (open_scope cur o ts st).scopes (scope_count st) ≡
      record { around = cur ∷ (scope_at st.scopes cur).around; args = o }
  new_is = get_or-append_seam st.scopes _ [] root_scope

  pub bound-inside : (a : ℕ) → Bound st.scopes cur a → Bound (open_scope cur o ts st).scopes (scope_count st) a
  bound-inside a b = record {
    scope = b.scope;
    around = inr (subst (λ (z : Scope). In b.scope z.around) (sym new_is) b.around);
    args = b.args;
    args_is = args_later b.scope (open_grows cur o ts st) b.args_is;
    member = b.member;
  }

pub bound-own : (cur : ℕ) (xs : List ℕ) (ts : List (List ℕ)) (st : State) (a : ℕ) → In a xs →
    Bound (open_scope cur (Some xs) ts st).scopes (scope_count st) a
bound-own cur xs ts st a k = record {
  scope = scope_count st;
  around = inl refl;
  args = xs;
  args_is = ap (λ (z : Scope). z.args) (new_is cur (Some xs) ts st);
  member = k;
}
