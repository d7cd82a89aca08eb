-- The definition's reading of operands, one after the other.
-- In order: an answer taken apart; symbols and thunks before what is left; thunks noted.
-- Assumes nothing.
use Prim.Native.Nat.{ℕ, suc, ◌+◌, ◌≤◌}
use mathlib.Core.Path.{◌≡◌, refl, sym, ap, ◌∙◌}
use mathlib.Core.Bool.{Bool, true, false, ◌&&◌, ◌||◌}
use mathlib.Core.List.{List, [], ◌∷◌, ◌++◌, append_assoc, append-nil}
use native.Mathlib.Omega.{arith}
use Rattle.std.specs.Prelude.{Result, Ok, Err, IsOk}
use borrow.Author.Tests.{eqb-true, eqb-false}
use lib.Dec.{eqb}
use lib.ListN.{length}
use Rattle.model.specs.Answer.{refused, good, ◌>>=◌}
use Rattle.model.specs.Tree.{Tree, Trees, nil, cons, size}
use Rattle.model.specs.Intern.{State, Env, Out, Outs, bind_def, thunked, intern_scoped, branch, intern, intern_all}
use Rattle.laws.proofs.Members.{clash}
use Rattle.refusal.specs.declared.Refusal.{Refusal}
use Rattle.symbols.specs.Words.{pending_from}
use Rattle.tables.specs.declared.Tables.{Tables}
use Rattle.interner.specs.State.{abs_of}
use Rattle.interner.specs.Step.{refusal_of, outcome_of}
use Rattle.key.specs.declared.Branches.{Branches}
use Rattle.key.specs.declared.Branches.TheVariants.{Zero, One, Two}
use Rattle.key.specs.Key.{branches_of}
use Rattle.concluding.specs.Concluding.{Branched}
use Rattle.standing.proofs.Next.{thunked-not}
use Rattle.intern.specs.Steps.{KidsStep}
use Rattle.intern.specs.Steps.{one_more, noted}
use Rattle.intern.specs.Intern.{kids_answer, kids_of}

-- ---- an answer taken apart

module _ (bs ws : List ℕ) (t : Tables) (held count : ℕ) (k : KidsStep) where
  pub kids_good : IsOk k.outcome → kids_of bs ws t held count k ≡ kids_answer bs ws t held count k
  unfolding kids_of
  kids_good e = go k.outcome e
    where
      go : (o : Result Unit Refusal) → IsOk o →
          outcome_of (λ _. (pending_from ws held count, branches_of k.branches, abs_of bs ws t k.st)) o
          ≡ kids_answer bs ws t held count k
      go (Ok u) e = refl
      go (Err x) e = cc

  pub kids_refused : {x : Refusal} → k.outcome ≡ Err x → kids_of bs ws t held count k ≡ refusal_of x
  unfolding kids_of
  kids_refused e = rw e

-- ---- symbols and thunks before what is left

unfoldable pub after : List ℕ → List ℕ → Outs → Outs
after xs brs m = do
  os ← m
  good (xs ++ os.0, brs ++ os.1, os.2)

pub after_none : (m : Outs) → after [] [] m ≡ m
unfolding after ◌>>=◌
after_none (refused n p) = refl
after_none (good os) = refl

-- one more of each
after_one : (xs brs : List ℕ) (s sc : ℕ) (b : Bool) (m : Outs) →
    ◌≡◌ {A = Outs} (after xs brs (m >>= (λ os. good (s ∷ os.0, branch b sc os.1, os.2))))
    (after (xs ++ (s ∷ [])) (brs ++ branch b sc []) m)
unfolding after ◌>>=◌
after_one xs brs s sc b (refused n p) = refl
after_one xs brs s sc true (good os) = rw (append_assoc xs (s ∷ []) os.0, append_assoc brs (sc ∷ []) os.1)
after_one xs brs s sc false (good os) = rw (append_assoc xs (s ∷ []) os.0, append-nil brs)

pub after_same : (op cur : ℕ) {xs xs' brs brs' : List ℕ} {ts ts' : Trees} {j j' at at' : ℕ} {env env' : Env}
    {st st' : State} → xs' ≡ xs → brs' ≡ brs → ts' ≡ ts → j' ≡ j → at' ≡ at → env' ≡ env → st' ≡ st →
    after xs' brs' (intern_all ts' op j' at' cur env' st') ≡ after xs brs (intern_all ts op j at cur env st)
after_same op cur a b c d e f g = cc

module _ (xs brs : List ℕ) (op j at cur : ℕ) (env : Env) (st : State) where
  pub after-end : after xs brs (intern_all nil op j at cur env st) ≡ good (xs, brs, st)
  unfolding after ◌>>=◌ intern_all
  after-end = rw (append-nil xs, append-nil brs)

  module _ (t : Tree) (ts : Trees) where
    -- what follows the first of them
    abbrev onward : Out → Outs
    onward z = do
      o ← z
      os ← intern_all ts op (suc j) (at + size t) cur (bind_def t o.0 env) o.1
      good (o.0 ∷ os.0, branch (thunked op j) (length st.scopes) os.1, os.2)

    pub after_turn : (o : ℕ × State) → intern_scoped (thunked op j) cur (λ c s. intern t at c env s) st ≡ good o →
        after xs brs (intern_all (cons t ts) op j at cur env st)
        ≡ after (xs ++ (o.0 ∷ [])) (brs ++ branch (thunked op j) (length st.scopes) [])
        (intern_all ts op (suc j) (at + size t) cur (bind_def t o.0 env) o.1)
    unfolding intern_all ◌>>=◌
    after_turn o e =
        ap (λ (z : Out). after xs brs (onward z)) e
        ∙ after_one xs brs o.0 (length st.scopes) (thunked op j)
        (intern_all ts op (suc j) (at + size t) cur (bind_def t o.0 env) o.1)

    pub after_refused : (n p : ℕ) → intern_scoped (thunked op j) cur (λ c s. intern t at c env s) st ≡ refused n p →
        after xs brs (intern_all (cons t ts) op j at cur env st) ≡ refused n p
    unfolding after intern_all ◌>>=◌
    after_refused n p e = ap (λ (z : Out). after xs brs (onward z)) e

-- ---- thunks noted

-- of so many branches after j operands: operands 1 and 2 alone have thunks
pub record Thunks (j count : ℕ) : Type 0 where
  pub none_first : j ≤ 1 → count ≡ 0
  pub one_then : j ≤ 2 → count ≤ 1

-- an opcode that has thunks has one at operand 1
pub thunked-first : (op j : ℕ) → thunked op j ≡ true → thunked op 1 ≡ true
unfolding thunked
thunked-first op j h = go (eqb op 0x95) (eqb op 0xED || eqb op 0xEC) (eqb j 1) (eqb j 2) h
  where
    go : (a b c d : Bool) → (a && (c || d)) || (b && c) ≡ true → (a && true) || (b && true) ≡ true
    go true b c d e = refl
    go false true c d e = refl
    go false false c d e = e

-- opcode 00 has none
pub none_thunked : (j : ℕ) → thunked 0 j ≡ true → ⊥
unfolding thunked
none_thunked j h = let z : ◌≡◌ {A = ℕ} 0 1 = cc in omega arith

thunked_place : (op j : ℕ) → thunked op j ≡ true → (1 ≤ j) × (j ≤ 2)
thunked_place op j h = go (eqb j 1) (eqb j 2) refl refl
  where
    go : (a b : Bool) → eqb j 1 ≡ a → eqb j 2 ≡ b → (1 ≤ j) × (j ≤ 2)
    go true b e f = (omega (arith, eqb-true j 1 e), omega (arith, eqb-true j 1 e))
    go false true e f = (omega (arith, eqb-true j 2 f), omega (arith, eqb-true j 2 f))
    go false false e f =
        absurd (clash (thunked op j) h (thunked-not op j (eqb-false j 1 e) (eqb-false j 2 f)))

-- how many thunks there are
abbrev pub thunk_count : Branches → ℕ
thunk_count Zero = 0
thunk_count (One a) = 1
thunk_count (Two a b) = 2

pub noted_list : (b : Branches) (scope : ℕ) (t : Bool) → (t ≡ true → thunk_count b ≤ 1) →
    branches_of (noted t b scope) ≡ branches_of b ++ branch t scope []
noted_list Zero scope true h = refl
noted_list (One a) scope true h = refl
noted_list (Two a b) scope true h = absurd (omega (arith, h refl))
noted_list b scope false h = sym (append-nil (branches_of b))

pub noted_branched : (b : Branches) (scope : ℕ) (t : Bool) → Branched b → scope ≤ 2049 → Branched (noted t b scope)
noted_branched Zero scope true h l = omega arith
noted_branched (One a) scope true h l = (h, omega arith)
noted_branched (Two a b) scope true h l = (h.0, omega arith)
noted_branched b scope false h l = h

one-count : (b : Branches) (scope : ℕ) → thunk_count b ≤ 1 → thunk_count (one_more b scope) ≡ thunk_count b + 1
one-count Zero scope l = refl
one-count (One a) scope l = refl
one-count (Two a b) scope l = absurd (omega arith)

pub noted-thunks : (b : Branches) (scope op j : ℕ) (t : Bool) → t ≡ thunked op j → Thunks j (thunk_count b) →
    Thunks (suc j) (thunk_count (noted t b scope))
noted-thunks b scope op j false e h = record {
  none_first = λ l. h.none_first (omega arith);
  one_then = λ l. omega (arith, h.none_first (omega arith));
}
noted-thunks b scope op j true e h =
    let c = one-count b scope (h.one_then (thunked_place op j (sym e)).1) in
    record {
      none_first = λ l. absurd (omega (arith, (thunked_place op j (sym e)).0));
      one_then = λ l. omega (arith, c, h.none_first (omega arith));
    }

pub thunk_few : (b : Branches) (op j : ℕ) (t : Bool) → t ≡ thunked op j → Thunks j (thunk_count b) → t ≡ true →
    thunk_count b ≤ 1
thunk_few b op j t e h f = h.one_then (thunked_place op j (sym e ∙ f)).1
