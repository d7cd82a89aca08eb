-- Steps from a scope outwards.
-- In order: what a scope's word says; placement; levels that track a fresh argument; ancestors, and where a scope
-- lies. Assumes nothing.
use Prim.Native.Nat.{ℕ, zero, suc, ◌-◌, ◌<◌, ◌≤◌}
use mathlib.Core.Path.{◌≡◌, refl, sym, ap, ◌∙◌, subst}
use mathlib.Core.Bool.{Bool, true, false, not, ◌&&◌}
use mathlib.Core.Logic.{inl, inr}
use Rattle.std.specs.Prelude.{Option, None, Some}
use mathlib.Core.List.{List, [], ◌∷◌}
use native.Mathlib.Omega.{arith}
use borrow.Author.Tests.{eq-eqb, ne_eqb}
use lib.Dec.{eqb, eqb-suc-zero}
use Rattle.model.specs.Lists.{is_in, any_in}
use Rattle.model.specs.Intern.{Scope, State, scope_at, climb, placement}
use Rattle.model.specs.Gate.{Graph}
use Rattle.model.specs.Schedule.{local, deeper, classify}
use Rattle.laws.specs.Members.{In}
use Rattle.laws.proofs.Apart.{true_false, some_none}
use Rattle.scopes.specs.Levels.{has}
use Rattle.laws.specs.Range.{range}
use Rattle.scopes.specs.Scopes.{scope_word, parent_of, first_of, code_of, level_of, args_from, args_in, scopes_of, Nested}
use Rattle.scopes.specs.Scopes.{outward, left_by, lambdas, Tracks, Placed}
use Rattle.scopes.proofs.Laws.{scope_args, scope_around, scope_level, outermost_around}

-- ---- what a scope's word says

stays : (f c : ℕ) (h : Bool) → (not (eqb c 0) && not h) ≡ false → (xs : List ℕ) → args_from f c ≡ Some xs → h ≡ true
stays f zero h e xs a = some_none (sym a)
stays f (suc c) true e xs a = refl
stays f (suc c) false e xs a = true_false (rw eqb-suc-zero at e)

leaves : (f c : ℕ) (h : Bool) → (not (eqb c 0) && not h) ≡ true
    → (h ≡ false) × (args_from f c ≡ Some (range f (c - 1))) × (0 < c)
leaves f zero h e = true_false (sym e)
leaves f (suc c) true e = true_false (sym (rw eqb-suc-zero at e))
leaves f (suc c) false e = let s : suc c - 1 ≡ c = omega arith in (refl, rw s, omega arith)

-- ---- placement

climb_none : (scs : List Scope) (deps : List ℕ) (k : ℕ) (out : List ℕ)
    → (scope_at scs k).args ≡ None → climb scs deps (k ∷ out) ≡ k
unfolding climb
climb_none scs deps k out e = rw (e, climb)

climb_some : (scs : List Scope) (deps : List ℕ) (k : ℕ) (out xs : List ℕ) (b : Bool)
    → (scope_at scs k).args ≡ Some xs → any_in xs deps ≡ b
    → climb scs deps (k ∷ out) ≡ elim b [ true ↦ k | false ↦ climb scs deps out ]
unfolding climb
climb_some scs deps k out xs b e i = rw (e, climb) (rw i)

module _ (ws : List ℕ) (n k : ℕ) (h : Nested ws n) (p : k < n) (levels : ℕ) where
  stay_has : left_by levels (scope_word ws k) ≡ false → (xs : List ℕ) → args_in (scope_word ws k) ≡ Some xs
      → has levels (level_of (scope_word ws k)) ≡ true
  unfolding left_by
  stay_has e = stays (first_of (scope_word ws k)) (code_of (scope_word ws k)) (has levels (level_of (scope_word ws k))) e

  -- the arguments of a lambda that is left, and its number
  abbrev passed_args : List ℕ
  passed_args = range (first_of (scope_word ws k)) (code_of (scope_word ws k) - 1)

  left_says : left_by levels (scope_word ws k) ≡ true
      → (has levels (level_of (scope_word ws k)) ≡ false) × (args_in (scope_word ws k) ≡ Some passed_args)
      × (0 < code_of (scope_word ws k))
  unfolding left_by
  left_says e = leaves (first_of (scope_word ws k)) (code_of (scope_word ws k)) (has levels (level_of (scope_word ws k))) e

  -- a scope that is left is not the outermost
  pub left_inside : left_by levels (scope_word ws k) ≡ true → 0 < k
  left_inside e = inside k (left_says e).2
    where
      inside : (j : ℕ) → 0 < code_of (scope_word ws j) → 0 < j
      inside zero lt = absurd (omega (arith, h.outermost))
      inside (suc j) lt = omega arith

  module _ (m : ℕ) (q : k < m) (deps : List ℕ)
      (t : Tracks (scopes_of ws m) levels deps (outward (scopes_of ws m) k)) where
    tracked : (xs : List ℕ) → args_in (scope_word ws k) ≡ Some xs → has levels (level_of (scope_word ws k)) ≡ any_in xs deps
    tracked xs a = ap (has levels) (scope_level ws m n k h p q) ∙ t.0 xs (scope_args ws m n k h p q ∙ a)

    pub climb_stays : left_by levels (scope_word ws k) ≡ false
        → k ≡ climb (scopes_of ws m) deps (outward (scopes_of ws m) k)
    climb_stays e = go (args_in (scope_word ws k)) refl
      where
        go : (o : Option (List ℕ)) → args_in (scope_word ws k) ≡ o
            → k ≡ climb (scopes_of ws m) deps (outward (scopes_of ws m) k)
        go None a = sym (climb_none (scopes_of ws m) deps k _ (scope_args ws m n k h p q ∙ a))
        go (Some xs) a =
            sym
            (climb_some (scopes_of ws m) deps k _ xs true (scope_args ws m n k h p q ∙ a)
            (sym (tracked xs a) ∙ stay_has e xs a))

    -- one step outwards, where the scope is left
    pub climb_leaves : left_by levels (scope_word ws k) ≡ true
        → Tracks (scopes_of ws m) levels deps (outward (scopes_of ws m) (parent_of (scope_word ws k)))
        × (climb (scopes_of ws m) deps (outward (scopes_of ws m) (parent_of (scope_word ws k)))
        ≡ climb (scopes_of ws m) deps (outward (scopes_of ws m) k))
    climb_leaves e =
        let l = left_says e in
        let a : (scope_at (scopes_of ws m) k).around ≡ outward (scopes_of ws m) (parent_of (scope_word ws k)) =
        scope_around ws m n k h (left_inside e) p q in (
          rw a at t.1,
          sym
              (climb_some (scopes_of ws m) deps k (scope_at (scopes_of ws m) k).around passed_args false
              (scope_args ws m n k h p q ∙ l.1)
              (sym (tracked passed_args l.1) ∙ l.0)
              ∙ ap (λ (out : List ℕ). climb (scopes_of ws m) deps out) a),
        )

-- levels deeper than the scopes, and deps that are arguments of none of them
pub tracks_apart : (scs : List Scope) (levels : ℕ) (deps out : List ℕ) (m : ℕ) → lambdas scs out ≤ m →
    ((j : ℕ) → j ≤ m → has levels j ≡ false) →
    ((s : ℕ) → In s out → (xs : List ℕ) → (scope_at scs s).args ≡ Some xs → any_in xs deps ≡ false) →
    Tracks scs levels deps out
tracks_apart scs levels deps [] m le e f = tt
tracks_apart scs levels deps (s ∷ out) m le e f = (
  λ xs h. e (lambdas scs (s ∷ out)) le ∙ sym (f s (inl refl) xs h),
  tracks_apart scs levels deps out m (omega arith) e (λ c i. f c (inr i)),
)

-- what `placement` answers, as the definition's placement
pub placed : (ws : List ℕ) (m cur levels r : ℕ) (deps : List ℕ) (st : State) → st.scopes ≡ scopes_of ws m → cur < m
    → Tracks st.scopes levels deps (outward st.scopes cur) → Placed ws cur levels r → r ≡ placement st cur deps
unfolding placement
placed ws m cur levels r deps st e lt t p =
    rw e (p m deps lt (subst (λ (scs : List Scope). Tracks scs levels deps (outward scs cur)) e t))

-- ---- ancestors, and where a scope lies

module _ (ws : List ℕ) (anc : ℕ) where
  pub ancestor_none : (m k : ℕ) → k ≤ 0 → 0 < m → false ≡ is_in anc (scope_at (scopes_of ws m) k).around
  unfolding is_in
  ancestor_none m k le lt = let e : k ≡ 0 = omega arith in rw (e, outermost_around ws m lt)

  module _ (n k : ℕ) (h : Nested ws n) (z : 0 < k) (p : k < n) (m : ℕ) (q : k < m) where
    pub ancestor_hit : parent_of (scope_word ws k) ≡ anc → true ≡ is_in anc (scope_at (scopes_of ws m) k).around
    unfolding is_in
    ancestor_hit e = rw (scope_around ws m n k h z p q, eq-eqb anc (parent_of (scope_word ws k)) (sym e))

    pub ancestor_miss : (parent_of (scope_word ws k) ≡ anc → ⊥)
        → is_in anc (scope_at (scopes_of ws m) (parent_of (scope_word ws k))).around
        ≡ is_in anc (scope_at (scopes_of ws m) k).around
    unfolding is_in
    ancestor_miss e =
        rw (scope_around ws m n k h z p q, ne_eqb anc (parent_of (scope_word ws k)) (λ d. e (sym d)))

pub classify_local : (g : Graph) (sc : ℕ) → local ≡ classify g sc sc
unfolding classify
classify_local g sc = rw (eq-eqb sc sc refl, classify)

module _ (g : Graph) (sc cur : ℕ) where
  pub classify_deeper : (sc ≡ cur → ⊥) → is_in cur (scope_at g.scopes sc).around ≡ true
      → deeper ≡ classify g sc cur
  unfolding classify
  classify_deeper n e = rw (ne_eqb sc cur n, classify) (rw e)
