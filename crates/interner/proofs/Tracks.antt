-- Levels track deps that are in force. In order: the level of a scope around another; scopes of one level; tracking.
-- Assumes nothing.
use Prim.Native.Nat.{ℕ, ◌+◌, ◌<◌, ◌≤◌}
use mathlib.Core.Path.{◌≡◌, refl, sym, ap, ◌∙◌, subst}
use mathlib.Core.Logic.{◌⊎◌, inl, inr}
use mathlib.Core.Bool.{Bool, true, false, ◌||◌}
use Rattle.std.specs.Prelude.{Option, None, Some}
use Rattle.std.proofs.lemmas.Option.{same_Some}
use mathlib.Core.List.{List, [], ◌∷◌}
use native.Mathlib.Omega.{arith}
use native.Mathlib.Decide.{dec_lt}
use borrow.Author.Tests.{eq-eqb, ne_eqb}
use Rattle.model.specs.Lists.{is_in, any_in}
use Rattle.model.specs.Intern.{Scope, scope_at, climb}
use Rattle.laws.proofs.Apart.{false_true}
use Rattle.laws.specs.Members.{In, Under}
use Rattle.laws.proofs.Members.{is_in_true, any_in_false}
use Rattle.key.specs.Key.{symbol_at}
use Rattle.scopes.specs.Levels.{has}
use Rattle.scopes.specs.Scopes.{scope_word, parent_of, level_of, args_in, scopes_of, own_level, Nested}
use Rattle.scopes.specs.Scopes.{outward, Tracks, lambdas}
use Rattle.scopes.proofs.Laws.{scope_args, scope_around, scope_level, outermost_around}
use Rattle.scopes.proofs.Laws.{outwards, steps, outward-below}
use Rattle.interner.specs.Levels.{any_has, AtLevel, ArgLevels, Bound, InForce}
use Rattle.interner.proofs.Levels.{any_has_in, any_has_none}

-- a member that two lists share
any_in_true : (xs ys : List ℕ) → any_in xs ys ≡ true → (a : ℕ) × In a xs × In a ys
unfolding any_in
any_in_true [] ys e = false_true e
any_in_true (x ∷ xs) ys e = go (is_in x ys) refl (any_in_true xs ys) e
  where
    go : (b : Bool) → is_in x ys ≡ b → (any_in xs ys ≡ true → (a : ℕ) × In a xs × In a ys) → (b || any_in xs ys) ≡ true →
        (a : ℕ) × In a (x ∷ xs) × In a ys
    go true f rest e = (x, inl refl, is_in_true x ys f)
    go false f rest e = let w = rest e in (w.0, inr w.1, w.2)

module _ (ws : List ℕ) (m : ℕ) (h : Nested ws m) where
  abbrev pub level : ℕ → ℕ
  level k = level_of (scope_word ws k)

  abbrev pub out : ℕ → List ℕ
  out k = outward (scopes_of ws m) k

  -- ---- a scope around another is at its level or a lower one

  level_below : (k c : ℕ) → k < m → In c (out k) → level c ≤ level k
  level_below k c = outwards ws m h (λ k. In c (out k) → level c ≤ level k) (λ k q rest i. elim (steps ws m h k c q i) [
    | inl e ↦ rw e (omega arith)
    | inr p ↦ omega (arith, rest p.0 p.1, h.level k p.0 q)
  ]) k

  -- ---- two lambdas of one level around a scope are the same

  abbrev pub IsLambda : ℕ → Type 0
  IsLambda k = (xs : List ℕ) × (args_in (scope_word ws k) ≡ Some xs)

  pub deeper : (k : ℕ) → 0 < k → k < m → IsLambda k → level k ≡ 1 + level (parent_of (scope_word ws k))
  deeper k z q l =
      h.level k z q ∙ ap (λ (o : Option (List ℕ)). own_level o + level (parent_of (scope_word ws k))) l.1

  pub outside : (k c : ℕ) → k < m → 0 < k → IsLambda k → In c (out (parent_of (scope_word ws k))) → level c < level k
  outside k c q z l i =
      let lt : parent_of (scope_word ws k) < k = h.lower k z q in
      omega (arith, level_below (parent_of (scope_word ws k)) c (omega arith) i, deeper k z q l)

  -- the step of the induction: `rest` where both are around the parent
  once_step : (k c d : ℕ) → k < m → IsLambda c → IsLambda d → level c ≡ level d →
      (c ≡ k) ⊎ ((0 < k) × In c (out (parent_of (scope_word ws k)))) →
      (d ≡ k) ⊎ ((0 < k) × In d (out (parent_of (scope_word ws k)))) →
      (0 < k → In c (out (parent_of (scope_word ws k))) → In d (out (parent_of (scope_word ws k))) → c ≡ d) → c ≡ d
  once_step k c d q lc ld e (inl p) (inl r) rest = p ∙ sym r
  once_step k c d q lc ld e (inl p) (inr r) rest =
      absurd (omega (arith, outside k d q r.0 (subst IsLambda p lc) r.1, ap level p, e))
  once_step k c d q lc ld e (inr p) (inl r) rest =
      absurd (omega (arith, outside k c q p.0 (subst IsLambda r ld) p.1, ap level r, e))
  once_step k c d q lc ld e (inr p) (inr r) rest = rest p.0 p.1 r.1

  level_once : (k c d : ℕ) → k < m → In c (out k) → In d (out k) → IsLambda c → IsLambda d → level c ≡ level d → c ≡ d
  level_once k c d q i j lc ld e =
      outwards ws m h (λ k. In c (out k) → In d (out k) → c ≡ d)
      (λ k q rest i j. once_step k c d q lc ld e (steps ws m h k c q i) (steps ws m h k d q j) rest) k q i j

  -- ---- tracking

  -- what stands in the word of a scope around, in the list of scopes
  pub bound_args : (cur a : ℕ) → cur < m → (b : Bound (scopes_of ws m) cur a) →
      (b.scope < m) × (args_in (scope_word ws b.scope) ≡ Some b.args)
  bound_args cur a q b =
      let lt : b.scope < m = outward-below ws m h cur q b.scope b.around in
      (lt, sym (scope_args ws m m b.scope h lt lt) ∙ b.args_is)

  module _ (n : ℕ) (args : ArgLevels ws n m) (cur : ℕ) (current : cur < m) where
    -- an argument of a scope around is at the level of the scope
    pub bound_level : (a : ℕ) (b : Bound (scopes_of ws m) cur a) → AtLevel ws n (level b.scope) a
    bound_level a b =
        let p = bound_args cur a current b in args b.scope p.0 b.args p.1 a b.member

    module _ (levels : ℕ) (deps : List ℕ) (are : (j : ℕ) → has levels j ≡ any_has ws j deps)
        (forced : InForce (scopes_of ws m) cur deps) where
      -- of the lambda k, one of the scopes from `cur` outwards
      tracks_one : (k : ℕ) → k < m → In k (out cur) → (xs : List ℕ) → args_in (scope_word ws k) ≡ Some xs →
          has levels (level k) ≡ any_in xs deps
      tracks_one k q i xs e = are (level k) ∙ go (any_in xs deps) refl
        where
          other : any_in xs deps ≡ false → (a : ℕ) → In a deps → has (symbol_at ws a).levels (level k) ≡ false
          other f a d =
              let b = forced a d in
              let p = bound_args cur a current b in
              (bound_level a b).one (level k)
              ∙ ne_eqb (level k) (level b.scope)
              (λ r. any_in_false a xs deps f
              (subst (In a) (same b.scope b.args p.1 (level_once cur b.scope k current
              b.around i (b.args, p.1) (xs, e) (sym r))) b.member) d)
            where
              same : (c : ℕ) (ys : List ℕ) → args_in (scope_word ws c) ≡ Some ys → c ≡ k → ys ≡ xs
              same c ys g r =
                  same_Some ys xs (sym g ∙ (ap (λ (z : ℕ). args_in (scope_word ws z)) r ∙ e))

          go : (b : Bool) → any_in xs deps ≡ b → any_has ws (level k) deps ≡ b
          go true f =
              let w = any_in_true xs deps f in
              any_has_in ws (level k) deps w.0 w.2
              ((args k q xs e w.0 w.1).one (level k) ∙ eq-eqb (level k) (level k) refl)
          go false f = any_has_none ws (level k) deps (other f)

      tracks_here : (k : ℕ) → k < m → ((c : ℕ) → In c (out k) → In c (out cur)) → (xs : List ℕ) →
          (scope_at (scopes_of ws m) k).args ≡ Some xs → has levels (lambdas (scopes_of ws m) (out k)) ≡ any_in xs deps
      tracks_here k q sub xs e =
          ap (has levels) (sym (scope_level ws m m k h q q))
          ∙ tracks_one k q (sub k (inl refl)) xs (sym (scope_args ws m m k h q q) ∙ e)

      -- from scope k outwards, where these are among those from `cur`
      tracks_from : (k : ℕ) → k < m → ((c : ℕ) → In c (out k) → In c (out cur)) →
          Tracks (scopes_of ws m) levels deps (out k)
      tracks_from =
          outwards ws m h
          (λ k. ((c : ℕ) → In c (out k) → In c (out cur)) → Tracks (scopes_of ws m) levels deps (out k))
          (λ k q rest sub. (
            tracks_here k q sub,
            elim (dec_lt 0 k) [
              | no z ↦
                  let e : k ≡ 0 = omega arith in
                  let n : (scope_at (scopes_of ws m) k).around ≡ [] = rw e (outermost_around ws m (omega arith)) in
                  rw n tt
              | yes z ↦
                  let n = scope_around ws m m k h z q q in
                  rw n (rest z (λ c i. sub c (inr (rw n i))))
            ],
          ))

      pub tracks_forced : Tracks (scopes_of ws m) levels deps (out cur)
      tracks_forced = tracks_from cur current (λ c i. i)

-- ---- where a symbol is placed is one of the scopes

pub climb_low : (scs : List Scope) (deps out : List ℕ) (m : ℕ) → 0 < m → Under m out → climb scs deps out < m
unfolding climb
climb_low scs deps [] m z h = z
climb_low scs deps (s ∷ out) m z h = go (scope_at scs s).args (climb_low scs deps out m z (λ c i. h c (inr i)))
  where
    turn : (b : Bool) → climb scs deps out < m → elim b [ true ↦ s | false ↦ climb scs deps out ] < m
    turn true r = h s (inl refl)
    turn false r = r

    go : (o : Option (List ℕ)) → climb scs deps out < m →
        elim o [ None ↦ s | Some xs ↦ elim (any_in xs deps) [ true ↦ s | false ↦ climb scs deps out ] ] < m
    go None r = h s (inl refl)
    go (Some xs) r = turn (any_in xs deps) r
