-- The scopes of words. In order: a scope's word and its parts; the scopes by number; the parts of scope k; induction from a
-- scope outwards; its level; the scopes from it outwards.
-- Assumes nothing.
use Prim.Native.Nat.{ℕ, zero, suc, ◌+◌, ◌<◌}
use mathlib.Core.Path.{◌≡◌, refl, sym, ap, ◌∙◌}
use mathlib.Core.Logic.{◌⊎◌, inl, inr}
use mathlib.Core.List.{List, [], ◌∷◌}
use native.Mathlib.Omega.{arith}
use native.Mathlib.Decide.{dec_lt}
use lib.ListN.{length, length-append, get_or-append}
use lib.Seq.{get_or_at}
use Rattle.model.specs.Intern.{Scope, root_scope, scope_at}
use Rattle.laws.specs.Members.{In, Under}
use Rattle.laws.proofs.Induction.{strong}
use Rattle.scopes.specs.Scopes.{scope_word, packed_of, parent_of, first_of, code_of, level_of, args_from, args_in}
use Rattle.scopes.specs.Scopes.{scope_from, scopes_of, Nested, own_level, outward, lambdas}

-- ---- a scope's word and its parts

module _ (parent first code level : ℕ) (p : parent < 4096) (f : first < 512) (c : code < 32) where
  pub packed_parent : parent_of (packed_of parent first code level) ≡ parent
  packed_parent = omega arith

  packed-first : first_of (packed_of parent first code level) ≡ first
  packed-first = omega arith

  packed_code : code_of (packed_of parent first code level) ≡ code
  packed_code = omega arith

  pub packed_level : level_of (packed_of parent first code level) ≡ level
  packed_level = omega arith

  pub packed_args : args_in (packed_of parent first code level) ≡ args_from first code
  packed_args = ap (λ (x : ℕ). args_from x (code_of (packed_of parent first code level))) packed-first
      ∙ ap (λ (x : ℕ). args_from first x) packed_code

-- ---- the scopes by number

pub scopes_length : (ws : List ℕ) (m : ℕ) → length (scopes_of ws m) ≡ m
unfolding scopes_of
scopes_length ws zero = refl
scopes_length ws (suc m) =
    length-append (scopes_of ws m) (scope_from (scopes_of ws m) ws m ∷ []) ∙ omega (arith, scopes_length ws m)

scopes_at : (ws : List ℕ) (m k : ℕ) → k < m → scope_at (scopes_of ws m) k ≡ scope_from (scopes_of ws k) ws k
unfolding scopes_of
scopes_at ws zero k lt = absurd (omega arith)
scopes_at ws (suc m) k lt = elim (dec_lt k m) [
  | yes p ↦
      get_or-append (scopes_of ws m) (scope_from (scopes_of ws m) ws m ∷ []) root_scope k
      (omega (arith, scopes_length ws m))
      ∙ scopes_at ws m k p
  | no p ↦
      let e : k ≡ m = omega arith in
      rw e (get_or_at (scopes_of ws m) (scope_from (scopes_of ws m) ws m) [] root_scope m (scopes_length ws m))
]

-- a scope is the same in a longer list of scopes
pub scopes_more : (ws : List ℕ) (m n k : ℕ) → k < m → k < n → scope_at (scopes_of ws m) k ≡ scope_at (scopes_of ws n) k
scopes_more ws m n k p q = scopes_at ws m k p ∙ sym (scopes_at ws n k q)

-- ---- the parts of scope k

module _ (ws : List ℕ) (m : ℕ) where
  pub outermost_around : 0 < m → (scope_at (scopes_of ws m) 0).around ≡ []
  outermost_around lt = ap (λ (s : Scope). s.around) (scopes_at ws m 0 lt)

  pub scope_args : (n k : ℕ) → Nested ws n → k < n → k < m → (scope_at (scopes_of ws m) k).args ≡ args_in (scope_word ws k)
  scope_args n zero h p q = ap (λ (s : Scope). s.args) (scopes_at ws m 0 q) ∙ sym (ap args_in h.outermost)
  scope_args n (suc k) h p q = ap (λ (s : Scope). s.args) (scopes_at ws m (suc k) q)

  pub scope_around : (n k : ℕ) → Nested ws n → 0 < k → k < n → k < m
      → (scope_at (scopes_of ws m) k).around
      ≡ parent_of (scope_word ws k) ∷ (scope_at (scopes_of ws m) (parent_of (scope_word ws k))).around
  scope_around n zero h z p q = absurd (omega arith)
  scope_around n (suc k) h z p q =
      let w = parent_of (scope_word ws (suc k)) in
      let lt : w < suc k = h.lower (suc k) z p in
      ap (λ (s : Scope). s.around) (scopes_at ws m (suc k) q)
      ∙ ap (λ (s : Scope). w ∷ s.around) (scopes_more ws (suc k) m w lt (omega arith))

-- ---- induction: what holds of a scope if it holds of its parent, where it has one, holds of each

pub outwards : (ws : List ℕ) (n : ℕ) → Nested ws n → (P : ℕ → Type 0) →
    ((k : ℕ) → k < n → (0 < k → P (parent_of (scope_word ws k))) → P k) → (k : ℕ) → k < n → P k
outwards ws n h P step =
    strong (λ k. k < n → P k)
    (λ k rest q. step k q (λ z. let lt = h.lower k z q in rest (parent_of (scope_word ws k)) lt (omega arith)))

-- the level in a scope's word is the number of lambdas from it outwards
pub scope_level : (ws : List ℕ) (m n k : ℕ) → Nested ws n → k < n → k < m →
    level_of (scope_word ws k) ≡ lambdas (scopes_of ws m) (outward (scopes_of ws m) k)
scope_level ws m n k h = outwards ws n h (λ k. k < m → level_of (scope_word ws k) ≡ count k) step k
  where
    count : ℕ → ℕ
    count k = lambdas (scopes_of ws m) (outward (scopes_of ws m) k)

    step : (k : ℕ) → k < n →
        (0 < k → parent_of (scope_word ws k) < m →
        level_of (scope_word ws (parent_of (scope_word ws k))) ≡ count (parent_of (scope_word ws k))) →
        k < m → level_of (scope_word ws k) ≡ count k
    step k p rest q = elim (dec_lt 0 k) [
      | yes z ↦
          let lt = h.lower k z p in
          rw (scope_args ws m n k h p q, scope_around ws m n k h z p q)
          (h.level k z p ∙ ap (λ (x : ℕ). own_level (args_in (scope_word ws k)) + x) (rest z (omega arith)))
      | no z ↦
          let e : k ≡ 0 = omega arith in
          rw (e, scope_args ws m n 0 h (omega arith) (omega arith), outermost_around ws m (omega arith), h.outermost)
    ]

-- ---- the scopes from one outwards

module _ (ws : List ℕ) (m : ℕ) (h : Nested ws m) where
  abbrev out : ℕ → List ℕ
  out k = outward (scopes_of ws m) k

  -- k itself, or those from its parent
  pub steps : (k c : ℕ) → k < m → In c (out k) → (c ≡ k) ⊎ ((0 < k) × In c (out (parent_of (scope_word ws k))))
  steps k c q (inl e) = inl e
  steps k c q (inr i) = elim (dec_lt 0 k) [
    | yes z ↦ inr (z, rw (scope_around ws m m k h z q q) at i)
    | no z ↦
        let e : k ≡ 0 = omega arith in
        let n : (scope_at (scopes_of ws m) k).around ≡ [] = rw e (outermost_around ws m (omega arith)) in
        absurd (rw n at i)
  ]

  pub outward-below : (k : ℕ) → k < m → Under m (out k)
  outward-below = outwards ws m h (λ k. Under m (out k)) (λ k q rest c i. elim (steps k c q i) [
    | inl e ↦ rw e q
    | inr p ↦ rest p.0 c p.1
  ])
