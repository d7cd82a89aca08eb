-- Checks in their order: `checked` gives the value exactly where every check passes, and else the first check that
-- fails.
-- In order: every check passes, or one is first to fail; what a check that fails says; checks that fail exactly where a
-- condition holds: all pass exactly where none holds, and the first to fail is the first that holds. Acceptance uses the
-- first, the statement of demand 3 all.
-- Assumes nothing.
use mathlib.Core.Path.{◌≡◌, refl, sym, ◌∙◌, subst}
use mathlib.Core.Logic.{◌⊎◌, inl, inr, ◌↔◌}
use mathlib.Core.Bool.{false}
use Rattle.std.specs.Prelude.{Option, None, Some}
use mathlib.Core.List.{List, [], ◌∷◌, ◌++◌, map}
use Prim.Native.Nat.{ℕ}
use Rattle.model.specs.Lists.{is_in, twice}
use Rattle.model.specs.Answer.{Answer, refused, good, unless, checked}
use Rattle.model.specs.Conditions.{Before}
use Rattle.laws.proofs.Apart.{none_some, refused_good, good_inj}
use Rattle.laws.specs.Members.{In}
use Rattle.laws.proofs.Members.{is_in_true, in_is_in, is_in_false, or_neither}

-- ---- every check passes, or one is first to fail

-- for tuples as long as a list of checks
pub ◌also◌ : {A B : Type 0} → A → B → A × B
◌also◌ a b = (a, b)

infixr 5 ◌also◌
-- a number and the place where its check fails, if it does
abbrev pub Check : Type 0
Check = ℕ × Option ℕ

-- every check passes
abbrev pub Passes : List Check → Type 0
Passes [] = Unit {0}
Passes (c ∷ cs) = (c.1 ≡ None) × Passes cs

-- the first check that fails is n, at place p
abbrev pub FirstAt : ℕ → ℕ → List Check → Type 0
FirstAt n p [] = ⊥
FirstAt n p (c ∷ cs) = ((c.0 ≡ n) × (c.1 ≡ Some p)) ⊎ ((c.1 ≡ None) × FirstAt n p cs)

pub passes_or-first : (cs : List Check) → Passes cs ⊎ ((n : ℕ) × (p : ℕ) × FirstAt n p cs)
passes_or-first [] = inl tt
passes_or-first (c ∷ cs) = go c.1 refl (passes_or-first cs)
  where
    go : (o : Option ℕ) → c.1 ≡ o → Passes cs ⊎ ((n : ℕ) × (p : ℕ) × FirstAt n p cs) →
        Passes (c ∷ cs) ⊎ ((n : ℕ) × (p : ℕ) × FirstAt n p (c ∷ cs))
    go (Some p) e rest = inr (c.0, p, inl (refl, e))
    go None e (inl h) = inl (e, h)
    go None e (inr f) = inr (f.0, f.1, inr (e, f.2))

pub passes_split : (cs ds : List Check) → Passes (cs ++ ds) → Passes cs × Passes ds
passes_split [] ds h = (tt, h)
passes_split (c ∷ cs) ds h = let w = passes_split cs ds h.1 in ((h.0, w.0), w.1)

pub first_split : (n p : ℕ) (cs ds : List Check) → FirstAt n p (cs ++ ds) →
    FirstAt n p cs ⊎ (Passes cs × FirstAt n p ds)
first_split n p [] ds f = inr (tt, f)
first_split n p (c ∷ cs) ds (inl h) = inl (inl h)
first_split n p (c ∷ cs) ds (inr h) = go (first_split n p cs ds h.1)
  where
    go : FirstAt n p cs ⊎ (Passes cs × FirstAt n p ds) → FirstAt n p (c ∷ cs) ⊎ (Passes (c ∷ cs) × FirstAt n p ds)
    go (inl f) = inl (inr (h.0, f))
    go (inr w) = inr ((h.0, w.0), w.1)

module _ {A : Type 0} where
  -- a value behind a check
  unless_good : (n : ℕ) (o : Option ℕ) (a : Answer A) (x : A) → unless n o a ≡ good x → (o ≡ None) × (a ≡ good x)
  unfolding unless
  unless_good n None a x e = (refl, e)
  unless_good n (Some i) a x e = refused_good e

  pub checked_good : (cs : List Check) (a x : A) → checked cs a ≡ good x → Passes cs × (a ≡ x)
  unfolding checked
  checked_good [] a x e = (tt, good_inj e)
  checked_good (c ∷ cs) a x e =
      let w = unless_good c.0 c.1 (checked cs a) x e in
      let v = checked_good cs a x w.1 in
      ((w.0, v.0), v.1)

  pub passes_checked : (cs : List Check) (a : A) → Passes cs → checked cs a ≡ good a
  unfolding checked unless
  passes_checked [] a h = refl
  passes_checked (c ∷ cs) a h = rw h.0 (passes_checked cs a h.1)

  pub first-checked : (n p : ℕ) (cs : List Check) (a : A) → FirstAt n p cs → checked cs a ≡ refused n p
  unfolding checked unless
  first-checked n p [] a f = absurd f
  first-checked n p (c ∷ cs) a (inl h) = rw (h.1, h.0) refl
  first-checked n p (c ∷ cs) a (inr h) = rw h.0 (first-checked n p cs a h.1)

-- ---- what a check that fails says

-- P holds of the number and the place of each check that fails, once the checks before it pass
abbrev pub Says : (ℕ → ℕ → Type 0) → List Check → Type 0
Says P [] = Unit {0}
Says P (c ∷ cs) = ((p : ℕ) → c.1 ≡ Some p → P c.0 p) × (c.1 ≡ None → Says P cs)

-- a check of which something is known whatever the checks before it find
pub ◌next◌ : {A B C : Type 0} → A → B → A × (C → B)
◌next◌ a b = (a, λ _. b)

infixr 5 ◌next◌
pub first_says : (P : ℕ → ℕ → Type 0) (cs : List Check) → Says P cs → (n p : ℕ) → FirstAt n p cs → P n p
first_says P [] x n p f = absurd f
first_says P (c ∷ cs) x n p (inl h) = subst (λ (k : ℕ). P k p) h.0 (x.0 p h.1)
first_says P (c ∷ cs) x n p (inr h) = first_says P cs (x.1 h.0) n p h.1

-- ---- checks that fail exactly where a condition holds

-- the checks' numbers, in their order
abbrev pub numbering : List Check → List ℕ
numbering cs = map (λ c. c.0) cs

-- each check fails at a place exactly where P holds of its number and the place, once the checks before it pass
abbrev pub Exact : (ℕ → ℕ → Type 0) → List Check → Type 0
Exact P [] = Unit {0}
Exact P (c ∷ cs) = ((p : ℕ) → (c.1 ≡ Some p) ↔ P c.0 p) × (c.1 ≡ None → Exact P cs)

pub first_in : (n p : ℕ) (cs : List Check) → FirstAt n p cs → In n (numbering cs)
first_in n p [] f = absurd f
first_in n p (c ∷ cs) (inl h) = inl (sym h.0)
first_in n p (c ∷ cs) (inr h) = inr (first_in n p cs h.1)

-- where m stands before n, n is in the list
before_in : (m n : ℕ) (ks : List ℕ) → Before m n ks → In n ks
before_in m n [] b = absurd b
before_in m n (k ∷ ks) (inl h) = inr (is_in_true n ks h.1)
before_in m n (k ∷ ks) (inr b) = inr (before_in m n ks b)

module _ (P : ℕ → ℕ → Type 0) where
  pub exact_append : (cs ds : List Check) → Exact P cs → (Passes cs → Exact P ds) → Exact P (cs ++ ds)
  exact_append [] ds x y = y tt
  exact_append (c ∷ cs) ds x y = (x.0, λ e. exact_append cs ds (x.1 e) (λ h. y (e, h)))

  -- what holds, though all pass, has another number
  pub passes_none : (cs : List Check) → Exact P cs → Passes cs → (n p : ℕ) → In n (numbering cs) → P n p → ⊥
  passes_none [] x h n p i a = i
  passes_none (c ∷ cs) x h n p (inl e) a =
      none_some (sym h.0 ∙ (x.0 p).1 (subst (λ (k : ℕ). P k p) e a))
  passes_none (c ∷ cs) x h n p (inr i) a = passes_none cs (x.1 h.0) h.1 n p i a

  pub exact_says : (cs : List Check) → Exact P cs → Says P cs
  exact_says [] x = tt
  exact_says (c ∷ cs) x = (λ p e. (x.0 p).0 e, λ e. exact_says cs (x.1 e))

  -- what holds stands behind the first to fail, where no number is in the list twice
  none_before : (cs : List Check) → Exact P cs → twice (numbering cs) ≡ false → (n p m q : ℕ) → FirstAt n p cs →
      Before m n (numbering cs) → P m q → ⊥
  unfolding twice
  none_before [] x once n p m q f b a = f
  none_before (c ∷ cs) x once n p m q (inl h) b a = later b
    where
      not_again : In n (numbering cs) → ⊥
      not_again i =
          is_in_false c.0 (numbering cs) (or_neither _ (twice (numbering cs)) once).0
          (subst (λ (k : ℕ). In k (numbering cs)) (sym h.0) i)

      later : Before m n (numbering (c ∷ cs)) → ⊥
      later (inl b) = not_again (is_in_true n (numbering cs) b.1)
      later (inr b) = not_again (before_in m n (numbering cs) b)
  none_before (c ∷ cs) x once n p m q (inr h) (inl b) a =
      none_some (sym h.0 ∙ (x.0 q).1 (subst (λ (k : ℕ). P k q) (sym b.0) a))
  none_before (c ∷ cs) x once n p m q (inr h) (inr b) a =
      none_before cs (x.1 h.0) (or_neither (is_in c.0 (numbering cs)) _ once).1 n p m q h.1 b a

  -- what holds, with none before it, is the first to fail
  only_first : (cs : List Check) → Exact P cs → (n p m q : ℕ) → FirstAt m q cs → In n (numbering cs) → P n p →
      ((k z : ℕ) → Before k n (numbering cs) → P k z → ⊥) → FirstAt n p cs
  only_first [] x n p m q f i a least = f
  only_first (c ∷ cs) x n p m q f (inl e) a least = inl (sym e, (x.0 p).1 (subst (λ (k : ℕ). P k p) e a))
  only_first (c ∷ cs) x n p m q (inl h) (inr i) a least =
      absurd (least c.0 q (inl (refl, in_is_in n _ i)) ((x.0 q).0 h.1))
  only_first (c ∷ cs) x n p m q (inr h) (inr i) a least =
      inr (h.0, only_first cs (x.1 h.0) n p m q h.1 i a (λ k z b. least k z (inr b)))

  -- no two checks have one number, and P holds of none but their numbers
  module _ (cs : List Check) (exact : Exact P cs) (once : twice (numbering cs) ≡ false)
      (known : (n p : ℕ) → P n p → In n (numbering cs)) where
    pub passes_exactly : Passes cs ↔ ((n p : ℕ) → P n p → ⊥)
    passes_exactly = (λ h n p a. passes_none cs exact h n p (known n p a) a, λ h. go h (passes_or-first cs))
      where
        go : ((n p : ℕ) → P n p → ⊥) → Passes cs ⊎ ((n : ℕ) × (p : ℕ) × FirstAt n p cs) → Passes cs
        go h (inl w) = w
        go h (inr (n, p, f)) = absurd (h n p (first_says P cs (exact_says cs exact) n p f))

    pub first_exactly : (n p : ℕ) →
        FirstAt n p cs ↔ (P n p × ((m q : ℕ) → Before m n (numbering cs) → P m q → ⊥))
    first_exactly n p = (
      λ f. (first_says P cs (exact_says cs exact) n p f, λ m q. none_before cs exact once n p m q f),
      λ h. go h (passes_or-first cs),
    )
      where
        go : P n p × ((m q : ℕ) → Before m n (numbering cs) → P m q → ⊥) →
            Passes cs ⊎ ((m : ℕ) × (q : ℕ) × FirstAt m q cs) → FirstAt n p cs
        go h (inl w) = absurd (passes_exactly.0 w n p h.0)
        go h (inr (m, q, f)) = only_first cs exact n p m q f (known n p h.0) h.0 h.1
