-- What is reached from a root. In order: what is seen is reached; a property of what is seen that children take over
-- holds of all that is reached. Where children are lower: a step of `reach` adds lower symbols only; children of what is
-- reached are reached.
-- Assumes nothing.
use Prim.Native.Nat.{ℕ, zero, suc, ◌<◌, ◌≤◌}
use mathlib.Core.Path.{◌≡◌, refl}
use mathlib.Core.Bool.{Bool, true, false}
use mathlib.Core.Logic.{◌⊎◌, inl, inr, ⊎_elim}
use mathlib.Core.List.{List, [], ◌∷◌}
use native.Mathlib.Omega.{arith}
use native.Mathlib.Nat.{eq-or-lt_of_le}
use Rattle.model.specs.Lists.{is_in, union}
use Rattle.model.specs.Intern.{Sym, sym_at}
use Rattle.model.specs.Gate.{reach}
use Rattle.laws.specs.Members.{In, Every, Under}
use Rattle.laws.proofs.Members.{is_in_true, is_in_false, not_in_is_in, union_left, union_right, union_cases}
use Rattle.laws.proofs.Walks.{if_holds}

module _ (ss : List Sym) where
  pub reach_keeps : (m : ℕ) (seen : List ℕ) (a : ℕ) → In a seen → In a (reach ss m seen)
  unfolding reach
  reach_keeps zero seen a h = h
  reach_keeps (suc m) seen a h =
      if_holds (In a) (is_in m seen) _ _
      (reach_keeps m (union seen (sym_at ss m).kids) a (union_left a seen (sym_at ss m).kids h)) (reach_keeps m seen a h)

  pub reach_every : (P : ℕ → Type 0) → ((t : ℕ) → P t → Every P (sym_at ss t).kids) → (m : ℕ) (seen : List ℕ) →
      Every P seen → Every P (reach ss m seen)
  unfolding reach
  reach_every P down zero seen h = h
  reach_every P down (suc m) seen h =
      go (is_in m seen) refl (reach_every P down m (union seen (sym_at ss m).kids)) (reach_every P down m seen h)
    where
      go : (t : Bool) → is_in m seen ≡ t →
          (Every P (union seen (sym_at ss m).kids) → Every P (reach ss m (union seen (sym_at ss m).kids))) →
          Every P (reach ss m seen) →
          Every P (elim t [ true ↦ reach ss m (union seen (sym_at ss m).kids) | false ↦ reach ss m seen ])
      go true e x y =
          x (λ a i. ⊎_elim (h a) (down m (h m (is_in_true m seen e)) a) (union_cases a seen (sym_at ss m).kids i))
      go false e x y = y

  -- where children are lower
  module _ (n : ℕ) (low : (t : ℕ) → t < n → Under t (sym_at ss t).kids) where
    reach_adds : (m : ℕ) → m ≤ n → (seen : List ℕ) (a : ℕ) → In a (reach ss m seen) → In a seen ⊎ (a < m)
    unfolding reach
    reach_adds zero l seen a h = inl h
    reach_adds (suc m) l seen a h =
        if_holds (λ (xs : List ℕ). In a xs → In a seen ⊎ (a < suc m)) (is_in m seen) _ _
        (λ k. more (reach_adds m (omega arith) (union seen (sym_at ss m).kids) a k))
        (λ k. up (reach_adds m (omega arith) seen a k)) h
      where
        up : In a seen ⊎ (a < m) → In a seen ⊎ (a < suc m)
        up (inl i) = inl i
        up (inr k) = inr (omega arith)

        both : In a seen ⊎ In a (sym_at ss m).kids → In a seen ⊎ (a < suc m)
        both (inl i) = inl i
        both (inr i) = inr (omega (arith, low m (omega arith) a i))

        more : In a (union seen (sym_at ss m).kids) ⊎ (a < m) → In a seen ⊎ (a < suc m)
        more (inl i) = both (union_cases a seen (sym_at ss m).kids i)
        more (inr k) = inr (omega arith)

    -- what is not seen before its turn is not reached
    pub reach_misses : (m : ℕ) → m < n → (seen : List ℕ) → is_in m seen ≡ false → is_in m (reach ss m seen) ≡ false
    reach_misses m l seen e =
        not_in_is_in m (reach ss m seen) (λ i. none (reach_adds m (omega arith) seen m i))
      where
        none : In m seen ⊎ (m < m) → ⊥
        none (inl i) = is_in_false m seen e i
        none (inr k) = omega arith

    pub reach-under : (root : ℕ) → root < n → Under (suc root) (reach ss (suc root) (root ∷ []))
    reach-under root l a i = below (reach_adds (suc root) l (root ∷ []) a i)
      where
        below : In a (root ∷ []) ⊎ (a < suc root) → a < suc root
        below (inl (inl e)) = omega arith
        below (inl (inr h)) = absurd h
        below (inr k) = k

    -- children of what is reached
    pub reach_closed : (m : ℕ) → m ≤ n → (seen : List ℕ) (t k : ℕ) → t < m → In t (reach ss m seen) →
        In k (sym_at ss t).kids → In k (reach ss m seen)
    unfolding reach
    reach_closed zero l seen t k lt i j = absurd (omega arith)
    reach_closed (suc m) l seen t k lt i j =
        let le : t ≤ m = omega arith in
        ⊎_elim (λ e. last e (is_in m seen) refl i)
        (λ lo. if_holds (λ (xs : List ℕ). In t xs → In k xs) (is_in m seen) _ _
        (λ x. reach_closed m (omega arith) (union seen (sym_at ss m).kids) t k lo x j)
        (λ x. reach_closed m (omega arith) seen t k lo x j) i) (eq-or-lt_of_le le)
      where
        more : List ℕ
        more = reach ss m (union seen (sym_at ss m).kids)

        last : t ≡ m → (b : Bool) → is_in m seen ≡ b → In t (elim b [ true ↦ more | false ↦ reach ss m seen ]) →
            In k (elim b [ true ↦ more | false ↦ reach ss m seen ])
        last e true f x =
            reach_keeps m (union seen (sym_at ss m).kids) k (union_right k seen (sym_at ss m).kids (rw e at j))
        last e false f x =
            absurd (is_in_false m (reach ss m seen) (reach_misses m (omega arith) seen f) (rw e at x))
