-- The slots of the symbols that a root reaches, each once, are counted by going through the numbers below a bound.
-- In order: sums over a list; slots.
-- Assumes nothing.
use Prim.Native.Nat.{ℕ, zero, suc, ◌+◌, ◌<◌, ◌≤◌}
use mathlib.Core.Path.{◌≡◌, refl, sym, ◌∙◌}
use mathlib.Core.Bool.{Bool, true, false}
use mathlib.Core.Logic.{inl, inr, ⊎_elim}
use mathlib.Core.List.{List, [], ◌∷◌}
use native.Mathlib.Omega.{arith}
use native.Mathlib.Nat.{eq-or-lt_of_le}
use borrow.Author.Tests.{eq-eqb, ne_eqb}
use Rattle.model.specs.Lists.{is_in, count}
use Rattle.model.specs.Intern.{Sym, sym_at}
use Rattle.model.specs.Gate.{reach, slots_of}
use Rattle.laws.specs.Members.{Once, Under}
use Rattle.laws.proofs.Members.{not_in_is_in}
use Rattle.laws.proofs.Once.{reach_once, count-append}
use Rattle.laws.proofs.Reached.{reach-under}

-- ---- sums over a list, and over the numbers below m that are in it

abbrev pub pick : Bool → ℕ → ℕ
pick true n = n
pick false n = 0

abbrev pub total : (ℕ → ℕ) → List ℕ → ℕ → ℕ
total w xs zero = 0
total w xs (suc m) = pick (is_in m xs) (w m) + total w xs m

abbrev sum : (ℕ → ℕ) → List ℕ → ℕ
sum w [] = 0
sum w (x ∷ xs) = w x + sum w xs

module _ (w : ℕ → ℕ) where
  total-nil : (m : ℕ) → total w [] m ≡ 0
  unfolding is_in
  total-nil zero = refl
  total-nil (suc m) = omega (arith, total-nil m)

  module _ (x : ℕ) (xs : List ℕ) where
    in_others : (m : ℕ) → (m ≡ x → ⊥) → is_in m (x ∷ xs) ≡ is_in m xs
    unfolding is_in
    in_others m h = rw (ne_eqb m x h)

    in_first : is_in x (x ∷ xs) ≡ true
    unfolding is_in
    in_first = rw (eq-eqb x x refl)

    total_above : (m : ℕ) → m ≤ x → total w (x ∷ xs) m ≡ total w xs m
    total_above zero l = refl
    total_above (suc m) l =
        let e : is_in m (x ∷ xs) ≡ is_in m xs = in_others m (λ e. omega arith) in
        rw (e, total_above m (omega arith))

    total-cons : (m : ℕ) → x < m → is_in x xs ≡ false → total w (x ∷ xs) m ≡ w x + total w xs m
    total-cons zero l e = absurd (omega arith)
    total-cons (suc m) l e =
        let le : x ≤ m = omega arith in
        ⊎_elim here (λ k. lower k (total-cons m k e)) (eq-or-lt_of_le le)
      where
        here : x ≡ m → total w (x ∷ xs) (suc m) ≡ w x + total w xs (suc m)
        here q =
            rw (sym q)
            (let a : total w (x ∷ xs) x ≡ total w xs x = total_above x (omega arith) in
            rw (in_first, e) (omega arith))

        lower : x < m → total w (x ∷ xs) m ≡ w x + total w xs m →
            total w (x ∷ xs) (suc m) ≡ w x + total w xs (suc m)
        lower k t =
            let i : is_in m (x ∷ xs) ≡ is_in m xs = in_others m (λ q. omega arith) in
            rw i (omega arith)

  once_total : (m : ℕ) (xs : List ℕ) → Once xs → Under m xs → sum w xs ≡ total w xs m
  once_total m [] o u = sym (total-nil m)
  once_total m (x ∷ xs) o u =
      let t = total-cons x xs m (u x (inl refl)) (not_in_is_in x xs o.0) in
      let r = once_total m xs o.1 (λ a i. u a (inr i)) in
      omega arith

-- ---- slots

slots_sum : (ss : List Sym) (s : ℕ) (is : List ℕ) →
    count s (slots_of ss is) ≡ sum (λ t. count s (sym_at ss t).kids) is
unfolding slots_of count
slots_sum ss s [] = refl
slots_sum ss s (t ∷ is) = count-append s (sym_at ss t).kids (slots_of ss is) ∙ rw (slots_sum ss s is)

-- the slots of what is reached, by the numbers up to the root
pub slots_total : (ss : List Sym) (n : ℕ) → ((t : ℕ) → t < n → Under t (sym_at ss t).kids) → (root : ℕ) → root < n →
    (s : ℕ) → count s (slots_of ss (reach ss (suc root) (root ∷ [])))
    ≡ total (λ t. count s (sym_at ss t).kids) (reach ss (suc root) (root ∷ [])) (suc root)
slots_total ss n low root l s =
    let is = reach ss (suc root) (root ∷ []) in
    slots_sum ss s is
    ∙ once_total (λ t. count s (sym_at ss t).kids) (suc root) is
    (reach_once ss (suc root) (root ∷ []) (λ i. i, tt)) (reach-under ss n low root l)
