-- Projections remembered of symbols below n, of each once. In order: more symbols; what is recalled are symbols; there are
-- fewer pairs than symbols where one has none.
-- Assumes nothing.
use Prim.Native.Nat.{ℕ, zero, suc, ◌<◌, ◌≤◌}
use mathlib.Core.Path.{◌≡◌, refl, sym, ap, ◌∙◌}
use mathlib.Core.Logic.{inl, inr}
use mathlib.Core.Bool.{Bool, true, false}
use Rattle.std.specs.Prelude.{Option, None, Some}
use Rattle.std.proofs.lemmas.Option.{same_Some}
use mathlib.Core.List.{List, [], ◌∷◌}
use native.Mathlib.Omega.{arith}
use borrow.Author.Tests.{eq-eqb}
use lib.Dec.{eqb}
use lib.ListN.{length}
use Rattle.model.specs.Intern.{recall}
use Rattle.laws.specs.Members.{In, Every, Once}
use Rattle.laws.specs.Stack.{stack_of}
use Rattle.laws.proofs.Apart.{none_some, some_none}
use Rattle.laws.proofs.Short.{once_short}
use Rattle.memo.specs.Memo.{memo_of, keys_in, MemoBelow}

-- ---- more symbols

pub memo_more : (n m : ℕ) (ts : List (ℕ × ℕ × ℕ)) → n ≤ m → MemoBelow n ts → MemoBelow m ts
memo_more n m [] le b = tt
memo_more n m (t ∷ ts) le b =
    ((omega (arith, b.0.0), omega (arith, b.0.1), omega (arith, b.0.2)), memo_more n m ts le b.1)

-- ---- what is recalled are symbols

abbrev or_rest : ℕ × ℕ × ℕ → List (ℕ × ℕ × ℕ) → ℕ → Bool → Option (ℕ × ℕ)
or_rest m ms p b = elim b [ true ↦ Some (m.1, m.2) | false ↦ recall ms p ]

pub recall_low : (n : ℕ) (ms : List (ℕ × ℕ × ℕ)) (p a b : ℕ) → MemoBelow n ms → recall ms p ≡ Some (a, b) →
    (a < n) × (b < n)
unfolding recall
recall_low n [] p a b h e = none_some e
recall_low n (m ∷ ms) p a b h e = go (eqb m.0 p) (recall_low n ms p a b h.1) e
  where
    go : (t : Bool) → (recall ms p ≡ Some (a, b) → (a < n) × (b < n)) → or_rest m ms p t ≡ Some (a, b) →
        (a < n) × (b < n)
    go true rest e =
        let q : ◌≡◌ {A = ℕ × ℕ} (m.1, m.2) (a, b) = same_Some _ _ e in
        let d : m.1 ≡ a = ap (λ (x : ℕ × ℕ). x.0) q in
        let f : m.2 ≡ b = ap (λ (x : ℕ × ℕ). x.1) q in
        (omega (arith, h.0.1, d), omega (arith, h.0.2, f))
    go false rest e = rest e

-- what is not recalled is not among the keys
pub recall_new : (ms : List (ℕ × ℕ × ℕ)) (p : ℕ) → recall ms p ≡ None → In p (keys_in ms) → ⊥
unfolding recall
recall_new [] p e i = i
recall_new (m ∷ ms) p e (inl d) =
    some_none (sym (ap (or_rest m ms p) (eq-eqb m.0 p (sym d))) ∙ e)
recall_new (m ∷ ms) p e (inr i) = go (eqb m.0 p) (λ f. recall_new ms p f i) e
  where
    go : (t : Bool) → (recall ms p ≡ None → ⊥) → or_rest m ms p t ≡ None → ⊥
    go true rest e = some_none e
    go false rest e = rest e

-- ---- how many there are

keys_low : (n : ℕ) (ms : List (ℕ × ℕ × ℕ)) → MemoBelow n ms → Every (λ x. x < n) (keys_in ms)
keys_low n [] h x i = absurd i
keys_low n (m ∷ ms) h x (inl e) = omega (arith, h.0.0)
keys_low n (m ∷ ms) h x (inr i) = keys_low n ms h.1 x i

keys_length : (ws : List ℕ) (k : ℕ) → length (keys_in (memo_of ws k)) ≡ k
unfolding memo_of stack_of
keys_length ws zero = refl
keys_length ws (suc k) = ap suc (keys_length ws k)

pub pairs_few : (ws : List ℕ) (k n p : ℕ) → MemoBelow n (memo_of ws k) → Once (keys_in (memo_of ws k)) →
    recall (memo_of ws k) p ≡ None → p < n → k < n
pairs_few ws k n p below once new low =
    omega (arith, once_short n (p ∷ keys_in ms) (recall_new ms p new, once) (λ x i. each x i), keys_length ws k)
  where
    ms : List (ℕ × ℕ × ℕ)
    ms = memo_of ws k

    each : (x : ℕ) → In x (p ∷ keys_in (memo_of ws k)) → x < n
    each x (inl e) = omega (arith, low)
    each x (inr i) = keys_low n (memo_of ws k) below x i
