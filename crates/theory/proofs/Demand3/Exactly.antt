-- The call's number is that of the first refusal, in the order of the checks, that applies, and its place is that
-- refusal's: `zero_both`, `refusal_both`.
-- In order: the two ends of a call; number 0; the other numbers.
-- Assumes nothing.
use mathlib.Core.Path.{◌≡◌, refl, ap, sym, ◌∙◌, subst}
use mathlib.Core.Logic.{◌⊎◌, inl, inr, ◌↔◌}
use mathlib.Core.List.{List}
use Prim.Native.Nat.{ℕ, ◌≤◌}
use native.Mathlib.Omega.{arith}
use Rattle.model.specs.Lists.{is_in}
use Rattle.model.specs.Answer.{Answer}
use Rattle.model.specs.Call.{Call, Written, Numbers, numbers_of, numbers}
use Rattle.model.specs.Conditions.{Applies, NoneApplies, FirstApplies, order}
use Rattle.laws.proofs.Members.{is_in_false}
use Rattle.laws.proofs.Checks.{Check, Passes, FirstAt, passes_or-first, passes_exactly}
use Rattle.laws.proofs.Checks.{first_exactly}
use Rattle.theory.proofs.Demand3.Order.{call_checks, in_order, each_once, applies_in, call_exact, call_first}
use Rattle.theory.proofs.Demand3.Order.{call_passes}

module _ (c : Call) where
  abbrev all : List Check
  all = call_checks c

  -- all pass exactly where none applies; the first to fail is the first that applies
  passes_both : Passes all ↔ NoneApplies c
  passes_both =
      passes_exactly (Applies c) all (call_exact c) (rw (in_order c) each_once) (rw (in_order c) (applies_in c))

  first_both : (n p : ℕ) → FirstAt n p all ↔ FirstApplies c n p
  first_both n p =
      rw (in_order c) at
      (first_exactly (Applies c) all (call_exact c) (rw (in_order c) each_once) (rw (in_order c) (applies_in c)) n p)

  -- the two ends of a call, in its numbers
  good_number : Passes all → (numbers c).number ≡ 0
  unfolding numbers numbers_of
  good_number h = ap (λ (a : Answer Written). (numbers_of a).number) (call_passes c h).1.2

  first-numbers : (n p : ℕ) → FirstAt n p all → ((numbers c).number ≡ n) × ((numbers c).place ≡ p)
  unfolding numbers numbers_of
  first-numbers n p f =
      let e = ap numbers_of (call_first c n p f) in
      (ap (λ (z : Numbers). z.number) e, ap (λ (z : Numbers). z.place) e)

  -- no refusal has number 0
  not_0 : (p : ℕ) → FirstAt 0 p all → ⊥
  unfolding is_in
  not_0 p f = is_in_false 0 order refl (applies_in c 0 p ((first_both 0 p).0 f).0)

  -- a number that is given belongs to one of them
  pub zero_passes : (numbers c).number ≡ 0 → Passes (call_checks c)
  zero_passes e = go (passes_or-first all)
    where
      go : Passes all ⊎ ((n : ℕ) × (p : ℕ) × FirstAt n p all) → Passes all
      go (inl h) = h
      go (inr (n, p, f)) =
          absurd (not_0 p (subst (λ (k : ℕ). FirstAt k p all) (sym (first-numbers n p f).0 ∙ e) f))

  given-first : (n p : ℕ) → 1 ≤ n → ((numbers c).number ≡ n) × ((numbers c).place ≡ p) → FirstAt n p all
  given-first n p l e = go (passes_or-first all)
    where
      go : Passes all ⊎ ((m : ℕ) × (q : ℕ) × FirstAt m q all) → FirstAt n p all
      go (inl h) = absurd (omega (arith, good_number h, e.0))
      go (inr (m, q, f)) =
          let w = first-numbers m q f in
          let en : m ≡ n = sym w.0 ∙ e.0 in
          let ep : q ≡ p = sym w.1 ∙ e.1 in
          rw (en, ep) at f

  pub zero_both : ((numbers c).number ≡ 0) ↔ NoneApplies c
  zero_both = (λ e. passes_both.0 (zero_passes e), λ h. good_number (passes_both.1 h))

  pub refusal_both : (n p : ℕ) → 1 ≤ n →
      (((numbers c).number ≡ n) × ((numbers c).place ≡ p)) ↔ FirstApplies c n p
  refusal_both n p l =
      (λ e. (first_both n p).0 (given-first n p l e), λ h. first-numbers n p ((first_both n p).1 h))
