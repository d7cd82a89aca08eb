-- The symbols that words call reached, and their rules. In order: one symbol more; those of a list, in order.
-- Assumes nothing.
use Prim.Native.Nat.{ℕ, zero, suc, ◌<◌}
use mathlib.Core.Path.{◌≡◌, refl}
use mathlib.Core.Bool.{Bool, true, false}
use mathlib.Core.List.{List, [], ◌∷◌, ◌++◌, append-nil, map-append}
use native.Mathlib.Omega.{arith}
use borrow.Author.Tests.{eq-eqb, ne_eqb}
use lib.Dec.{eqb}
use Rattle.model.specs.Lists.{is_in}
use Rattle.model.specs.Rules.{in_order}
use Rattle.gate.specs.Gate.{reached_at, bit}
use Rattle.rules.specs.Rules.{reached_to, rule_here, rules_to}

-- ---- one symbol more

module _ (bs ws : List ℕ) (n rows k : ℕ) where
  pub rules_more : reached_at ws k ≡ 1 →
      rules_to bs ws n rows (suc k) ≡ rules_to bs ws n rows k ++ ((k, rule_here bs ws n rows k) ∷ [])
  unfolding rules_to reached_to
  rules_more e =
      rw (eq-eqb (reached_at ws k) 1 e)
      (map-append (λ (s : ℕ). (s, rule_here bs ws n rows s)) (reached_to ws k) (k ∷ []))

  pub rules_same : (reached_at ws k ≡ 1 → ⊥) → rules_to bs ws n rows (suc k) ≡ rules_to bs ws n rows k
  unfolding rules_to reached_to
  rules_same h = rw (ne_eqb (reached_at ws k) 1 h, append-nil)

-- ---- those of a list, in order

pub reached_same : (ws is : List ℕ) (n : ℕ) → ((s : ℕ) → s < n → reached_at ws s ≡ bit (is_in s is)) →
    reached_to ws n ≡ in_order n is
unfolding reached_to in_order
reached_same ws is zero h = refl
reached_same ws is (suc k) h =
    rw (reached_same ws is k (λ s l. h s (omega arith)), h k (omega arith)) (go (is_in k is))
  where
    go : (b : Bool) → in_order k is ++ elim (eqb (bit b) 1) [ true ↦ k ∷ [] | false ↦ [] ]
        ≡ in_order k is ++ elim b [ true ↦ k ∷ [] | false ↦ [] ]
    go true = refl
    go false = refl
