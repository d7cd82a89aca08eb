-- The rule beside a symbol and the definitions written: no symbol given one of the first five rules has a definition
-- (`five_unwritten`); hoisted is said exactly of those that have one, with the symbol's own scope (`hoisted_exactly`,
-- `rule_is`).
--
-- In order: the first block that holds a symbol; the rules; the numbers of a list in order, each once (`order_in`, `order_has`,
-- `order_rising`), of which the symbols that have a rule are a case (`rules_symbols`).
-- Assumes nothing.
use mathlib.Core.Path.{◌≡◌, refl, sym, ap, ◌∙◌}
use mathlib.Core.Logic.{◌⊎◌, inl, inr}
use mathlib.Core.Bool.{Bool, true, false, ◌||◌}
use mathlib.Core.List.{List, [], ◌∷◌, ◌++◌, map, append-nil}
use Prim.Native.Nat.{ℕ, zero, suc, ◌<◌}
use native.Mathlib.Omega.{arith}
use lib.Dec.{ltb}
use lib.ListN.{length}
use borrow.Author.Tests.{ltb-true, ltb-false}
use Rattle.std.specs.Prelude.{Option, None, Some}
use Rattle.std.specs.Bool.{then_some}
use Rattle.model.specs.Lists.{is_in}
use Rattle.model.specs.Intern.{State}
use Rattle.model.specs.Gate.{Graph, sym_of, reach, usage, is_context_property, is_internal, is_const}
use Rattle.model.specs.Schedule.{is_arg}
use Rattle.model.specs.Call.{reached_of}
use Rattle.model.specs.Labels.{WrittenBlock, labelled, defined_of}
use Rattle.model.specs.Rules.{Rule, is_argument, used_at_most_once, context_property, global, scalar_constant, hoisted}
use Rattle.model.specs.Rules.{tests, first_rule, first_scope, by_blocks, rule_of, rules_of, in_order}
use Rattle.model.specs.Rules.{written_blocks, among_five, FiveUnwritten, HoistedExactly}
use Rattle.laws.specs.Members.{In, Every}
use Rattle.laws.proofs.Members.{is_in_true, in_is_in, is_in-append, in_left, in_right, in_either}
use Rattle.laws.proofs.Walks.{every_none, every_cons, every_join}
use Rattle.laws.proofs.Apart.{none_some, false_true}
use Rattle.labels.proofs.Blocks.{Definable, symbols_of, HoldDefinable, held_definable, held_same, defined_definable}

-- ---- the first block that holds a symbol

module _ (g : Graph) (s : ℕ) where
  -- whichever it is, its scope is the symbol's own
  first_own : (bs : List WrittenBlock) → HoldDefinable g bs →
      first_scope s bs ≡ then_some (is_in s (symbols_of bs)) (sym_of g s).scope
  unfolding first_scope is_in
  first_own [] h = refl
  first_own (b ∷ bs) h =
      rw (is_in-append s b.symbols (symbols_of bs)) (go (is_in s b.symbols) refl (first_own bs h.1))
    where
      go : (t : Bool) → is_in s b.symbols ≡ t →
          first_scope s bs ≡ then_some (is_in s (symbols_of bs)) (sym_of g s).scope →
          ◌≡◌ {A = Option ℕ} (elim t [ true ↦ Some b.scope | false ↦ first_scope s bs ])
          (then_some (t || is_in s (symbols_of bs)) (sym_of g s).scope)
      go true e k = ap Some (sym (h.0 s (is_in_true s b.symbols e)).own_scope)
      go false e k = k

pub first_is_own : (g : Graph) (root s : ℕ) → first_scope s (written_blocks g root) ≡
    then_some (is_in s (defined_of (labelled g root))) (sym_of g s).scope
first_is_own g root s =
    first_own g s (written_blocks g root) (held_definable g root)
    ∙ ap (λ b. then_some b (sym_of g s).scope) (held_same g s root)

-- ---- the rules

pub rule_is : (g : Graph) (root s : ℕ) → rule_of g (written_blocks g root) s ≡
    first_rule (tests (sym_of g s) (usage g s))
    (by_blocks (then_some (is_in s (defined_of (labelled g root))) (sym_of g s).scope))
unfolding rule_of
rule_is g root s =
    ap (λ o. first_rule (tests (sym_of g s) (usage g s)) (by_blocks o)) (first_is_own g root s)

module _ (g : Graph) (root s : ℕ) where
  -- none of the first five holds of a symbol that may be defined
  none_of_five : (sc : ℕ) (r : Rule) → Definable g s sc → first_rule (tests (sym_of g s) (usage g s)) r ≡ r
  unfolding tests first_rule
  none_of_five sc r d =
      rw (d.no_argument, d.used_twice, d.no_property, d.no_global, d.no_scalar, first_rule) refl

  -- one that has a definition is given its own scope
  pub written_hoisted : is_in s (defined_of (labelled g root)) ≡ true →
      rule_of g (written_blocks g root) s ≡ hoisted (sym_of g s).scope
  written_hoisted e =
      rule_is g root s
      ∙ none_of_five (sym_of g s).scope _ (defined_definable g s root e)
      ∙ ap (λ b. by_blocks (then_some b (sym_of g s).scope)) e

  -- no test gives hoisted
  hoisted_last : (sc : ℕ) (r : Rule) → first_rule (tests (sym_of g s) (usage g s)) r ≡ hoisted sc → r ≡ hoisted sc
  unfolding tests first_rule
  hoisted_last sc r =
      go (is_arg (sym_of g s).node) (ltb (usage g s) 2) (is_context_property (sym_of g s)) (is_internal (sym_of g s))
      (is_const (sym_of g s))
    where
      go : (a o p i c : Bool) → first_rule (
          (a, is_argument) ∷
          (o, used_at_most_once) ∷
          (p, context_property) ∷
          (i, global) ∷
          (c, scalar_constant) ∷
          []
          ) r ≡ hoisted sc → r ≡ hoisted sc
      go true o p i c e = cc
      go false true p i c e = cc
      go false false true i c e = cc
      go false false false true c e = cc
      go false false false false true e = cc
      go false false false false false e = e

pub five_unwritten : (g : Graph) (root : ℕ) → FiveUnwritten g root
five_unwritten g root s e = go (is_in s (defined_of (labelled g root))) refl
  where
    go : (b : Bool) → is_in s (defined_of (labelled g root)) ≡ b → b ≡ false
    go true d = false_true (sym (ap among_five (written_hoisted g root s d)) ∙ e)
    go false d = refl

pub hoisted_exactly : (g : Graph) (root : ℕ) → HoistedExactly g root
unfolding rule_of
hoisted_exactly g root = record {
  said = λ s sc e. go s sc e (is_in s (defined_of (labelled g root))) refl;
  only = λ s sc e. from_blocks (first_scope s (written_blocks g root)) sc (hoisted_last g root s sc _ e);
}
  where
    from_blocks : (o : Option ℕ) (sc : ℕ) → by_blocks o ≡ hoisted sc → o ≡ Some sc
    from_blocks None sc e = cc
    from_blocks (Some x) sc e = cc

    go : (s sc : ℕ) → first_scope s (written_blocks g root) ≡ Some sc → (b : Bool) →
        is_in s (defined_of (labelled g root)) ≡ b → rule_of g (written_blocks g root) s ≡ hoisted sc
    go s sc e true d =
        ap (λ o. first_rule (tests (sym_of g s) (usage g s)) (by_blocks o)) e
        ∙ none_of_five g root s (sym_of g s).scope (hoisted sc) (defined_definable g s root d)
    go s sc e false d =
        none_some (sym (ap (λ b. then_some b (sym_of g s).scope) d) ∙ (sym (first_is_own g root s) ∙ e))

-- ---- the numbers of a list in order

-- each is lower than those after it
abbrev pub Rising : List ℕ → Type 0
Rising [] = Unit {0}
Rising (x ∷ xs) = Every (λ y. x < y) xs × Rising xs

rising_last : (xs : List ℕ) (n : ℕ) → Every (λ x. x < n) xs → Rising xs → Rising (xs ++ (n ∷ []))
rising_last [] n low h = ((λ y i. absurd i), tt)
rising_last (x ∷ xs) n low h = (
  every_join (λ y. x < y) xs (n ∷ []) h.0 (every_cons (λ y. x < y) n [] (low x (inl refl)) (every_none (λ y. x < y))),
  rising_last xs n (λ y i. low y (inr i)) h.1,
)

module _ (is : List ℕ) where
  -- the numbers are below n and in the list
  pub order_in : (n s : ℕ) → In s (in_order n is) → (s < n) × In s is
  unfolding in_order
  order_in zero s i = absurd i
  order_in (suc n) s i =
      go (is_in n is) refl (λ j. order_in n s j) (in_either s (in_order n is) _ i)
    where
      go : (b : Bool) → is_in n is ≡ b → (In s (in_order n is) → (s < n) × In s is) →
          In s (in_order n is) ⊎ In s (elim b [ true ↦ n ∷ [] | false ↦ [] ]) → (s < suc n) × In s is
      go b e rest (inl j) = let r = rest j in (omega (arith, r.0), r.1)
      go true e rest (inr (inl q)) = (omega arith, rw q (is_in_true n is e))
      go true e rest (inr (inr j)) = absurd j
      go false e rest (inr j) = absurd j

  -- and all of these
  pub order_has : (n s : ℕ) → s < n → In s is → In s (in_order n is)
  unfolding in_order
  order_has zero s l i = absurd (omega arith)
  order_has (suc n) s l i = go (ltb s n) refl (λ k. order_has n s k i)
    where
      go : (b : Bool) → ltb s n ≡ b → (s < n → In s (in_order n is)) →
          In s (in_order n is ++ elim (is_in n is) [ true ↦ n ∷ [] | false ↦ [] ])
      go true e rest = in_left s (in_order n is) _ (rest (ltb-true s n e))
      go false e rest =
          let q : s ≡ n = omega (arith, ltb-false s n e) in
          in_right s (in_order n is) _ (rw (in_is_in n is (rw q at i)) (inl q))

  -- the lowest first, each once
  pub order_rising : (n : ℕ) → Rising (in_order n is)
  unfolding in_order
  order_rising zero = tt
  order_rising (suc n) = go (is_in n is) (order_rising n)
    where
      go : (b : Bool) → Rising (in_order n is) → Rising (in_order n is ++ elim b [ true ↦ n ∷ [] | false ↦ [] ])
      go true h = rising_last (in_order n is) n (λ x i. (order_in n x i).0) h
      go false h = rw (append-nil (in_order n is)) h

-- ---- the symbols that have a rule

pub rules_symbols : (o : ℕ × State) →
    map (λ l. l.0) (rules_of o) ≡ in_order (length o.1.syms) (reach o.1.syms (suc o.0) (o.0 ∷ []))
unfolding rules_of
rules_symbols o = go (in_order (length o.1.syms) (reach o.1.syms (suc o.0) (o.0 ∷ [])))
  where
    rule : ℕ → Rule
    rule s = rule_of (reached_of o) (written_blocks (reached_of o) o.0) s

    go : (is : List ℕ) → map (λ (l : ℕ × Rule). l.0) (map (λ s. (s, rule s)) is) ≡ is
    go [] = refl
    go (s ∷ is) = ap (◌∷◌ s) (go is)
