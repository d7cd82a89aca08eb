-- Lists that hold each symbol once. In order: a search; one symbol more; lists of symbols below a bound; a run of
-- symbols; what becomes of a list, step by step.
-- Assumes nothing.
use Prim.Native.Nat.{ℕ, ◌+◌, ◌<◌, ◌≤◌}
use mathlib.Core.Path.{◌≡◌, refl, sym, ap, ap₂, ◌∙◌}
use mathlib.Core.Bool.{Bool, true, false, ◌||◌}
use mathlib.Core.Logic.{inl, inr}
use mathlib.Core.List.{List, [], ◌∷◌, ◌++◌}
use native.Mathlib.Omega.{arith}
use lib.Dec.{eqb}
use lib.ListN.{length, get_or, take, length-append}
use Rattle.std.proofs.lemmas.List.{take_more}
use Rattle.std.specs.List.{list_any}
use Rattle.std.proofs.lemmas.Bool.Decides.{nat_tests}
use Rattle.model.specs.Lists.{is_in, add, union}
use Rattle.model.specs.Gate as model
use Rattle.laws.specs.Members.{Under}
use Rattle.laws.proofs.Members.{add_cases}
use Rattle.laws.proofs.Once.{add_once}
use Rattle.laws.proofs.Short.{once_short}
use Rattle.laws.proofs.Adding.{union-last}
use Rattle.graph.specs.declared.held.Graph.{Graph}
use Rattle.graph.specs.Tests.{held_in}
use Rattle.outsiders.specs.Outsiders.{Held, Listed}

-- ---- a search

flip : (a b : ℕ) → eqb a b ≡ eqb b a
flip a b = grind (arith, nat_tests)

contains_is : (d : ℕ) (list : List ℕ) → list_any (λ y. eqb y d) list ≡ is_in d list
unfolding is_in
contains_is d [] = refl
contains_is d (x ∷ xs) = ap₂ (λ (a b : Bool). a || b) (flip x d) (contains_is d xs)

-- ---- one symbol more

module _ (d : ℕ) (list : List ℕ) where
  add_is : (b : Bool) → is_in d list ≡ b → add list d ≡ elim b [ true ↦ list | false ↦ list ++ (d ∷ []) ]
  unfolding add
  add_is b e = rw (e, add)

  -- what a search of the entries finds
  module _ {entries : List ℕ} (all : entries ≡ list) {found : Bool} (is : found ≡ list_any (λ y. eqb y d) entries) where
    pub found_is : is_in d list ≡ found
    found_is = sym (is ∙ (ap (list_any (λ y. eqb y d)) all ∙ contains_is d list))

    pub add_old : found ≡ true → list ≡ add list d
    add_old e = sym (add_is true (found_is ∙ e))

    pub add_new : found ≡ false → list ++ (d ∷ []) ≡ add list d
    add_new e = sym (add_is false (found_is ∙ e))

-- ---- lists of symbols below n, each once

pub held_none : (n : ℕ) → Held n []
held_none n = record { once = tt; low = λ s i. absurd i }

pub held_up : {n m : ℕ} {list : List ℕ} → Held n list → n ≤ m → Held m list
held_up h le = record { once = h.once; low = λ s i. omega (arith, h.low s i) }

module _ (n d : ℕ) (list : List ℕ) (h : Held n list) (lt : d < n) where
  pub held_add : Held n (add list d)
  held_add = record {
    once = add_once list d h.once;
    low = λ s i. elim (add_cases s list d i) [ inl j ↦ h.low s j | inr e ↦ omega arith ];
  }

  module _ (new : is_in d list ≡ false) where
    pub held_last : Held n (list ++ (d ∷ []))
    held_last = rw (add_is d list false new) at held_add

    -- there is room for it
    pub held_room : length list < n
    held_room =
        omega (arith, once_short n (list ++ (d ∷ [])) held_last.once held_last.low, length-append list (d ∷ []))

pub held_union : (n : ℕ) (list run : List ℕ) → Held n list → Under n run → Held n (union list run)
unfolding union
held_union n list [] h u = h
held_union n list (d ∷ run) h u =
    held_union n (add list d) run (held_add n d list h (u d (inl refl))) (λ s i. u s (inr i))

-- ---- a run of symbols

-- the run up to the next of its entries
pub next : (run : List ℕ) (j d : ℕ) → j < length run → d ≡ get_or run j 0 → take (j + 1) run ≡ take j run ++ (d ∷ [])
next run j d lt e = rw e (take_more run j 0 lt)

pub union_next : (list run : List ℕ) (j d : ℕ) → j < length run → d ≡ get_or run j 0 →
    add (union list (take j run)) d ≡ union list (take (j + 1) run)
union_next list run j d lt e =
    sym (ap (union list) (next run j d lt e) ∙ union-last list (take j run) d)

-- ---- what becomes of a list

module _ {bs : List ℕ} {g : Graph} where
  pub listed_none : {list : List ℕ} → Held g.symbols list → Listed bs g (λ h o. o) list list
  listed_none h = record { held = h; is = λ slots. refl }

  pub listed_as : {f h : model.Graph → List ℕ → List ℕ} {a b : List ℕ} → Listed bs g f a b →
      ((slots o : List ℕ) → f (held_in g bs slots) o ≡ h (held_in g bs slots) o) → Listed bs g h a b
  listed_as {a = a} p e = record { held = p.held; is = λ slots. p.is slots ∙ e slots a }

  pub listed_then : {f h : model.Graph → List ℕ → List ℕ} {a b c : List ℕ} → Listed bs g f a b → Listed bs g h b c →
      Listed bs g (λ k o. h k (f k o)) a c
  listed_then {h = h} p q = record {
    held = q.held;
    is = λ slots. q.is slots ∙ ap (h (held_in g bs slots)) (p.is slots);
  }
