-- What usage counts: the child slots of the symbols that the root reaches by children, each once, and of no other. So a
-- symbol that the root does not reach has no use, and the lister shows 0 and n.
-- In order: slots of others; the root's symbol among symbols whose children are lower; an accepted forest.
-- Assumes nothing.
use mathlib.Core.Path.{◌≡◌, refl, sym, subst}
use mathlib.Core.Logic.{inl, inr}
use mathlib.Core.Bool.{Bool, true, false}
use mathlib.Core.List.{List, [], ◌∷◌}
use Prim.Native.Nat.{ℕ, suc, ◌<◌}
use native.Mathlib.Omega.{arith}
use lib.Dec.{eqb}
use borrow.Author.Tests.{eqb-true}
use Rattle.model.specs.Answer.{good}
use Rattle.model.specs.Lists.{count}
use Rattle.model.specs.Tree.{Trees, root}
use Rattle.model.specs.Accept.{accept}
use Rattle.model.specs.Intern.{Sym, State, sym_at}
use Rattle.model.specs.Gate.{reach, slots_of, reachable, usage, should_hoist}
use Rattle.model.specs.Call.{interned, reached_of}
use Rattle.laws.specs.Members.{In, Every, Once}
use Rattle.laws.proofs.Members.{in_one}
use Rattle.laws.proofs.Once.{reach_once, count-append}
use Rattle.laws.proofs.Reached.{reach_keeps, reach_every, reach-under, reach_closed}
use Rattle.laws.proofs.Holds.{Holds}
use Rattle.theory.specs.Good.{sym_count}
use Rattle.theory.proofs.Interning.Interned.{RootInterned, interned_ready}
use Rattle.theory.proofs.Building.Reach.{Below, here, kid}

-- the symbols whose slots are counted
abbrev pub counted : ℕ × State → List ℕ
counted o = reach o.1.syms (suc o.0) (o.0 ∷ [])

pub record CountsReached (o : ℕ × State) : Type 0 where
  pub reached : Every (Below o.1.syms o.0) (counted o)
  pub all : (s : ℕ) → Below o.1.syms o.0 s → In s (counted o)
  pub once : Once (counted o)
  pub unreached : (s : ℕ) → (Below o.1.syms o.0 s → ⊥) → usage (reached_of o) s ≡ 0
  pub not_hoisted : (s : ℕ) → (Below o.1.syms o.0 s → ⊥) → (y : Sym) → should_hoist y (usage (reached_of o) s) ≡ false

-- ---- slots of others

count_none : (s : ℕ) (xs : List ℕ) → (In s xs → ⊥) → count s xs ≡ 0
unfolding count
count_none s [] h = refl
count_none s (x ∷ xs) h = go (eqb s x) refl (count_none s xs (λ i. h (inr i)))
  where
    go : (b : Bool) → eqb s x ≡ b → count s xs ≡ 0 →
        ◌≡◌ {A = ℕ} (elim b [ true ↦ suc (count s xs) | false ↦ count s xs ]) 0
    go true e z = absurd (h (inl (eqb-true s x e)))
    go false e z = z

slots_none : (ss : List Sym) (s : ℕ) (is : List ℕ) → ((t : ℕ) → In t is → In s (sym_at ss t).kids → ⊥) →
    count s (slots_of ss is) ≡ 0
unfolding slots_of count
slots_none ss s [] h = refl
slots_none ss s (t ∷ is) h =
    omega (
      arith,
      count-append s (sym_at ss t).kids (slots_of ss is),
      count_none s (sym_at ss t).kids (h t (inl refl)),
      slots_none ss s is (λ u i. h u (inr i)),
    )

-- ---- the root's symbol

module _ (o : ℕ × State) (low : (t : ℕ) → t < sym_count o.1 → Every (λ k. k < t) (sym_at o.1.syms t).kids)
    (lt : o.0 < sym_count o.1) where
  abbrev ss : List Sym
  ss = o.1.syms

  is_reached : Every (Below ss o.0) (counted o)
  is_reached = reach_every ss (Below ss o.0) (λ t b k i. kid t k b i) (suc o.0) (o.0 ∷ [])
      (λ a i. subst (Below ss o.0) (sym (in_one i)) here)

  is_counted : (s : ℕ) → Below ss o.0 s → In s (counted o)
  is_counted s here = reach_keeps ss (suc o.0) (o.0 ∷ []) o.0 (inl refl)
  is_counted s (kid t k b i) =
      let c = is_counted t b in
      reach_closed ss (sym_count o.1) low (suc o.0) (omega arith) (o.0 ∷ []) t k
      (reach-under ss (sym_count o.1) low o.0 lt t c) c i

  not_used : (s : ℕ) → (Below ss o.0 s → ⊥) → usage (reached_of o) s ≡ 0
  unfolding usage reachable
  not_used s h = slots_none ss s (counted o) (λ t i j. h (kid t s (is_reached t i) j))

  counts : CountsReached o
  unfolding should_hoist
  counts = record {
    reached = is_reached;
    all = is_counted;
    once = reach_once ss (suc o.0) (o.0 ∷ []) (λ i. i, tt);
    unreached = not_used;
    not_hoisted = λ s h y. rw (not_used s h);
  }

-- ---- an accepted forest

pub usage_reached : (forest : List ℕ) (ts : Trees) → accept forest ≡ good ts → (o : ℕ × State) → interned forest ≡ good o →
    CountsReached o
usage_reached forest ts e o is =
    counts o (λ t l. (ready.inv.good t l).low) ready.low
  where
    ready : RootInterned o.1 o.0 (root ts)
    ready = subst (Holds (λ o. RootInterned o.1 o.0 (root ts))) is (interned_ready forest ts e)
