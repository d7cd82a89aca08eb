-- What holds of each symbol of a list holds of every number, if it holds of the symbol that stands past the last: an
-- argument without children.
--
-- In order: `every_sym`; children are lower (`kids_all`).
-- Building and orders ask of every number; who has a list of symbols knows of its own.
-- Assumes nothing.
use mathlib.Core.Path.{◌≡◌, refl, sym, subst}
use mathlib.Core.Bool.{Bool, true, false}
use mathlib.Core.List.{List}
use Prim.Native.Nat.{ℕ, ◌<◌}
use lib.Dec.{ltb}
use lib.ListN.{length, get_or-eq_default}
use borrow.Author.Tests.{ltb-true, ltb-false}
use Rattle.model.specs.Intern.{Sym, no_sym, sym_at}
use Rattle.laws.specs.Members.{Under}

pub every_sym : (P : ℕ → Sym → Type 0) (ss : List Sym) → ((s : ℕ) → s < length ss → P s (sym_at ss s)) →
    ((s : ℕ) → P s no_sym) → (s : ℕ) → P s (sym_at ss s)
every_sym P ss h none s = go (ltb s (length ss)) refl
  where
    go : (b : Bool) → ltb s (length ss) ≡ b → P s (sym_at ss s)
    go true e = h s (ltb-true s (length ss) e)
    go false e = subst (P s) (sym (get_or-eq_default ss no_sym (ltb-false s (length ss) e))) (none s)

pub kids_all : (ss : List Sym) → ((s : ℕ) → s < length ss → Under s (sym_at ss s).kids) →
    (s : ℕ) → Under s (sym_at ss s).kids
kids_all ss h = every_sym (λ s y. Under s y.kids) ss h (λ s k i. absurd i)
