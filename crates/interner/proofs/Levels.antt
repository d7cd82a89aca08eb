-- Levels of some symbols. In order: the words that they hang on; members; union; the deps of some children; a lambda's
-- own arguments taken out; where deps come from; pending symbols.
-- Assumes nothing.
use Prim.Native.Nat.{ℕ, ◌+◌}
use mathlib.Core.Path.{◌≡◌, refl, sym, ap, ◌∙◌}
use mathlib.Core.Logic.{◌⊎◌, inl, inr}
use mathlib.Core.Bool.{Bool, true, false, not, ◌&&◌, ◌||◌, or-true, or-false, or_assoc}
use mathlib.Core.List.{List, [], ◌∷◌, ◌++◌}
use native.Mathlib.Numerals.{add-one}
use borrow.Author.Tests.{eqb-true}
use lib.Dec.{eqb}
use lib.ListN.{get_or}
use Rattle.model.specs.Lists.{is_in, add, union, without}
use Rattle.model.specs.Intern.{Sym, sym_at, union_deps}
use Rattle.laws.specs.Members.{In, Every}
use Rattle.laws.proofs.Members.{is_in_true, neither_or, union_cases}
use Rattle.key.specs.declared.Symbol.{Symbol}
use Rattle.key.specs.Key.{symbol_at}
use Rattle.symbols.specs.Words.{words_from}
use Rattle.symbols.proofs.Words.{words_more}
use Rattle.scopes.specs.Levels.{has}
use Rattle.interner.specs.Levels.{any_has}

-- ---- the words that they hang on: those of the symbols

pub any_has-same : (ws ws' : List ℕ) (j : ℕ) (xs : List ℕ) → Every (λ a. symbol_at ws' a ≡ symbol_at ws a) xs →
    any_has ws' j xs ≡ any_has ws j xs
unfolding any_has
any_has-same ws ws' j [] h = refl
any_has-same ws ws' j (a ∷ xs) h = rw (h a (inl refl), any_has-same ws ws' j xs (λ b i. h b (inr i)))

module _ (ws : List ℕ) (j : ℕ) where
  -- ---- members

  abbrev here : ℕ → Bool
  here a = has (symbol_at ws a).levels j

  pub any_has_in : (xs : List ℕ) (a : ℕ) → In a xs → here a ≡ true → any_has ws j xs ≡ true
  unfolding any_has
  any_has_in [] a h e = absurd h
  any_has_in (x ∷ xs) a (inl p) e = let f : here x ≡ true = rw p at e in rw f
  any_has_in (x ∷ xs) a (inr h) e = rw (any_has_in xs a h e) (or-true (here x))

  pub any_has_none : (xs : List ℕ) → Every (λ a. here a ≡ false) xs → any_has ws j xs ≡ false
  unfolding any_has
  any_has_none [] h = refl
  any_has_none (x ∷ xs) h =
      neither_or (here x) (any_has ws j xs) (h x (inl refl)) (any_has_none xs (λ a i. h a (inr i)))

  -- ---- union

  any_has-append : (xs ys : List ℕ) → any_has ws j (xs ++ ys) ≡ (any_has ws j xs || any_has ws j ys)
  unfolding any_has
  any_has-append [] ys = refl
  any_has-append (x ∷ xs) ys =
      ap (λ (b : Bool). here x || b) (any_has-append xs ys)
      ∙ sym (or_assoc (here x) (any_has ws j xs) (any_has ws j ys))

  absorb : (b c : Bool) → (c ≡ true → b ≡ true) → b ≡ (b || c)
  absorb true c h = refl
  absorb false true h = h refl
  absorb false false h = refl

  pub any_has-one : (n : ℕ) → any_has ws j (n ∷ []) ≡ here n
  unfolding any_has
  any_has-one n = or-false (here n)

  any_has-add : (xs : List ℕ) (n : ℕ) → any_has ws j (add xs n) ≡ (any_has ws j xs || here n)
  unfolding add
  any_has-add xs n = go (is_in n xs) refl
    where
      go : (b : Bool) → is_in n xs ≡ b →
          any_has ws j (elim b [ true ↦ xs | false ↦ xs ++ (n ∷ []) ]) ≡ (any_has ws j xs || here n)
      go true e = absorb (any_has ws j xs) (here n) (λ t. any_has_in xs n (is_in_true n xs e) t)
      go false e = any_has-append xs (n ∷ []) ∙ ap (λ (b : Bool). any_has ws j xs || b) (any_has-one n)

  any_has-union : (xs ys : List ℕ) → any_has ws j (union xs ys) ≡ (any_has ws j xs || any_has ws j ys)
  unfolding union any_has
  any_has-union xs [] = sym (or-false (any_has ws j xs))
  any_has-union xs (y ∷ ys) =
      any_has-union (add xs y) ys
      ∙ ap (λ (b : Bool). b || any_has ws j ys) (any_has-add xs y)
      ∙ or_assoc (any_has ws j xs) (here y) (any_has ws j ys)

  -- ---- the deps of some children, each of which has the levels of its deps

  pub any_has_deps : (ss : List Sym) (ks : List ℕ) → Every (λ k. here k ≡ any_has ws j (sym_at ss k).deps) ks →
      any_has ws j ks ≡ any_has ws j (union_deps ss ks)
  unfolding any_has union_deps
  any_has_deps ss [] h = refl
  any_has_deps ss (k ∷ ks) h =
      rw (h k (inl refl), any_has_deps ss ks (λ i l. h i (inr l)))
      (sym (any_has-union (sym_at ss k).deps (union_deps ss ks)))

  -- ---- a lambda's own arguments taken out, which are at level k: no other is

  pub any_has-without : (xs own : List ℕ) → Every (λ a. here a ≡ false) own →
      any_has ws j (without xs own) ≡ any_has ws j xs
  unfolding without any_has
  any_has-without [] own h = refl
  any_has-without (x ∷ xs) own h = go (is_in x own) refl (any_has-without xs own h)
    where
      go : (b : Bool) → is_in x own ≡ b → any_has ws j (without xs own) ≡ any_has ws j xs →
          any_has ws j (elim b [ true ↦ without xs own | false ↦ x ∷ without xs own ]) ≡ (here x || any_has ws j xs)
      go true e rest = rw (h x (is_in_true x own e)) rest
      go false e rest = rw rest

  pub levels_without : (k : ℕ) (xs own : List ℕ) → Every (λ a. here a ≡ eqb j k) own →
      (j ≡ k → Every (λ a. here a ≡ false) (without xs own)) →
      (not (eqb j k) && any_has ws j xs) ≡ any_has ws j (without xs own)
  levels_without k xs own h out = go (eqb j k) refl
    where
      go : (b : Bool) → eqb j k ≡ b → (not b && any_has ws j xs) ≡ any_has ws j (without xs own)
      go true e = sym (any_has_none (without xs own) (out (eqb-true j k e)))
      go false e = sym (any_has-without xs own (λ a i. h a i ∙ e))

-- the deps of some children are those of one of them
pub union_deps_from : (ss : List Sym) (ks : List ℕ) (a : ℕ) → In a (union_deps ss ks) →
    (k : ℕ) × In k ks × In a (sym_at ss k).deps
unfolding union_deps
union_deps_from ss [] a h = absurd h
union_deps_from ss (j ∷ ks) a h = go (union_cases a (sym_at ss j).deps (union_deps ss ks) h) (union_deps_from ss ks a)
  where
    go : In a (sym_at ss j).deps ⊎ In a (union_deps ss ks) →
        (In a (union_deps ss ks) → (k : ℕ) × In k ks × In a (sym_at ss k).deps) →
        (k : ℕ) × In k (j ∷ ks) × In a (sym_at ss k).deps
    go (inl d) rest = (j, inl refl, d)
    go (inr d) rest = let w = rest d in (w.0, inr w.1, w.2)

-- the levels of a run of pending symbols, and of one symbol more
pub levels_none : (ws : List ℕ) (at j : ℕ) (all : ℕ) → has all j ≡ false → has all j ≡ any_has ws j (words_from ws at 0)
unfolding words_from any_has
levels_none ws at j all e = e

pub levels_more : (ws : List ℕ) (at k all r : ℕ) (y : Symbol) → y ≡ symbol_at ws (get_or ws (at + k) 0) → (j : ℕ) →
    has all j ≡ any_has ws j (words_from ws at k) → has r j ≡ (has all j || has y.levels j) →
    has r j ≡ any_has ws j (words_from ws at (k + 1))
levels_more ws at k all r y loads j old new =
    new
    ∙ (rw (old, loads, add-one k, words_more ws at k)
    (sym (any_has-append ws j (words_from ws at k) (get_or ws (at + k) 0 ∷ [])
    ∙ ap (λ (b : Bool). any_has ws j (words_from ws at k) || b) (any_has-one ws j (get_or ws (at + k) 0)))))
