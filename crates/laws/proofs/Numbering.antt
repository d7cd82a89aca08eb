-- A lambda's arguments numbered: which ids the argument symbols get, and that a literal is written from opts alone.
--
-- In order: an id given; the arguments of a literal with consecutive symbols, n from `first` on: how many they
-- are, what is written of them, and the ids that they are given (`given_new`, `given_before`, `given-after`).
-- Assumes nothing.
use mathlib.Core.Path.{◌≡◌, refl, ap, sym, ◌∙◌}
use mathlib.Core.Bool.{Bool, true, false}
use Rattle.std.specs.Prelude.{Option, Some}
use mathlib.Core.List.{List, [], ◌∷◌, ◌++◌}
use Prim.Native.Nat.{ℕ, suc, ◌+◌, ◌-◌, ◌≤◌, ◌<◌}
use native.Mathlib.Omega.{arith}
use lib.Dec.{eqb}
use lib.ListN.{length}
use borrow.Author.Tests.{eqb-true, eqb-false, eq-eqb, ne_eqb}
use Rattle.model.specs.Bytes.{put32}
use Rattle.model.specs.Intern.{with_opts, Env}
use Rattle.model.specs.Materialize.{id_given, arg_lit, arg_env}
use Rattle.laws.specs.Range.{range}
use Rattle.laws.specs.ArgLists.{ArgList}
use Rattle.laws.proofs.ArgLists.{with_opts-length}
use Rattle.laws.proofs.Ranges.{range_length}

-- ---- an id given

given-same : (s i t : ℕ) (env : Env) → s ≡ t → id_given ((s, i) ∷ env) t ≡ Some i
unfolding id_given
given-same s i t env e = rw (eq-eqb s t e, id_given)

given_other : (s i t : ℕ) (env : Env) → (s ≡ t → ⊥) → id_given ((s, i) ∷ env) t ≡ id_given env t
unfolding id_given
given_other s i t env n = rw (ne_eqb s t n, id_given)

-- ---- arguments with other symbols

-- only opts are written
lit_same : (last : ℕ) (xs : ArgList) (ss : List ℕ) → length ss ≡ length xs →
    arg_lit last (with_opts xs ss) ≡ arg_lit last xs
unfolding arg_lit
lit_same last [] ss e = refl
lit_same last (x ∷ xs) [] e = absurd (omega arith)
lit_same last (x ∷ xs) (s ∷ ss) e =
    ap (λ (l : List ℕ). put32 (suc last) ++ (x.1 ++ l)) (lit_same (suc last) xs ss (omega arith))

module _ (s : ℕ) where
  other : (xs : ArgList) (first last : ℕ) (env : Env) → (first ≤ s → s < first + length xs → ⊥) →
      id_given (arg_env last (with_opts xs (range first (length xs))) env) s ≡ id_given env s
  unfolding range
  other [] first last env n = refl
  other (x ∷ xs) first last env n =
      other xs (suc first) (suc last) ((first, suc last) ∷ env) (λ l h. n (omega arith) (omega arith))
      ∙ given_other first (suc last) s env (λ e. n (omega arith) (omega arith))

  new : (xs : ArgList) (first last : ℕ) (env : Env) → first ≤ s → s < first + length xs →
      id_given (arg_env last (with_opts xs (range first (length xs))) env) s ≡ Some (last + 1 + (s - first))
  unfolding range
  new [] first last env l h = absurd (omega arith)
  new (x ∷ xs) first last env l h =
      go (eqb first s) refl (λ k. new xs (suc first) (suc last) ((first, suc last) ∷ env) k (omega arith))
    where
      rest : Option ℕ
      rest = id_given (arg_env (suc last) (with_opts xs (range (suc first) (length xs))) ((first, suc last) ∷ env)) s

      go : (b : Bool) → eqb first s ≡ b → (suc first ≤ s → rest ≡ Some (suc last + 1 + (s - suc first))) →
          rest ≡ Some (last + 1 + (s - first))
      go true e k =
          let f = eqb-true first s e in
          let z : suc last ≡ last + 1 + (s - first) = omega arith in
          other xs (suc first) (suc last) ((first, suc last) ∷ env) (λ l h. omega arith)
          ∙ (given-same first (suc last) s env f ∙ ap (λ (i : ℕ). Some i) z)
      go false e k =
          let f = eqb-false first s e in
          let a : suc first ≤ s = omega arith in
          let z : suc last + 1 + (s - suc first) ≡ last + 1 + (s - first) = omega arith in
          k a ∙ ap (λ (i : ℕ). Some i) z

-- ---- n arguments, their symbols from `first` on

module _ (first n : ℕ) (xs : ArgList) (count : length xs ≡ n) where
  pub with_range_length : length (with_opts xs (range first n)) ≡ n
  with_range_length = with_opts-length xs (range first n) (range_length first n ∙ sym count) ∙ count

  pub with_range_lit : (last : ℕ) → arg_lit last (with_opts xs (range first n)) ≡ arg_lit last xs
  with_range_lit last = lit_same last xs (range first n) (range_length first n ∙ sym count)

  module _ (env : Env) (last s : ℕ) where
    -- an argument's id
    pub given_new : first ≤ s → s < first + n →
        id_given (arg_env last (with_opts xs (range first n)) env) s ≡ Some (last + 1 + (s - first))
    given_new l h = rw (← count) (new s xs first last env l (omega arith))

    -- no other symbol gets one
    pub given_before : s < first → id_given (arg_env last (with_opts xs (range first n)) env) s ≡ id_given env s
    given_before l = rw (← count) (other s xs first last env (λ k h. omega arith))

    pub given-after : first + n ≤ s → id_given (arg_env last (with_opts xs (range first n)) env) s ≡ id_given env s
    given-after l = rw (← count) (other s xs first last env (λ k h. omega arith))
