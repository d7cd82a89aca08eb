-- What a node says of its symbol, where the symbol is good (`SymOk`).
--
-- `fin` and `scs` are the symbols and the scopes at the end of interning, here and in all that follows. `Goods` is what
-- the laws of `mean` take (Coincide), what interning keeps (Inv) and what building starts from (Reach, Built).
-- Assumes nothing.
use mathlib.Core.Path.{◌≡◌}
use mathlib.Core.Logic.{◌⊎◌, inl, inr}
use mathlib.Core.Bool.{true, false}
use mathlib.Core.List.{List, [], ◌∷◌}
use Prim.Native.Nat.{ℕ}
use Rattle.model.specs.Binding.{kind}
use Rattle.model.specs.Intern.{Node, constant, unparsed, argument, func, operation, Sym, Scope}
use Rattle.theory.specs.Good.{rec_at, sym_kids, deps_at, node_at, is_plain, no_arg, PairsOk, Plain, Lam, NodeOk, SymOk}
use Rattle.laws.proofs.Apart.{false_true}
use Rattle.laws.specs.Members.{In}
use Rattle.laws.proofs.Members.{clash}
use Rattle.laws.specs.ArgLists.{ArgList, syms_in}

-- ---- what a node says of its symbol

-- a lambda's shape is no plain one
pub lambda_not-plain : (s : ℕ) → s ≡ 12 → is_plain (kind s) ≡ false
unfolding kind
lambda_not-plain s e = rw e

module _ (fin : List Sym) (scs : List Scope) (i : ℕ) where
  pub arg_of : SymOk fin scs i → node_at fin i ≡ argument → (deps_at fin i ≡ i ∷ []) × (sym_kids fin i ≡ [])
  arg_of ok e = rw e at ok.node_is

  pub plain_of : SymOk fin scs i → is_plain (kind (rec_at fin i).shape) ≡ true → no_arg (node_at fin i) ≡ true →
      Plain fin i
  plain_of ok p q = go (node_at fin i) ok.node_is q
    where
      go : (nd : Node) → NodeOk fin scs i nd → no_arg nd ≡ true → Plain fin i
      go constant h n = h.0
      go unparsed h n = h.0
      go argument h n = false_true n
      go (func xs b) h n = absurd (clash _ p (lambda_not-plain (rec_at fin i).shape h.shape_is))
      go (operation brs) h n = h.0

  pub lam_of_lem : (xs : ArgList) (b : ℕ) → SymOk fin scs i → node_at fin i ≡ func xs b → Lam fin scs i xs b
  lam_of_lem xs b ok e = rw e at ok.node_is

  -- what a lambda's child depends on
  pub lam_cover : (xs : ArgList) (b : ℕ) → Lam fin scs i xs b → (k a : ℕ) → In k (sym_kids fin i) → In a (deps_at fin k) →
      In a (deps_at fin i) ⊎ In a (syms_in xs)
  lam_cover xs b h k a lk la = go (rw h.kids_is at lk)
    where
      go : In k (h.body ∷ []) → In a (deps_at fin i) ⊎ In a (syms_in xs)
      go (inl e) = h.cover a (rw e at la)
      go (inr n) = absurd n

-- where no scope is left, no operand is a thunk
pub pairs_none : (fin : List Sym) (scs : List Scope) (op j : ℕ) (ks : List ℕ) → PairsOk fin scs op j ks []
pairs_none fin scs op j [] = tt
pairs_none fin scs op j (k ∷ ks) = tt
