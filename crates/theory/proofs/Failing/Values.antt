-- The value of a symbol, and what is to be known of the symbols in a scope that is entered (`SymLive`).
-- In order: a node's thunks, and nodes of operations and leaves; what may be skipped; operands that agree where they are
-- not skipped; the value of a symbol; live symbols.
-- Assumes nothing.
use mathlib.Core.Path.{◌≡◌, refl, ap, ap₂, ◌∙◌}
use mathlib.Core.Logic.{inl, inr}
use mathlib.Core.Bool.{Bool, true, false, not, ◌&&◌, ◌||◌}
use Rattle.std.specs.Prelude.{Option, None, Some}
use mathlib.Core.List.{List, [], ◌∷◌, map}
use Prim.Native.Nat.{ℕ, suc, ◌<◌}
use lib.Dec.{eqb}
use lib.ListN.{get_or}
use borrow.Author.Tests.{lt-ltb}
use Rattle.model.specs.Down.{under, down}
use Rattle.model.specs.Tree.{Rec}
use Rattle.model.specs.Opcodes.{IfOp, AndOp, OrOp}
use Rattle.model.specs.Intern.{Node, constant, unparsed, argument, func, operation, Sym, thunked}
use Rattle.model.specs.Failing.{◌>>=◌, Semantics, skipped, found_from, applied}
use Rattle.laws.proofs.Down.{down_step, under_low}
use Rattle.laws.specs.Members.{In}
use Rattle.laws.proofs.Members.{clash}
use Rattle.laws.proofs.Apart.{false_true}
use Rattle.theory.specs.Good.{rec_at, sym_kids, scope_at, node_at}

-- ---- nodes: the scopes of their thunks; those of operations and leaves, which are no arguments and no lambdas

abbrev pub thunks_of : Node → List ℕ
thunks_of constant = []
thunks_of unparsed = []
thunks_of argument = []
thunks_of (func xs b) = []
thunks_of (operation brs) = brs

abbrev pub OperationOrLeaf : Node → Type 0
OperationOrLeaf constant = Unit {0}
OperationOrLeaf unparsed = Unit {0}
OperationOrLeaf argument = ⊥
OperationOrLeaf (func xs b) = ⊥
OperationOrLeaf (operation brs) = Unit {0}

module _ {W : Type 0} (sem : Semantics W) where
  -- ---- what may be skipped: operands that open a thunk

  pub skipped-thunked : (op j : ℕ) (c : Option W) → skipped sem op j c ≡ true → thunked op j ≡ true
  unfolding skipped thunked
  skipped-thunked op j None e = false_true e
  skipped-thunked op j (Some v) e =
      go (eqb op IfOp) (eqb op AndOp || eqb op OrOp) (eqb j 1) (eqb j 2) (sem.takes v) (sem.skips op v) e
    where
      go : (i e one two t k : Bool) → ((i && ((one && not t) || (two && t))) || (e && (one && k))) ≡ true →
          ((i && (one || two)) || (e && one)) ≡ true
      go true e true two t k h = refl
      go true e false true t k h = refl
      go true true false false t k h = h
      go true false false false t k h = h
      go false true true two t k h = refl
      go false true false two t k h = h
      go false false one two t k h = h

  pub not-skipped : (op j : ℕ) (c : Option W) → thunked op j ≡ false → skipped sem op j c ≡ false
  not-skipped op j c e = go (skipped sem op j c) refl
    where
      go : (b : Bool) → skipped sem op j c ≡ b → b ≡ false
      go true f = absurd (clash (thunked op j) (skipped-thunked op j c f) e)
      go false f = refl

  -- operand 0, by which it is known what is skipped, never is
  first_found : (op : ℕ) (c : Option W) → skipped sem op 0 c ≡ false
  unfolding skipped
  first_found op None = refl
  first_found op (Some v) = go (eqb op IfOp) (eqb op AndOp || eqb op OrOp)
    where
      go : (i e : Bool) → ((i && false) || (e && false)) ≡ false
      go true true = refl
      go true false = refl
      go false true = refl
      go false false = refl

  -- ---- operands that agree where they are not skipped

  abbrev pub AgreeFound : ℕ → ℕ → Option W → List (Option W) → List (Option W) → Type 0
  AgreeFound op j c [] [] = Unit {0}
  AgreeFound op j c [] (p ∷ ps) = ⊥
  AgreeFound op j c (o ∷ os) [] = ⊥
  AgreeFound op j c (o ∷ os) (p ∷ ps) = (skipped sem op j c ≡ false → p ≡ o) × AgreeFound op (suc j) c os ps

  found_agrees : (op j : ℕ) (c : Option W) (os ps : List (Option W)) → AgreeFound op j c os ps →
      found_from sem op j c ps ≡ found_from sem op j c os
  unfolding found_from
  found_agrees op j c [] [] h = refl
  found_agrees op j c [] (p ∷ ps) h = absurd h
  found_agrees op j c (o ∷ os) [] h = absurd h
  found_agrees op j c (o ∷ os) (p ∷ ps) h =
      go (skipped sem op j c) h.0 (found_agrees op (suc j) c os ps h.1)
    where
      rest : List (Option W) → Option (List W)
      rest l = found_from sem op (suc j) c l

      with_first : Option W → Option (List W) → Option (List W)
      with_first o m = o >>= λ v. m >>= λ vs. Some (v ∷ vs)

      go : (b : Bool) → (b ≡ false → p ≡ o) → rest ps ≡ rest os →
          ◌≡◌ {A = Option (List W)} (elim b [ true ↦ rest ps | false ↦ with_first p (rest ps) ])
          (elim b [ true ↦ rest os | false ↦ with_first o (rest os) ])
      go true e f = f
      go false e f = ap₂ with_first (e refl) f

  pub first-agrees : (op : ℕ) (c : Option W) (os ps : List (Option W)) → AgreeFound op 0 c os ps →
      get_or ps 0 None ≡ get_or os 0 None
  first-agrees op c [] [] h = refl
  first-agrees op c [] (p ∷ ps) h = absurd h
  first-agrees op c (o ∷ os) [] h = absurd h
  first-agrees op c (o ∷ os) (p ∷ ps) h = h.0 (first_found op c)

  pub applied-agrees : (r : Rec) (os ps : List (Option W)) → AgreeFound r.opcode 0 (get_or os 0 None) os ps →
      applied sem r ps ≡ applied sem r os
  unfolding applied
  applied-agrees r os ps h =
      ap (λ (m : Option (List W)). m >>= λ vs. sem.apply r vs)
      (ap (λ (c : Option W). found_from sem r.opcode 0 c ps) (first-agrees r.opcode (get_or os 0 None) os ps h)
      ∙ found_agrees r.opcode 0 (get_or os 0 None) os ps h)

  -- ---- the value of a symbol

  value_step : List Sym → (ℕ → Option W) → ℕ → Option W
  value_step fin f s = applied sem (rec_at fin s) (map f (sym_kids fin s))

  pub value : List Sym → ℕ → Option W
  value fin = down None (value_step fin)

  all_low : (f : ℕ → Option W) (s : ℕ) (ks : List ℕ) → ((k : ℕ) → In k ks → k < s) → map (under None s f) ks ≡ map f ks
  all_low f s [] h = refl
  all_low f s (k ∷ ks) h =
      ap₂ (λ (x : Option W) (y : List (Option W)). x ∷ y)
      (under_low None (λ g n. g n) s f k (lt-ltb k s (h k (inl refl))))
      (all_low f s ks (λ j l. h j (inr l)))

  pub value_is : (fin : List Sym) (s : ℕ) → ((k : ℕ) → In k (sym_kids fin s) → k < s) →
      value fin s ≡ applied sem (rec_at fin s) (map (value fin) (sym_kids fin s))
  unfolding value value_step
  value_is fin s low =
      down_step None (value_step fin) s
      ∙ ap (applied sem (rec_at fin s)) (all_low (value fin) s (sym_kids fin s) low)

  -- ---- live symbols: M are the scopes that are entered

  module _ (fin : List Sym) where
    -- of operands that are not skipped, the symbol's scope is entered, and the thunk's
    abbrev pub KidsLive : List ℕ → ℕ → ℕ → Option W → List ℕ → List ℕ → Type 0
    KidsLive M op j c [] brs = Unit {0}
    KidsLive M op j c (k ∷ ks) [] = (thunked op j ≡ false) × In (scope_at fin k) M × KidsLive M op (suc j) c ks []
    KidsLive M op j c (k ∷ ks) (b ∷ brs) =
        (skipped sem op j c ≡ false → In (scope_at fin k) M) ×
        elim (thunked op j) as (λ z. Type 0) [
          | true ↦ (skipped sem op j c ≡ false → In b M) × KidsLive M op (suc j) c ks brs
          | false ↦ KidsLive M op (suc j) c ks (b ∷ brs)
        ]

    pub record SymLive (M : List ℕ) (x : ℕ) : Type 0 where
      pub found : W
      pub found_is : value fin x ≡ Some found
      pub node_is : OperationOrLeaf (node_at fin x)
      pub kids_live : KidsLive M (rec_at fin x).opcode 0 (get_or (map (value fin) (sym_kids fin x)) 0 None) (sym_kids fin x)
          (thunks_of (node_at fin x))
