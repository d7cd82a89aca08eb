-- Laws of the comparison `same` of lists, and of records as keys have them, `key_rec`;
-- and the sets of them that this crate's functions are proved by.
-- Assumes nothing.
use Prim.Native.Nat.{ℕ}
use mathlib.Core.Path.{◌≡◌, refl, sym, ap, ◌∙◌}
use mathlib.Core.Bool.{Bool, true, false, ◌&&◌, and-true}
use mathlib.Core.List.{List, [], ◌∷◌}
use native.Mathlib.Omega.{arith}
use borrow.Author.Tests.{eq-eqb, ne_eqb}
use lib.Dec.{eqb}
use lib.ListN.{length, get_or}
use lib.Pointwise.{pointwise}
use Rattle.model.specs.Lists.{same}
use Rattle.model.specs.Tree.{Rec, rec}
use Rattle.laws.proofs.Apart.{true_false}
use Rattle.laws.proofs.Members.{same_refl, same_true}
use Rattle.record.specs.Record.{row_at}
use Rattle.symbols.specs.Symbols.{key_rec}

-- ---- lists

-- what `==` says of slices
pub slices_same : (a b : List ℕ) → pointwise eqb a b ≡ same a b
unfolding same
slices_same [] [] = refl
slices_same [] (y ∷ b) = refl
slices_same (x ∷ a) [] = refl
slices_same (x ∷ a) (y ∷ b) = ap (λ (t : Bool). eqb x y && t) (slices_same a b)

same_differ : (a b : List ℕ) → (a ≡ b → ⊥) → false ≡ same a b
same_differ a b h = go (same a b) refl
  where
    go : (t : Bool) → same a b ≡ t → false ≡ t
    go true e = absurd (h (same_true a b e))
    go false e = refl

-- a list beside one of one number
pub same_one : (a : List ℕ) (b : ℕ) → length a ≡ 1 → same a (b ∷ []) ≡ eqb (get_or a 0 0) b
unfolding same
same_one [] b e = absurd (omega arith)
same_one (x ∷ []) b e = and-true (eqb x b)
same_one (x ∷ y ∷ a) b e = absurd (omega arith)

pub same_not_one : (a : List ℕ) (b : ℕ) → (length a ≡ 1 → ⊥) → same a (b ∷ []) ≡ false
same_not_one a b h = sym (same_differ a (b ∷ []) (λ e. h (ap length e)))

pub same_sym : (a b : List ℕ) → same a b ≡ same b a
same_sym a b = go (same a b) refl
  where
    go : (t : Bool) → same a b ≡ t → t ≡ same b a
    go true e = let f : a ≡ b = same_true a b e in rw f (sym (same_refl b))
    go false e = same_differ b a (λ f. true_false (sym (same_refl a) ∙ ap (same a) (sym f) ∙ e))

-- ---- records as keys have them

module _ (bs : List ℕ) (i : ℕ) where
  abbrev own : Rec
  own = (row_at bs i).rec

  abbrev chosen : Bool → ℕ → Rec
  chosen t field = elim t [ true ↦ own | false ↦ rec own.shape own.opcode 0 (field ∷ []) ]

  pub key_shape : (field : ℕ) → (key_rec bs i field).shape ≡ own.shape
  unfolding key_rec
  key_shape field = go (eqb field 0)
    where
      go : (t : Bool) → (chosen t field).shape ≡ own.shape
      go true = refl
      go false = refl

  pub key_opcode : (field : ℕ) → (key_rec bs i field).opcode ≡ own.opcode
  unfolding key_rec
  key_opcode field = go (eqb field 0)
    where
      go : (t : Bool) → (chosen t field).opcode ≡ own.opcode
      go true = refl
      go false = refl

  pub key_plain : (field : ℕ) → field ≡ 0 → key_rec bs i field ≡ own
  unfolding key_rec
  key_plain field e = ap (λ (t : Bool). chosen t field) (eq-eqb field 0 e)

  pub key_field : (field : ℕ) → (field ≡ 0 → ⊥) → key_rec bs i field ≡ rec own.shape own.opcode 0 (field ∷ [])
  unfolding key_rec
  key_field field h = ap (λ (t : Bool). chosen t field) (ne_eqb field 0 h)

-- ---- what the comparisons of two records are proved by

pub ruleset literals = (slices_same, same_one, same_sym)

pub ruleset heads = (key_shape, key_opcode)
