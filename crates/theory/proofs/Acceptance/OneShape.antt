-- The table of the opcodes of records with their shapes, by which check 16 goes: what it gives is the shape of the first
-- record of the opcode (`first_has`), and where 16 passes each record's own (`own_shape`).
-- In order: records by a table; the first record of an opcode; what the table gives of a record that is there.
-- Assumes nothing.
use mathlib.Core.Path.{◌≡◌, refl, ap, ◌∙◌}
use mathlib.Core.Logic.{◌⊎◌, inl, inr, ◌≢◌}
use mathlib.Core.Bool.{Bool, true, false}
use Rattle.std.specs.Prelude.{Option, None, Some}
use Rattle.std.proofs.lemmas.Option.{same_Some}
use mathlib.Core.List.{List, [], ◌∷◌, map}
use Prim.Native.Nat.{ℕ, zero, suc, ◌≤◌, ◌<◌}
use native.Mathlib.Omega.{arith}
use lib.Dec.{eqb}
use lib.ListN.{length, get_or, get_or-map}
use borrow.Author.Tests.{eqb-true, eqb-false, eq-eqb, ne_eqb}
use Rattle.model.specs.Lists.{first}
use Rattle.model.specs.Tree.{Rec, Row}
use Rattle.model.specs.Shape.{Pairs, shape_of}
use Rattle.model.specs.Forest.{opcode_shapes, other_shape}
use Rattle.model.specs.Places.{no_record}
use Rattle.laws.proofs.Apart.{none_some}
use Rattle.theory.proofs.Demand3.Faulty.{none_faulty}

-- ---- records by a table

-- the record has the shape that the table gives its opcode; 00 may have any
abbrev pub ByTable : Pairs → Rec → Type 0
ByTable table r = (r.opcode ≡ 0) ⊎ (shape_of table r.opcode ≡ Some r.shape)

-- ---- the first record of an opcode

abbrev rec_of : List Row → ℕ → Rec
rec_of rs p = (get_or rs p no_record).rec

-- a record of opcode o and shape s, at or before each record of that opcode
pub record FirstHas (rs : List Row) (o s : ℕ) : Type 0 where
  pub at : ℕ
  pub there : at < length rs
  pub opcode_is : (get_or rs at no_record).rec.opcode ≡ o
  pub shape_is : (get_or rs at no_record).rec.shape ≡ s
  pub early : (p : ℕ) → (get_or rs p no_record).rec.opcode ≡ o → at ≤ p

pub first_has : (rs : List Row) (o s : ℕ) → shape_of (opcode_shapes rs) o ≡ Some s → FirstHas rs o s
unfolding shape_of
first_has [] o s e = none_some e
first_has (r ∷ rs) o s e = go (eqb r.rec.opcode o) refl (first_has rs o s) e
  where
    step : (r.rec.opcode ≡ o → ⊥) → FirstHas rs o s → FirstHas (r ∷ rs) o s
    step n w = record {
      at = suc w.at;
      there = omega (arith, w.there);
      opcode_is = w.opcode_is;
      shape_is = w.shape_is;
      early = lower;
    }
      where
        lower : (p : ℕ) → (rec_of (r ∷ rs) p).opcode ≡ o → suc w.at ≤ p
        lower zero h = absurd (n h)
        lower (suc p) h = omega (arith, w.early p h)

    go : (b : Bool) → eqb r.rec.opcode o ≡ b → (shape_of (opcode_shapes rs) o ≡ Some s → FirstHas rs o s) →
        elim b as (λ z. Option ℕ) [ true ↦ Some r.rec.shape | false ↦ shape_of (opcode_shapes rs) o ] ≡ Some s →
        FirstHas (r ∷ rs) o s
    go true x rest e = record {
      at = 0;
      there = omega arith;
      opcode_is = eqb-true _ _ x;
      shape_is = same_Some _ _ e;
      early = λ p h. omega arith;
    }
    go false x rest e = step (eqb-false _ _ x) (rest e)

-- ---- a record that is there

-- check 16 passes of these
abbrev pub OneShape : List Row → Type 0
OneShape rs = first (map (λ r. other_shape rs r.rec) rs) ≡ None

-- its opcode is in the table
listed : (rs : List Row) (p : ℕ) → p < length rs →
    (s : ℕ) × (shape_of (opcode_shapes rs) (rec_of rs p).opcode ≡ Some s)
unfolding shape_of
listed [] p l = absurd (omega arith)
listed (r ∷ rs) zero l = (r.rec.shape, rw (eq-eqb r.rec.opcode r.rec.opcode refl, shape_of))
listed (r ∷ rs) (suc p) l = go (eqb r.rec.opcode o) (listed rs p (omega arith))
  where
    o : ℕ
    o = (rec_of rs p).opcode

    go : (b : Bool) → (s : ℕ) × (shape_of (opcode_shapes rs) o ≡ Some s) →
        (s : ℕ) ×
        (elim b as (λ z. Option ℕ) [ true ↦ Some r.rec.shape | false ↦ shape_of (opcode_shapes rs) o ] ≡ Some s)
    go true w = (r.rec.shape, refl)
    go false w = w

-- the test is true of it, or the table has its own shape
pub other_or-own : (rs : List Row) (p : ℕ) → p < length rs → (rec_of rs p).opcode ≢ 0 →
    (other_shape rs (rec_of rs p) ≡ true) ⊎
    (shape_of (opcode_shapes rs) (rec_of rs p).opcode ≡ Some (rec_of rs p).shape)
unfolding other_shape
other_or-own rs p l n = go (listed rs p l)
  where
    r : Rec
    r = rec_of rs p

    go : (s : ℕ) × (shape_of (opcode_shapes rs) r.opcode ≡ Some s) →
        (other_shape rs r ≡ true) ⊎ (shape_of (opcode_shapes rs) r.opcode ≡ Some r.shape)
    go (s, e) = same (eqb s r.shape) refl
      where
        same : (b : Bool) → eqb s r.shape ≡ b →
            (other_shape rs r ≡ true) ⊎ (shape_of (opcode_shapes rs) r.opcode ≡ Some r.shape)
        same true x = inr (e ∙ ap Some (eqb-true s r.shape x))
        same false x = inl (rw (ne_eqb r.opcode 0 n, e, x))

-- so where the test is true of none, each has its own
pub own_shape : (rs : List Row) → OneShape rs → (p : ℕ) → p < length rs →
    ByTable (opcode_shapes rs) (get_or rs p no_record).rec
unfolding other_shape
own_shape rs e p l = go (eqb r.opcode 0) refl
  where
    r : Rec
    r = rec_of rs p

    tested : get_or (map (λ q. other_shape rs q.rec) rs) p false ≡ other_shape rs r
    tested = get_or-map (λ q. other_shape rs q.rec) rs p no_record

    own : (other_shape rs r ≡ true) ⊎ (shape_of (opcode_shapes rs) r.opcode ≡ Some r.shape) →
        shape_of (opcode_shapes rs) r.opcode ≡ Some r.shape
    own (inl m) = absurd (none_faulty (map (λ q. other_shape rs q.rec) rs) e p (tested ∙ m))
    own (inr h) = h

    go : (b : Bool) → eqb r.opcode 0 ≡ b → ByTable (opcode_shapes rs) r
    go true x = inl (eqb-true r.opcode 0 x)
    go false x = inr (own (other_or-own rs p l (eqb-false r.opcode 0 x)))
