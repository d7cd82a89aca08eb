-- Check 16, record by record.
-- In order: an opcode's shape in the records before i; the test of a record; the loop.
-- Assumes nothing.
use Prim.Native.Nat.{ℕ, ◌+◌, ◌<◌, ◌≤◌}
use mathlib.Core.Path.{◌≡◌, refl, sym, ap, ◌∙◌, subst}
use mathlib.Core.Logic.{◌⊎◌, inl, inr}
use mathlib.Core.Bool.{Bool, true, false, not, ◌&&◌}
use Rattle.std.specs.Prelude.{Option, None, Some}
use mathlib.Core.List.{List, ◌∷◌, ◌++◌, [], map}
use native.Mathlib.Omega.{arith}
use native.Mathlib.Decide.{ℕ_discrete}
use borrow.Author.Tests.{eq-eqb, ne_eqb}
use lib.Dec.{eqb}
use lib.ListN.{length, get_or, set, take, drop, replicate}
use Rattle.std.proofs.lemmas.List.{take_more, map-append, take-append-drop, get_or-set_same, get_or-set_other, get_or-replicate, length-replicate, length-set}
use Rattle.model.specs.Lists.{first}
use Rattle.model.specs.Tree.{Rec, Row}
use Rattle.model.specs.Shape.{Pairs, shape_of}
use Rattle.model.specs.Forest.{record_count, rows_in, opcode_shapes, other_shape, check16}
use Rattle.laws.proofs.Header.{header_of, row_count}
use Rattle.laws.proofs.Opcodes.{or_else, shape_joined}
use Rattle.record.specs.Record.{no_row, row_at}
use Rattle.walk.specs.Walk.{shift}
use Rattle.walk.proofs.Bridge.{rows_at, rows_end}
use Rattle.walk.proofs.Steps.{shift_zero, shift_hit, shift_miss}

-- ---- an opcode's shape in the records before i

shape_among : List Row → ℕ → Option ℕ
shape_among rs o = shape_of (opcode_shapes rs) o

among_joined : (rs qs : List Row) (o : ℕ) → shape_among (rs ++ qs) o ≡ or_else (shape_among rs o) (shape_among qs o)
unfolding shape_among
among_joined rs qs o =
    ap (λ (z : Pairs). shape_of z o) (map-append (λ (r : Row). (r.rec.opcode, r.rec.shape)) rs qs)
    ∙ shape_joined (opcode_shapes rs) (opcode_shapes qs) o

-- where the first part has the opcode, so does the whole
among_kept : (rs qs : List Row) (o s : ℕ) → shape_among rs o ≡ Some s → shape_among (rs ++ qs) o ≡ Some s
among_kept rs qs o s e = among_joined rs qs o ∙ ap (λ (z : Option ℕ). or_else z (shape_among qs o)) e

-- one record
alone_same : (o s : ℕ) → shape_of ((o, s) ∷ []) o ≡ Some s
unfolding shape_of
alone_same o s = rw (shape_of, eq-eqb o o refl)

alone_other : (p s o : ℕ) → (p ≡ o → ⊥) → shape_of ((p, s) ∷ []) o ≡ None
unfolding shape_of
alone_other p s o n = rw (shape_of, ne_eqb p o n)

among_new : (rs : List Row) (r : Row) → shape_among rs r.rec.opcode ≡ None →
    shape_among (rs ++ r ∷ []) r.rec.opcode ≡ Some r.rec.shape
unfolding shape_among
among_new rs r e =
    among_joined rs (r ∷ []) r.rec.opcode
    ∙ ap (λ (z : Option ℕ). or_else z (shape_among (r ∷ []) r.rec.opcode)) e
    ∙ alone_same r.rec.opcode r.rec.shape

among_other : (rs : List Row) (r : Row) (o : ℕ) → (r.rec.opcode ≡ o → ⊥) → shape_among (rs ++ r ∷ []) o ≡ shape_among rs o
unfolding shape_among
among_other rs r o n =
    among_joined rs (r ∷ []) o
    ∙ ap (or_else (shape_among rs o)) (alone_other r.rec.opcode r.rec.shape o n)
    ∙ go (shape_among rs o)
  where
    go : (m : Option ℕ) → or_else m None ≡ m
    go None = refl
    go (Some s) = refl

-- the shape of opcode o in the records before i
pub met : List ℕ → ℕ → ℕ → Option ℕ
met bs i o = shape_among (take i (rows_in bs)) o

module _ (bs : List ℕ) (i : ℕ) where
  met_whole : (o s : ℕ) → met bs i o ≡ Some s → shape_among (rows_in bs) o ≡ Some s
  unfolding met
  met_whole o s e =
      ap (λ (z : List Row). shape_among z o) (sym (take-append-drop i (rows_in bs)))
      ∙ among_kept (take i (rows_in bs)) (drop i (rows_in bs)) o s e

  module _ (lt : i < record_count bs) where
    more : (o : ℕ) → met bs (i + 1) o ≡ shape_among (take i (rows_in bs) ++ row_at bs i ∷ []) o
    unfolding met row_at
    more o =
        let m : i < length (rows_in bs) = omega (arith, row_count bs) in
        ap (λ (z : List Row). shape_among z o) (take_more (rows_in bs) i no_row m)

    met_kept : (o s : ℕ) → met bs i o ≡ Some s → met bs (i + 1) o ≡ Some s
    unfolding met
    met_kept o s e = more o ∙ among_kept (take i (rows_in bs)) (row_at bs i ∷ []) o s e

    met_new : met bs i (row_at bs i).rec.opcode ≡ None →
        met bs (i + 1) (row_at bs i).rec.opcode ≡ Some (row_at bs i).rec.shape
    unfolding met
    met_new e = more (row_at bs i).rec.opcode ∙ among_new (take i (rows_in bs)) (row_at bs i) e

    met_other : (o : ℕ) → ((row_at bs i).rec.opcode ≡ o → ⊥) → met bs (i + 1) o ≡ met bs i o
    unfolding met
    met_other o n = more o ∙ among_other (take i (rows_in bs)) (row_at bs i) o n

-- ---- the test of a record

other_met : (rs : List Row) (r : Rec) (s : ℕ) → shape_among rs r.opcode ≡ Some s → (r.opcode ≡ 0 → ⊥) →
    (s ≡ r.shape → ⊥) → other_shape rs r ≡ true
unfolding other_shape shape_among
other_met rs r s e n m = rw (ne_eqb r.opcode 0 n, e, ne_eqb s r.shape m)

other_zero : (rs : List Row) (r : Rec) → r.opcode ≡ 0 → other_shape rs r ≡ false
unfolding other_shape
other_zero rs r e = rw (eq-eqb r.opcode 0 e)

other_same : (rs : List Row) (r : Rec) (s : ℕ) → shape_among rs r.opcode ≡ Some s → s ≡ r.shape → other_shape rs r ≡ false
unfolding other_shape shape_among
other_same rs r s e f = rw (e, eq-eqb s r.shape f) (go (eqb r.opcode 0))
  where
    go : (b : Bool) → (not b && false) ≡ false
    go true = refl
    go false = refl

abbrev test : List ℕ → Row → Bool
test bs r = other_shape (rows_in bs) r.rec

-- the first fault from record i on
pub shapes_left : List ℕ → ℕ → Option ℕ
shapes_left bs i = shift i (first (map (test bs) (drop i (rows_in bs))))

module _ (bs : List ℕ) where
  left_start : shapes_left bs 0 ≡ check16 bs
  unfolding shapes_left check16
  left_start = shift_zero _

  left_end : (i : ℕ) → record_count bs ≤ i → shapes_left bs i ≡ None
  unfolding shapes_left first
  left_end i l = rw (rows_end bs i l)

  module _ (i : ℕ) (lt : i < record_count bs) where
    tests_at : map (test bs) (drop i (rows_in bs)) ≡ test bs (row_at bs i) ∷ map (test bs) (drop (i + 1) (rows_in bs))
    tests_at = ap (map (test bs)) (rows_at bs i lt)

    left_hit : test bs (row_at bs i) ≡ true → shapes_left bs i ≡ Some i
    unfolding shapes_left
    left_hit e = ap (λ (z : List Bool). shift i (first z)) tests_at ∙ shift_hit i _ _ e

    left_miss : test bs (row_at bs i) ≡ false → shapes_left bs i ≡ shapes_left bs (i + 1)
    unfolding shapes_left
    left_miss e = ap (λ (z : List Bool). shift i (first z)) tests_at ∙ shift_miss i _ _ e

-- ---- the loop

-- at record i: the table has the shape of each opcode that was met, and what is left gives the whole
pub record Meeting (bs : List ℕ) (i : ℕ) (table : List (Option ℕ)) : Type 0 where
  pub long : length table ≡ 256
  pub has : (o : ℕ) → o < 256 → get_or table o None ≡ met bs i o
  pub left : shapes_left bs i ≡ check16 bs

module _ (bs : List ℕ) where
  none_met : (o : ℕ) → None ≡ met bs 0 o
  unfolding met shape_among shape_of
  none_met o = refl

  pub meeting_start : Meeting bs 0 (replicate 256 None)
  meeting_start = record {
    long = length-replicate {A = Option ℕ} 256 None;
    has = λ o l. get_or-replicate 256 o None None l ∙ none_met o;
    left = left_start bs;
  }

  pub meeting_end : (i : ℕ) (table : List (Option ℕ)) → Meeting bs i table → record_count bs ≤ i → None ≡ check16 bs
  meeting_end i table h l = sym (left_end bs i l) ∙ h.left

  module _ (i : ℕ) (lt : i < record_count bs) (table : List (Option ℕ)) (h : Meeting bs i table) (o s : ℕ)
      (low : o < 256) (is : o ≡ (row_at bs i).rec.opcode) (f : s ≡ (row_at bs i).rec.shape) where
    abbrev r : Row
    r = row_at bs i

    -- what the entry says of record i
    entry : met bs i r.rec.opcode ≡ get_or table o None
    entry = rw (← is) (sym (h.has o low))

    module _ (m : ℕ) (e : get_or table o None ≡ Some m) where
      whole : shape_among (rows_in bs) r.rec.opcode ≡ Some m
      whole = met_whole bs i r.rec.opcode m (entry ∙ e)

      pub meeting_other : (o ≡ 0 → ⊥) → (m ≡ s → ⊥) → Some i ≡ check16 bs
      meeting_other n d =
          sym (left_hit bs i lt (other_met (rows_in bs) r.rec m whole (λ g. n (is ∙ g)) (λ g. d (g ∙ sym f)))) ∙ h.left

      no_other : ((o ≡ 0 → ⊥) × (m ≡ s)) ⊎ (o ≡ 0) → test bs r ≡ false
      no_other (inl d) = other_same (rows_in bs) r.rec m whole (d.1 ∙ f)
      no_other (inr z) = other_zero (rows_in bs) r.rec (sym is ∙ z)

      pub meeting_same : ((o ≡ 0 → ⊥) × (m ≡ s)) ⊎ (o ≡ 0) → Meeting bs (i + 1) table
      meeting_same d = record { long = h.long; has = at; left = sym (left_miss bs i lt (no_other d)) ∙ h.left }
        where
          at : (k : ℕ) → k < 256 → get_or table k None ≡ met bs (i + 1) k
          at k l = elim (ℕ_discrete o k) [
            | yes g ↦
                let v : get_or table k None ≡ Some m = subst (λ (z : ℕ). get_or table z None ≡ Some m) g e in
                v ∙ sym (met_kept bs i lt k m (sym (h.has k l) ∙ v))
            | no n ↦ h.has k l ∙ sym (met_other bs i lt k (λ g. n (is ∙ g)))
          ]

    pub meeting_new : get_or table o None ≡ None → Meeting bs (i + 1) (set table o (Some s))
    meeting_new e = record {
      long = length-set table o (Some s) ∙ h.long;
      has = at;
      left = sym (left_miss bs i lt fine) ∙ h.left;
    }
      where
        now : met bs (i + 1) r.rec.opcode ≡ Some r.rec.shape
        now = met_new bs i lt (entry ∙ e)

        fine : test bs r ≡ false
        fine = other_same (rows_in bs) r.rec r.rec.shape (met_whole bs (i + 1) r.rec.opcode r.rec.shape now) refl

        here : get_or (set table o (Some s)) o None ≡ met bs (i + 1) o
        here =
            let in_table : o < length table = omega (arith, h.long) in
            get_or-set_same table o (Some s) None in_table ∙ rw (f, is) (sym now)

        at : (k : ℕ) → k < 256 → get_or (set table o (Some s)) k None ≡ met bs (i + 1) k
        at k l = elim (ℕ_discrete o k) [
          | yes g ↦ subst (λ (z : ℕ). get_or (set table o (Some s)) z None ≡ met bs (i + 1) z) g here
          | no n ↦
              get_or-set_other table o k (Some s) None (λ g. n (sym g))
              ∙ h.has k l
              ∙ sym (met_other bs i lt k (λ g. n (is ∙ g)))
        ]

pub ruleset meeting = (header_of, meeting_end, meeting_other)
