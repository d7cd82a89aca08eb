-- The texts of a record's line. In order: how many spaces stand before a number; a literal; a lambda's arguments; a
-- constant's mark and class; what a record of a shape has; a line; what is required of its record.
-- Assumes nothing.
use Prim.Native.Nat.{ℕ, zero, suc, ◌-◌, ◌/◌, ◌<◌, ◌≤◌}
use mathlib.Core.Path.{◌≡◌, refl, ap}
use mathlib.Core.Bool.{Bool, true, false}
use mathlib.Core.List.{List, [], ◌∷◌, ◌++◌, map}
use native.Mathlib.Omega.{arith}
use native.Mathlib.Decide.{dec_lt}
use borrow.Author.Tests.{ne_eqb}
use lib.Dec.{eqb}
use lib.ListN.{length, get_or}
use Rattle.model.specs.Text.{text}
use Rattle.model.specs.Bytes.{u32}
use Rattle.model.specs.Tree.{Rec, rec, class, mark}
use Rattle.model.specs.Forest.{record_count}
use Rattle.model.specs.Binding.{block, other, kind, id_of, arg_ids, args_of}
use Rattle.model.specs.Lister.{numeral}
use Rattle.model.specs.Sheet.{named, shape_names, class_names, hex_bytes, id_texts, args_text, id_text, mark_text, const_text}
use Rattle.model.specs.Sheet.{own_text, literal_text, place_text, opcode_text, record_line}
use Rattle.text.proofs.Numbers.{numeral_least, numeral_before}
use Rattle.record.specs.Record.{row_at}
use Rattle.walk.specs.Words.{arg_ids_at}
use Rattle.walk.specs.Walk.{WellFormed}
use Rattle.walk.proofs.Bridge.{row_fits}
use Rattle.output.specs.declared.Output.{Output}
use Rattle.sheet.specs.Clip.{PutClipped}
use Rattle.sheet.specs.Shown.{Fits}
use Rattle.sheet.proofs.Clipping.{clipped_then, clipped_as}

-- ---- spaces before a number

numeral_some : (n : ℕ) → n < 18446744073709551616 → 1 ≤ length (numeral n)
numeral_some n h = elim (dec_lt n 10) [
  | yes l ↦ omega (arith, numeral_least n l)
  | no l ↦ omega (arith, numeral_before n (omega arith) h)
]

module _ (i : ℕ) (h : i < 18446744073709551616) where
  pub pad_2 : i < 10 → 2 ≡ 3 - length (numeral i)
  pad_2 l = omega (arith, numeral_least i l)

  pub pad_1 : 10 ≤ i → i < 100 → 1 ≡ 3 - length (numeral i)
  pad_1 l m = omega (arith, numeral_before i l h, numeral_least (i / 10) (omega arith))

  pub pad_0 : 100 ≤ i → 0 ≡ 3 - length (numeral i)
  pad_0 l =
      omega (
        arith,
        numeral_before i (omega arith) h,
        numeral_before (i / 10) (omega arith) (omega arith),
        numeral_some (i / 10 / 10) (omega arith),
      )

-- ---- a literal

pub literal_none : (lit : List ℕ) → length lit ≡ 0 → [] ≡ literal_text lit
unfolding literal_text
literal_none [] e = refl
literal_none (b ∷ bs) e = absurd (omega arith)

pub literal_some : (lit : List ℕ) → (length lit ≡ 0 → ⊥) → text "  literal " ++ hex_bytes lit ≡ literal_text lit
unfolding literal_text
literal_some [] n = absurd (n refl)
literal_some (b ∷ bs) n = refl

-- ---- a lambda's arguments

abbrev pub ids : List (ℕ × List ℕ) → List ℕ
ids xs = map (λ (a : ℕ × List ℕ). a.0) xs

pub ids_none : (left : List (ℕ × List ℕ)) → left ≡ [] → [] ≡ id_texts (ids left)
unfolding id_texts
ids_none left e = rw e

pub ids_more : (left : List (ℕ × List ℕ)) (a : ℕ × List ℕ) (more : List (ℕ × List ℕ)) → left ≡ a ∷ more →
    text " " ++ numeral a.0 ++ id_texts (ids more) ≡ id_texts (ids left)
unfolding id_texts
ids_more left a more e = rw e

pub args_none_text : (n : ℕ) (lit : List ℕ) → n ≡ 0 → [] ≡ args_text (arg_ids_at n lit)
unfolding args_text args_of
args_none_text n lit e = rw e

pub args_text_lem : (n : ℕ) (lit : List ℕ) → (n ≡ 0 → ⊥) →
    text "  args" ++ id_texts (arg_ids_at n lit) ≡ args_text (arg_ids_at n lit)
unfolding args_text args_of
args_text_lem zero lit h = absurd (h refl)
args_text_lem (suc n) lit h = refl

-- ---- a constant's mark and class

pub mark_none : (m : ℕ) → m ≡ 0 → [] ≡ mark_text m
unfolding mark_text
mark_none m e = rw e

pub mark_some : (m : ℕ) → (m ≡ 0 → ⊥) → text " mark " ++ numeral m ≡ mark_text m
unfolding mark_text
mark_some zero n = absurd (n refl)
mark_some (suc m) n = refl

pub const_text_lem : (aux : ℕ) {c m : ℕ} → c ≡ class aux → m ≡ mark aux →
    named (text "  ") class_names c ++ mark_text m ≡ const_text aux
unfolding const_text
const_text_lem aux e f = rw (e, f)

-- ---- what a record of a shape has

module _ (s op aux : ℕ) (lit : List ℕ) where
  pub own_const : s ≡ 0 → const_text aux ≡ own_text (rec s op aux lit)
  unfolding own_text kind
  own_const e = rw e

  pub own_use : s ≡ 7 → text "  id " ++ numeral (u32 lit) ≡ own_text (rec s op aux lit)
  unfolding own_text kind id_text id_of
  own_use e = rw e

  pub own_def : s ≡ 10 → text "  id " ++ numeral (u32 lit) ≡ own_text (rec s op aux lit)
  unfolding own_text kind id_text id_of
  own_def e = rw e

  pub own_args : s ≡ 12 → args_text (arg_ids_at aux lit) ≡ own_text (rec s op aux lit)
  unfolding own_text kind arg_ids
  own_args e = rw e

  pub own_field : s ≡ 17 → text "  field " ++ numeral (get_or lit 0 0) ≡ own_text (rec s op aux lit)
  unfolding own_text kind
  own_field e = rw e

  -- of any other shape nothing
  pub own_none : (s ≡ 0 → ⊥) → (s ≡ 7 → ⊥) → (s ≡ 10 → ⊥) → (s ≡ 12 → ⊥) → (s ≡ 17 → ⊥) →
      [] ≡ own_text (rec s op aux lit)
  unfolding own_text kind
  own_none n_0 n_7 n_10 n_12 n_17 = go (eqb s 11) refl
    where
      go : (b : Bool) → eqb s 11 ≡ b → [] ≡ own_text (rec s op aux lit)
      go true e =
          let k : kind s ≡ block = rw (ne_eqb s 7 n_7, ne_eqb s 10 n_10, e, kind) in
          rw (k, own_text)
      go false e =
          let e17 = ne_eqb s 17 n_17 in
          let k : kind s ≡ other =
          rw (ne_eqb s 7 n_7, ne_eqb s 10 n_10, e, ne_eqb s 12 n_12, e17, kind) in
          rw (k, own_text, ne_eqb s 0 n_0)

-- ---- a line

pub line_parts : (i depth : ℕ) (r : Rec) {s o a : ℕ} {l : List ℕ} → s ≡ r.shape → o ≡ r.opcode → a ≡ r.aux →
    l ≡ r.lit → {o₀ o₁ o₂ o₃ o₄ o₅ o₆ : Output} →
    PutClipped o₀ (place_text i depth) o₁ →
    PutClipped o₁ (named [] shape_names s) o₂ →
    PutClipped o₂ (opcode_text o) o₃ →
    ((op : ℕ) → PutClipped o₃ (own_text (rec s op a l)) o₄) →
    PutClipped o₄ (literal_text l) o₅ →
    PutClipped o₅ (10 ∷ []) o₆ →
    PutClipped o₀ (record_line i depth r) o₆
unfolding record_line text
line_parts i depth r {s} {o} {a} {l} e f g h place shape opcode own literal end =
    let owned : own_text (rec s r.opcode a l) ≡ own_text r = rw (e, g, h) in
    let named-as = clipped_as shape (ap (named [] shape_names) e) in
    clipped_then
    (clipped_then
    (clipped_then
    (clipped_then (clipped_then place named-as) (clipped_as opcode (ap opcode_text f)))
    (clipped_as (own r.opcode) owned))
    (clipped_as literal (ap literal_text h)))
    end

-- a record of a forest fits its shape
pub fits_at : (bs : List ℕ) (i : ℕ) → WellFormed bs → i < record_count bs → {s a : ℕ} {l : List ℕ} →
    s ≡ (row_at bs i).rec.shape → a ≡ (row_at bs i).rec.aux → l ≡ (row_at bs i).rec.lit → Fits s a l
fits_at bs i h n e f g = record {
  opcode = (row_at bs i).rec.opcode;
  kids = (row_at bs i).kids;
  is = rw (e, f, g) (row_fits bs i h.fit n);
}
