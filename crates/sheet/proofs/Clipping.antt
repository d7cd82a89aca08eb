-- Texts put into an output as far as there is room. In order: nothing; the same text; over a buffer's start; a text that fits; one text
-- after another; a text from a buffer of its own; spaces; bytes in hex.
-- Assumes nothing.
use Prim.Native.Nat.{ℕ, ◌+◌, ◌-◌, ◌<◌, ◌≤◌}
use mathlib.Core.Path.{◌≡◌, refl, sym, ap, ◌∙◌, subst}
use mathlib.Core.Bool.{Bool, true, false}
use mathlib.Core.List.{List, [], ◌∷◌, ◌++◌, append_assoc, append-nil}
use native.Mathlib.Omega.{arith}
use native.Mathlib.Numerals.{add-one}
use lib.Dec.{ltb}
use lib.ListN.{length, take, drop, get_or, replicate, length-replicate}
use lib.Seq.{take_all, take-suc, take-nil, take_at, take-append-le, take-append-add, length-take-le}
use borrow.Author.Tests.{ltb-true, ltb-false}
use borrow.Rule.Slice.PartMut.{put_mid}
use Rattle.std.proofs.Common.{min}
use Rattle.std.proofs.lemmas.List.{take_min, take-replicate}
use Rattle.std.proofs.lemmas.Slice.{put_mid-paste}
use Rattle.model.specs.Lister.{hex_byte}
use Rattle.model.specs.Sheet.{hex_bytes}
use Rattle.output.specs.declared.Output.{Output}
use Rattle.output.specs.Output.{over, Wrote, Put}
use Rattle.output.proofs.Over.{over_front, paste_over}
use Rattle.output.proofs.Put.{put_none, put_part, put_as, put_then, put_wrote}
use Rattle.output.proofs.Wrote.{wrote_as}
use Rattle.sheet.specs.Clip.{Clipped, PutClipped}

pub clipped_none : (o : Output) → PutClipped o [] o
clipped_none o = record { is = put_as (sym (take-nil (length o.bytes.now - o.at))) (put_none o) }

module _ {o o' : Output} {s : List ℕ} (v : PutClipped o s o') where
  -- the same text
  pub clipped_as : {t : List ℕ} → s ≡ t → PutClipped o t o'
  clipped_as {t} e = subst (λ (z : List ℕ). PutClipped o z o') e v

  -- over a buffer's start
  pub clipped_over : {out : List ℕ} → o.bytes.now ≡ out → o.at ≡ 0 → Clipped out 0 s o'.bytes.now o'.at
  clipped_over {out} e z =
      let n : length o.bytes.now - o.at ≡ length out - 0 = omega (arith, ap length e) in
      record { is = wrote_as (ap (λ (k : ℕ). take k s) n) (put_wrote e z v.is) }

-- a text that fits
pub clipped_whole : {o o' : Output} {s : List ℕ} → Put o s o' → length s ≤ length o.bytes.now - o.at → PutClipped o s o'
clipped_whole {o} {o'} {s} v le = record { is = put_as (sym (take_all (length o.bytes.now - o.at) s le)) v }

-- ---- one text after another

-- of two texts, what has room is what has room of the first, and of the second behind it
take_both : (s t : List ℕ) (n : ℕ) → take n (s ++ t) ≡ take n s ++ take (n - length (take n s)) t
take_both s t n = go (ltb n (length s)) refl
  where
    go : (b : Bool) → ltb n (length s) ≡ b → take n (s ++ t) ≡ take n s ++ take (n - length (take n s)) t
    go true e =
        let l : n ≤ length s = omega (arith, ltb-true n (length s) e) in
        let z : n - length (take n s) ≡ 0 = omega (arith, length-take-le n s l) in
        take-append-le n s t l ∙ sym (rw z (append-nil (take n s)))
    go false e =
        let l : length s ≤ n = ltb-false n (length s) e in
        let z : n ≡ length s + (n - length s) = omega arith in
        ap (λ (k : ℕ). take k (s ++ t)) z ∙ (take-append-add s t (n - length s)
        ∙ ap (λ (x : List ℕ). x ++ take (n - length x) t) (sym (take_all n s l)))

pub clipped_then : {s t : List ℕ} {o o₁ o₂ : Output} → PutClipped o s o₁ → PutClipped o₁ t o₂ → PutClipped o (s ++ t) o₂
clipped_then {s} {t} {o} {o₁} v w =
    let n = length o.bytes.now - o.at in
    let e : length o₁.bytes.now - o₁.at ≡ n - length (take n s) = omega (arith, v.is.len, v.is.ends) in record {
      is = put_as (ap (λ (m : ℕ). take n s ++ take m t) e ∙ sym (take_both s t n)) (put_then v.is w.is);
    }

-- ---- a text from a buffer of its own

pub scratch_text : {buf s buf' : List ℕ} {n : ℕ} → Wrote buf 0 s buf' n → take n buf' ≡ s
scratch_text {buf} {s} {buf'} {n} w =
    let e : length s ≡ n = omega (arith, w.ends) in
    ap (take n) (w.holds ∙ over_front buf s) ∙ take_at s (drop (length s) buf) n e

-- ---- spaces

-- of n, what has room
some_of : (x n k room : ℕ) → k ≡ min n room → take room (replicate n x) ≡ replicate k x
some_of x n k room e =
    let f : min room (length (replicate n x)) ≡ k = omega (arith, length-replicate n x) in
    sym (take_min room (replicate n x)) ∙ rw f (take-replicate k n x (omega arith))

pub spaces_put : {o o' : Output} (n k : ℕ) (s : List ℕ) → k ≡ min n (length o.bytes.now - o.at) →
    s ≡ replicate k 32 → o'.bytes.ghost_name ≡ o.bytes.ghost_name → o'.at ≡ o.at + k →
    o'.bytes.now ≡ put_mid o.at (o.at + k - o.at) o.bytes.now s → PutClipped o (replicate n 32) o'
spaces_put {o} {o'} n k s e f same ends holds =
    let h = o.within in
    let t : List ℕ = replicate k 32 in
    let l : length t ≡ k = length-replicate k 32 in
    let w : o'.bytes.now ≡ over o.bytes.now o.at t =
    holds ∙ (put_mid-paste o.at (o.at + k - o.at) o.bytes.now s t (length t) f (omega arith) refl
    ∙ paste_over o.bytes.now o.at t) in record {
      is = put_as (sym (some_of 32 n k (length o.bytes.now - o.at) e)) (put_part (omega arith) same (omega arith) w);
    }

-- ---- bytes in hex

hex_append : (s t : List ℕ) → hex_bytes (s ++ t) ≡ hex_bytes s ++ hex_bytes t
unfolding hex_bytes
hex_append [] t = refl
hex_append (x ∷ s) t =
    ap (λ (z : List ℕ). hex_byte x ++ z) (hex_append s t) ∙ sym (append_assoc (hex_byte x) (hex_bytes s) (hex_bytes t))

hex_one : (b : ℕ) → hex_bytes (b ∷ []) ≡ hex_byte b
unfolding hex_bytes
hex_one b = append-nil (hex_byte b)

pub hex_start : (o : Output) → PutClipped o (hex_bytes []) o
unfolding hex_bytes
hex_start o = clipped_none o

pub hex_turn : (s : List ℕ) (m : ℕ) {o o₁ o₂ : Output} → m < length s → PutClipped o (hex_bytes (take m s)) o₁ →
    PutClipped o₁ (hex_byte (get_or s m 0)) o₂ → PutClipped o (hex_bytes (take (m + 1) s)) o₂
hex_turn s m l v w =
    let e : take (m + 1) s ≡ take m s ++ (get_or s m 0 ∷ []) =
    ap (λ (n : ℕ). take n s) (add-one m) ∙ take-suc s m 0 l in
    let f : hex_bytes (take (m + 1) s) ≡ hex_bytes (take m s) ++ hex_byte (get_or s m 0) =
    ap hex_bytes e ∙ (hex_append (take m s) (get_or s m 0 ∷ [])
    ∙ ap (λ (z : List ℕ). hex_bytes (take m s) ++ z) (hex_one (get_or s m 0))) in
    clipped_as (clipped_then v w) (sym f)
