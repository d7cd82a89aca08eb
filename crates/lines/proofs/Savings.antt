-- The lines of definitions. In order: a line from its parts; how long lines are; the lines of the first definitions.
-- Assumes nothing.
use Prim.Native.Nat.{ℕ, ◌+◌, ◌*◌, ◌<◌, ◌≤◌}
use mathlib.Core.Path.{◌≡◌, refl, sym}
use mathlib.Core.List.{List, [], ◌∷◌, ◌++◌, append_assoc, append-nil}
use native.Mathlib.Omega.{arith}
use native.Mathlib.Numerals.{add-one}
use lib.IntN.{ℤ}
use lib.ListN.{length, get_or, take, length-append}
use Rattle.std.proofs.Math.Seq.{take-suc}
use Rattle.model.specs.Lister.{numeral, signed, saving_line, saving_lines}
use Rattle.output.specs.declared.Output.{Output}
use Rattle.output.specs.Output.{Put}
use Rattle.output.proofs.Put.{put_none, put_as, put_then}
use Rattle.text.proofs.Numbers.{numeral-length, signed-length}
use Rattle.text.proofs.Line.{newline}
use Rattle.lines.proofs.Line.{space}

-- ---- a line from its parts

pub saving_parts : (id : ℕ) (saving : ℤ) {o o₁ o₂ o₃ : Output} → Put o (numeral id ++ (32 ∷ [])) o₁ →
    Put o₁ (signed saving) o₂ → Put o₂ (10 ∷ []) o₃ → Put o (saving_line (id, saving)) o₃
unfolding saving_line
saving_parts id saving w₁ w₂ w₃ = rw (← space, ← newline) (put_then (put_then w₁ w₂) w₃)

-- ---- how long lines are

saving_line-length : (s : ℕ × ℤ) → length (saving_line s) ≤ 43
unfolding saving_line
saving_line-length s =
    rw (← space, ← newline) (simp length-append (omega (arith, numeral-length s.0, signed-length s.1)))

pub saving_lines-length : (l : List (ℕ × ℤ)) → length (saving_lines l) ≤ 43 * length l
unfolding saving_lines
saving_lines-length [] = omega arith
saving_lines-length (s ∷ ss) =
    omega (arith, length-append (saving_line s) (saving_lines ss), saving_line-length s, saving_lines-length ss)

pub savings_end : (l : List (ℕ × ℤ)) {o o₁ : Output} → Put o (saving_lines l) o₁ → o₁.at ≤ o.at + 43 * length l
savings_end l w = omega (arith, w.ends, saving_lines-length l)

-- ---- the lines of the first definitions

saving_lines-append : (a b : List (ℕ × ℤ)) → saving_lines (a ++ b) ≡ saving_lines a ++ saving_lines b
unfolding saving_lines
saving_lines-append [] b = refl
saving_lines-append (s ∷ a) b =
    rw (saving_lines-append a b) (sym (append_assoc (saving_line s) (saving_lines a) (saving_lines b)))

pub savings_start : (l : List (ℕ × ℤ)) (o : Output) → Put o (saving_lines (take 0 l)) o
unfolding saving_lines
savings_start l o = put_none o

pub savings_turn : (l : List (ℕ × ℤ)) (k : ℕ) (d : ℕ × ℤ) {o o₁ o₂ : Output} → k < length l →
    Put o (saving_lines (take k l)) o₁ → Put o₁ (saving_line (get_or l k d)) o₂ → Put o (saving_lines (take (k + 1) l)) o₂
unfolding saving_lines
savings_turn l k d lt w₁ w₂ =
    let e : saving_lines (take k l) ++ saving_line (get_or l k d) ≡ saving_lines (take (k + 1) l) =
    rw (add-one k, take-suc l k d lt, saving_lines-append (take k l) (get_or l k d ∷ []), append-nil) refl in
    put_as e (put_then w₁ w₂)
