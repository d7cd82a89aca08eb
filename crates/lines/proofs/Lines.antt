-- All symbols' lines. In order: one line more; how long lines are; the lines of the first symbols; the whole, with its length.
-- Assumes nothing.
use Prim.Native.Nat.{ℕ, suc, ◌+◌, ◌*◌, ◌≤◌}
use mathlib.Core.Path.{◌≡◌, sym}
use mathlib.Core.List.{List, [], ◌∷◌, ◌++◌, append_assoc, append-nil}
use native.Mathlib.Omega.{arith}
use native.Mathlib.Numerals.{add-one}
use lib.ListN.{length, length-append}
use Rattle.model.specs.Text.{text}
use Rattle.model.specs.Intern.{Sym, sym_at}
use Rattle.model.specs.Lister.{numeral, line, lines_from, symbol_lines}
use Rattle.symbols.specs.Symbols.{sym_from, syms_of}
use Rattle.symbols.proofs.Laws.{syms_length, sym_at_lem}
use Rattle.gate.specs.Gate.{uses_at}
use Rattle.output.specs.declared.Output.{Output}
use Rattle.output.specs.Output.{Put}
use Rattle.output.proofs.Put.{put_none, put_as, put_then, put_both}
use Rattle.text.proofs.Numbers.{numeral-length}
use Rattle.text.proofs.Line.{newline}
use Rattle.lines.specs.Lines.{lines_to}
use Rattle.lines.proofs.Line.{line-length}

-- ---- one line more

lines_more : (uses : ℕ → ℕ) (i : ℕ) (ss : List Sym) (y : Sym) → lines_from uses i (ss ++ (y ∷ []))
    ≡ lines_from uses i ss ++ line (i + length ss) (uses (i + length ss)) y
unfolding lines_from
lines_more uses i [] y = let e : i + 0 ≡ i = omega arith in rw (e, append-nil)
lines_more uses i (x ∷ ss) y =
    let e : i + suc (length ss) ≡ suc i + length ss = omega arith in
    rw (e, lines_more uses (suc i) ss y) (sym (append_assoc (line i (uses i) x) (lines_from uses (suc i) ss) _))

-- ---- how long lines are

lines_length : (uses : ℕ → ℕ) (i : ℕ) (ss : List Sym) → length (lines_from uses i ss) ≤ 70 * length ss
unfolding lines_from
lines_length uses i [] = omega arith
lines_length uses i (y ∷ ss) =
    omega (
      arith,
      length-append (line i (uses i) y) (lines_from uses (suc i) ss),
      line-length i (uses i) y,
      lines_length uses (suc i) ss,
    )

-- ---- the lines of the first symbols

module _ (bs ws : List ℕ) (s : ℕ) where
  lines_next : lines_to bs ws s ++ line s (uses_at ws s) (sym_at (syms_of bs ws (suc s)) s) ≡ lines_to bs ws (suc s)
  unfolding syms_of
  lines_next =
      let l = syms_of bs ws s in
      let e : 0 + length l ≡ s = omega (arith, syms_length bs ws s) in
      rw (sym_at_lem bs ws (suc s) s (omega arith)) (sym (rw e at (lines_more (uses_at ws) 0 l (sym_from bs l ws s))))

  pub lines_turn : {o o₁ o₂ : Output} → Put o (lines_to bs ws s) o₁ →
      Put o₁ (line s (uses_at ws s) (sym_at (syms_of bs ws (suc s)) s)) o₂ → Put o (lines_to bs ws (s + 1)) o₂
  lines_turn w₁ w₂ = rw (add-one s) (put_as lines_next (put_then w₁ w₂))

  pub lines_end : {o o₁ : Output} → Put o (lines_to bs ws s) o₁ → o₁.at ≤ o.at + 70 * s
  lines_end w = omega (arith, w.ends, lines_length (uses_at ws) 0 (syms_of bs ws s), syms_length bs ws s)

pub lines_start : (bs ws : List ℕ) (o : Output) → Put o (lines_to bs ws 0) o
unfolding syms_of lines_from
lines_start bs ws o = put_none o

-- ---- the whole

pub symbols_parts : (bs ws : List ℕ) (n : ℕ) {o o₁ o₂ o₃ : Output} → Put o (text "symbols ") o₁ →
    Put o₁ (numeral n ++ (10 ∷ [])) o₂ → Put o₂ (lines_to bs ws n) o₃ →
    Put o (symbol_lines (uses_at ws) (syms_of bs ws n)) o₃
unfolding symbol_lines
symbols_parts bs ws n w₁ w₂ w₃ =
    rw (syms_length bs ws n) (put_then (rw newline at (put_both w₁ (numeral n) (10 ∷ []) w₂)) w₃)

pub symbol_lines-length : (uses : ℕ → ℕ) (ss : List Sym) → length (symbol_lines uses ss) ≤ 70 * length ss + 30
unfolding symbol_lines text
symbol_lines-length uses ss =
    let n = numeral (length ss) in
    omega (
      arith,
      length-append (n ++ (10 ∷ [])) (lines_from uses 0 ss),
      length-append n (10 ∷ []),
      numeral-length (length ss),
      lines_length uses 0 ss,
    )

pub symbols_end : (bs ws : List ℕ) (n : ℕ) {o o₁ : Output} → Put o (symbol_lines (uses_at ws) (syms_of bs ws n)) o₁ →
    o₁.at ≤ o.at + (70 * n + 30)
symbols_end bs ws n w = omega (arith, w.ends, symbol_lines-length (uses_at ws) (syms_of bs ws n), syms_length bs ws n)
