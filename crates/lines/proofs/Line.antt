-- A symbol's line. In order: lengths; a line from its parts; the columns of a stored symbol.
-- Assumes nothing.
use Prim.Native.Nat.{ℕ, ◌+◌, ◌<◌, ◌≤◌}
use mathlib.Core.Path.{◌≡◌, refl, sym, ap}
use mathlib.Core.Bool.{Bool, true, false}
use mathlib.Core.List.{List, [], ◌∷◌, ◌++◌}
use native.Mathlib.Omega.{arith}
use lib.ListN.{length, length-append}
use Rattle.model.specs.Text.{text}
use Rattle.model.specs.Forest.{record_count}
use Rattle.model.specs.Intern.{Node, Sym, sym_at, constant, unparsed, argument, func, operation}
use Rattle.model.specs.Gate.{should_hoist}
use Rattle.model.specs.Lister.{numeral, hex_byte, tag_of, opcode_shown, yes_no, line}
use Rattle.regions.specs.Regions.{SLOTS}
use Rattle.key.specs.declared.Symbol.{Symbol}
use Rattle.key.specs.Key.{parts_of, symbol_at}
use Rattle.symbols.specs.Symbols.{rec_of, sym_of, syms_of, Sound}
use Rattle.symbols.proofs.Laws.{sym_at_lem}
use Rattle.output.specs.declared.Output.{Output}
use Rattle.output.specs.Output.{Put}
use Rattle.text.proofs.Numbers.{numeral-length}
use Rattle.output.proofs.Put.{put_then, put_both}
use Rattle.text.proofs.Line.{newline}
use Rattle.lines.specs.Lines.{columns}

pub space : (32 ∷ []) ≡ text " "
unfolding text
space = refl

-- ---- lengths

-- a number has at most twenty digits
pub number_ends : (n b : ℕ) {o o₁ : Output} → Put o (numeral n ++ (b ∷ [])) o₁ → o₁.at ≤ o.at + 21
number_ends n b w = omega (arith, w.ends, numeral-length n, length-append (numeral n) (b ∷ []))

one_letter : (n : Node) → length (tag_of n) ≡ 1
unfolding tag_of text
one_letter constant = refl
one_letter unparsed = refl
one_letter argument = refl
one_letter (func xs sc) = refl
one_letter (operation brs) = refl

columns-length : (s : ℕ) (n : Node) (op : ℕ) → length (columns s n op) ≤ 26
unfolding columns hex_byte
columns-length s n op =
    rw (← space) (simp length-append (omega (arith, numeral-length s, one_letter n)))

pub columns_ends : (s : ℕ) (n : Node) (op : ℕ) {o o₁ : Output} → Put o (columns s n op) o₁ → o₁.at ≤ o.at + 26
columns_ends s n op w = omega (arith, w.ends, columns-length s n op)

yes_or_no : (b : Bool) → length (yes_no b) ≡ 1
unfolding yes_no text
yes_or_no true = refl
yes_or_no false = refl

pub line-length : (s uses : ℕ) (y : Sym) → length (line s uses y) ≤ 70
unfolding line hex_byte
line-length s uses y =
    let h = yes_or_no (should_hoist y uses) in
    let t = one_letter y.node in
    rw (← space, ← newline)
    (simp length-append (omega (arith, numeral-length s, numeral-length y.scope, numeral-length uses)))

-- ---- a line from its parts

module _ {o o₁ o₂ o₃ o₄ : Output} where
  pub columns_parts : (s : ℕ) (n : Node) (opcode : ℕ) {t shown : ℕ} → (t ∷ []) ≡ tag_of n →
      shown ≡ opcode_shown n opcode → Put o (numeral s ++ (32 ∷ [])) o₁ →
      Put o₁ (t ∷ 32 ∷ []) o₂ → Put o₂ (hex_byte shown) o₃ → Put o₃ (32 ∷ []) o₄ → Put o (columns s n opcode) o₄
  unfolding columns
  columns_parts s n opcode {t} et es w₁ w₂ w₃ w₄ =
      rw (← et, ← es, ← space) (put_then (put_then (put_both w₁ (t ∷ []) (32 ∷ []) w₂) w₃) w₄)

  pub line_parts : (s uses : ℕ) (y : Sym) {n : Node} {opcode scope g : ℕ} {hoisted : Bool} → n ≡ y.node →
      opcode ≡ y.rec.opcode → scope ≡ y.scope → hoisted ≡ should_hoist y uses → (g ∷ []) ≡ yes_no hoisted →
      Put o (columns s n opcode) o₁ → Put o₁ (numeral scope ++ (32 ∷ [])) o₂ → Put o₂ (numeral uses ++ (32 ∷ [])) o₃ →
      Put o₃ (g ∷ 10 ∷ []) o₄ → Put o (line s uses y) o₄
  unfolding line columns
  line_parts s uses y {scope = scope} {g = g} en eo es eh eg w₁ w₂ w₃ w₄ =
      let used = put_both (put_both w₁ (numeral scope) (32 ∷ []) w₂) (numeral uses) (32 ∷ []) w₃ in
      rw (← eh, ← eg, ← en, ← eo, ← es, ← newline) (rw space at (put_both used (g ∷ []) (10 ∷ []) w₄))

-- ---- the columns of a stored symbol

module _ (bs ws : List ℕ) (s : ℕ) (x : Symbol) (loads : x ≡ symbol_at ws s) (n : ℕ) (lt : s < n) where
  pub stored_opcode : (rec_of bs x.node).opcode ≡ (sym_at (syms_of bs ws n) s).rec.opcode
  unfolding sym_of
  stored_opcode = rw loads (sym (ap (λ (z : Sym). z.rec.opcode) (sym_at_lem bs ws n s lt)))

pub stored_from : (bs ws : List ℕ) (s : ℕ) (x : Symbol) → x ≡ symbol_at ws s → Sound bs ws SLOTS.size s →
    (parts_of x.node).source < record_count bs
stored_from bs ws s x loads sound = rw loads sound.from
