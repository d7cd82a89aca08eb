-- A line with two numbers, by its parts. In order: the last text of a refusal; the whole.
-- Assumes nothing.
use Prim.Native.Nat.{ℕ}
use mathlib.Core.Path.{◌≡◌, refl}
use mathlib.Core.List.{List, [], ◌∷◌, ◌++◌}
use Rattle.model.specs.Text.{text}
use Rattle.output.specs.declared.Output.{Output}
use Rattle.output.specs.Output.{Put}
use Rattle.output.proofs.Put.{put_then}

pub newline : (10 ∷ []) ≡ text "\n"
unfolding text
newline = refl

pub line_parts : {a b c d e : List ℕ} {o o₁ o₂ o₃ o₄ o₅ : Output} → Put o a o₁ → Put o₁ b o₂ → Put o₂ c o₃ → Put o₃ d o₄ →
    Put o₄ e o₅ → Put o (a ++ b ++ c ++ d ++ e) o₅
line_parts p₁ p₂ p₃ p₄ p₅ = put_then (put_then (put_then (put_then p₁ p₂) p₃) p₄) p₅
