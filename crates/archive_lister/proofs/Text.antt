-- The archive lister's text, by the opcode. In order: two digits; the text. Assumes nothing.
use Prim.Native.Nat.{ℕ}
use mathlib.Core.Path.{◌≡◌, refl, ap, ◌∙◌}
use Rattle.std.specs.Prelude.{None, Some}
use mathlib.Core.List.{List}
use native.Mathlib.Omega.{arith}
use lib.ListN.{length, take, drop}
use lib.Seq.{take_at}
use Rattle.model.specs.Lister.{hex_byte, lister}
use Rattle.model.specs.ArchiveLister.{mixed_opcode, mixed_line, archive_lister}
use Rattle.output.specs.Output.{Wrote}
use Rattle.output.proofs.Over.{over_front}

pub hex_length : (n : ℕ) → length (hex_byte n) ≡ 2
unfolding hex_byte
hex_length n = refl

module _ (bs : List ℕ) where
  -- the line of an opcode with two shapes was written
  pub mixed_text : (opcode : ℕ) → mixed_opcode bs ≡ Some opcode → (out out' : List ℕ) (n : ℕ) →
      Wrote out 0 (mixed_line opcode) out' n → take n out' ≡ archive_lister bs
  unfolding archive_lister
  mixed_text opcode e out out' n w =
      ap (take n) (w.holds ∙ over_front out (mixed_line opcode))
      ∙ take_at (mixed_line opcode) (drop (length (mixed_line opcode)) out) n (omega (arith, w.ends))
      ∙ rw (e, archive_lister)

  pub other_text : mixed_opcode bs ≡ None → archive_lister bs ≡ lister bs
  unfolding archive_lister
  other_text e = rw (e, archive_lister)
