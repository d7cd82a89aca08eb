-- A quoted text as bytes.
-- Assumes nothing.
use Rattle.std.specs.Prelude.{ℕ}
use Prim.Native.Char.{code}
use Prim.Native.String.{String, [], ◌∷◌}
use mathlib.Core.List as L

-- the characters' numbers
unfoldable pub text : String → L.List ℕ
text [] = L.[]
text (c ∷ s) = L.◌∷◌ (code c) (text s)
