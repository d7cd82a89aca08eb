-- A record's fixed bytes.
-- Assumes nothing.
use Rattle.std.specs.Prelude.{ℕ, List, [], ◌∷◌, ◌++◌}
use Rattle.model.specs.Bytes.{put16}

-- shape, opcode, 16-bit child count, aux
unfoldable pub fixed : ℕ → ℕ → ℕ → ℕ → List ℕ
fixed shape opcode kids aux = shape ∷ opcode ∷ (put16 kids ++ (aux ∷ []))
