-- How many bytes rows take. Assumes nothing.
use Rattle.std.specs.Prelude.{ℕ, ◌+◌, List, [], ◌∷◌}
use Rattle.model.specs.Tree.{Row, row_len}

abbrev pub total : List Row → ℕ
total [] = 0
total (r ∷ rs) = row_len r + total rs
