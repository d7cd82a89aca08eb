-- The bytes of a planned tree.
-- Assumes nothing.
use Rattle.std.specs.Prelude.{ℕ, List}
use Rattle.model.specs.Tree.{forest_of}
use Rattle.plan.specs.Plan.{planned_rows}

-- a forest of that tree alone; its n rows are planned from word `at` on
abbrev pub planned_bytes : List ℕ → List ℕ → ℕ → ℕ → List ℕ
planned_bytes bs ws at n = forest_of 1 (planned_rows bs ws at n)
