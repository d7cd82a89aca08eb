-- What a well-formed forest has to pass to be accepted: checks 5, 7 and 16, and 8 to 10.
-- Assumes nothing.
use Rattle.std.specs.Prelude.{ℕ, ◌≡◌, List, None}
use Rattle.model.specs.Forest.{trees_of, check5, check7, check16}
use Rattle.model.specs.Binding.{check8, check9, check10}

pub record Passes (bs : List ℕ) : Type 0 where
  pub agree : check5 bs ≡ None
  pub shallow : check7 bs ≡ None
  pub one_shape : check16 bs ≡ None
  pub placed : check8 (trees_of bs) ≡ None
  pub fresh : check9 (trees_of bs) ≡ None
  pub bound : check10 (trees_of bs) ≡ None
