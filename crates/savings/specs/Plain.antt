-- Uses counted without scopes: the use records of an id in rows. Assumes nothing.
use Rattle.std.specs.Prelude.{ℕ, ◌+◌, List, [], ◌∷◌}
use Rattle.model.specs.Tree.{Row}
use Rattle.model.specs.Savings.{own_use}

-- the use records of id i
unfoldable pub plain_uses : ℕ → List Row → ℕ
plain_uses i [] = 0
plain_uses i (r ∷ rs) = own_use i r.rec + plain_uses i rs
