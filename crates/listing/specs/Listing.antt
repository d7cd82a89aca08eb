-- What the lister leaves in the output.
-- Assumes nothing.
use Rattle.std.specs.Prelude.{ℕ, ◌≤◌, ◌≡◌, List, length, take, drop}
use Rattle.model.specs.Call.{Call, out_after}
use Rattle.model.specs.Lister.{lister}

-- r bytes of text for the forest stand at the output's start; past them stands what the main call left there
pub record Listed (c : Call) (out out' : List ℕ) (r : ℕ) : Type 0 where
  pub len : r ≡ length (lister c.forest)
  pub fits : r ≤ length out
  pub text : take r out' ≡ lister c.forest
  pub rest : drop r out' ≡ drop r (out_after c out)
