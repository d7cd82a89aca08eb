-- What is saved of a forest that is checked. Assumes nothing.
use Rattle.std.specs.Prelude.{ℕ, List, [], ℤ}
use Rattle.model.specs.Answer.{Answer, refused, good}
use Rattle.model.specs.Tree.{Trees}
use Rattle.model.specs.Savings.{savings}

-- by the definitions of an accepted forest; nothing of one that is refused
unfoldable pub saved : Answer Trees → List (ℕ × ℤ)
saved (refused n p) = []
saved (good ts) = savings ts
