-- What the program writes for a forest: the tree's bytes to standard output, or the line of a refusal to standard
-- error.
-- Assumes nothing.
use Rattle.std.specs.Prelude.{ℕ, List, []}
use Rattle.model.specs.Answer.{Answer, refused, good}
use Rattle.model.specs.Call.{Written, ample, run}
use Rattle.model.specs.Lister.{refusal}

unfoldable pub output_of : Answer Written → List ℕ
output_of (refused n p) = []
output_of (good w) = w.bytes

unfoldable pub errors_of : Answer Written → List ℕ
errors_of (refused n p) = refusal n p
errors_of (good w) = []

-- the call is lent 65,535 output bytes
abbrev pub output : List ℕ → List ℕ
output bs = output_of (run (ample bs))

abbrev pub errors : List ℕ → List ℕ
errors bs = errors_of (run (ample bs))
