-- Where subtrees end, computed: of p(z,z); of two trees; of a forest that is refused; of too few work words.
-- Assumes nothing.
use Rattle.std.specs.Prelude.{◌≡◌, refl, [], ◌∷◌, ◌++◌, replicate, true}
use Rattle.model.specs.Lists.{same}
use Rattle.model.specs.Tree.{cons, serialise}
use Rattle.model.specs.Ends.{entries, entries_of, checking, told}
use Rattle.model.specs.Computing.{computing, ending}
use Rattle.model.specs.Examples.{z, n, p, u, one}

pub sum-ends : same (entries (serialise (one (p z z)))) ((3 ∷ 2 ∷ 3 ∷ []) ++ replicate 253 0) ≡ true
unfolding computing ending
sum-ends = refl

-- records are numbered over both trees: n(z) and p(z,n(z))
pub two-ends : same (entries (serialise (cons (n z) (one (p z (n z))))))
    ((2 ∷ 2 ∷ 6 ∷ 4 ∷ 6 ∷ 6 ∷ []) ++ replicate 250 0) ≡ true
unfolding computing ending
two-ends = refl

-- p(z,1): id 1 is not in force, so all entries are 0
pub refused-ends : (same (entries (serialise (one (p z (u 1))))) (replicate 256 0) ≡ true) ×
    (told (checking 16384 (serialise (one (p z (u 1))))) ≡ (10, 2))
unfolding computing ending
refused-ends = (refl, refl)

pub short-ends : (same (entries_of (checking 16383 (serialise (one z)))) (replicate 256 0) ≡ true) ×
    (told (checking 16383 (serialise (one z))) ≡ (1, 0))
unfolding computing ending
short-ends = (refl, refl)
