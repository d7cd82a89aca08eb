-- Tests of a list none of which is true: what a check says of records that pass it. Assumes nothing.
use Rattle.std.specs.Prelude.{◌≡◌, Bool, false, List, [], ◌∷◌}

-- no test of a list is true
abbrev pub Clear : List Bool → Type 0
Clear [] = Unit {0}
Clear (b ∷ bs) = (b ≡ false) × Clear bs
