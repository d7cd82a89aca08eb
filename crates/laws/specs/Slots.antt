-- Child slots: a symbol has one for each of its children. Assumes nothing.
use Rattle.std.specs.Prelude.{ℕ, ◌+◌, List, [], ◌∷◌, length}
use Rattle.model.specs.Intern.{Sym}

-- the child slots of some symbols
abbrev pub slots_in : List Sym → ℕ
slots_in [] = 0
slots_in (y ∷ ys) = length y.kids + slots_in ys
