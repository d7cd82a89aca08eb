-- Child slots as symbols are added. Assumes nothing.
use Prim.Native.Nat.{◌+◌}
use mathlib.Core.Path.{◌≡◌}
use mathlib.Core.List.{List, [], ◌∷◌, ◌++◌}
use native.Mathlib.Omega.{arith}
use lib.ListN.{length}
use Rattle.model.specs.Intern.{Sym}
use Rattle.laws.specs.Slots.{slots_in}

pub slots_more : (ys : List Sym) (y : Sym) → slots_in (ys ++ (y ∷ [])) ≡ slots_in ys + length y.kids
slots_more [] y = omega arith
slots_more (z ∷ ys) y = omega (arith, slots_more ys y)
