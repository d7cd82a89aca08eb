-- What a refusal says of the place of its check. Assumes nothing.
use Prim.Native.Nat.{ℕ}
use mathlib.Core.Path.{◌≡◌, refl}
use Rattle.std.specs.Prelude.{Option, None, Some, Ok, Err}
use Rattle.refusal.specs.declared.Check.{Check}
use Rattle.refusal.specs.declared.Refusal.{Refusal}
use Rattle.refusal.specs.Refusal.{refused_at}

-- the check found no place
pub passed : (c : Check) (o : Option ℕ) (u : Unit {0}) → refused_at c o ≡ Ok u → o ≡ None
passed c None u e = refl
passed c (Some p) u e = cc

-- it found the refusal's
pub failed : (c : Check) (o : Option ℕ) (r : Refusal) → refused_at c o ≡ Err r → (o ≡ Some r.place) × (r.check ≡ c)
failed c None r e = cc
failed c (Some p) r e = let f : record { check = c; place = p } ≡ r = cc in (cc, cc)
