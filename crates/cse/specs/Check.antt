-- What the check by itself answers, as model has it. Assumes nothing.
use Rattle.std.specs.Prelude.{ℕ, Result, Ok, Err}
use Rattle.refusal.specs.declared.Refusal.{Refusal}
use Rattle.refusal.specs.Refusal.{number_of}

-- number and place
abbrev pub told_in : Result Unit Refusal → ℕ × ℕ
told_in (Ok u) = (0, 0)
told_in (Err r) = (number_of r.check, r.place)
