-- The code's arguments as the model's.
-- In order: an argument; with what is left after it; the arguments that an iterator has left.
-- Assumes nothing.
use Rattle.std.specs.Prelude.{ℕ, List}
use Rattle.std.specs.Borrow.{Bor}
use Rattle.shape.specs.Reading.{first_args}
use Rattle.shape.specs.declared.arguments.Arg.{Arg}
use Rattle.shape.specs.declared.arguments.Args.{Args}

abbrev pub arg_of : Arg → ℕ × List ℕ
arg_of a = (a.id, a.opt.now)

abbrev pub split_of : Arg × Bor (List ℕ) → (ℕ × List ℕ) × List ℕ
split_of p = (arg_of p.0, p.1.now)

abbrev pub args_left : Args → List (ℕ × List ℕ)
args_left it = first_args it.left it.rest.now
