-- The call's numbers and output, from what the pass tells.
-- Assumes nothing.
use Prim.Native.Nat.{ℕ, ◌≤◌}
use mathlib.Core.Path.{◌≡◌, sym, ap, ◌∙◌}
use mathlib.Core.List.{List}
use Rattle.std.specs.Prelude.{Result}
use Rattle.model.specs.Answer as answer
use Rattle.model.specs.Call.{Call, numbers_of, numbers, written, out_with, out_after}
use Rattle.model.specs.Call as call
use Rattle.regions.specs.Regions.{WORDS}
use Rattle.refusal.specs.declared.Refusal.{Refusal}
use Rattle.cse.specs.declared.Written.{Written}
use Rattle.cse.specs.Call.{numbers_in, Tells}
use Rattle.cse.proofs.Telling.{run_enough}

-- where the work words suffice, the pass tells what the call would
module _ (c : Call) (enough : WORDS ≤ c.words) (out out' : List ℕ) (r : Result Written Refusal) (told : Tells (written c) out r out') where
  pub pass_numbers : numbers_in r ≡ numbers c
  unfolding numbers
  pass_numbers = told.numbers ∙ ap numbers_of (sym (run_enough c enough))

  pub pass_output : out' ≡ out_after c out
  unfolding out_after
  pass_output = told.output ∙ ap (λ (a : answer.Answer call.Written). out_with a out) (sym (run_enough c enough))
