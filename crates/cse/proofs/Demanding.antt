-- Demand 3, said of the numbers and the output that a call gives, from the equations with the definitions: all that the
-- call's contract says.
-- Assumes nothing.
use Prim.Native.Nat.{ℕ}
use mathlib.Core.Path.{◌≡◌, refl, sym, ap, ◌∙◌}
use mathlib.Core.List.{List}
use Rattle.std.specs.Prelude.{Result}
use Rattle.model.specs.Answer as answer
use Rattle.model.specs.Call.{Call, call_of, Written, Numbers, numbers_of, numbers, run, out_with, out_after, work_after}
use Rattle.model.specs.Demand3.{Demanded, Demand3}
use Rattle.theory.proofs.Demand3.{demand_3}
use Rattle.refusal.specs.declared.Refusal.{Refusal}
use Rattle.cse.specs.declared.Written as cse
use Rattle.cse.specs.Call.{numbers_in, Tells}

-- what the call gives, as its contract has it
abbrev pub Gives : List ℕ → List ℕ → List ℕ → Numbers → List ℕ → List ℕ → Type 0
Gives bs out ws ns out' ws' = record {
  result_value : ns ≡ numbers (call_of bs out ws);
  out_after : out' ≡ out_after (call_of bs out ws) out;
  work_after : ws' ≡ work_after ws;
  demand3 : Demand3 (call_of bs out ws);
  demanded : Demanded (call_of bs out ws) out ns out';
}

module _ (bs out ws out' ws' : List ℕ) where
  abbrev c : Call
  c = call_of bs out ws

  gives : (ns : Numbers) → ns ≡ numbers c → out' ≡ out_after c out → ws' ≡ work_after ws → Gives bs out ws ns out' ws'
  gives ns e f g = record {
    result_value = e;
    out_after = f;
    work_after = g;
    demand3 = demand_3 c;
    demanded = rw (e, f) (demand_3 c out refl);
  }

  -- from the answer of a run
  pub told_gives : (a : answer.Answer Written) (r : Result cse.Written Refusal) → run (call_of bs out ws) ≡ a →
      Tells a out r out' → ws' ≡ work_after ws → Gives bs out ws (numbers_in r) out' ws'
  unfolding numbers out_after
  told_gives a r e t g =
      gives (numbers_in r) (t.numbers ∙ ap numbers_of (sym e))
      (t.output ∙ ap (λ (b : answer.Answer Written). out_with b out) (sym e)) g
