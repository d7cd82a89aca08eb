-- What the program writes for a forest, from what the call tells, lent 65,535 bytes and 16,384 words that are 0.
-- Assumes nothing.
use Rattle.std.proofs.Common.{◌≡◌, ℕ, List, take, drop, replicate, length, [], refl, sym, ap, ap₂, ◌∙◌}
use Rattle.std.specs.Prelude.{Result, Ok, Err}
use Rattle.std.proofs.Math.Seq.{take_at}
use Rattle.std.proofs.lemmas.List.{length-replicate}
use Rattle.model.specs.Answer.{refused, good}
use Rattle.model.specs.Answer as answer
use Rattle.model.specs.Call.{Call, call_of, ample, bytes_of, written_of, run, Numbers, numbers_of, numbers}
use Rattle.model.specs.Call.{out_with, out_after}
use Rattle.model.specs.Call as call
use Rattle.model.specs.Lister.{refusal}
use Rattle.refusal.specs.declared.Refusal.{Refusal}
use Rattle.refusal.specs.Refusal.{number_of}
use Rattle.cse.specs.declared.Written.{Written}
use Rattle.cse.specs.Call.{numbers_in}
use Rattle.cse.proofs.Told.{told_refused, told_written}
use Rattle.tree.specs.Written.{output_of, errors_of, output, errors}

module _ (bs : List ℕ) where
  abbrev lent : Call
  lent = call_of bs (replicate 65535 0) (replicate 16384 0)

  lent_ample : run lent ≡ run (ample bs)
  lent_ample =
      ap₂ (λ (r w : ℕ). run (record { forest = bs; room = r; words = w })) (length-replicate {A = ℕ} 65535 0)
      (length-replicate {A = ℕ} 16384 0)

  module _ (r : Result Written Refusal) (is : numbers_in r ≡ numbers lent) where
    module _ (d : Refusal) (e : r ≡ Err d) where
      refuses : run (ample bs) ≡ refused (number_of d.check) d.place
      refuses = sym lent_ample ∙ told_refused lent r is (replicate 65535 0) refl d e

      pub refused_output : output bs ≡ []
      unfolding output_of
      refused_output = ap output_of refuses

      pub refused_errors : refusal (number_of d.check) d.place ≡ errors bs
      unfolding errors_of
      refused_errors = sym (ap errors_of refuses)

    module _ (w : Written) (e : r ≡ Ok w) where
      pub written_errors : errors bs ≡ []
      unfolding errors_of
      written_errors =
          let m = told_written lent r is w e in ap errors_of (sym lent_ample ∙ m.runs)

      pub written_output : (out' : List ℕ) → out' ≡ out_after lent (replicate 65535 0) → take w.length out' ≡ output bs
      unfolding numbers numbers_of out_after out_with written_of output_of
      written_output out' left =
          let m = told_written lent r is w e in
          let o = m.out in
          let long : w.length ≡ length (bytes_of o) =
          ap (λ (z : Numbers). z.len) (ap numbers_in (sym e) ∙ is ∙ ap numbers_of m.runs) in
          ap (take w.length) (left ∙ ap (λ (a : answer.Answer call.Written). out_with a (replicate 65535 0)) m.runs) ∙
          take_at (bytes_of o) (drop (length (bytes_of o)) (replicate 65535 0)) w.length (sym long) ∙
          sym (ap output_of (sym lent_ample ∙ m.runs))
