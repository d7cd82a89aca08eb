-- What a call that ended well has written. In order: other words for the same bytes; nothing; of bytes that were read.
-- Assumes nothing.
use Rattle.std.proofs.Common.{◌≡◌, ℕ, List, [], take, Result, Ok, Err, None, Some, OnOk, IfSome, sym, ap, subst, ◌∙◌}
use Rattle.std.specs.declared.option.Option.{Option}
use Rattle.std.specs.Io.KnownBytes.{Appends}
use Rattle.std.proofs.KnownBytes.{Appends-nil}
use Rattle.std.proofs.lemmas.Result.{on_ok_weaker}

module _ {T E : Type 0} (r : Result T E) (old new : Option (List ℕ)) where
  pub puts_as : {bs bs' : List ℕ} → bs ≡ bs' → OnOk r (Appends old new bs) → OnOk r (Appends old new bs')
  puts_as {bs} {bs'} e = on_ok_weaker r (subst (Appends old new) e)

  -- f says what is written for a forest, of which the first n bytes were read
  pub puts_read : (f : List ℕ → List ℕ) (known : Option (List ℕ)) (bs : List ℕ) (m n : ℕ) → m ≡ n →
      IfSome known (λ all. bs ≡ take m all) → OnOk r (Appends old new (f bs)) →
      OnOk r (IfSome known (λ all. Appends old new (f (take n all))))
  puts_read f None bs m n e h = on_ok_weaker r (λ _. tt)
  puts_read f (Some all) bs m n e h = puts_as (ap f (h ∙ ap (λ k. take k all) e))

pub puts_none : {T E : Type 0} (r : Result T E) (held : Option (List ℕ)) {bs : List ℕ} → bs ≡ [] →
    OnOk r (Appends held held bs)
puts_none (Ok x) held {bs} e = subst (Appends held held) (sym e) (Appends-nil held)
puts_none (Err x) held {bs} e = tt
