-- The line of an accepted forest. In order: one number more; how long numbers are; the numbers as they are put; the
-- line from its parts; that of a forest.
-- Assumes nothing.
use Prim.Native.Nat.{ℕ, ◌+◌, ◌*◌, ◌<◌, ◌≤◌}
use mathlib.Core.Path.{◌≡◌, sym, ap, ap₂, ◌∙◌}
use mathlib.Core.List.{List, [], ◌∷◌, ◌++◌, append_assoc, append-nil}
use native.Mathlib.Omega.{arith}
use native.Mathlib.Numerals.{add-one}
use lib.ListN.{length, get_or, take, length-append}
use lib.Seq.{take-suc}
use Rattle.std.proofs.lemmas.List.{length-take-le}
use Rattle.model.specs.Text.{text}
use Rattle.model.specs.Answer.{Answer, good}
use Rattle.model.specs.Tree.{Trees}
use Rattle.model.specs.Forest.{record_count, trees_of}
use Rattle.model.specs.Accept.{accept}
use Rattle.model.specs.Ends.{ends_of, entries}
use Rattle.model.specs.Lister.{numeral}
use Rattle.codec.proofs.Ends.{first_entries}
use Rattle.output.specs.declared.Output.{Output}
use Rattle.output.specs.Output.{Put}
use Rattle.output.proofs.Put.{put_none, put_as, put_then}
use Rattle.text.proofs.Numbers.{numeral-length}
use Rattle.replay_check.specs.Line.{spaced, accepted, line_of, line}

-- ---- one number more

spaced-more : (ns : List ℕ) (n : ℕ) → spaced (ns ++ (n ∷ [])) ≡ spaced ns ++ ((32 ∷ []) ++ numeral n)
unfolding spaced text
spaced-more [] n = append-nil ((32 ∷ []) ++ numeral n)
spaced-more (m ∷ ns) n =
    let one = (32 ∷ []) ++ numeral m in
    ap (λ (z : List ℕ). one ++ z) (spaced-more ns n) ∙ sym (append_assoc one (spaced ns) ((32 ∷ []) ++ numeral n))

-- ---- how long they are

pub spaced-length : (ns : List ℕ) → length (spaced ns) ≤ 21 * length ns
unfolding spaced text
spaced-length [] = omega arith
spaced-length (n ∷ ns) =
    omega (arith, length-append ((32 ∷ []) ++ numeral n) (spaced ns), numeral-length n, spaced-length ns)

-- ---- as they are put

module _ (ns : List ℕ) (k : ℕ) {o o₁ : Output} (w : Put o (spaced (take k ns)) o₁) where
  pub spaced_end : k ≤ length ns → o₁.at ≤ o.at + 21 * k
  spaced_end l = omega (arith, w.ends, spaced-length (take k ns), length-take-le k ns l)

  pub spaced_turn : k < length ns → {o₂ o₃ : Output} → Put o₁ (32 ∷ []) o₂ → Put o₂ (numeral (get_or ns k 0)) o₃ →
      Put o (spaced (take (k + 1) ns)) o₃
  spaced_turn l w₂ w₃ =
      put_as
      (rw add-one (sym (ap spaced (take-suc ns k 0 l) ∙ spaced-more (take k ns) (get_or ns k 0))))
      (put_then w (put_then w₂ w₃))

pub spaced_start : (o : Output) (ns : List ℕ) → Put o (spaced (take 0 ns)) o
unfolding spaced
spaced_start o ns = put_none o

-- ---- the line

pub line_parts : (ends : List ℕ) {o o₁ o₂ o₃ : Output} → Put o (text "accepted") o₁ → Put o₁ (spaced ends) o₂ →
    Put o₂ (10 ∷ []) o₃ → Put o (accepted ends) o₃
unfolding accepted text
line_parts ends w₁ w₂ w₃ = put_then (put_then w₁ w₂) w₃

-- that of a forest of n records, from its entries
pub line_of_entries : (bs laid es : List ℕ) (n : ℕ) → laid ≡ bs → (n ≡ record_count laid) × (n ≤ 256) →
    good (trees_of bs) ≡ accept bs → es ≡ entries bs → accepted (take n es) ≡ line bs
unfolding line_of
line_of_entries bs laid es n same count is entered =
    let m : n ≡ record_count bs = count.0 ∙ ap record_count same in
    ap accepted (ap₂ take m entered ∙ first_entries bs (omega arith) (sym is))
    ∙ ap (λ (a : Answer Trees). accepted (ends_of a)) (sym is)
    ∙ ap line_of is
