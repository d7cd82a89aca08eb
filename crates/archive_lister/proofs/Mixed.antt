-- The main call says 16 exactly where the checks do, and then header and directory stand, and the record is there.
-- In order: what the call says, from what the checks say; a forest of which it says 16; the opcode.
-- Assumes nothing.
use Prim.Native.Nat.{ℕ, ◌<◌}
use mathlib.Core.Path.{◌≡◌, refl, sym, ap, ◌∙◌}
use mathlib.Core.Logic.{inl, inr}
use mathlib.Core.Bool.{Bool, true, false}
use Rattle.std.specs.Prelude.{Option, None, Some}
use mathlib.Core.List.{List}
use native.Mathlib.Omega.{arith}
use borrow.Author.Tests.{eq-eqb, ne_eqb}
use Rattle.model.specs.Lists.{is_in}
use Rattle.model.specs.Answer.{refused, good, ◌>>=◌}
use Rattle.model.specs.Forest.{record_count, trees_of, check2, check3}
use Rattle.model.specs.Accept.{accept}
use Rattle.model.specs.Places.{record_at}
use Rattle.model.specs.Conditions.{Applies, Before, order, FirstApplies, at_2, at_3, at_16}
use Rattle.model.specs.Call.{Call, ample, interned, written, Numbers, numbers_of, numbers}
use Rattle.model.specs.ArchiveLister.{mixed_opcode}
use Rattle.record.specs.Record.{Laid}
use Rattle.theory.proofs.Demand3.Places.{check_2, check_3}
use Rattle.theory.proofs.Demand3.Order.{accepted_exactly}
use Rattle.theory.proofs.Demand3.Exactly.{refusal_both}
use Rattle.cse.proofs.Telling.{run_enough}

module _ (bs : List ℕ) where
  abbrev call : Call
  call = ample bs

  -- what is told of a place, if 16 is said of it
  abbrev told : ℕ → Bool → Option ℕ
  told q b = elim b [ true ↦ Some (record_at bs q).rec.opcode | false ↦ None ]

  -- ---- what the call says

  call_refuses : (n p : ℕ) → refused n p ≡ accept bs → ((numbers call).number ≡ n) × ((numbers call).place ≡ p)
  unfolding numbers numbers_of written interned ◌>>=◌
  call_refuses n p e =
      let made : written call ≡ refused n p = rw (← e) refl in
      let is : numbers call ≡ numbers_of (refused n p) = ap numbers_of (run_enough call (omega arith) ∙ made) in
      (ap (λ (z : Numbers). z.number) is, ap (λ (z : Numbers). z.place) is)

  -- of an accepted forest it does not say 16
  not_16_accepted : good (trees_of bs) ≡ accept bs → (numbers call).number ≡ 16 → ⊥
  unfolding is_in
  not_16_accepted e s =
      (accepted_exactly bs).0 (sym e) call refl 16 (numbers call).place refl
      ((refusal_both call 16 (numbers call).place (omega arith)).0 (s, refl)).0

  -- ---- a forest of which it says 16

  module _ (n p : ℕ) (e : refused n p ≡ accept bs) (is : n ≡ 16) where
    is_16 : ((numbers call).number ≡ 16) × ((numbers call).place ≡ p)
    is_16 = let s = call_refuses n p e in (s.0 ∙ is, s.1)

    first_16 : FirstApplies call 16 p
    first_16 = (refusal_both call 16 p (omega arith)).0 is_16

    -- a check that comes before 16 finds no place
    before_16 : (n : ℕ) (o : Option ℕ) → Before n 16 order → ((q : ℕ) → o ≡ Some q → (r : ℕ) × Applies call n r) → o ≡ None
    before_16 n None b h = refl
    before_16 n (Some q) b h = let w = h q refl in absurd (first_16.1 n w.0 b w.1)

    header : check2 bs ≡ None
    unfolding is_in
    header = before_16 2 (check2 bs) (inr (inl (refl, refl))) (λ q f. (0, at_2 ((check_2 bs q).0 f).1))

    directory : check3 bs ≡ None
    unfolding is_in
    directory = before_16 3 (check3 bs) (inr (inr (inl (refl, refl)))) (λ q f. (q, at_3 q ((check_3 bs q).0 f)))

    pub mixed_laid : Laid bs
    mixed_laid = record { header = header; directory = directory }

    pub mixed_there : p < record_count bs
    mixed_there = go p first_16.0
      where
        go : (q : ℕ) → Applies call 16 q → q < record_count bs
        go q (at_16 r h) = h.0.0

    -- ---- the opcode

    pub opcode_there : mixed_opcode bs ≡ Some (record_at bs p).rec.opcode
    unfolding mixed_opcode
    opcode_there =
        ap (told (numbers call).place) (eq-eqb (numbers call).number 16 is_16.0)
        ∙ ap (λ (q : ℕ). Some (record_at bs q).rec.opcode) is_16.1

  none_said : ((numbers call).number ≡ 16 → ⊥) → mixed_opcode bs ≡ None
  unfolding mixed_opcode
  none_said n = ap (told (numbers call).place) (ne_eqb (numbers call).number 16 n)

  pub opcode_refused : (n p : ℕ) → refused n p ≡ accept bs → (n ≡ 16 → ⊥) → mixed_opcode bs ≡ None
  opcode_refused n p e h = none_said (λ s. h (sym (call_refuses n p e).0 ∙ s))

  pub opcode_accepted : good (trees_of bs) ≡ accept bs → mixed_opcode bs ≡ None
  opcode_accepted e = none_said (not_16_accepted e)
