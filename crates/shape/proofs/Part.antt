-- Laws of the model's readers: one part after another; many; bits; an id; what is left after an opt; the whole literal.
-- Assumes nothing.
use Prim.Native.Nat.{ℕ, zero, suc, ◌+◌, ◌-◌, ◌<◌, ◌≤◌}
use mathlib.Core.Path.{◌≡◌, refl, sym, ap}
use mathlib.Core.Bool.{Bool, true, false, ◌&&◌}
use Rattle.std.specs.Prelude.{Option, None, Some, option_and_then}
use Rattle.std.specs.List.{list_all}
use mathlib.Core.List.{List, [], ◌∷◌}
use native.Mathlib.Omega.{arith}
use native.Mathlib.Decide.{dec_le}
use borrow.Author.Tests.{lt-leb, le-leb, leb-true, eqb-true}
use lib.Dec.{eqb, leb, ltb, eqb-suc-suc}
use lib.ListN.{length, drop, length-drop}
use Rattle.model.specs.Shape.{Reader, a_byte, a_id, a_type, a_opt, ◌then◌, times, whole, bits}

-- ---- one part after another

pub then_is : (f g : Reader) (bs : List ℕ) → (f then g) bs ≡ option_and_then g (f bs)
unfolding ◌then◌
then_is f g bs = go (f bs)
  where
    go : (r : Option (List ℕ)) → elim r [ None ↦ None | Some rest ↦ g rest ] ≡ option_and_then g r
    go None = refl
    go (Some rest) = refl

-- ---- many: those left after k of n

module _ (f : Reader) (n k : ℕ) (bs : List ℕ) where
  times_turn : k < n → times (n - k) f bs ≡ option_and_then (times (n - (k + 1)) f) (f bs)
  unfolding times
  times_turn l = let e : n - k ≡ suc (n - (k + 1)) = omega arith in rw e (then_is f (times (n - (k + 1)) f) bs)

  pub times_some : (bs' : List ℕ) → k < n → f bs ≡ Some bs' → times (n - k) f bs ≡ times (n - (k + 1)) f bs'
  times_some bs' l e = rw (times_turn l, e)

  pub times_none : k < n → f bs ≡ None → times (n - k) f bs ≡ None
  times_none l e = rw (times_turn l, e)

  pub times_end : n ≤ k → times (n - k) f bs ≡ Some bs
  unfolding times
  times_end l = let e : n - k ≡ 0 = omega arith in rw e

-- a turn of the loop that reads them
pub ruleset turns = (times_some, times_none, times_end)

-- ---- bits

pub bits_is : (bs : List ℕ) → bits bs ≡ list_all (λ b. ltb b 2) bs
unfolding bits
bits_is [] = refl
bits_is (b ∷ bs) = ap (λ z. ltb b 2 && z) (bits_is bs)

-- ---- an id

pub id_some : (bs : List ℕ) → 4 ≤ length bs → a_id bs ≡ Some (drop 4 bs)
unfolding a_id
id_some bs h = rw (a_id, le-leb 4 (length bs) h)

pub id_none : (bs : List ℕ) → length bs < 4 → a_id bs ≡ None
unfolding a_id
id_none bs h = rw (a_id, lt-leb 4 (length bs) h)

-- ---- what is left after an opt

pub record Ends (bs rest : List ℕ) : Type 0 where
  pub short : length rest ≤ length bs
  pub is : rest ≡ drop (length bs - length rest) bs

ends_more : {b : ℕ} {bs rest : List ℕ} → Ends bs rest → Ends (b ∷ bs) rest
ends_more {b} {bs} {rest} e =
    let n : suc (length bs) - length rest ≡ suc (length bs - length rest) = omega (arith, e.short) in
    record { short = omega (arith, e.short); is = rw n e.is }

ends_drop : (n : ℕ) (bs : List ℕ) → n ≤ length bs → Ends bs (drop n bs)
ends_drop n bs h =
    let e : length bs - (length bs - n) ≡ n = omega arith in
    record { short = rw length-drop (omega arith); is = rw (length-drop, e) }

type_ends : (bs rest : List ℕ) → a_type bs ≡ Some rest → Ends bs rest
unfolding a_type
type_ends [] rest e = cc
type_ends (n ∷ bs) rest e = go (ltb 0 n) (leb n (length bs)) refl e
  where
    go : (a b : Bool) → leb n (length bs) ≡ b → elim (a && b) [ true ↦ Some (drop n bs) | false ↦ None ] ≡ Some rest
        → Ends (n ∷ bs) rest
    go true true f g = let e : drop n bs ≡ rest = cc in rw (← e) (ends_more (ends_drop n bs (leb-true n (length bs) f)))
    go true false f g = cc
    go false b f g = cc

pub opt_ends : (bs rest : List ℕ) → a_opt bs ≡ Some rest → Ends bs rest
unfolding a_opt
opt_ends [] rest e = cc
opt_ends (zero ∷ bs) rest e = let e : bs ≡ rest = cc in rw (← e) (ends_more (ends_drop 0 bs (omega arith)))
opt_ends (suc zero ∷ bs) rest e = ends_more (type_ends bs rest e)
opt_ends (suc (suc n) ∷ bs) rest e = cc

-- ---- the whole literal

pub never : false ≡ true → ⊥
never e = cc

-- a part that is not there is not the whole
pub whole_stands : (f : Reader) (bs : List ℕ) → whole f bs ≡ true → f bs ≡ None → ⊥
unfolding whole
whole_stands f bs w e = never (rw (e, whole) at w)

pub whole_id : (bs : List ℕ) → whole a_id bs ≡ true → length bs ≡ 4
unfolding whole
whole_id bs w = elim (dec_le 4 (length bs)) [
  | no g ↦ absurd (whole_stands a_id bs w (id_none bs (omega arith)))
  | yes h ↦ omega (arith, h, rw length-drop at (eqb-true _ 0 (rw (id_some bs h, whole) at w)))
]

pub whole_byte : (bs : List ℕ) → whole a_byte bs ≡ eqb (length bs) 1
unfolding whole a_byte
whole_byte [] = refl
whole_byte (b ∷ bs) = sym (eqb-suc-suc (length bs) 0)
