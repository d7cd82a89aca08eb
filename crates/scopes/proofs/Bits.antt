-- Membership in the sets that bitwise operations make.
-- In order: no level; a level put in, and taken out; two sets joined. Assumes nothing.
use Prim.Native.Nat.{ℕ, ◌-◌, ◌*◌, ◌%◌, ◌^◌, ◌<◌, min, max}
use mathlib.Core.Path.{◌≡◌, refl}
use mathlib.Core.Bool.{Bool, true, false, not, ◌&&◌, ◌||◌}
use native.Mathlib.Omega.{arith}
use native.Mathlib.Decide.{dec_lt}
use borrow.Author.Tests.{eqb-true, eqb-false}
use mir.Syntax.{w64}
use lib.Dec.{eqb}
use lib.Bits.{bit_and, bit_or}
use Rattle.std.specs.Int.{bit_at}
use Rattle.std.proofs.lemmas.Nat.Bits.{bit_at-zero, bit_at-lt, bit_at_and, bit_at_or, bit_at_above}
use Rattle.std.proofs.lemmas.Nat.Bits.{bit_at_set_same, bit_at_set_other, bit_at_clear_same, bit_at_clear_other}
use Rattle.scopes.specs.Levels.{has}

pub has_none : (j : ℕ) → has 0 j ≡ false
unfolding has
has_none j = rw (bit_at-zero j)

-- ---- level k put in, and taken out

module _ (m k : ℕ) (low : k < 64) where
  abbrev with_it : ℕ
  with_it = bit_or m (1 * 2 ^ k % 2 ^ 64)

  pub has_with : (j : ℕ) → has with_it j ≡ (eqb j k || has m j)
  unfolding has
  has_with j = go (eqb j k) refl
    where
      go : (t : Bool) → eqb j k ≡ t → eqb (bit_at with_it j) 1 ≡ (t || eqb (bit_at m j) 1)
      go true e = let d : j ≡ k = eqb-true j k e in rw (d, bit_at_set_same w64 m k low)
      go false e = rw (bit_at_set_other w64 m k low j (eqb-false j k e))

  abbrev without_it : ℕ
  without_it = bit_and m (2 ^ 64 - 1 - 1 * 2 ^ k % 2 ^ 64)

  pub has_without : m < 2 ^ 64 → (j : ℕ) → has without_it j ≡ (not (eqb j k) && has m j)
  unfolding has
  has_without small j = go (eqb j k) refl
    where
      go : (t : Bool) → eqb j k ≡ t → eqb (bit_at without_it j) 1 ≡ (not t && eqb (bit_at m j) 1)
      go true e = let d : j ≡ k = eqb-true j k e in rw (d, bit_at_clear_same w64 m k low)
      go false e = elim (dec_lt j 64) [
        | yes lt ↦ rw (bit_at_clear_other w64 m k low j lt (eqb-false j k e))
        | no past ↦
            let others = 2 ^ 64 - 1 - 1 * 2 ^ k % 2 ^ 64 in
            let z : min 0 (bit_at others j) ≡ 0 = omega arith in
            rw (bit_at_and m others j, bit_at_above m 64 j small (omega arith), z)
      ]

-- ---- two sets joined

or_digit : (x y : ℕ) → x < 2 → y < 2 → eqb (max x y) 1 ≡ (eqb x 1 || eqb y 1)
or_digit x y p q = grind arith

pub has_join : (a b j : ℕ) → has (bit_or a b) j ≡ (has a j || has b j)
unfolding has
has_join a b j = rw (bit_at_or a b j) (or_digit (bit_at a j) (bit_at b j) (bit_at-lt a j) (bit_at-lt b j))
