-- Numbers as text. In order: the digits of a number; how many; one digit more; below zero.
-- Assumes nothing.
use Prim.Native.Nat.{ℕ, zero, suc, ◌+◌, ◌*◌, ◌/◌, ◌%◌, ◌<◌, ◌≤◌}
use mathlib.Core.Path.{◌≡◌, refl, sym, ap, ◌∙◌}
use mathlib.Core.Bool.{Bool, true, false}
use mathlib.Core.List.{List, [], ◌∷◌, ◌++◌}
use mathlib.Core.Logic.{◌⊎◌, inl, inr, ⊎_elim}
use native.Mathlib.Omega.{arith}
use lib.Dec.{ltb}
use lib.IntN.{ℤ, pos, negsuc, nat_abs}
use lib.ListN.{length, length-append}
use lib.Signed.{◌<ℤ◌, ◌≤ℤ◌}
use borrow.Author.Tests.{lt-ltb, le-ltb, ltb-true, ltb-false}
use Rattle.std.proofs.lemmas.Int.{ints}
use Rattle.model.specs.Text.{text}
use Rattle.model.specs.Lister.{digits, numeral, signed}

-- ---- the digits of a number

by_ten : (n : ℕ) → (n < 10) ⊎ (10 ≤ n)
by_ten n = go (ltb n 10) refl
  where
    go : (b : Bool) → ltb n 10 ≡ b → (n < 10) ⊎ (10 ≤ n)
    go true e = inl (ltb-true n 10 e)
    go false e = inr (ltb-false n 10 e)

one_digit : (f n : ℕ) (rest : List ℕ) → n < 10 → digits (suc f) n rest ≡ (48 + n) ∷ rest
unfolding digits
one_digit f n rest l = rw (lt-ltb n 10 l, digits)

more-digits : (f n : ℕ) (rest : List ℕ) → 10 ≤ n → digits (suc f) n rest ≡ digits f (n / 10) ((48 + n % 10) ∷ rest)
unfolding digits
more-digits f n rest l = rw (le-ltb n 10 l, digits)

digits_append : (f n : ℕ) (xs ys : List ℕ) → digits f n (xs ++ ys) ≡ digits f n xs ++ ys
unfolding digits
digits_append zero n xs ys = refl
digits_append (suc f) n xs ys =
    ⊎_elim (λ (l : n < 10). rw (one_digit f n (xs ++ ys) l, one_digit f n xs l))
    (λ (l : 10 ≤ n). rw (more-digits f n (xs ++ ys) l, more-digits f n xs l)
    (digits_append f (n / 10) ((48 + n % 10) ∷ xs) ys)) (by_ten n)

-- 10^f
unfoldable pub ten : ℕ → ℕ
ten zero = 1
ten (suc f) = 10 * ten f

-- where f + 1 digits are enough and g + 1 too, both give the same
digits_enough : (f g n : ℕ) (rest : List ℕ) → n < 10 * ten f → n < 10 * ten g →
    digits (suc f) n rest ≡ digits (suc g) n rest
unfolding ten
digits_enough zero g n rest h k =
    let l : n < 10 = omega arith in one_digit 0 n rest l ∙ sym (one_digit g n rest l)
digits_enough (suc f) zero n rest h k =
    let l : n < 10 = omega arith in one_digit (suc f) n rest l ∙ sym (one_digit 0 n rest l)
digits_enough (suc f) (suc g) n rest h k =
    ⊎_elim (λ (l : n < 10). one_digit (suc f) n rest l ∙ sym (one_digit (suc g) n rest l))
    (λ (l : 10 ≤ n). more-digits (suc f) n rest l
    ∙ (digits_enough f g (n / 10) ((48 + n % 10) ∷ rest) (omega arith) (omega arith)
    ∙ sym (more-digits (suc g) n rest l)))
    (by_ten n)

-- ---- how many

digits-length : (f n : ℕ) (rest : List ℕ) → length (digits f n rest) ≤ f + length rest
unfolding digits
digits-length zero n rest = omega arith
digits-length (suc f) n rest =
    ⊎_elim (λ (l : n < 10). rw (one_digit f n rest l) (omega arith))
    (λ (l : 10 ≤ n). rw (more-digits f n rest l) (omega (arith, digits-length f (n / 10) ((48 + n % 10) ∷ rest))))
    (by_ten n)

pub numeral-length : (n : ℕ) → length (numeral n) ≤ 20
unfolding numeral
numeral-length n = digits-length 20 n []

digits-few : (k f n : ℕ) (rest : List ℕ) → n < ten (suc k) → length (digits f n rest) ≤ suc k + length rest
unfolding digits ten
digits-few k zero n rest h = omega arith
digits-few zero (suc f) n rest h =
    let l : n < 10 = omega arith in rw (one_digit f n rest l) (omega arith)
digits-few (suc k) (suc f) n rest h =
    ⊎_elim (λ (l : n < 10). rw (one_digit f n rest l) (omega arith))
    (λ (l : 10 ≤ n). rw (more-digits f n rest l)
    (omega (arith, digits-few k f (n / 10) ((48 + n % 10) ∷ rest) (omega arith))))
    (by_ten n)

-- a number below 10^(k + 1) has no more than k + 1
pub numeral-few : (k n : ℕ) → n < ten (suc k) → length (numeral n) ≤ suc k
unfolding numeral
numeral-few k n h = omega (arith, digits-few k 20 n [] h)

pub signed-length : (z : ℤ) → length (signed z) ≤ 21
unfolding signed text
signed-length (pos n) = omega (arith, numeral-length n)
signed-length (negsuc n) = omega (arith, numeral-length (suc n))

-- ---- one digit more

pub numeral-one : (n d : ℕ) → n < 10 → d ≡ 48 + n → (d ∷ []) ≡ numeral n
unfolding numeral
numeral-one n d l e = rw e (sym (one_digit 19 n [] l))

pub numeral_least : (n : ℕ) → n < 10 → length (numeral n) ≡ 1
numeral_least n l = ap length (sym (numeral-one n (48 + n) l refl))

-- d is the last digit of n
pub numeral-more : (n d : ℕ) → 10 ≤ n → n < 18446744073709551616 → d ≡ 48 + n % 10 →
    numeral (n / 10) ++ (d ∷ []) ≡ numeral n
unfolding numeral ten
numeral-more n d l h e =
    rw e
    (sym (more-digits 19 n [] l
    ∙ (digits_enough 18 19 (n / 10) ((48 + n % 10) ∷ []) (omega arith) (omega arith)
    ∙ digits_append 20 (n / 10) [] ((48 + n % 10) ∷ []))))

pub numeral_before : (n : ℕ) → 10 ≤ n → n < 18446744073709551616 → length (numeral n) ≡ length (numeral (n / 10)) + 1
numeral_before n l h =
    let e = numeral-more n (48 + n % 10) l h refl in
    omega (arith, ap length e, length-append (numeral (n / 10)) ((48 + n % 10) ∷ []))

-- ---- below zero

-- what stands before the digits
unfoldable pub minus : ℤ → List ℕ
minus (pos n) = []
minus (negsuc n) = 45 ∷ []

pub minus_digits : (z : ℤ) → minus z ++ numeral (nat_abs z) ≡ signed z
unfolding minus signed text
minus_digits (pos n) = refl
minus_digits (negsuc n) = refl

pub minus_below : (z : ℤ) → z <ℤ pos 0 → (45 ∷ []) ≡ minus z
unfolding minus
minus_below (pos n) below = absurd (omega (arith, ints))
minus_below (negsuc n) below = refl

pub minus_above : (z : ℤ) → pos 0 ≤ℤ z → [] ≡ minus z
unfolding minus
minus_above (pos n) above = refl
minus_above (negsuc n) above = absurd (omega (arith, ints))
