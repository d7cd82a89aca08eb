-- Laws of `words_from`: as a slice, its length, its elements, a bound of them, one word more, the words that it hangs on,
-- a stored run; a copy.
-- Assumes nothing.
use Prim.Native.Nat.{ℕ, zero, suc, ◌+◌, ◌-◌, ◌<◌, ◌≤◌}
use mathlib.Core.Path.{◌≡◌, refl, ap, ◌∙◌}
use mathlib.Core.Logic.{inl, inr}
use mathlib.Core.List.{List, [], ◌∷◌, ◌++◌}
use native.Mathlib.Omega.{arith}
use lib.ListN.{length, get_or, take, drop}
use lib.Seq.{sets, sets-eq, ext_get_or, drop-cons}
use Rattle.std.specs.List.{slice_range, copy_within}
use Rattle.laws.specs.Frame.{Agree}
use Rattle.laws.specs.Members.{Under}
use Rattle.laws.proofs.Runs.{sets_run}
use Rattle.symbols.specs.Words.{words_from}

-- a slice of the words, as code has it
pub words_slice : (ws : List ℕ) (at n : ℕ) → at + n ≤ length ws → slice_range ws at (at + n) ≡ words_from ws at n
unfolding words_from
words_slice ws at zero le = let e : at + 0 - at ≡ 0 = omega arith in rw e
words_slice ws at (suc n) le =
    let e : at + suc n - at ≡ suc n = omega arith in
    let f : suc at + n - suc at ≡ n = omega arith in
    let lt : at < length ws = omega arith in
    rw (e, drop-cons ws at 0 lt)
    (ap (λ (l : List ℕ). get_or ws at 0 ∷ l) (rw f at (words_slice ws (suc at) n (omega arith))))

pub words_length : (ws : List ℕ) (at n : ℕ) → length (words_from ws at n) ≡ n
unfolding words_from
words_length ws at zero = refl
words_length ws at (suc n) = ap suc (words_length ws (suc at) n)

pub words_at : (ws : List ℕ) (at n j : ℕ) → j < n → get_or (words_from ws at n) j 0 ≡ get_or ws (at + j) 0
unfolding words_from
words_at ws at zero j lt = absurd (omega arith)
words_at ws at (suc n) zero lt = let e : at + 0 ≡ at = omega arith in rw e
words_at ws at (suc n) (suc j) lt =
    let e : suc at + j ≡ at + suc j = omega arith in words_at ws (suc at) n j (omega arith) ∙ rw e

-- words that are below a bound, as a list
pub words_under : (ws : List ℕ) (at n m : ℕ) → ((k : ℕ) → k < n → get_or ws (at + k) 0 < m) →
    Under m (words_from ws at n)
unfolding words_from
words_under ws at zero m h a i = absurd i
words_under ws at (suc n) m h a (inl e) =
    let z : at + 0 ≡ at = omega arith in
    let l : get_or ws at 0 < m = rw z at (h 0 (omega arith)) in
    omega arith
words_under ws at (suc n) m h a (inr i) = words_under ws (suc at) n m rest a i
  where
    rest : (k : ℕ) → k < n → get_or ws (suc at + k) 0 < m
    rest k l = let e : suc at + k ≡ at + suc k = omega arith in rw e (h (suc k) (omega arith))

pub words_more : (ws : List ℕ) (at n : ℕ) → words_from ws at (suc n) ≡ words_from ws at n ++ (get_or ws (at + n) 0 ∷ [])
unfolding words_from
words_more ws at zero = let e : at + 0 ≡ at = omega arith in rw e
words_more ws at (suc n) =
    let e : at + suc n ≡ suc at + n = omega arith in
    rw e (ap (λ (l : List ℕ). get_or ws at 0 ∷ l) (words_more ws (suc at) n))

pub words_agree : (ws ws' : List ℕ) (at n : ℕ) → Agree ws ws' at (at + n) → words_from ws' at n ≡ words_from ws at n
unfolding words_from
words_agree ws ws' at zero h = refl
words_agree ws ws' at (suc n) h =
    rw (h at (omega arith) (omega arith), words_agree ws ws' (suc at) n (λ k l r. h k (omega arith) (omega arith)))

-- words that were stored are read back
pub words_stored : (ws : List ℕ) (at : ℕ) (vs : List ℕ) → at + length vs ≤ length ws →
    words_from (sets ws at vs) at (length vs) ≡ vs
words_stored ws at vs h =
    ext_get_or 0 (words_from (sets ws at vs) at (length vs)) vs (words_length (sets ws at vs) at (length vs))
    (λ i lt. let l : i < length vs = omega (arith, words_length (sets ws at vs) at (length vs)) in
    words_at (sets ws at vs) at (length vs) i l ∙ sets_run vs ws at i l h)

-- a copy of words to another place
pub words_copied : (ws : List ℕ) (at n to : ℕ) → at + n ≤ length ws → to + n ≤ length ws →
    copy_within ws at (at + n) to ≡ sets ws to (words_from ws at n)
words_copied ws at n to l r =
    let e : at + n - at ≡ n = omega arith in
    let run : take n (drop at ws) ≡ words_from ws at n = rw e at (words_slice ws at n l) in
    let long : length (words_from ws at n) ≡ n = words_length ws at n in
    rw (e, run, sets-eq (words_from ws at n) ws to (omega (arith, long)), long)
