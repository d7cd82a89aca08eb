-- Ids taken back, in lists. In order: from symbols of an order, one by one; all that an order's symbols got; a lambda's
-- arguments, numbered and numbered no more.
-- Assumes nothing.
use Prim.Native.Nat.{ℕ, zero, suc, ◌+◌, ◌-◌, ◌≤◌, ◌<◌}
use mathlib.Core.Path.{◌≡◌, refl, sym, ap, ◌∙◌}
use mathlib.Core.Bool.{Bool, true, false}
use mathlib.Core.Logic.{◌⊎◌, inl, inr}
use mathlib.Core.List.{List, [], ◌∷◌, ◌++◌}
use native.Mathlib.Omega.{arith}
use lib.Dec.{eqb, ltb}
use lib.ListN.{length, get_or, set, take, replicate, length-set, length-replicate, get_or-replicate, replicate-append-replicate}
use lib.Seq.{sets, length-sets, get_or-set_other}
use borrow.Author.Tests.{eqb-true, eqb-false, ltb-true, ltb-false, lt-ltb, le-ltb}
use Rattle.std.proofs.lemmas.Grind.{same_number_lists}
use Rattle.laws.specs.Range.{range}
use Rattle.laws.proofs.Ranges.{range_length, range_at}
use Rattle.laws.proofs.Runs.{sets_run, sets_before, sets_after, sets_more}
use Rattle.outsiders.proofs.Lists.{next}
use Rattle.planner.specs.declared.source.Source.{Source}
use Rattle.planner.specs.Building.{taken_back}
use Rattle.planner.specs.Planning.{UpTo, AddedAt, Added}

-- ---- from symbols of an order, one by one

taken_append : (xs ys ids : List ℕ) (last : ℕ) → taken_back ids (xs ++ ys) last ≡ taken_back (taken_back ids xs last) ys last
unfolding taken_back
taken_append [] ys ids last = refl
taken_append (x ∷ xs) ys ids last =
    taken_append xs ys (elim (ltb last (get_or ids x 0)) [ true ↦ set ids x 0 | false ↦ ids ]) last

module _ (order : List ℕ) {i s : ℕ} (lt : i < length order) (at : s ≡ get_or order i 0) where
  module _ (ids : List ℕ) (last : ℕ) {ids₁ : List ℕ} (before : ids₁ ≡ taken_back ids (take i order) last) where
    then_one : taken_back ids (take (i + 1) order) last ≡ taken_back ids₁ (s ∷ []) last
    then_one = rw (next order i s lt at, before) (taken_append (take i order) (s ∷ []) ids last)

    pub taken_high : last < get_or ids₁ s 0 → set ids₁ s 0 ≡ taken_back ids (take (i + 1) order) last
    unfolding taken_back
    taken_high l =
        sym (then_one ∙ ap (λ (b : Bool). elim b [ true ↦ set ids₁ s 0 | false ↦ ids₁ ]) (lt-ltb last (get_or ids₁ s 0) l))

    pub taken_low : get_or ids₁ s 0 ≤ last → ids₁ ≡ taken_back ids (take (i + 1) order) last
    unfolding taken_back
    taken_low l =
        sym (then_one ∙ ap (λ (b : Bool). elim b [ true ↦ set ids₁ s 0 | false ↦ ids₁ ]) (le-ltb last (get_or ids₁ s 0) l))

-- ---- all that an order's symbols got

set_none : (ids : List ℕ) (s : ℕ) → ◌≡◌ {A = ℕ} (get_or (set ids s 0) s 0) 0
set_none [] s = refl
set_none (x ∷ ids) zero = refl
set_none (x ∷ ids) (suc s) = set_none ids s

module _ {x : Source} (ids : List ℕ) (last : ℕ) (up_to : UpTo ids last) where
  pub all_taken : (order ids' : List ℕ) → length ids' ≡ length ids → Added x ids order last ids'
      → taken_back ids' order last ≡ ids
  unfolding taken_back
  all_taken [] ids' long added = same_number_lists ids' ids long (λ k l. elim (added k) [ inl e ↦ e | inr w ↦ absurd w.among ])
  all_taken (s ∷ order) ids' long added = go (ltb last (get_or ids' s 0)) refl (all_taken order)
    where
      -- of the rest of the order
      fewer : (t : ℕ) (ids₂ : List ℕ) → (s ≡ t → ⊥) → get_or ids₂ t 0 ≡ get_or ids' t 0
          → (get_or ids₂ t 0 ≡ get_or ids t 0) ⊎ AddedAt x ids order last ids₂ t
      fewer t ids₂ other e = elim (added t) [
        | inl same ↦ inl (e ∙ same)
        | inr w ↦ elim w.among [
          | inl f ↦ absurd (other (sym f))
          | inr m ↦ inr (record { among = m; new = w.new; after = omega (arith, w.after, e) })
        ]
      ]

      -- s had none, so it has none again
      taken : last < get_or ids' s 0 → Added x ids order last (set ids' s 0)
      taken l t = at (eqb s t) refl
        where
          at : (b : Bool) → eqb s t ≡ b
              → (get_or (set ids' s 0) t 0 ≡ get_or ids t 0) ⊎ AddedAt x ids order last (set ids' s 0) t
          at true e =
              let f = eqb-true s t e in
              rw (← f) (elim (added s) [
                | inl same ↦ absurd (omega (arith, l, up_to s, same))
                | inr w ↦ inl (set_none ids' s ∙ sym w.new.none)
              ])
          at false e =
              let other = eqb-false s t e in
              fewer t (set ids' s 0) other (get_or-set_other ids' s t 0 0 (λ f. other (sym f)))

      kept : get_or ids' s 0 ≤ last → Added x ids order last ids'
      kept l t = at (eqb s t) refl
        where
          at : (b : Bool) → eqb s t ≡ b → (get_or ids' t 0 ≡ get_or ids t 0) ⊎ AddedAt x ids order last ids' t
          at true e =
              let f = eqb-true s t e in
              rw (← f) (elim (added s) [ inl same ↦ inl same | inr w ↦ absurd (omega (arith, l, w.after)) ])
          at false e = fewer t ids' (eqb-false s t e) refl

      go : (b : Bool) → ltb last (get_or ids' s 0) ≡ b
          → ((x₂ : List ℕ) → length x₂ ≡ length ids → Added x ids order last x₂ → taken_back x₂ order last ≡ ids)
          → taken_back (elim b [ true ↦ set ids' s 0 | false ↦ ids' ]) order last ≡ ids
      go true e rest = rest (set ids' s 0) (length-set ids' s 0 ∙ long) (taken (ltb-true last (get_or ids' s 0) e))
      go false e rest = rest ids' long (kept (ltb-false last (get_or ids' s 0) e))

-- ---- a lambda's arguments

pub run_more : (ids₀ ids : List ℕ) (first j : ℕ) → ids ≡ sets ids₀ first (replicate j 0)
    → set ids (first + j) 0 ≡ sets ids₀ first (replicate (j + 1) 0)
run_more ids₀ ids first j e =
    let more : ◌≡◌ {A = List ℕ} (replicate j 0 ++ (0 ∷ [])) (replicate (j + 1) 0) = replicate-append-replicate j 1 0 in
    rw (e, ← more, sets_more (replicate j 0) ids₀ first 0, length-replicate {A = ℕ} j 0)

module _ (ids : List ℕ) (first n : ℕ) (fit : 0 < n → first + n ≤ length ids) (xs : List ℕ) (many : length xs ≡ n) where
  -- a symbol is not among them, or is the j-th
  sets_cases : (t : ℕ) → ((first ≤ t → t < first + n → ⊥) × (get_or (sets ids first xs) t 0 ≡ get_or ids t 0))
      ⊎ ((j : ℕ) × (j < n) × (t ≡ first + j) × (get_or (sets ids first xs) t 0 ≡ get_or xs j 0))
  sets_cases t = go (ltb t first) (ltb t (first + n)) refl refl
    where
      go : (a b : Bool) → ltb t first ≡ a → ltb t (first + n) ≡ b
          → ((first ≤ t → t < first + n → ⊥) × (get_or (sets ids first xs) t 0 ≡ get_or ids t 0))
          ⊎ ((j : ℕ) × (j < n) × (t ≡ first + j) × (get_or (sets ids first xs) t 0 ≡ get_or xs j 0))
      go true b e f =
          let below = ltb-true t first e in
          inl (λ lo hi. omega (arith, below, lo), sets_before xs ids first t below)
      go false false e f =
          let past = ltb-false t (first + n) f in
          inl (λ lo hi. omega (arith, past, hi), sets_after xs ids first t (omega (arith, past, many)))
      go false true e f =
          let lo = ltb-false t first e in
          let hi = ltb-true t (first + n) f in
          let j = t - first in
          let at : t ≡ first + j = omega (arith, lo) in
          let run = sets_run xs ids first j (omega (arith, hi, lo, many)) (omega (arith, fit (omega (arith, hi, lo)), many)) in
          inr (j, omega (arith, hi, lo), at, ap (λ (k : ℕ). get_or (sets ids first xs) k 0) at ∙ run)

  pub sets_other : (t : ℕ) → (first ≤ t → t < first + n → ⊥) → get_or (sets ids first xs) t 0 ≡ get_or ids t 0
  sets_other t out = elim (sets_cases t) [
    | inl w ↦ w.1
    | inr w ↦ absurd (out (omega (arith, w.2)) (omega (arith, w.1, w.2)))
  ]

module _ (ids : List ℕ) (first n last : ℕ) (fit : 0 < n → first + n ≤ length ids) where
  -- numbered: no id is after the last of theirs
  pub numbered_up_to : UpTo ids last → UpTo (sets ids first (range (last + 1) n)) (last + n)
  numbered_up_to up_to t = elim (sets_cases ids first n fit (range (last + 1) n) (range_length (last + 1) n) t) [
    | inl w ↦ omega (arith, up_to t, w.1)
    | inr w ↦ omega (arith, w.1, w.3, range_at (last + 1) n w.0 w.1)
  ]

  -- and numbered no more: none had an id before
  pub forgotten : ((a : ℕ) → first ≤ a → a < first + n → get_or ids a 0 ≡ 0)
      → sets (sets ids first (range (last + 1) n)) first (replicate n 0) ≡ ids
  forgotten none = same_number_lists (sets given first zeros) ids long same
    where
      given : List ℕ
      given = sets ids first (range (last + 1) n)

      zeros : List ℕ
      zeros = replicate n 0

      fit₁ : 0 < n → first + n ≤ length given
      fit₁ l = omega (arith, fit l, length-sets ids first (range (last + 1) n))

      long : length (sets given first zeros) ≡ length ids
      long = length-sets given first zeros ∙ length-sets ids first (range (last + 1) n)

      same : (t : ℕ) → t < length (sets given first zeros) → get_or (sets given first zeros) t 0 ≡ get_or ids t 0
      same t l = elim (sets_cases given first n fit₁ zeros (length-replicate n 0) t) [
        | inl w ↦ w.1 ∙ sets_other ids first n fit (range (last + 1) n) (range_length (last + 1) n) t w.0
        | inr w ↦
            w.3 ∙ (get_or-replicate n w.0 0 0 w.1 ∙ sym (none t (omega (arith, w.2)) (omega (arith, w.1, w.2))))
      ]
