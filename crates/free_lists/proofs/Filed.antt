-- Lists that are stored, as their readers find them. In order: entries; what is stored; what is filed.
-- Assumes nothing.
use Prim.Native.Nat.{ℕ, zero, suc, ◌<◌, ◌≤◌}
use mathlib.Core.Path.{◌≡◌, sym, subst}
use mathlib.Core.List.{List}
use mathlib.Core.Logic.{⊎_elim}
use native.Mathlib.Omega.{arith}
use native.Mathlib.Decide.{dec_lt}
use native.Mathlib.Nat.{eq-or-lt_of_le}
use Rattle.model.specs.Gate.{Graph, sym_of}
use Rattle.model.specs.Schedule.{free_vars}
use Rattle.laws.specs.Members.{Under}
use Rattle.laws.specs.Gather.{gather_step}
use Rattle.laws.proofs.Falls.{free_falls}
use Rattle.laws.proofs.Gather.{stored_gathers}
use Rattle.regions.specs.Regions.{FREE_LISTS}
use Rattle.free_lists.specs.FreeLists.{entries_to, end_at, list_at, Lists, Filed}

-- ---- entries

pub entries_next : (g : Graph) (s : ℕ) → entries_to g s ≤ entries_to g (suc s)
unfolding entries_to
entries_next g s = omega arith

pub entries_rise : (g : Graph) (s t : ℕ) → s ≤ t → entries_to g s ≤ entries_to g t
entries_rise g s zero le = let e : s ≡ 0 = omega arith in rw e (omega arith)
entries_rise g s (suc t) le =
    ⊎_elim (λ e. rw e (omega arith))
    (λ l. omega (arith, entries_rise g s t (omega arith), entries_next g t)) (eq-or-lt_of_le le)

-- ---- what is stored

module _ {g : Graph} {ws : List ℕ} {n : ℕ} (h : Lists g ws n) where
  -- an end that is not past the last entry
  stored_few : (s : ℕ) → s ≤ n → end_at ws s ≤ (FREE_LISTS).size → entries_to g s ≤ (FREE_LISTS).size
  stored_few s le few = elim (dec_lt (FREE_LISTS).size (entries_to g s)) [
    | yes p ↦ absurd (omega (arith, h.past s le p))
    | no p ↦ omega arith
  ]

  -- an end that is
  pub stored_past : (s : ℕ) → s ≤ n → (FREE_LISTS).size < end_at ws s → end_at ws s ≡ suc (FREE_LISTS).size
  stored_past s le past = elim (dec_lt (FREE_LISTS).size (entries_to g s)) [
    | yes p ↦ h.past s le p
    | no p ↦ absurd (omega (arith, h.ends s le (omega arith)))
  ]

  pub stored_rising : (s : ℕ) → s < n → end_at ws (suc s) ≤ (FREE_LISTS).size → end_at ws s ≤ end_at ws (suc s)
  stored_rising s lt few =
      let f = stored_few (suc s) (omega arith) few in
      let r = entries_next g s in
      omega (arith, h.ends (suc s) (omega arith) f, h.ends s (omega arith) (omega arith))

  pub stored_is : (s : ℕ) → s < n → end_at ws (suc s) ≤ (FREE_LISTS).size → list_at ws s ≡ free_vars g s
  stored_is s lt few = h.lists s lt (stored_few (suc s) (omega arith) few)

  -- where the last end is not past the last entry, none is
  stored_all : end_at ws n ≤ (FREE_LISTS).size → (s : ℕ) → s ≤ n → end_at ws s ≤ (FREE_LISTS).size
  stored_all few s le =
      let f = stored_few n (omega arith) few in
      let r = entries_rise g s n le in
      omega (arith, h.ends s le (omega arith))

  -- ---- what is filed

  module _ (few : end_at ws n ≤ (FREE_LISTS).size) (kids_low : (s : ℕ) → Under s (sym_of g s).kids) where
    pub filed : Filed ws n
    filed = record {
      rising = λ s lt. stored_rising s lt (stored_all few (suc s) (omega arith));
      few = stored_all few;
      low = λ s lt.
          subst (Under s) (sym (stored_is s lt (stored_all few (suc s) (omega arith)))) (free_falls g kids_low s);
    }

    -- what is gathered of it is the next free list
    pub filed_gathers : gather_step g (list_at ws) n ≡ free_vars g n
    filed_gathers =
        stored_gathers g kids_low n (list_at ws) (λ s lt. stored_is s lt (stored_all few (suc s) (omega arith)))
