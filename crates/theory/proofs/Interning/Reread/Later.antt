-- States after which the same is found: `Later`; and steps that can be taken again from any such state, with the same
-- result and nothing new but the readings: `Calm`.
-- In order: a state with other readings; states whose tables hold symbols (`Tabled`); later states; steps that can be
-- taken again, alone and one after the other.
-- Assumes nothing.
use mathlib.Core.Path.{◌≡◌, refl, ap, ◌∙◌}
use Rattle.std.specs.Prelude.{Some}
use mathlib.Core.List.{List}
use Prim.Native.Nat.{ℕ, ◌+◌, ◌-◌, ◌≤◌, ◌<◌}
use native.Mathlib.Omega.{arith}
use lib.ListN.{length}
use Rattle.model.specs.Answer.{Answer, good, ◌>>=◌}
use Rattle.model.specs.Tree.{Rec}
use Rattle.model.specs.Intern.{State, sym_at, lookup, recall}
use Rattle.theory.specs.Good.{sym_count}
use Rattle.theory.specs.Inv.{InAny}

-- ---- readings

-- u with so many readings
abbrev pub with_readings : State → ℕ → State
with_readings u n = record { syms = u.syms; tables = u.tables; scopes = u.scopes; memo = u.memo; readings = n }

-- ---- tables

-- a table is open, and tables and remembered projections hold symbols of the state
pub record Tabled (s : State) : Type 0 where
  pub some_table : 0 < length s.tables
  pub entries_low : (i : ℕ) → InAny i s.tables → i < sym_count s
  pub memo_low : (p a b : ℕ) → recall s.memo p ≡ Some (a, b) → (a < sym_count s) × (b < sym_count s)

pub tabled_with : (s : State) (n : ℕ) → Tabled s → Tabled (with_readings s n)
tabled_with s n h =
    record { some_table = h.some_table; entries_low = h.entries_low; memo_low = h.memo_low }

-- one of n symbols; or 0, where there is none
abbrev pub Low : ℕ → ℕ → Type 0
Low n x = x ≤ n - 1

-- ---- later states

-- what is found in s is found in u, the same
pub record Later (s u : State) : Type 0 where
  pub more : sym_count s ≤ sym_count u
  pub same : (i : ℕ) → i < sym_count s → sym_at s.syms i ≡ sym_at u.syms i
  pub finds : (r : Rec) (ks : List ℕ) (i : ℕ) → lookup s.syms r ks s.tables ≡ Some i →
      lookup u.syms r ks u.tables ≡ Some i
  pub recalls : (p : ℕ) (ab : ℕ × ℕ) → recall s.memo p ≡ Some ab → recall u.memo p ≡ Some ab

pub later_none : (s : State) → Later s s
later_none s =
    record { more = omega arith; same = λ i l. refl; finds = λ r ks i e. e; recalls = λ p ab e. e }

pub later_then : {s t u : State} → Later s t → Later t u → Later s u
later_then g h = record {
  more = omega (arith, g.more, h.more);
  same = λ i l. g.same i l ∙ h.same i (omega (arith, g.more));
  finds = λ r ks i e. h.finds r ks i (g.finds r ks i e);
  recalls = λ p ab e. h.recalls p ab (g.recalls p ab e);
}

-- readings are no matter
pub later_with : (s u : State) (n m : ℕ) → Later s u → Later (with_readings s n) (with_readings u m)
later_with s u n m h = record { more = h.more; same = h.same; finds = h.finds; recalls = h.recalls }

-- ---- steps that can be taken again

-- step f leads from s to s', and from each later state to that state with more readings; g makes its result of the
-- state that it leads to
pub record Calm {A : Type 0} (f : State → Answer A) (s s' : State) (g : State → A) : Type 0 where
  pub count : ℕ
  pub counted : s'.readings ≡ s.readings + count
  pub tabled : Tabled s'
  pub later : Later s s'
  pub again : (u : State) → Later s' u → u.readings + count ≤ 2048 →
      f u ≡ good (g (with_readings u (u.readings + count)))

-- one that reads nothing
pub calm_still : {A : Type 0} {f : State → Answer A} {s s' : State} {g : State → A} → s'.readings ≡ s.readings →
    Tabled s' → Later s s' → ((u : State) → Later s' u → f u ≡ good (g u)) → Calm f s s' g
calm_still {g} e h l a = record {
  count = 0;
  counted = omega arith;
  tabled = h;
  later = l;
  again = λ u k b.
      let z : u.readings ≡ u.readings + 0 = omega arith in
      a u k ∙ ap (λ (n : ℕ). good (g (with_readings u n))) z;
}

-- one that is another step, in each later state
pub calm_as : {A : Type 0} {f h : State → Answer A} {s s' : State} {g : State → A} →
    ((u : State) → Later s' u → h u ≡ f u) → Calm f s s' g → Calm h s s' g
calm_as e c = record {
  count = c.count;
  counted = c.counted;
  tabled = c.tabled;
  later = c.later;
  again = λ u l b. e u l ∙ c.again u l b;
}

-- one after the other
pub calm_then : {A B : Type 0} {m : State → Answer A} (h : A → Answer B) {s t s' : State} {g : State → A}
    {k : State → B} → Calm m s t g → Calm (λ v. h (g v)) t s' k → Calm (λ u. m u >>= h) s s' k
unfolding ◌>>=◌
calm_then {A} h {s'} {k} a b = record {
  count = a.count + b.count;
  counted = omega (arith, a.counted, b.counted);
  tabled = b.tabled;
  later = later_then a.later b.later;
  again = λ u l n.
      let i : ℕ = u.readings + a.count in
      let z : i + b.count ≡ u.readings + (a.count + b.count) = omega arith in
      ap (λ (w : Answer A). w >>= h) (a.again u (later_then b.later l) (omega arith))
      ∙ b.again (with_readings u i) (later_with s' u s'.readings i l) (omega arith)
      ∙ ap (λ (n : ℕ). good (k (with_readings u n))) z;
}

-- a step, and what is made of its result
pub calm_map : {A B : Type 0} {m : State → Answer A} (h : A → B) {s s' : State} {g : State → A} → Calm m s s' g →
    Calm (λ u. m u >>= λ a. good (h a)) s s' (λ v. h (g v))
calm_map h {s'} c = calm_then (λ a. good (h a)) c (calm_still refl c.tabled (later_none s') (λ u l. refl))
