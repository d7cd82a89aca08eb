-- The symbols in a run of words noted. In order: one word more; the children of a symbol; words of
-- symbols that are kept.
-- Assumes nothing.
use Prim.Native.Nat.{ℕ, ◌+◌, ◌<◌, ◌≤◌}
use mathlib.Core.Path.{◌≡◌, sym, subst}
use mathlib.Core.List.{List}
use native.Mathlib.Omega.{arith}
use native.Mathlib.Numerals.{add-one}
use lib.ListN.{length, get_or}
use Rattle.model.specs.Lists.{count}
use Rattle.regions.specs.Regions.{SLOTS, WORDS}
use Rattle.key.specs.declared.Symbol.{Symbol}
use Rattle.key.specs.Key.{symbol_at}
use Rattle.key.proofs.Laws.{symbol_agree}
use Rattle.symbols.specs.Words.{words_from, slots_from}
use Rattle.symbols.specs.Symbols.{kids_at}
use Rattle.symbols.proofs.Words.{words_length, words_under, words_more, words_agree}
use Rattle.gate.specs.Gate.{uses_at, noted, all_noted, Lower, Countable, Small, Notable, CountsOnly}
use Rattle.laws.proofs.Once.{count_short}
use Rattle.laws.specs.Members.{Under}
use Rattle.gate.proofs.Words.{all_noted-more, all_noted_frame, all_noted_uses}

-- ---- one word more

module _ (ws : List ℕ) (at n : ℕ) (notable : Notable ws at n) (k : ℕ) (lt : k < n) (ws' : List ℕ)
    (is : ws' ≡ all_noted ws (words_from ws at k)) where
  abbrev run : List ℕ
  run = words_from ws at k

  run-under : Under 512 run
  run-under = words_under ws at k 512 (λ j l. notable.low j (omega arith))

  kid_kept : get_or ws' (at + k) 0 ≡ get_or ws (at + k) 0
  kid_kept = rw is ((all_noted_frame ws run run-under).before (at + k) (omega (arith, notable.fit)))

  -- what `note` requires
  pub kid_fits : (get_or ws' (at + k) 0 < 512) × (WORDS ≤ length ws') × (uses_at ws' (get_or ws' (at + k) 0) < 4000000000)
  kid_fits =
      let kid = get_or ws (at + k) 0 in
      let long = notable.long in
      let few : count kid run ≤ k = omega (arith, count_short kid run, words_length ws at k) in
      let uses = all_noted_uses ws run run-under long kid (notable.low k lt) in
      rw (kid_kept, is)
      (notable.low k lt, omega (arith, (all_noted_frame ws run run-under).long), omega (arith, notable.short, notable.small k lt))

  pub run_more : noted ws' (get_or ws' (at + k) 0) ≡ all_noted ws (words_from ws at (k + 1))
  run_more =
      rw (kid_kept, is, add-one k, words_more ws at k)
      (sym (all_noted-more ws (words_from ws at k) (get_or ws (at + k) 0)))

-- ---- the children of a symbol

module _ (ws : List ℕ) (s : ℕ) (lower : Lower ws s) where
  pub kids_under : Under s (kids_at ws s)
  kids_under = words_under ws (SLOTS.first + (symbol_at ws s).kids) (symbol_at ws s).count s lower.lower

  pub kids_short : (t : ℕ) → count t (kids_at ws s) ≤ SLOTS.size
  kids_short t =
      omega (
        arith,
        count_short t (kids_at ws s),
        words_length ws (SLOTS.first + (symbol_at ws s).kids) (symbol_at ws s).count,
        lower.slots,
      )

  -- what `note_kids` shows of the symbol that it loads
  module _ (few : s < 512) (long : WORDS ≤ length ws) (small : Small ws s) (y : Symbol) (is : y ≡ symbol_at ws s) where
    pub kids_fit : Notable ws (SLOTS.first + y.kids) y.count
    kids_fit =
        rw is
        (record {
          fit = omega (arith, lower.slots);
          long = long;
          short = omega (arith, lower.slots);
          low = λ k l. omega (arith, lower.lower k l);
          small = λ k l. small _ (lower.lower k l);
        })

pub kids_noted : (ws ws' : List ℕ) (s : ℕ) (y : Symbol) → y ≡ symbol_at ws s →
    ws' ≡ all_noted ws (slots_from ws y.kids y.count) → ws' ≡ all_noted ws (kids_at ws s)
kids_noted ws ws' s y is e = rw is at e

-- ---- words of symbols that are kept

module _ (ws ws' : List ℕ) (kept : CountsOnly ws ws') where
  symbol_kept : (s : ℕ) → s < 512 → symbol_at ws' s ≡ symbol_at ws s
  symbol_kept s l = symbol_agree ws ws' s (λ k a b. kept.before k (omega arith))

  pub kids_kept : (s : ℕ) → s < 512 → Lower ws s → kids_at ws' s ≡ kids_at ws s
  kids_kept s l lower =
      rw (symbol_kept s l)
      (words_agree ws ws' (SLOTS.first + (symbol_at ws s).kids) (symbol_at ws s).count
      (λ k a b. kept.before k (omega (arith, lower.slots))))

  lower_kept : (s : ℕ) → s < 512 → Lower ws s → Lower ws' s
  lower_kept s l lower = record {
    slots = rw (symbol_kept s l) lower.slots;
    lower = rw (symbol_kept s l)
        (λ k a. subst (λ (z : ℕ). z < s)
        (sym (kept.before (SLOTS.first + (symbol_at ws s).kids + k) (omega (arith, lower.slots)))) (lower.lower k a));
  }

  pub countable_kept : (n : ℕ) → Countable ws n → Countable ws' n
  countable_kept n st = record {
    few = st.few;
    words = omega (arith, kept.long, st.words);
    kids = λ i l. lower_kept i (omega (arith, st.few)) (st.kids i l);
  }

pub countable_less : (ws : List ℕ) (m n : ℕ) → m ≤ n → Countable ws n → Countable ws m
countable_less ws m n l st =
    record { few = omega (arith, st.few); words = st.words; kids = λ i k. st.kids i (omega arith) }
