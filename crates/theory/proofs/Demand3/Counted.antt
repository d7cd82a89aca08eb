-- Interning refuses with 11 or 12 exactly where its log, kept without limits, first passes one of them:
-- `reading_exactly`, `symbol_exactly`; it ends exactly where the log keeps within both: `interned_exactly`.
-- In order: what becomes of a log; what its limits make of it; the conditions.
-- Assumes nothing.
use mathlib.Core.Path.{◌≡◌, refl, ap, sym, ◌∙◌, subst}
use mathlib.Core.Logic.{◌↔◌}
use mathlib.Core.Bool.{Bool, true, false}
use mathlib.Core.List.{List, [], ◌∷◌, ◌++◌}
use Prim.Native.Nat.{ℕ, suc, ◌+◌, ◌≤◌}
use native.Mathlib.Omega.{arith}
use lib.Dec.{ltb}
use lib.ListN.{length}
use borrow.Author.Tests.{ltb-true, ltb-false, lt-ltb, le-ltb}
use Rattle.model.specs.Answer.{refused, good, guard}
use Rattle.model.specs.Intern.{State}
use Rattle.model.specs.Trace.{Event, read_at, made_at, readings, symbols, traced, Then, TooManyReadings, TooManySymbols}
use Rattle.model.specs.Trace.{Interned}
use Rattle.laws.proofs.Apart.{refused_good, good_inj, refused_parts}
use Rattle.theory.proofs.Demand3.Trace.{interning, cut, limited, forest_follows}

-- ---- what becomes of a log

-- of a log that goes on after r readings and s symbols: a reading too many, a symbol too many, or neither
abbrev ReadOver : ℕ → ℕ → List Event → ℕ → Type 0
ReadOver r s es p =
    (before : List Event) × Then es before (read_at p) × (r + readings before ≡ 2048) × (s + symbols before ≤ 512)

abbrev MadeOver : ℕ → ℕ → List Event → ℕ → Type 0
MadeOver r s es p =
    (before : List Event) × Then es before (made_at p) × (s + symbols before ≡ 512) × (r + readings before ≤ 2048)

abbrev Within : ℕ → ℕ → List Event → Type 0
Within r s es = (r + readings es ≤ 2048) × (s + symbols es ≤ 512)

data Outcome (r s : ℕ) (es : List Event) : Type 0 where
  over_read : (p : ℕ) → ReadOver r s es p → Outcome r s es
  over_made : (p : ℕ) → MadeOver r s es p → Outcome r s es
  within : Within r s es → Outcome r s es

after_read : (q r s : ℕ) (es : List Event) → Outcome (suc r) s es → Outcome r s (read_at q ∷ es)
after_read q r s es (over_read p (b, t, e, l)) =
    over_read p (read_at q ∷ b, (t.0, ap (read_at q ∷◌) t.1), omega arith, l)
after_read q r s es (over_made p (b, t, e, l)) =
    over_made p (read_at q ∷ b, (t.0, ap (read_at q ∷◌) t.1), e, omega arith)
after_read q r s es (within w) = within (omega (arith, w.0), w.1)

after-made : (q r s : ℕ) (es : List Event) → Outcome r (suc s) es → Outcome r s (made_at q ∷ es)
after-made q r s es (over_read p (b, t, e, l)) =
    over_read p (made_at q ∷ b, (t.0, ap (made_at q ∷◌) t.1), e, omega arith)
after-made q r s es (over_made p (b, t, e, l)) =
    over_made p (made_at q ∷ b, (t.0, ap (made_at q ∷◌) t.1), omega arith, l)
after-made q r s es (within w) = within (w.0, omega (arith, w.1))

outcome : (es : List Event) (r s : ℕ) → r ≤ 2048 → s ≤ 512 → Outcome r s es
outcome [] r s lr ls = within (omega arith, omega arith)
outcome (read_at q ∷ es) r s lr ls = go (ltb r 2048) refl (λ l. outcome es (suc r) s l ls)
  where
    go : (b : Bool) → ltb r 2048 ≡ b → (suc r ≤ 2048 → Outcome (suc r) s es) → Outcome r s (read_at q ∷ es)
    go true f k = after_read q r s es (k (ltb-true r 2048 f))
    go false f k = over_read q ([], (es, refl), omega (arith, ltb-false r 2048 f), omega arith)
outcome (made_at q ∷ es) r s lr ls = go (ltb s 512) refl (λ l. outcome es r (suc s) lr l)
  where
    go : (b : Bool) → ltb s 512 ≡ b → (suc s ≤ 512 → Outcome r (suc s) es) → Outcome r s (made_at q ∷ es)
    go true f k = after-made q r s es (k (ltb-true s 512 f))
    go false f k = over_made q ([], (es, refl), omega (arith, ltb-false s 512 f), omega arith)

-- ---- what its limits make of it

module _ {A : Type 0} (v : A) where
  cut_read : (p : ℕ) (before after : List Event) (r s : ℕ) → r + readings before ≡ 2048 →
      s + symbols before ≤ 512 → cut r s (before ++ (read_at p ∷ after)) (good v) ≡ refused 11 p
  unfolding cut guard
  cut_read p [] after r s e l = rw (le-ltb r 2048 (omega arith)) refl
  cut_read p (read_at q ∷ before) after r s e l =
      rw (lt-ltb r 2048 (omega arith)) (cut_read p before after (suc r) s (omega arith) l)
  cut_read p (made_at q ∷ before) after r s e l =
      rw (lt-ltb s 512 (omega arith)) (cut_read p before after r (suc s) e (omega arith))

  cut_made : (p : ℕ) (before after : List Event) (r s : ℕ) → s + symbols before ≡ 512 →
      r + readings before ≤ 2048 → cut r s (before ++ (made_at p ∷ after)) (good v) ≡ refused 12 p
  unfolding cut guard
  cut_made p [] after r s e l = rw (le-ltb s 512 (omega arith)) refl
  cut_made p (read_at q ∷ before) after r s e l =
      rw (lt-ltb r 2048 (omega arith)) (cut_made p before after (suc r) s e (omega arith))
  cut_made p (made_at q ∷ before) after r s e l =
      rw (lt-ltb s 512 (omega arith)) (cut_made p before after r (suc s) (omega arith) l)

  cut_within : (es : List Event) (r s : ℕ) → Within r s es → cut r s es (good v) ≡ good v
  unfolding cut guard
  cut_within [] r s w = refl
  cut_within (read_at q ∷ es) r s w =
      rw (lt-ltb r 2048 (omega (arith, w.0))) (cut_within es (suc r) s (omega (arith, w.0), w.1))
  cut_within (made_at q ∷ es) r s w =
      rw (lt-ltb s 512 (omega (arith, w.1))) (cut_within es r (suc s) (w.0, omega (arith, w.1)))

-- ---- the conditions

module _ (forest : List ℕ) where
  abbrev log : List Event
  log = (traced forest).log

  abbrev end : ℕ × State
  end = (traced forest).value

  became : Outcome 0 0 log
  became = outcome log 0 0 (omega arith) (omega arith)

  at_reading : (p : ℕ) → ReadOver 0 0 log p → interning forest ≡ refused 11 p
  at_reading p (b, t, e, l) = limited forest ∙ rw t.1 (cut_read end p b t.0 0 0 e l)

  at_symbol : (p : ℕ) → MadeOver 0 0 log p → interning forest ≡ refused 12 p
  at_symbol p (b, t, e, l) = limited forest ∙ rw t.1 (cut_made end p b t.0 0 0 e l)

  at_end : Within 0 0 log → interning forest ≡ good end
  at_end w = limited forest ∙ cut_within end log 0 0 w

  -- 11 is met exactly where the paper says
  pub reading_exactly : (p : ℕ) → (interning forest ≡ refused 11 p) ↔ TooManyReadings forest p
  reading_exactly p = (λ e. go e became, λ (b, t, e, l). at_reading p (b, t, omega (arith, e), omega (arith, l)))
    where
      go : interning forest ≡ refused 11 p → Outcome 0 0 log → TooManyReadings forest p
      go e (over_read q (b, t, n, l)) =
          let z : q ≡ p = (refused_parts (sym (at_reading q (b, t, n, l)) ∙ e)).1 in
          (b, subst (λ (k : ℕ). Then log b (read_at k)) z t, omega (arith, n), omega (arith, l))
      go e (over_made q w) = absurd (omega (arith, (refused_parts (sym (at_symbol q w) ∙ e)).0))
      go e (within w) = refused_good (sym e ∙ at_end w)

  -- 12 is met exactly where the paper says
  pub symbol_exactly : (p : ℕ) → (interning forest ≡ refused 12 p) ↔ TooManySymbols forest p
  symbol_exactly p = (λ e. go e became, λ (b, t, e, l). at_symbol p (b, t, omega (arith, e), omega (arith, l)))
    where
      go : interning forest ≡ refused 12 p → Outcome 0 0 log → TooManySymbols forest p
      go e (over_read q w) = absurd (omega (arith, (refused_parts (sym (at_reading q w) ∙ e)).0))
      go e (over_made q (b, t, n, l)) =
          let z : q ≡ p = (refused_parts (sym (at_symbol q (b, t, n, l)) ∙ e)).1 in
          (b, subst (λ (k : ℕ). Then log b (made_at k)) z t, omega (arith, n), omega (arith, l))
      go e (within w) = refused_good (sym e ∙ at_end w)

  -- and interning ends, with what the log's interning ends with, exactly if that stays within both limits
  pub interned_exactly : (o : ℕ × State) → (interning forest ≡ good o) ↔ Interned forest o
  interned_exactly o = (λ e. go e became, λ (e, r, s). at_end (omega (arith, r), omega (arith, s)) ∙ ap good e)
    where
      go : interning forest ≡ good o → Outcome 0 0 log → Interned forest o
      go e (over_read q w) = refused_good (sym (at_reading q w) ∙ e)
      go e (over_made q w) = refused_good (sym (at_symbol q w) ∙ e)
      go e (within w) = (good_inj (sym (at_end w) ∙ e), omega (arith, w.0), omega (arith, w.1))

  -- the readings and the symbols that are reported are those of the log
  pub counts_exactly : (o : ℕ × State) → Interned forest o →
      (o.1.readings ≡ readings (traced forest).log) × (length o.1.syms ≡ symbols (traced forest).log)
  counts_exactly o h =
      let w = forest_follows forest in
      rw (← h.0) (omega (arith, w.read_so), omega (arith, w.made_so))
