-- Planned rows in words. In order: a row's three words; a row stored is loaded again, and words elsewhere are kept; the
-- words that a plan hangs on; one row more at a plan's end; joined plans; a search for a symbol's definition.
-- Assumes nothing.
use Prim.Native.Nat.{ℕ, zero, suc, ◌+◌, ◌*◌, ◌≤◌, ◌<◌}
use mathlib.Core.Path.{◌≡◌, refl, sym, ap, ap₂, ◌∙◌}
use mathlib.Core.Bool.{Bool, ◌||◌}
use mathlib.Core.List.{List, [], ◌∷◌, ◌++◌, append_assoc}
use native.Mathlib.Omega.{arith}
use Rattle.std.proofs.Common.{add-zero}
use Rattle.std.specs.List.{list_any, range_with_len}
use lib.ListN.{length, get_or, set}
use lib.Seq.{sets, length-sets}
use Rattle.model.specs.Lists.{is_in}
use Rattle.model.specs.Tree.{Row}
use Rattle.laws.specs.Frame.{Agree, Frame}
use Rattle.laws.proofs.Frame.{frame_below}
use Rattle.laws.proofs.Members.{is_in-append}
use Rattle.laws.proofs.Runs.{sets_run, sets_before, sets_after}
use Rattle.plan.specs.Plan.{words_of, store_planned, planned_of, planned_at, plan_from, row_for, rows_for, symbol_of, symbols_in}
use Rattle.plan.specs.Plan.{AllWritable}
use Rattle.plan.specs.declared.Planned.{Planned}
use Rattle.plan.specs.declared.Planned.TheVariants.{Copy, Field, ValUse, ValDef, Block, Lambda}

words_length : (p : Planned) → length (words_of p) ≡ 3
words_length (Copy i) = refl
words_length (Field f) = refl
words_length (ValUse id) = refl
words_length (ValDef id s) = refl
words_length (Block kids) = refl
words_length (Lambda i last) = refl

words_planned : (p : Planned) → planned_of (get_or (words_of p) 0 0) (get_or (words_of p) 1 0) (get_or (words_of p) 2 0) ≡ p
unfolding planned_of
words_planned (Copy i) = refl
words_planned (Field f) = refl
words_planned (ValUse id) = refl
words_planned (ValDef id s) = refl
words_planned (Block kids) = refl
words_planned (Lambda i last) = refl

-- ---- stored word by word, and loaded

set3_sets : (ws : List ℕ) (at a b c : ℕ) → set (set (set ws at a) (at + 1) b) (at + 2) c ≡ sets ws at (a ∷ b ∷ c ∷ [])
set3_sets ws at a b c =
    let e : at + 1 ≡ suc at = omega arith in
    let f : at + 2 ≡ suc (suc at) = omega arith in
    rw (e, f)

pub stored_words : (ws : List ℕ) (at : ℕ) (p : Planned) (row : List ℕ) → row ≡ words_of p
    → set (set (set ws at (get_or row 0 0)) (at + 1) (get_or row 1 0)) (at + 2) (get_or row 2 0) ≡ store_planned ws at p
unfolding store_planned
stored_words ws at p row e = rw e (go p)
  where
    go : (q : Planned) → set (set (set ws at (get_or (words_of q) 0 0)) (at + 1) (get_or (words_of q) 1 0)) (at + 2) (get_or (words_of q) 2 0) ≡ sets ws at (words_of q)
    go (Copy i) = set3_sets ws at 0 i 0
    go (Field f) = set3_sets ws at 1 f 0
    go (ValUse id) = set3_sets ws at 2 id 0
    go (ValDef id s) = set3_sets ws at 3 id s
    go (Block kids) = set3_sets ws at 4 kids 0
    go (Lambda i last) = set3_sets ws at 5 i last

module _ (ws : List ℕ) (at : ℕ) (p : Planned) where
  stored_word : (j : ℕ) → j < 3 → at + 3 ≤ length ws → get_or (store_planned ws at p) (at + j) 0 ≡ get_or (words_of p) j 0
  unfolding store_planned
  stored_word j lt h =
      let l = words_length p in
      sets_run (words_of p) ws at j (omega arith) (omega arith)

  stored_loaded : at + 3 ≤ length ws → planned_at (store_planned ws at p) at ≡ p
  unfolding planned_at
  stored_loaded h =
      let first : get_or (store_planned ws at p) at 0 ≡ get_or (words_of p) 0 0 =
      ap (λ (k : ℕ). get_or (store_planned ws at p) k 0) (sym (add-zero at)) ∙ stored_word 0 (omega arith) h in
      rw (first, stored_word 1 (omega arith) h, stored_word 2 (omega arith) h) (words_planned p)

  -- no word outside the row changes
  pub stored_frame : Frame at (at + 3) ws (store_planned ws at p)
  unfolding store_planned
  stored_frame = record {
    long = length-sets ws at (words_of p);
    before = λ k lt. sets_before (words_of p) ws at k lt;
    after = λ k le. sets_after (words_of p) ws at k (omega (arith, words_length p));
  }

-- ---- the words that a plan hangs on: its own

plan_agree : (ws ws' : List ℕ) (at n : ℕ) → Agree ws ws' at (at + 3 * n) → plan_from ws' at n ≡ plan_from ws at n
unfolding plan_from planned_at
plan_agree ws ws' at zero h = refl
plan_agree ws ws' at (suc n) h =
    let tag = h at (omega arith) (omega arith) in
    let first = h (at + 1) (omega arith) (omega arith) in
    let second = h (at + 2) (omega arith) (omega arith) in
    ap₂ (λ (p : Planned) (ps : List Planned). p ∷ ps) (rw (tag, first, second))
    (plan_agree ws ws' (at + 3) n (λ k l m. h k (omega arith) (omega arith)))

-- a row stored past a plan's end leaves the plan as it is
plan_kept : (ws : List ℕ) (at n to : ℕ) (p : Planned) → at + 3 * n ≤ to
    → plan_from (store_planned ws to p) at n ≡ plan_from ws at n
plan_kept ws at n to p h =
    plan_agree ws (store_planned ws to p) at n (frame_below _ _ _ _ _ _ (stored_frame ws to p) h)

-- ---- one row more

plan_last : (ws : List ℕ) (at n : ℕ) → plan_from ws at (suc n) ≡ plan_from ws at n ++ (planned_at ws (at + 3 * n) ∷ [])
unfolding plan_from
plan_last ws at zero = let e : at + 3 * 0 ≡ at = omega arith in rw e
plan_last ws at (suc n) =
    let e : at + 3 + 3 * n ≡ at + 3 * suc n = omega arith in
    ap (λ (ps : List Planned). planned_at ws at ∷ ps) (plan_last ws (at + 3) n ∙ rw e)

-- a row stored at a plan's end is the plan's last, and the rows before it are kept
pub plan_more : (ws : List ℕ) (at n : ℕ) (p : Planned) → at + 3 * n + 3 ≤ length ws
    → plan_from (store_planned ws (at + 3 * n) p) at (n + 1) ≡ plan_from ws at n ++ (p ∷ [])
plan_more ws at n p h =
    let e : n + 1 ≡ suc n = omega arith in
    rw e
    (plan_last (store_planned ws (at + 3 * n) p) at n
    ∙ ap₂ (λ (ps : List Planned) (q : Planned). ps ++ (q ∷ []))
    (plan_kept ws at n (at + 3 * n) p (omega arith)) (stored_loaded ws (at + 3 * n) p h))

-- ---- joined plans: what they stand for; the symbols that they define; that they can be written

pub rows_append : (bs : List ℕ) (ps qs : List Planned) → rows_for bs (ps ++ qs) ≡ rows_for bs ps ++ rows_for bs qs
unfolding rows_for
rows_append bs [] qs = refl
rows_append bs (p ∷ ps) qs = ap (λ (rs : List Row). row_for bs p ∷ rs) (rows_append bs ps qs)

pub symbols_append : (ps qs : List Planned) → symbols_in (ps ++ qs) ≡ symbols_in ps ++ symbols_in qs
unfolding symbols_in
symbols_append [] qs = refl
symbols_append (p ∷ ps) qs =
    ap (λ (ss : List ℕ). symbol_of p ++ ss) (symbols_append ps qs) ∙ sym (append_assoc (symbol_of p) (symbols_in ps) (symbols_in qs))

pub writable_append : (bs : List ℕ) (ps qs : List Planned) → AllWritable bs ps → AllWritable bs qs →
    AllWritable bs (ps ++ qs)
writable_append bs [] qs h k = k
writable_append bs (p ∷ ps) qs h k = (h.0, writable_append bs ps qs h.1 k)

-- ---- a search for a symbol's definition

-- whether row k from word `at` on is one
abbrev pub definition_at : List ℕ → ℕ → ℕ → ℕ → Bool
definition_at ws at s k = is_in s (symbol_of (planned_at ws (at + 3 * k)))

found_from : (ws : List ℕ) (at s i n : ℕ) →
    list_any (definition_at ws at s) (range_with_len i n) ≡ is_in s (symbols_in (plan_from ws (at + 3 * i) n))
unfolding plan_from symbols_in is_in
found_from ws at s i zero = refl
found_from ws at s i (suc n) =
    let e : at + 3 * (i + 1) ≡ at + 3 * i + 3 = omega arith in
    let rest = found_from ws at s (i + 1) n in
    ap (λ (b : Bool). definition_at ws at s i || b) (rw e at rest)
    ∙ sym (is_in-append s (symbol_of (planned_at ws (at + 3 * i))) (symbols_in (plan_from ws (at + 3 * i + 3) n)))

pub definition_found : (ws : List ℕ) (at s n : ℕ) →
    list_any (definition_at ws at s) (range_with_len 0 n) ≡ is_in s (symbols_in (plan_from ws at n))
definition_found ws at s n = let e : at + 3 * 0 ≡ at = omega arith in rw e at (found_from ws at s 0 n)
