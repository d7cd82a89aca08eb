-- What callers cite of the open tables. In order: the words that they hang on; the words that hints hang on; an array's
-- starts; the first table; opening one and dropping it; one entry more.
-- Assumes nothing.
use Prim.Native.Nat.{ℕ, zero, suc, ◌+◌, ◌*◌, ◌-◌, ◌<◌, ◌≤◌}
use mathlib.Core.Path.{◌≡◌, refl, sym, ◌∙◌}
use mathlib.Core.List.{List, [], ◌∷◌}
use native.Mathlib.Omega.{arith}
use native.Mathlib.Numerals.{add-one}
use borrow.Author.Count.{below_more}
use lib.ListN.{length, get_or, set, take, get_or-append}
use lib.Seq.{get_or-set_same, get_or-append_seam}
use Rattle.std.proofs.lemmas.List.{length-append, length-take-le, get_or-take}
use Rattle.model.specs.Intern.{enter, drop_first}
use Rattle.key.specs.Key.{symbol_at}
use Rattle.laws.specs.Frame.{Agree}
use Rattle.laws.specs.Stack.{stack_of}
use Rattle.laws.proofs.Frame.{agree_store}
use Rattle.laws.proofs.Stack.{stack_kept}
use Rattle.regions.specs.Regions.{SLOTS, ENTRIES}
use Rattle.key.proofs.Laws.{symbol_agree}
use Rattle.symbols.specs.Symbols.{AllSound}
use Rattle.symbols.proofs.Laws.{kids_agree}
use Rattle.tables.specs.declared.Tables.{Tables}
use Rattle.tables.specs.Starts.{Starts}
use Rattle.tables.specs.Tables.{entry_symbol, entry_hint, hint_of, entries, tables, tables_of, new_tables, opened}
use Rattle.tables.specs.Tables.{Open, EntriesBelow, Hinted}

-- ---- the words that tables hang on: their entries; and the starts below d

entries_agree : (ws ws' : List ℕ) (top start n : ℕ) → Agree ws ws' ENTRIES.first (ENTRIES.first + top) → n ≤ top - start →
    entries ws' start n ≡ entries ws start n
unfolding entries
entries_agree ws ws' top start n h le =
    stack_kept (λ j. entry_symbol ws' (start + j)) (λ j. entry_symbol ws (start + j)) n
    (λ j lt. rw (h (ENTRIES.first + (start + j)) (omega arith) (omega arith)))

runs_agree : (ws ws' base base' : List ℕ) (top d end : ℕ) → Agree ws ws' ENTRIES.first (ENTRIES.first + top) → Agree base base' 0 d →
    ((e : ℕ) → e < d → get_or base e 0 ≤ top) → end ≤ top → tables ws' base' d end ≡ tables ws base d end
unfolding tables
runs_agree ws ws' base base' top zero end h hb starts le = refl
runs_agree ws ws' base base' top (suc d) end h hb starts le =
    let s : get_or base d 0 ≤ top = starts d (omega arith) in
    let below : (e : ℕ) → e < d → get_or base e 0 ≤ top = λ e lt. starts e (omega arith) in
    rw (
      hb d (omega arith) (omega arith),
      entries_agree ws ws' top (get_or base d 0) (end - get_or base d 0) h (omega arith),
      runs_agree ws ws' base base' top d (get_or base d 0) h (λ e l r. hb e l (omega arith)) below s,
    )

pub tables_agree : (ws ws' : List ℕ) (t : Tables) (top : ℕ) → Open t top → Agree ws ws' ENTRIES.first (ENTRIES.first + top) →
    tables_of ws' t top ≡ tables_of ws t top
tables_agree ws ws' t top open' h =
    runs_agree ws ws' t t top (length t) top h (λ e l r. refl) open'.starts (omega arith)

-- ---- the words that hints hang on: the entries, their symbols, and the slots in use

module _ (bs ws ws' : List ℕ) (used n : ℕ) where
  hint_agree : AllSound bs ws used n → Agree ws ws' 0 (5 * n) → Agree ws ws' SLOTS.first (SLOTS.first + used) →
      (s : ℕ) → s < n → hint_of bs ws' s ≡ hint_of bs ws s
  hint_agree sound own slots s lt =
      let e : symbol_at ws' s ≡ symbol_at ws s =
      symbol_agree ws ws' s (λ k l r. own k (omega arith) (omega arith)) in
      rw (e, kids_agree bs ws ws' used slots s (sound s lt))

  pub hinted_agree : (top : ℕ) → AllSound bs ws used n → EntriesBelow ws top n → Agree ws ws' 0 (5 * n) →
      Agree ws ws' SLOTS.first (SLOTS.first + used) → Agree ws ws' ENTRIES.first (ENTRIES.first + top) → Hinted bs ws top → Hinted bs ws' top
  hinted_agree top sound below own slots entries hinted k lt =
      rw (entries (ENTRIES.first + k) (omega arith) (omega arith))
      (hinted k lt ∙ sym (hint_agree sound own slots (entry_symbol ws k) (below k lt)))

-- ---- the starts that an array holds are those of the list

module _ {starts : List ℕ} {depth : ℕ} {t : Tables} (is : Starts starts depth) (seen : take depth starts ≡ t) where
  pub depth_of : length t ≡ depth
  depth_of = rw (← seen) (length-take-le depth starts (omega (arith, is.long, is.few)))

  pub start_of : (d : ℕ) → d < depth → get_or starts d 0 ≡ get_or t d 0
  start_of d lt = rw (← seen) (sym (get_or-take depth starts d 0 lt))

-- ---- the first table

pub first_open : Open new_tables 0
first_open = record {
  some = omega arith;
  few = omega arith;
  sorted = λ d e le lt. let p : d ≡ 0 = omega arith in let q : e ≡ 0 = omega arith in rw (p, q) (omega arith);
  starts = λ d lt. let p : d ≡ 0 = omega arith in rw p (omega arith);
}

pub first-tables : (ws : List ℕ) → tables_of ws new_tables 0 ≡ [] ∷ []
unfolding tables entries stack_of
first-tables ws = refl

-- ---- opening a table, and dropping it

module _ (t : Tables) (top : ℕ) (is : Open t top) where
  -- a later end
  pub open_later : (more : ℕ) → top ≤ more → Open t more
  open_later more le = record {
    some = is.some;
    few = is.few;
    sorted = is.sorted;
    starts = λ d lt. let s : get_or t d 0 ≤ top = is.starts d lt in omega arith;
  }

  older_start : (d : ℕ) → d < length t → get_or (opened t top) d 0 ≡ get_or t d 0
  older_start d lt = get_or-append t (top ∷ []) 0 d lt

  module _ (room : length t < 64) where
    new_start : get_or (opened t top) (length t) 0 ≡ top
    new_start = get_or-append_seam t top [] 0

    one_more : length (opened t top) ≡ length t + 1
    one_more = length-append t (top ∷ [])

    pub opened_open : Open (opened t top) top
    opened_open = record {
      some = omega (arith, one_more);
      few = omega (arith, one_more);
      sorted = λ d e le lt.
          below_more (λ e. d ≤ e → get_or (opened t top) d 0 ≤ get_or (opened t top) e 0) (length t)
          (λ e l le. rw (older_start d (omega arith), older_start e l) (is.sorted d e le l))
          (λ le. omega (arith, new_start, starts d (omega arith))) e (rw one_more at lt) le;
      starts = λ d lt. starts d (rw one_more at lt);
    }
      where
        starts : (d : ℕ) → d < length t + 1 → get_or (opened t top) d 0 ≤ top
        starts =
            below_more (λ d. get_or (opened t top) d 0 ≤ top) (length t)
            (λ d l. rw (older_start d l) (is.starts d l)) (omega (arith, new_start))

    older_tables : (ws : List ℕ) → tables ws (opened t top) (length t) top ≡ tables_of ws t top
    older_tables ws =
        runs_agree ws ws t (opened t top) top (length t) top (λ k l r. refl) (λ d l r. older_start d r)
        is.starts (omega arith)

    -- the tables of model's `open_thunk`
    pub opened-tables : (ws : List ℕ) → tables_of ws (opened t top) top ≡ [] ∷ tables_of ws t top
    unfolding tables entries stack_of
    opened-tables ws =
        let z : top - top ≡ 0 = omega arith in
        rw (one_more, add-one (length t), new_start, z, older_tables ws)

    -- dropping it, with what was entered: the tables of model's `close_thunk`
    pub dropped_tables : (ws : List ℕ) (end : ℕ) → drop_first (tables_of ws (opened t top) end) ≡ tables_of ws t top
    unfolding tables
    dropped_tables ws end = rw (one_more, add-one (length t), new_start, older_tables ws)

    -- what is entered in it stands at `top` or later
    pub dropped_start : (end : ℕ) → Open (opened t top) end → top ≤ end
    dropped_start end open' = omega (arith, new_start, open'.starts (length t) (omega (arith, one_more)))

  -- ---- one entry more, in the newest table

  module _ (ws : List ℕ) (s m : ℕ) (low : s < 512) (room : ENTRIES.first + top < length ws) where
    abbrev entered : List ℕ
    entered = set ws (ENTRIES.first + top) (s + 512 * m)

    others_kept : Agree ws entered ENTRIES.first (ENTRIES.first + top)
    others_kept = agree_store ws (ENTRIES.first + top) (s + 512 * m) ENTRIES.first (ENTRIES.first + top) (omega arith)

    new_word : get_or entered (ENTRIES.first + top) 0 ≡ s + 512 * m
    new_word = get_or-set_same ws (ENTRIES.first + top) (s + 512 * m) 0 room

    new_symbol_lem : entry_symbol entered top ≡ s
    new_symbol_lem = omega (arith, new_word)

    new_hint : entry_hint entered top ≡ m
    new_hint = omega (arith, new_word)

    -- the tables of model's `push`
    pub entered-tables : tables_of entered t (top + 1) ≡ enter s (tables_of ws t top)
    unfolding tables entries stack_of
    entered-tables = go (length t) is.some is.starts
      where
        go : (d : ℕ) → 0 < d → ((e : ℕ) → e < d → get_or t e 0 ≤ top) →
            tables entered t d (top + 1) ≡ enter s (tables ws t d top)
        go zero lt starts = absurd (omega arith)
        go (suc d) lt starts =
            let b = get_or t d 0 in
            let h : b ≤ top = starts d (omega arith) in
            let e : top + 1 - b ≡ suc (top - b) = omega arith in
            let f : b + (top - b) ≡ top = omega arith in
            rw (
              e,
              f,
              new_symbol_lem,
              entries_agree ws entered top b (top - b) others_kept (omega arith),
              runs_agree ws entered t t top d b others_kept (λ k l r. refl)
                  (λ k l. starts k (omega arith)) h,
            )

    pub entered_below : (n : ℕ) → EntriesBelow ws top n → s < n → EntriesBelow entered (top + 1) n
    entered_below n below lt =
        below_more (λ k. entry_symbol entered k < n) top
        (λ k r. rw (others_kept (ENTRIES.first + k) (omega arith) (omega arith)) (below k r)) (omega (arith, new_symbol_lem))

    -- with its own hint, where the other entries have theirs
    pub entered_hinted : (bs : List ℕ) (used n : ℕ) → AllSound bs ws used n → used ≤ SLOTS.size → n ≤ 512 →
        EntriesBelow ws top n → s < n → Hinted bs ws top → m ≡ hint_of bs ws s → Hinted bs entered (top + 1)
    entered_hinted bs used n sound slots few below lt hinted e =
        below_more (λ k. entry_hint entered k ≡ hint_of bs entered (entry_symbol entered k)) top
        (hinted_agree bs ws entered used n top sound below own kids others_kept hinted) newest
      where
        own : Agree ws entered 0 (5 * n)
        own = agree_store ws (ENTRIES.first + top) (s + 512 * m) 0 (5 * n) (omega arith)

        kids : Agree ws entered SLOTS.first (SLOTS.first + used)
        kids = agree_store ws (ENTRIES.first + top) (s + 512 * m) SLOTS.first (SLOTS.first + used) (omega arith)

        newest : entry_hint entered top ≡ hint_of bs entered (entry_symbol entered top)
        newest =
            rw new_symbol_lem (new_hint ∙ e ∙ sym (hint_agree bs ws entered used n sound own kids s lt))
