-- The symbols that words hold. In order: how many; symbol i; the words that they hang on; what one more symbol changes;
-- the symbols with one more.
-- Assumes nothing.
use Prim.Native.Nat.{ℕ, zero, suc, ◌+◌, ◌*◌, ◌<◌, ◌≤◌}
use mathlib.Core.Path.{◌≡◌, refl, sym, ap, ◌∙◌, subst}
use mathlib.Core.List.{List, [], ◌∷◌, ◌++◌}
use mathlib.Core.Logic.{⊎_elim}
use native.Mathlib.Omega.{arith}
use native.Mathlib.Nat.{eq-or-lt_of_le}
use borrow.Author.Count.{below_more}
use lib.ListN.{length, get_or, length-append, get_or-append}
use lib.Seq.{sets, length-sets, get_or_at}
use Rattle.model.specs.Forest.{record_count}
use Rattle.model.specs.Intern.{Sym, no_sym, sym_at}
use Rattle.key.specs.declared.Symbol.{Symbol}
use Rattle.key.specs.Key.{parts_of, symbol_at}
use Rattle.laws.specs.Frame.{Agree}
use Rattle.laws.proofs.Runs.{sets_before, sets_after}
use Rattle.regions.specs.Regions.{SLOTS, PENDING}
use Rattle.key.proofs.Laws.{symbol_agree, load_store, store_length, store_before, store_after}
use Rattle.symbols.specs.Words.{words_from, slots_from, pending_from}
use Rattle.symbols.specs.Symbols.{rec_of, sym_of, sym_from, syms_of, kids_at}
use Rattle.symbols.specs.Symbols.{made, RoomFor, Sound, AllSound}
use Rattle.symbols.proofs.Words.{words_length, words_at, words_agree, words_stored}

-- ---- how many

pub syms_length : (bs ws : List ℕ) (n : ℕ) → length (syms_of bs ws n) ≡ n
unfolding syms_of
syms_length bs ws zero = refl
syms_length bs ws (suc n) =
    omega (arith, length-append (syms_of bs ws n) (sym_from bs (syms_of bs ws n) ws n ∷ []), syms_length bs ws n)

-- ---- symbol i

module _ (bs ws : List ℕ) where
  sym_lower : (n i : ℕ) → i < n → sym_at (syms_of bs ws (suc n)) i ≡ sym_at (syms_of bs ws n) i
  unfolding syms_of
  sym_lower n i lt =
      get_or-append (syms_of bs ws n) (sym_from bs (syms_of bs ws n) ws n ∷ []) no_sym i
      (omega (arith, syms_length bs ws n))

  sym_newest : (n : ℕ) → sym_at (syms_of bs ws (suc n)) n ≡ sym_from bs (syms_of bs ws n) ws n
  unfolding syms_of
  sym_newest n = get_or_at (syms_of bs ws n) (sym_from bs (syms_of bs ws n) ws n) [] no_sym n (syms_length bs ws n)

  pub sym_at_lem : (n i : ℕ) → i < n → sym_at (syms_of bs ws n) i ≡ sym_from bs (syms_of bs ws i) ws i
  sym_at_lem zero i lt = absurd (omega arith)
  sym_at_lem (suc n) i lt =
      let le : i ≤ n = omega arith in
      ⊎_elim (λ e. rw e (sym_newest n)) (λ l. sym_lower n i l ∙ sym_at_lem n i l) (eq-or-lt_of_le le)

  -- a symbol stays what it is as others are added
  pub sym_kept : (m n i : ℕ) → i < m → i < n → sym_at (syms_of bs ws m) i ≡ sym_at (syms_of bs ws n) i
  sym_kept m n i l r = sym_at_lem m i l ∙ sym (sym_at_lem n i r)

  pub rec_at_lem : (n i : ℕ) → i < n → (sym_at (syms_of bs ws n) i).rec ≡ rec_of bs (symbol_at ws i).node
  unfolding sym_of
  rec_at_lem n i lt = ap (λ (z : Sym). z.rec) (sym_at_lem n i lt)

  pub kids_at_lem : (n i : ℕ) → i < n → (sym_at (syms_of bs ws n) i).kids ≡ kids_at ws i
  unfolding sym_of
  kids_at_lem n i lt = ap (λ (z : Sym). z.kids) (sym_at_lem n i lt)

-- ---- the words that symbols hang on: their own, and the slots in use

module _ (bs ws ws' : List ℕ) (used : ℕ) (slots : Agree ws ws' SLOTS.first (SLOTS.first + used)) where
  -- children, read by the symbol as it was
  pub kids_agree : (i : ℕ) → Sound bs ws used i →
      slots_from ws' (symbol_at ws i).kids (symbol_at ws i).count ≡ kids_at ws i
  kids_agree i sound =
      words_agree ws ws' (SLOTS.first + (symbol_at ws i).kids) (symbol_at ws i).count
      (λ k l r. slots k (omega arith) (omega (arith, sound.slots)))

  sym_agree : (lower : List Sym) (i : ℕ) → Agree ws ws' (5 * i) (5 * i + 5) → Sound bs ws used i →
      sym_from bs lower ws' i ≡ sym_from bs lower ws i
  sym_agree lower i own sound =
      let e : symbol_at ws' i ≡ symbol_at ws i = symbol_agree ws ws' i own in rw (e, kids_agree i sound)

  pub syms_agree : (n : ℕ) → Agree ws ws' 0 (5 * n) → AllSound bs ws used n → syms_of bs ws' n ≡ syms_of bs ws n
  unfolding syms_of
  syms_agree zero own sound = refl
  syms_agree (suc n) own sound =
      rw (
        syms_agree n (λ k l r. own k l (omega arith)) (λ i lt. sound i (omega arith)),
        sym_agree (syms_of bs ws n) n (λ k l r. own k (omega arith) (omega arith)) (sound n (omega arith)),
      )

  sound_agree : (i : ℕ) → Agree ws ws' (5 * i) (5 * i + 5) → Sound bs ws used i → Sound bs ws' used i
  sound_agree i own sound =
      let e : symbol_at ws' i ≡ symbol_at ws i = symbol_agree ws ws' i own in
      record {
        from = rw e sound.from;
        slots = rw e sound.slots;
        lower = rw e
            (λ k lt. subst (λ (z : ℕ). z < i)
            (sym (slots (SLOTS.first + (symbol_at ws i).kids + k) (omega arith) (omega (arith, sound.slots))))
            (sound.lower k lt));
      }

  pub sounds_agree : (n : ℕ) → Agree ws ws' 0 (5 * n) → AllSound bs ws used n → AllSound bs ws' used n
  sounds_agree n own sound i lt = sound_agree i (λ k l r. own k (omega arith) (omega arith)) (sound i lt)

-- more slots in use
pub sounds_more : {bs ws : List ℕ} {used more n : ℕ} → used ≤ more → AllSound bs ws used n → AllSound bs ws more n
sounds_more le sound i lt =
    let s = sound i lt in record { from = s.from; slots = omega (arith, s.slots); lower = s.lower }

-- ---- what one more symbol changes

module _ (ws : List ℕ) (n held : ℕ) (y : Symbol) where
  abbrev slotted : List ℕ
  slotted = sets ws (SLOTS.first + y.kids) (pending_from ws held y.count)

  pub made-length : length (made ws n held y) ≡ length ws
  unfolding made
  made-length = store_length slotted n y ∙ length-sets ws (SLOTS.first + y.kids) (pending_from ws held y.count)

  pub made_before : n < 512 → Agree ws (made ws n held y) 0 (5 * n)
  unfolding made
  made_before few k l r =
      store_before slotted n y k r ∙ sets_before (pending_from ws held y.count) ws (SLOTS.first + y.kids) k (omega arith)

  pub made_between : Agree ws (made ws n held y) (5 * n + 5) (SLOTS.first + y.kids)
  unfolding made
  made_between k l r =
      store_after slotted n y k l ∙ sets_before (pending_from ws held y.count) ws (SLOTS.first + y.kids) k r

  pub made_after : n < 512 → (k : ℕ) → SLOTS.first + y.kids + y.count ≤ k → get_or (made ws n held y) k 0 ≡ get_or ws k 0
  unfolding made
  made_after few k h =
      let l : length (pending_from ws held y.count) ≡ y.count = words_length ws (PENDING.first + held) y.count in
      store_after slotted n y k (omega arith)
      ∙ sets_after (pending_from ws held y.count) ws (SLOTS.first + y.kids) k (omega arith)

-- ---- one more symbol

module _ (ws : List ℕ) (n held : ℕ) (y : Symbol) (room : RoomFor ws n held y) where
  pub made_symbol : symbol_at (made ws n held y) n ≡ y
  unfolding made
  made_symbol =
      let l : length (slotted ws n held y) ≡ length ws =
      length-sets ws (SLOTS.first + y.kids) (pending_from ws held y.count) in
      load_store (slotted ws n held y) n y room.fits (omega (arith, room.few, room.words))

  slots_made : slots_from (made ws n held y) y.kids y.count ≡ pending_from ws held y.count
  unfolding made
  slots_made =
      let vs = pending_from ws held y.count in
      let l : length vs ≡ y.count = words_length ws (PENDING.first + held) y.count in
      words_agree (slotted ws n held y) (made ws n held y) (SLOTS.first + y.kids) y.count
      (λ k h r. store_after (slotted ws n held y) n y k (omega (arith, room.few)))
      ∙ (ap (λ (z : ℕ). words_from (slotted ws n held y) (SLOTS.first + y.kids) z) (sym l)
      ∙ words_stored ws (SLOTS.first + y.kids) vs (omega (arith, room.slots, room.words)))

  pub made_kids : kids_at (made ws n held y) n ≡ pending_from ws held y.count
  made_kids = rw made_symbol slots_made

  module _ (bs : List ℕ) (used : ℕ) (le : used ≤ y.kids) (sound : AllSound bs ws used n) where
    slots_kept : Agree ws (made ws n held y) SLOTS.first (SLOTS.first + used)
    slots_kept k l r = made_between ws n held y k (omega (arith, room.few)) (omega arith)

    pub syms_made : syms_of bs (made ws n held y) (suc n)
        ≡ syms_of bs ws n ++ (sym_of bs (syms_of bs ws n) n y (pending_from ws held y.count) ∷ [])
    unfolding syms_of
    syms_made =
        let e : syms_of bs (made ws n held y) n ≡ syms_of bs ws n =
        syms_agree bs ws (made ws n held y) used slots_kept n (made_before ws n held y room.few) sound in
        rw (e, made_symbol, slots_made)

    pub sound_made : (parts_of y.node).source < record_count bs →
        ((k : ℕ) → k < y.count → get_or ws (PENDING.first + held + k) 0 < n) →
        AllSound bs (made ws n held y) (y.kids + y.count) (n + 1)
    sound_made from lower =
        below_more (Sound bs (made ws n held y) (y.kids + y.count)) n
        (sounds_more (omega arith)
        (sounds_agree bs ws (made ws n held y) used slots_kept n (made_before ws n held y room.few) sound)) newest
      where
        kid : (k : ℕ) → k < y.count → get_or (made ws n held y) (SLOTS.first + y.kids + k) 0 < n
        kid k l =
            subst (λ (z : ℕ). z < n)
            (sym (sym (words_at (made ws n held y) (SLOTS.first + y.kids) y.count k l)
            ∙ (ap (λ (z : List ℕ). get_or z k 0) slots_made ∙ words_at ws (PENDING.first + held) y.count k l)))
            (lower k l)

        newest : Sound bs (made ws n held y) (y.kids + y.count) n
        newest = record { from = rw made_symbol from; slots = rw made_symbol (omega arith); lower = rw made_symbol kid }
