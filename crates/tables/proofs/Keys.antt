-- Comparing the key of a symbol with one that is sought. In order: keys; hints; `is_key` of model; hints of
-- entries.
-- Assumes nothing.
use Prim.Native.Nat.{ℕ, zero, suc, ◌+◌, ◌-◌, ◌*◌, ◌/◌, ◌%◌, ◌<◌, ◌≤◌}
use mathlib.Core.Path.{◌≡◌, refl, sym, ap, ◌∙◌}
use mathlib.Core.Bool.{Bool, true, false, and-true, and-false}
use mathlib.Core.List.{List}
use native.Mathlib.Omega.{arith}
use lib.ListN.{get_or}
use Rattle.model.specs.Lists.{same}
use Rattle.model.specs.Tree.{Rec, same_rec}
use Rattle.model.specs.Intern.{is_key}
use Rattle.laws.proofs.Members.{and_both, same_true, same_rec_true}
use Rattle.record.specs.Record.{row_at}
use Rattle.regions.specs.Regions.{SLOTS, PENDING}
use Rattle.key.specs.declared.Symbol.{Symbol}
use Rattle.key.specs.Key.{parts_of, symbol_at}
use Rattle.symbols.specs.Words.{words_from, slots_from, pending_from}
use Rattle.symbols.specs.Symbols.{key_rec, rec_of, syms_of, kids_at, Sound}
use Rattle.symbols.proofs.Same.{key_opcode}
use Rattle.symbols.proofs.Laws.{rec_at_lem, kids_at_lem}
use Rattle.tables.specs.Tables.{hint, hint_of, same_key}

-- ---- keys: what `same_key` loads, and what it says by it

module _ (bs ws : List ℕ) (s : ℕ) {y : Symbol} (loads : y ≡ symbol_at ws s) where
  pub loaded_slots : Sound bs ws SLOTS.size s → y.kids + y.count ≤ SLOTS.size
  loaded_slots sound = rw loads sound.slots

  module _ (i field held count : ℕ) {t : Bool}
      (kids : t ≡ same (slots_from ws y.kids y.count) (pending_from ws held count)) where
    slots_same : t ≡ same (kids_at ws s) (pending_from ws held count)
    slots_same = rw loads at kids

    pub kids_differ : t ≡ false → false ≡ same_key bs ws i field held count s
    unfolding same_key
    kids_differ f =
        let e : same (kids_at ws s) (pending_from ws held count) ≡ false = sym slots_same ∙ f in rw (e, and-false)

    pub recs_decide : t ≡ true → (f g : ℕ) {u : Bool} → f ≡ (parts_of (symbol_at ws s).node).source →
        g ≡ (parts_of (symbol_at ws s).node).field → u ≡ same_rec (key_rec bs f g) (key_rec bs i field) →
        u ≡ same_key bs ws i field held count s
    unfolding same_key
    recs_decide e f g ef eg h =
        let k : same (kids_at ws s) (pending_from ws held count) ≡ true = sym slots_same ∙ e in
        rw (k, and-true, ← ef, ← eg) h

-- ---- hints

-- what `hint_of` says, where there are no children and where there are
module _ (ws : List ℕ) (held : ℕ) where
  pub hint_none : (opcode count : ℕ) → count ≡ 0 → hint opcode (pending_from ws held count) ≡ opcode
  unfolding hint words_from
  hint_none opcode count e = rw e

  pub hint_first : (opcode count : ℕ) → (count ≡ 0 → ⊥) →
      hint opcode (pending_from ws held count) ≡ opcode + 256 * get_or ws (PENDING.first + held) 0
  unfolding hint words_from
  hint_first opcode zero h = absurd (h refl)
  hint_first opcode (suc n) h = refl

-- equal keys have equal hints
module _ (bs ws : List ℕ) (i field held count s : ℕ) where
  hint-same : same_key bs ws i field held count s ≡ true →
      hint_of bs ws s ≡ hint (row_at bs i).rec.opcode (pending_from ws held count)
  unfolding same_key
  hint-same e =
      let r = rec_of bs (symbol_at ws s).node in
      let both = and_both (same_rec r (key_rec bs i field)) (same (kids_at ws s) (pending_from ws held count)) e in
      let o : r.opcode ≡ (row_at bs i).rec.opcode =
      ap (λ (z : Rec). z.opcode) (same_rec_true r (key_rec bs i field) both.0) ∙ key_opcode bs i field in
      let k : kids_at ws s ≡ pending_from ws held count = same_true _ _ both.1 in
      rw (o, k)

  -- so an entry with another hint has another key
  pub hints_differ : {m : ℕ} → m ≡ hint (row_at bs i).rec.opcode (pending_from ws held count) →
      (hint_of bs ws s ≡ m → ⊥) → same_key bs ws i field held count s ≡ false
  hints_differ {m} e h = go (same_key bs ws i field held count s) refl
    where
      go : (t : Bool) → same_key bs ws i field held count s ≡ t → t ≡ false
      go true g = absurd (h (hint-same g ∙ sym e))
      go false g = refl

-- ---- `is_key` of model

pub key_is : (bs ws : List ℕ) (i field held count n s : ℕ) {t : Bool} → s < n →
    t ≡ same_key bs ws i field held count s →
    is_key (syms_of bs ws n) (key_rec bs i field) (pending_from ws held count) s ≡ t
unfolding is_key same_key
key_is bs ws i field held count n s lt e = rw (rec_at_lem bs ws n s lt, kids_at_lem bs ws n s lt) (sym e)

-- ---- an entry e less the first number under a hint h, in 32 bits: e's symbol under that hint, and else no symbol

pub under_hint : (e h : ℕ) → h < 131072 → (e + (4294967296 - 512 * h)) % 4294967296 < 512 →
    (e + (4294967296 - 512 * h)) % 4294967296 ≡ e % 512
under_hint e h m lt = omega arith

pub off_hint : (e h : ℕ) → h < 131072 → 512 ≤ (e + (4294967296 - 512 * h)) % 4294967296 → e / 512 ≡ h → ⊥
off_hint e h m le is = omega arith
