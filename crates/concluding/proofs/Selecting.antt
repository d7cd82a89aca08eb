-- A SelectField. In order: its input; whether it is read again; what it gives then (`field_again`, for callers), and
-- else.
-- Assumes nothing.
use Prim.Native.Nat.{ℕ, ◌+◌, ◌<◌}
use mathlib.Core.Path.{◌≡◌, refl, sym, ap, ◌∙◌}
use mathlib.Core.Bool.{Bool, true, false, ◌&&◌, ◌||◌}
use mathlib.Core.List.{List, []}
use native.Mathlib.Omega.{arith}
use borrow.Author.Tests.{ne_eqb}
use lib.Dec.{eqb}
use lib.ListN.{length, get_or}
use Rattle.regions.specs.Regions.{PENDING}
use Rattle.model.specs.Lists.{last, union}
use Rattle.model.specs.Forest.{record_count}
use Rattle.model.specs.Tree.{Rec}
use Rattle.model.specs.Intern.{Out, Env, Kids, sym_at, union_deps, node_of, operation, finish, pair_projection}
use Rattle.model.specs.Intern.{intern_field, intern_general}
use Rattle.record.specs.Record.{row_at}
use Rattle.shape.proofs.Fitting.{fits_field}
use Rattle.walk.specs.Walk.{WellFormed}
use Rattle.walk.proofs.Bridge.{row_fits}
use Rattle.key.specs.declared.Parts.{Parts}
use Rattle.key.specs.declared.Symbol.{Symbol}
use Rattle.key.specs.Key.{parts_of, symbol_at}
use Rattle.symbols.specs.Words.{words_from, pending_from}
use Rattle.symbols.specs.Symbols.{syms_of}
use Rattle.symbols.proofs.Laws.{rec_at_lem}
use Rattle.symbols.proofs.Same.{key_shape}
use Rattle.tables.specs.declared.Tables.{Tables}
use Rattle.interner.specs.declared.State.{State}
use Rattle.interner.specs.declared.Step.{Step}
use Rattle.interner.specs.State.{abs_of, Rep}
use Rattle.interner.specs.Step.{Answers, Projects}
use Rattle.concluding.specs.Concluding.{field_at, reads_again, Selects, Input}
use Rattle.interner.proofs.Sharing.{answers_as}

-- ---- its input

-- its literal is one byte
pub field_literal : (bs : List ℕ) (i : ℕ) → WellFormed bs → i < record_count bs → (row_at bs i).rec.shape ≡ 17 →
    length (row_at bs i).rec.lit ≡ 1
field_literal bs i sound l e = (fits_field (row_at bs i) (row_fits bs i sound.fit l) e).1

module _ {bs ws : List ℕ} {st : State} {i cur held : ℕ} (rep : Rep bs ws st) (h : Selects bs ws st i cur held) where
  abbrev pend : ℕ
  pend = get_or ws (PENDING.first + held) 0

  pend_low : pend < st.symbols
  pend_low = let e : PENDING.first + held + 0 ≡ PENDING.first + held = omega arith in rw e at (h.concludes.lower 0 (omega arith))

  -- what `reads_again` asks
  pub selects_input : Input bs ws i held
  selects_input = record {
    from = h.concludes.from;
    shape = h.shape;
    pending = h.concludes.pending;
    stored = record {
      few = omega (arith, pend_low, rep.arena.scoped.few);
      from = (rep.arena.sound pend pend_low).from;
      words = rep.words;
    };
  }

  pub selects_projects : Projects bs ws st cur i held 2
  unfolding union union_deps words_from
  selects_projects = record {
    from = h.concludes.from;
    shape = h.shape;
    opcode = h.opcode;
    current = h.concludes.current;
    slots = h.slots;
    pending = h.concludes.pending;
    low = pend_low;
    forced = h.concludes.forced;
  }

-- ---- whether it is read again

-- the shape of a symbol is that of the record that it was made for
pub symbol_shape : (bs ws : List ℕ) (s n : ℕ) {y : Symbol} {p : Parts} → s < n → y ≡ symbol_at ws s →
    p ≡ parts_of y.node → (sym_at (syms_of bs ws n) s).rec.shape ≡ (row_at bs p.source).rec.shape
symbol_shape bs ws s n lt e f =
    ap (λ r. r.shape) (rec_at_lem bs ws n s lt)
    ∙ key_shape bs (parts_of (symbol_at ws s).node).source (parts_of (symbol_at ws s).node).field
    ∙ rw (f, e)

-- field 1 or 2
abbrev of_pair : ℕ → Bool
of_pair f = eqb f 1 || eqb f 2

module _ (bs ws : List ℕ) (n i held : ℕ) {f : ℕ} (is : f ≡ field_at bs i) {t : Bool} (told : t ≡ of_pair f) where
  abbrev tupled : Bool
  tupled = eqb (sym_at (syms_of bs ws n) (get_or ws (PENDING.first + held) 0)).rec.shape 16

  again_is : reads_again bs ws n i held ≡ t && tupled
  unfolding reads_again
  again_is = rw (told, is)

  pub again_pair : t ≡ true → {r : Bool} → r ≡ tupled → r ≡ reads_again bs ws n i held
  again_pair e g = g ∙ sym (again_is ∙ rw e)

  pub again_other : t ≡ false → false ≡ reads_again bs ws n i held
  again_other e = sym (again_is ∙ rw e)

-- ---- what it gives

node_field : (r : Rec) → r.shape ≡ 17 → node_of r [] ≡ operation []
unfolding node_of
node_field r e = rw (ne_eqb r.shape 0 (λ z. omega arith), ne_eqb r.shape 1 (λ z. omega arith), node_of)

module _ (bs ws : List ℕ) (t : Tables) (st : State) (i cur held : ℕ) where
  abbrev input : ℕ
  input = get_or ws (PENDING.first + held) 0

  abbrev is_tuple : Bool
  is_tuple = eqb (sym_at (syms_of bs ws st.symbols) input).rec.shape 16

  module _ (env : Env) (kids : Kids) where
    abbrev field_of : Out
    field_of = intern_field i cur (row_at bs i).rec env kids (pending_from ws held 1) (abs_of bs ws t st)

    abbrev by_tests : Bool → Bool → Out
    by_tests p u = elim p [
      | false ↦ finish i cur (row_at bs i).rec (pending_from ws held 1) [] (operation []) (abs_of bs ws t st)
      | true ↦ elim u [
        | false ↦ pair_projection i cur (row_at bs i).rec (field_at bs i) input (abs_of bs ws t st)
        | true ↦ intern_general i cur (row_at bs i).rec (kids cur env (abs_of bs ws t st))
      ]
    ]

    field_tests : field_of ≡ by_tests (of_pair (field_at bs i)) is_tuple
    unfolding intern_field last words_from
    field_tests = refl

    -- the input read again: "Of a Tuple, the input is read a second time"
    pub field_again : reads_again bs ws st.symbols i held ≡ true →
        field_of ≡ intern_general i cur (row_at bs i).rec (kids cur env (abs_of bs ws t st))
    unfolding reads_again
    field_again e = field_tests ∙ go (of_pair (field_at bs i)) is_tuple e
      where
        go : (p u : Bool) → p && u ≡ true → by_tests p u ≡ by_tests true true
        go true true h = refl
        go true false h = let z : ◌≡◌ {A = ℕ} 0 1 = cc in absurd (omega arith)
        go false u h = let z : ◌≡◌ {A = ℕ} 0 1 = cc in absurd (omega arith)

    module _ {f : ℕ} (is : f ≡ field_at bs i) {pair : Bool} (told : pair ≡ of_pair f) where
      told_here : of_pair (field_at bs i) ≡ pair
      told_here = ap of_pair (sym is) ∙ sym told

      pub pair_answers : reads_again bs ws st.symbols i held ≡ false → pair ≡ true → {ws' : List ℕ} {r : Step} →
          Answers bs ws t st (pair_projection i cur (row_at bs i).rec f input (abs_of bs ws t st)) ws' r →
          Answers bs ws t st field_of ws' r
      unfolding reads_again
      pair_answers once e a =
          answers_as a (ap (λ (z : ℕ). pair_projection i cur (row_at bs i).rec z input (abs_of bs ws t st)) is
          ∙ sym (field_tests ∙ go (of_pair (field_at bs i)) is_tuple once (told_here ∙ e)))
        where
          go : (u v : Bool) → u && v ≡ false → u ≡ true → by_tests u v ≡ by_tests true false
          go true false h g = refl
          go true true h g = let z : ◌≡◌ {A = ℕ} 0 1 = cc in absurd (omega arith)
          go false v h g = let z : ◌≡◌ {A = ℕ} 0 1 = cc in absurd (omega arith)

      pub other_answers : (row_at bs i).rec.shape ≡ 17 → pair ≡ false → {ws' : List ℕ} {r : Step} →
          Answers bs ws t st
          (finish i cur (row_at bs i).rec (pending_from ws held 1) [] (node_of (row_at bs i).rec []) (abs_of bs ws t st))
          ws' r → Answers bs ws t st field_of ws' r
      other_answers shape e a =
          answers_as a (ap (λ n. finish i cur (row_at bs i).rec (pending_from ws held 1) [] n (abs_of bs ws t st))
          (node_field (row_at bs i).rec shape)
          ∙ sym (field_tests ∙ ap (λ (u : Bool). by_tests u is_tuple) (told_here ∙ e)))
