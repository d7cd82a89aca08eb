-- What a record gives once its children were read, or read twice, or counted twice.
-- In order: a record completed; a record's children read; a SelectField.
-- Assumes nothing.
use Prim.Native.Nat.{ℕ, ◌+◌, ◌<◌, ◌≤◌}
use mathlib.Core.Path.{◌≡◌, refl, sym, ap, ◌∙◌}
use mathlib.Core.Bool.{Bool, true, false}
use Rattle.std.specs.Prelude.{Err, IsOk}
use mathlib.Core.List.{List}
use native.Mathlib.Omega.{arith}
use lib.ListN.{get_or}
use Rattle.regions.specs.Regions.{PENDING}
use Rattle.model.specs.Tree.{Rec}
use Rattle.model.specs.Forest.{record_count}
use Rattle.model.specs.Binding.{field, is_block}
use Rattle.model.specs.Intern.{Out, Env, intern_field, intern_kind}
use Rattle.refusal.specs.declared.Refusal.{Refusal}
use Rattle.refusal.specs.Refusal.{number_of}
use Rattle.record.specs.Record.{row_at}
use Rattle.shape.proofs.Fitting.{fits_field}
use Rattle.walk.specs.Walk.{rec_at, WellFormed}
use Rattle.walk.proofs.Bridge.{row_fits}
use Rattle.symbols.specs.Words.{pending_from}
use Rattle.bindings.specs.Bindings.{env_of}
use Rattle.bindings.proofs.Laws.{env_words}
use Rattle.tables.specs.declared.Tables.{Tables}
use Rattle.interner.specs.declared.State.{State}
use Rattle.interner.specs.declared.Step.{Step}
use Rattle.interner.specs.State.{abs_of}
use Rattle.interner.specs.Step.{refusal_of, step_of, Answers}
use Rattle.concluding.specs.Concluding.{reads_again, Selects, Input}
use Rattle.concluding.proofs.Selecting.{selects_input, field_again}
use Rattle.intern.specs.declared.Here.{Here}
use Rattle.key.specs.declared.Branches.TheVariants.{Zero}
use Rattle.intern.specs.Steps.{KidsStep, kids_done, repeats, repeated}
use Rattle.intern.specs.Intern.{StandsAt, Reads, kids_read, concluded, WellKids, Plain, Operands, ReadsAll}
use Rattle.intern.specs.Intern.{kids_answer, kids_of, Concluding, Concluded, Completable, completes}
use Rattle.intern.specs.Intern.{Incomplete}
use Rattle.intern.proofs.Kept.{kept_none, kept_then}
use Rattle.intern.proofs.Records.{reads_refused, reads_answers, concluded_other, concluded_refused, Below, Gave}
use Rattle.intern.proofs.After.{kids_good, kids_refused}
use Rattle.intern.proofs.Records.{Parent, stands_below, stands_later, kids_operands, all_is, kids_fail}
use Rattle.intern.proofs.Records.{kids_gave}
use Rattle.intern.proofs.Reading.{loop_none}
use Rattle.intern.proofs.Repeats.{repeats_few, repeated-more, repeated_is, repeated_rep}
use Rattle.intern.proofs.Cases.{field_refused, field_good}

-- ---- a record completed

module _ {bs ws : List ℕ} {t : Tables} {i : ℕ} {at : Here} {k : KidsStep} (ready : Completable bs ws t i at k) where
  -- it is completed
  abbrev Completed : List ℕ → Step → Type 0
  Completed ws' r = Reads bs ws t k.st i at (completes bs ws t i at k) ws' r

  complete_refused : {x : Refusal} → k.outcome ≡ Err x → Completed ws (step_of k.st (Err x))
  complete_refused {x} h =
      reads_refused (kept_none at ws k.st) ready.rep ready.opened x
      (ap (concluded i at.scope (rec_at bs i)) (kids_refused bs ws t at.held (row_at bs i).kids k h)
      ∙ concluded_refused i at.scope (rec_at bs i) (number_of x.check) x.place)

  complete_done : IsOk k.outcome → {ws₂ : List ℕ} {r : Step} → Concluded bs ws t i at k ws₂ r → Completed ws₂ r
  complete_done ok =
      reads_answers (kept_none at ws k.st) ready.rep ready.opened
      (ap (concluded i at.scope (rec_at bs i)) (sym (kids_good bs ws t at.held (row_at bs i).kids k ok)))

module _ {bs ws : List ℕ} {t : Tables} {st : State} {i : ℕ} {at : Here} {o : Out} {ws₁ : List ℕ} {k : KidsStep}
    (u : Incomplete bs ws t st i at o ws₁ k) where
  -- its answer is the record's
  whole : {ws₂ : List ℕ} {r : Step} → Reads bs ws₁ t k.st i at (completes bs ws₁ t i at k) ws₂ r →
      Reads bs ws t st i at o ws₂ r
  whole w = record {
    rep = w.rep;
    opened = w.opened;
    is = w.is ∙ u.is;
    kept = kept_then (omega arith) (omega arith) u.kept w.kept;
  }

  pub incomplete_reads : IsOk k.outcome → {ws₂ : List ℕ} {r : Step} → Concluded bs ws₁ t i at k ws₂ r →
      Reads bs ws t st i at o ws₂ r
  incomplete_reads ok c = whole (complete_done u.ready ok c)

  -- its children are refused, and so is the record
  pub incomplete_refused : {x : Refusal} → k.outcome ≡ Err x → Reads bs ws t st i at o ws₁ (step_of k.st (Err x))
  incomplete_refused n = whole (complete_refused u.ready n)

-- ---- a record's children read

module _ {bs ws : List ℕ} {t : Tables} {st : State} {i : ℕ} {at : Here} (h : Parent bs ws t st i at) where
  below : Below bs ws t st i at
  below = stands_below h.stands

  module _ {n op : ℕ} (en : n ≡ (row_at bs i).kids) (eo : op ≡ (rec_at bs i).opcode) where
    pub children-operands : Plain (rec_at bs i).opcode (is_block (rec_at bs i)) → Operands bs ws t st (i + 1) n op at
    children-operands = kids_operands h.sound h.there below h.well en eo

    module _ {ws₁ : List ℕ} {k : KidsStep} (v : ReadsAll bs ws t st (i + 1) n op at ws₁ k) where
      gave : IsOk k.outcome → Gave bs ws t st i at (is_block (rec_at bs i)) n ws₁ k
      gave = kids_gave h.sound h.there below h.well en eo v

      fails : {x : Refusal} → k.outcome ≡ Err x →
          kids_read bs i at.scope (env_of ws at.top) (abs_of bs ws t st) ≡ refusal_of x
      fails = kids_fail h.sound h.there below h.well en eo v

      children_is : completes bs ws₁ t i at k
          ≡ concluded i at.scope (rec_at bs i) (kids_read bs i at.scope (env_of ws at.top) (abs_of bs ws t st))
      children_is =
          ap (λ (z : ℕ). concluded i at.scope (rec_at bs i) (kids_of bs ws₁ t at.held z k)) (sym en)
          ∙ ap (concluded i at.scope (rec_at bs i))
          (all_is h.sound h.there below h.well en eo v)

      pub children-read : Incomplete bs ws t st i at
          (concluded i at.scope (rec_at bs i) (kids_read bs i at.scope (env_of ws at.top) (abs_of bs ws t st))) ws₁
          k
      children-read = record {
        ready = record {
          rep = v.rep;
          opened = v.opened;
          branched = v.branched;
          concludes = λ ok.
              rw en at ((gave ok).conclude at.scope h.stands.scope);
        };
        is = children_is;
        kept = v.kept;
      }

  -- a record with no children
  pub children_none : {n : ℕ} → n ≡ (row_at bs i).kids → Plain (rec_at bs i).opcode (is_block (rec_at bs i)) → n ≡ 0 →
      Incomplete bs ws t st i at
      (concluded i at.scope (rec_at bs i) (kids_read bs i at.scope (env_of ws at.top) (abs_of bs ws t st))) ws
      (kids_done st Zero)
  children_none en plain none = children-read en refl (loop_none h.sound (children-operands en refl plain) none)

-- ---- a SelectField

pub record Selecting (bs ws : List ℕ) (t : Tables) (st : State) (i : ℕ) (at : Here) : Type 0 where
  pub parent : Parent bs ws t st i at
  pub shape : (rec_at bs i).shape ≡ 17
  pub code : (rec_at bs i).opcode ≡ 0x8C

pub selecting_given : {bs ws : List ℕ} {t : Tables} {st : State} {i : ℕ} {at : Here} →
    WellFormed bs → i < record_count bs → ((rec_at bs i).shape ≡ 17) × ((rec_at bs i).opcode ≡ 0x8C) →
    StandsAt bs ws t st i at → WellKids bs ws t st i at → Selecting bs ws t st i at
selecting_given sound there selects stands well = record {
  parent = record { sound = sound; there = there; stands = stands; well = well };
  shape = selects.0;
  code = selects.1;
}

module _ {bs ws : List ℕ} {t : Tables} {st : State} {i : ℕ} {at : Here} (h : Selecting bs ws t st i at) where
  abbrev r : Rec
  r = rec_at bs i

  abbrev env : Env
  env = env_of ws at.top

  field_one : ◌≡◌ {A = ℕ} 1 (row_at bs i).kids
  field_one = sym (fits_field (row_at bs i) (row_fits bs i h.parent.sound.fit h.parent.there) h.shape).0

  -- a SelectField is no block
  field_plain : Plain r.opcode (is_block r)
  field_plain j e = rw h.shape

  module _ {op : ℕ} (eo : op ≡ (rec_at bs i).opcode) where
    pub field_operands : Operands bs ws t st (i + 1) 1 op at
    field_operands = children-operands h.parent field_one eo field_plain

    module _ {ws₁ : List ℕ} {k : KidsStep} (v : ReadsAll bs ws t st (i + 1) 1 op at ws₁ k) where
      abbrev field_out : Out
      field_out = intern_kind field i at.scope r env (kids_read bs i) (abs_of bs ws t st)

      field_refuses : {x : Refusal} → k.outcome ≡ Err x → Incomplete bs ws t st i at field_out ws₁ k
      field_refuses {x} n =
          let u = children-read h.parent field_one eo v in
          record {
            ready = u.ready;
            is =
                ap (concluded i at.scope r) (kids_refused bs ws₁ t at.held (row_at bs i).kids k n)
                ∙ concluded_refused i at.scope r (number_of x.check) x.place
                ∙ sym (field_refused i at.scope r env (kids_read bs i) (abs_of bs ws t st) (number_of x.check) x.place
                (fails h.parent field_one eo v n));
            kept = u.kept;
          }

      pub field_fails : {x : Refusal} → k.outcome ≡ Err x → Reads bs ws t st i at field_out ws₁ (step_of k.st (Err x))
      field_fails n = incomplete_refused (field_refuses n) n

      module _ (ok : IsOk k.outcome) where
        gave₁ : Gave bs ws t st i at (is_block r) 1 ws₁ k
        gave₁ = gave h.parent field_one eo v ok

        pub field_selects : Selects bs ws₁ k.st i at.scope at.held
        field_selects = record {
          concludes = gave₁.conclude at.scope h.parent.stands.scope;
          shape = h.shape;
          opcode = h.code;
          slots =
              gave₁.slots;
        }

        pub field_input : Input bs ws₁ i at.held
        field_input = selects_input v.rep field_selects

        -- what is said of any number of symbols that has the input is so of the state's
        input_low : get_or ws₁ (PENDING.first + at.held) 0 < k.st.symbols
        input_low =
            let e : PENDING.first + at.held + 0 ≡ PENDING.first + at.held = omega arith in
            rw e at (field_selects.concludes.lower 0 (omega arith))

        field_is : field_out
            ≡ intern_field i at.scope r env (kids_read bs i) (pending_from ws₁ at.held 1) (abs_of bs ws₁ t k.st)
        field_is = field_good i at.scope r env (kids_read bs i) (abs_of bs ws t st) _ gave₁.is

        -- counted again
        module _ (calm : repeats st k.st ≡ true) where
          pub recount_asks : (st.readings ≤ k.st.readings)
              × (k.st.readings + k.st.readings ≤ 2048 + st.readings)
          recount_asks = (repeated-more h.parent.well gave₁ calm, repeats_few st k.st calm)

          recount_is : kids_answer bs ws₁ t at.held (row_at bs i).kids (repeated st k)
              ≡ kids_read bs i at.scope (env_of ws₁ at.top) (abs_of bs ws₁ t k.st)
          recount_is =
              rw (← field_one, env_words ws₁ ws at.top v.kept.words.bound)
              (sym (repeated_is h.parent.well gave₁ calm))

          recount_concluding : Concluding bs ws₁ i at (repeated st k)
          recount_concluding =
              let c = field_selects.concludes in
              record {
                from = c.from;
                children = refl;
                current = c.current;
                slots = omega (arith, c.slots, field_one);
                pending = omega (arith, c.pending, field_one);
                lower = λ j l. c.lower j (omega (arith, field_one));
                forced = rw (← field_one) c.forced;
              }

          recount_ready : Completable bs ws₁ t i at (repeated st k)
          recount_ready = record {
            rep = repeated_rep h.parent.well gave₁ calm v.rep;
            opened = v.opened;
            branched = v.branched;
            concludes = λ z. recount_concluding;
          }

        -- read again
        again_parent : Parent bs ws₁ t k.st i at
        again_parent = record {
          sound = h.parent.sound;
          there = h.parent.there;
          stands = stands_later h.parent.stands v.rep v.opened v.kept;
          well = gave₁.again;
        }

        pub again_operands : Operands bs ws₁ t k.st (i + 1) 1 op at
        again_operands = children-operands again_parent field_one eo field_plain

        module _ {b : Bool}
            (told : (n : ℕ) → get_or ws₁ (PENDING.first + at.held) 0 < n → b ≡ reads_again bs ws₁ n i at.held) where
          pub field_once : b ≡ false → reads_again bs ws₁ k.st.symbols i at.held ≡ false
          field_once e = sym (told k.st.symbols input_low) ∙ e

          pub field_done : {ws₂ : List ℕ} {step : Step} →
              Answers bs ws₁ t k.st
              (intern_field i at.scope r env (kids_read bs i) (pending_from ws₁ at.held 1) (abs_of bs ws₁ t k.st))
              ws₂ step → Reads bs ws t st i at field_out ws₂ step
          field_done = reads_answers v.kept v.rep v.opened (sym field_is)

          -- to read again, or to count again, gives the record's answer
          module _ (e : b ≡ true) where
            again_is : concluded i at.scope r
                (kids_read bs i at.scope (env_of ws₁ at.top) (abs_of bs ws₁ t k.st)) ≡ field_out
            again_is =
                concluded_other i at.scope r _ (λ q. omega (arith, h.shape, q)) (λ q. omega (arith, h.shape, q))
                ∙ rw (env_words ws₁ ws at.top v.kept.words.bound)
                (sym (field_again bs ws₁ t k.st i at.scope at.held env (kids_read bs i)
                (sym (told k.st.symbols input_low) ∙ e)))
                ∙ sym field_is

            recount_incomplete : repeats st k.st ≡ true → Incomplete bs ws t st i at field_out ws₁ (repeated st k)
            recount_incomplete calm = record {
              ready = recount_ready calm;
              is =
                  ap (concluded i at.scope r)
                  (kids_good bs ws₁ t at.held (row_at bs i).kids (repeated st k) ok ∙ recount_is calm)
                  ∙ again_is;
              kept = record { words = v.kept.words; scopes = v.kept.scopes };
            }

            pub recount_done : repeats st k.st ≡ true → {z : KidsStep} → z ≡ repeated st k →
                Incomplete bs ws t st i at field_out ws₁ z
            recount_done calm is = rw is (recount_incomplete calm)

            pub again_done : {ws₂ : List ℕ} {k₂ : KidsStep} → ReadsAll bs ws₁ t k.st (i + 1) 1 op at ws₂ k₂ →
                Incomplete bs ws t st i at field_out ws₂ k₂
            again_done v₂ =
                let u = children-read again_parent field_one eo v₂ in
                record {
                  ready = u.ready;
                  is = u.is ∙ again_is;
                  kept = kept_then (omega arith) (omega arith) v.kept u.kept;
                }
