-- Record i by its kind, as the definitions have it.
-- In order: the definitions unfolded; a block has no thunks; a record that is not counted; a record that is: a lambda,
-- a SelectField, any other record, a use.
-- Assumes nothing.
use Prim.Native.Nat.{ℕ, ◌<◌, ◌≤◌}
use mathlib.Core.Path.{◌≡◌, refl, sym, ap, ◌∙◌, subst}
use mathlib.Core.Bool.{Bool, true, false}
use mathlib.Core.Logic.{inl, inr}
use Rattle.std.specs.Prelude.{Some, Result, Ok, Err}
use mathlib.Core.List.{List}
use native.Mathlib.Omega.{arith}
use borrow.Author.Tests.{eqb-true, eqb-false, ne_eqb, lt-ltb, le-ltb}
use lib.Dec.{eqb}
use lib.ListN.{length}
use Rattle.model.specs.Answer.{refused, good, ◌>>=◌, guard}
use Rattle.model.specs.Shape.{agrees}
use Rattle.model.specs.Tree.{Rec, Tree}
use Rattle.model.specs.Forest.{record_count}
use Rattle.model.specs.Binding.{Kind, kind, val_use, val_def, block, lambda, field, other, is_block, id_of, args_of}
use Rattle.model.specs.Intern.{Out, Outs, Env, resolve, finish, func, with_opts, alloc_args, bind_args, open_scope, read}
use Rattle.model.specs.Intern.{thunked, intern_field, intern_func, intern_kind, intern}
use Rattle.model.specs.Intern as intern
use Rattle.laws.proofs.Members.{clash}
use Rattle.refusal.specs.declared.Check.TheVariants.{Readings}
use Rattle.refusal.specs.declared.Refusal.{Refusal}
use Rattle.walk.specs.Walk.{rec_at, tree_at, WellFormed}
use Rattle.bindings.specs.Bindings.{env_of}
use Rattle.tables.specs.declared.Tables.{Tables}
use Rattle.interner.specs.declared.State.{State}
use Rattle.interner.specs.declared.Step.{Step}
use Rattle.interner.specs.State.{abs_of}
use Rattle.interner.specs.Step.{out_of, given, step_of}
use Rattle.interner.proofs.Sharing.{out_good}
use Rattle.opening.specs.Opening.{with_reading}
use Rattle.opening.proofs.Counts.{reading_abs, reading_rep}
use Rattle.theory.proofs.Acceptance.Records.{kind_shape, op_field, block_eager}
use Rattle.standing.proofs.Enter.{no_args, kids_well}
use Rattle.intern.specs.declared.Here.{Here}
use Rattle.intern.specs.Steps.{KidsStep}
use Rattle.intern.specs.declared.Selected.{Selected}
use Rattle.intern.specs.declared.Selected.TheVariants.{Done, Children}
use Rattle.intern.specs.Words.{Kept}
use Rattle.intern.specs.Intern.{StandsAt, Reads, LegibleAt, kids_read, concluded, RecordRead}
use Rattle.intern.specs.Intern.{LambdaRead, Incomplete, ReadsOn, SelectedRead, Plain}
use Rattle.intern.proofs.Kept.{kept_none}
use Rattle.intern.proofs.Bodies.{lambda_kind}
use Rattle.intern.proofs.Records.{reads_refused, concluded-last, concluded_other, Parent}

-- ---- the definitions unfolded

module _ (at cur : ℕ) (r : Rec) (env : Env) (kids : intern.Kids) (st : intern.State) where
  kind_other : (r.shape ≡ 7 → ⊥) → (r.shape ≡ 12 → ⊥) → (r.shape ≡ 17 → ⊥) →
      intern_kind (kind r.shape) at cur r env kids st ≡ concluded at cur r (kids cur env st)
  unfolding kind intern_kind
  kind_other a b c = go (eqb r.shape 10) (eqb r.shape 11) refl refl
    where
      m : Outs
      m = kids cur env st

      go : (u v : Bool) → eqb r.shape 10 ≡ u → eqb r.shape 11 ≡ v →
          intern_kind (kind r.shape) at cur r env kids st ≡ concluded at cur r (kids cur env st)
      go true v e f =
          let s : r.shape ≡ 10 = eqb-true r.shape 10 e in
          let k : kind r.shape ≡ val_def = rw s in
          rw k (sym (concluded-last at cur r m (inl s)))
      go false true e f =
          let s : r.shape ≡ 11 = eqb-true r.shape 11 f in
          let k : kind r.shape ≡ block = rw s in
          rw k (sym (concluded-last at cur r m (inr s)))
      go false false e f =
          let k : kind r.shape ≡ other =
          rw (ne_eqb r.shape 7 a, e, f, ne_eqb r.shape 12 b, ne_eqb r.shape 17 c, kind) in
          rw k (sym (concluded_other at cur r m (eqb-false r.shape 10 e) (eqb-false r.shape 11 f)))

  pub field_refused : (n p : ℕ) → kids cur env st ≡ refused n p → intern_kind field at cur r env kids st ≡ refused n p
  unfolding intern_kind ◌>>=◌
  field_refused n p e = rw e

  pub field_good : (os : List ℕ × List ℕ × intern.State) → kids cur env st ≡ good os →
      intern_kind field at cur r env kids st ≡ intern_field at cur r env kids os.0 os.2
  unfolding intern_kind ◌>>=◌
  field_good os e = rw e

  abbrev xs : List (ℕ × List ℕ)
  xs = args_of r.aux r.lit

  pub func_refused : (n p : ℕ) → alloc_args at cur r xs st ≡ refused n p → intern_func at cur r env kids st ≡ refused n p
  unfolding intern_func ◌>>=◌
  func_refused n p e = rw e

  module _ (made : List ℕ × List ℕ × intern.State) (e : alloc_args at cur r xs st ≡ good made) where
    abbrev body : Outs
    body =
        kids (length made.2.scopes) (bind_args xs made.0 env)
        (open_scope cur (Some made.0) made.2.tables made.2)

    pub func_kids_refused : (n p : ℕ) → body ≡ refused n p → intern_func at cur r env kids st ≡ refused n p
    unfolding intern_func ◌>>=◌
    func_kids_refused n p f = rw (e, f)

    pub func_good : (os : List ℕ × List ℕ × intern.State) → body ≡ good os →
        intern_func at cur r env kids st
        ≡ finish at cur r os.0 made.0 (func (with_opts xs made.0) (length made.2.scopes)) os.2
    unfolding intern_func ◌>>=◌
    func_good os f = rw (e, f)

module _ (bs : List ℕ) (i cur : ℕ) (env : Env) (s : intern.State) where
  abbrev u : Tree
  u = tree_at bs i

  intern_full : 2048 ≤ s.readings → intern u i cur env s ≡ refused 11 i
  unfolding intern guard
  intern_full l = rw (le-ltb s.readings 2048 l, guard)

  module _ (l : s.readings < 2048) where
    intern_kind_lem : {z : Kind} → kind (rec_at bs i).shape ≡ z →
        intern u i cur env s ≡ intern_kind z i cur (rec_at bs i) env (kids_read bs i) (read s)
    unfolding intern guard
    intern_kind_lem k = rw (lt-ltb s.readings 2048 l, guard, k)

    intern_use : (rec_at bs i).shape ≡ 7 → intern u i cur env s ≡ good (resolve env (id_of (rec_at bs i)), read s)
    unfolding kind intern_kind
    intern_use e = intern_kind_lem {z = val_use} (rw e)

    intern_lambda : (rec_at bs i).shape ≡ 12 →
        intern u i cur env s ≡ intern_func i cur (rec_at bs i) env (kids_read bs i) (read s)
    unfolding intern_kind
    intern_lambda e = intern_kind_lem {z = lambda} (lambda_kind _ e)

    intern_field_lem : (rec_at bs i).shape ≡ 17 →
        intern u i cur env s ≡ intern_kind field i cur (rec_at bs i) env (kids_read bs i) (read s)
    unfolding kind
    intern_field_lem e = intern_kind_lem (rw e)

    intern_other : ((rec_at bs i).shape ≡ 7 → ⊥) → ((rec_at bs i).shape ≡ 12 → ⊥) → ((rec_at bs i).shape ≡ 17 → ⊥) →
        intern u i cur env s ≡ concluded i cur (rec_at bs i) (kids_read bs i cur env (read s))
    intern_other a b c = intern_kind_lem refl ∙ kind_other i cur (rec_at bs i) env (kids_read bs i) (read s) a b c

-- ---- where ways meet

pub reads_on_met : (bs ws : List ℕ) (t : Tables) (st : State) (i : ℕ) (at : Here) (o : Out) {ws₁ ws₂ : List ℕ}
    {last₁ last₂ : State} {s₁ s₂ : Selected} → ws₂ ≡ ws₁ → last₂ ≡ last₁ → s₂ ≡ s₁ →
    ReadsOn bs ws t st i at o ws₁ last₁ (Ok s₁) → ReadsOn bs ws t st i at o ws₂ last₂ (Ok s₂)
reads_on_met bs ws t st i at o {ws₁} {ws₂} {last₁} {last₂} {s₁} {s₂} a b c v =
    subst (λ (z : List ℕ). ReadsOn bs ws t st i at o z last₂ (Ok s₂)) (sym a)
    (subst (λ (z : State). ReadsOn bs ws t st i at o ws₁ z (Ok s₂)) (sym b)
    (subst (λ (z : Selected). ReadsOn bs ws t st i at o ws₁ last₁ (Ok z)) (sym c) v))

-- ---- a block has no thunks

block_plain : (r : Rec) → agrees r ≡ true → Plain r.opcode (is_block r)
block_plain r h j e = go (is_block r) refl
  where
    go : (b : Bool) → is_block r ≡ b → b ≡ false
    go false f = refl
    go true f = absurd (clash (thunked r.opcode j) e (block_eager r (eqb-true r.shape 11 f) h j))

-- ---- a record of any kind

-- no reading is left
pub record_full : {bs ws : List ℕ} {t : Tables} {st : State} {i : ℕ} {at : Here} → StandsAt bs ws t st i at →
    st.readings ≡ 2048 → RecordRead bs ws t st i at ws (step_of st (Err (record { check = Readings; place = i })))
record_full {bs} {ws} {t} {st} {i} {at} stands e =
    reads_refused (kept_none at ws st) stands.rep stands.opened (record { check = Readings; place = i })
    (intern_full bs i at.scope (env_of ws at.top) (abs_of bs ws t st) (omega arith))

-- a record that may be read, and is counted
pub record Counts (bs ws : List ℕ) (t : Tables) (st : State) (i : ℕ) (at : Here) (counted : State) : Type 0 where
  pub sound : WellFormed bs
  pub there : i < record_count bs
  pub stands : StandsAt bs ws t st i at
  pub legible : LegibleAt bs ws t st i at
  pub few : st.readings < 2048
  pub is : counted ≡ with_reading st

module _ {bs ws : List ℕ} {t : Tables} {st : State} {i : ℕ} {at : Here}
    (stands : StandsAt bs ws t st i at) (unread : st.readings ≡ 2048 → ⊥) where
  pub record_left : st.readings < 2048
  record_left = let few = stands.rep.few_readings in omega (arith, few, unread)

  pub counted_given : {counted : State} → counted ≡ with_reading st → WellFormed bs → i < record_count bs →
      LegibleAt bs ws t st i at → Counts bs ws t st i at counted
  counted_given e sound there legible = record {
    sound = sound;
    there = there;
    stands = stands;
    legible = legible;
    few = record_left;
    is = e;
  }

module _ {bs ws : List ℕ} {t : Tables} {st : State} {i : ℕ} {at : Here} {counted : State}
    (h : Counts bs ws t st i at counted) where
  abbrev env₀ : Env
  env₀ = env_of ws at.top

  abbrev whole : Out
  whole = intern (tree_at bs i) i at.scope env₀ (abs_of bs ws t st)

  pub counted_stands : StandsAt bs ws t counted i at
  counted_stands = rw h.is (record {
    rep = reading_rep bs ws st h.stands.rep h.few;
    opened = h.stands.opened;
    scope = h.stands.scope;
    held = h.stands.held;
    top = h.stands.top;
    level = h.stands.level;
    tables = h.stands.tables;
  })

  counted_abs : abs_of bs ws t counted ≡ read (abs_of bs ws t st)
  counted_abs = ap (abs_of bs ws t) h.is ∙ reading_abs bs ws t st

  pub counted_parent : ((rec_at bs i).shape ≡ 12 → ⊥) → Parent bs ws t counted i at
  counted_parent n = record {
    sound = h.sound;
    there = h.there;
    stands = counted_stands;
    well =
        rw counted_abs
        (kids_well h.legible.well (no_args (rec_at bs i) (λ e. n (kind_shape _ lambda e).shape)) h.few);
  }

  pub counted_opcode : (rec_at bs i).shape ≡ 17 → (rec_at bs i).opcode ≡ 0x8C
  counted_opcode e = op_field (rec_at bs i) e h.legible.well.checked.fine.1

  pub counted_plain : Plain (rec_at bs i).opcode (is_block (rec_at bs i))
  counted_plain = block_plain (rec_at bs i) h.legible.well.checked.fine.1

  -- the answer of its kind is the record's
  counted_kept : {ws' : List ℕ} {last : State} → Kept at ws ws' counted last → Kept at ws ws' st last
  counted_kept {ws'} {last} =
      subst (λ (z : State). Kept at ws ws' z last → Kept at ws ws' st last) (sym h.is)
      (λ k. record { words = k.words; scopes = k.scopes })

  counted_reads : {o : Out} {ws' : List ℕ} {r : Step} → whole ≡ o → Reads bs ws t counted i at o ws' r →
      RecordRead bs ws t st i at ws' r
  counted_reads e v = record {
    rep = v.rep;
    opened = v.opened;
    is = v.is ∙ sym e;
    kept = counted_kept v.kept;
  }

  pub record_lambda : (rec_at bs i).shape ≡ 12 → {ws' : List ℕ} {r : Step} → LambdaRead bs ws t counted i at ws' r →
      RecordRead bs ws t st i at ws' r
  record_lambda e =
      counted_reads
      (intern_lambda bs i at.scope env₀ (abs_of bs ws t st) h.few e
      ∙ ap (intern_func i at.scope (rec_at bs i) env₀ (kids_read bs i)) (sym counted_abs))

  counted_incomplete : {o : Out} {ws' : List ℕ} {k : KidsStep} → whole ≡ o → Incomplete bs ws t counted i at o ws' k →
      Incomplete bs ws t st i at whole ws' k
  counted_incomplete e u = record { ready = u.ready; is = u.is ∙ sym e; kept = counted_kept u.kept }

  -- a SelectField, and any other record: it is done, or still to be completed
  pub record_field : (rec_at bs i).shape ≡ 17 → (ws' : List ℕ) (last : State) (s : Result Selected Refusal) →
      SelectedRead bs ws t counted i at ws' last s → ReadsOn bs ws t st i at whole ws' last s
  record_field e ws' last s = go s
    where
      is_field : whole ≡ intern_kind field i at.scope (rec_at bs i) env₀ (kids_read bs i) (abs_of bs ws t counted)
      is_field =
          intern_field_lem bs i at.scope env₀ (abs_of bs ws t st) h.few e
          ∙ ap (intern_kind field i at.scope (rec_at bs i) env₀ (kids_read bs i)) (sym counted_abs)

      go : (s : Result Selected Refusal) → SelectedRead bs ws t counted i at ws' last s →
          ReadsOn bs ws t st i at whole ws' last s
      go (Ok (Done s)) v = counted_reads is_field v
      go (Ok (Children b)) v = counted_incomplete is_field v
      go (Err x) v = counted_reads is_field v

  pub record_other : ((rec_at bs i).shape ≡ 7 → ⊥) → ((rec_at bs i).shape ≡ 12 → ⊥) →
      ((rec_at bs i).shape ≡ 17 → ⊥) → (ws' : List ℕ) (k : KidsStep) →
      Incomplete bs ws t counted i at
      (concluded i at.scope (rec_at bs i) (kids_read bs i at.scope env₀ (abs_of bs ws t counted))) ws' k →
      Incomplete bs ws t st i at whole ws' k
  record_other a b c ws' k =
      counted_incomplete
      (intern_other bs i at.scope env₀ (abs_of bs ws t st) h.few a b c
      ∙ ap (λ (z : intern.State). concluded i at.scope (rec_at bs i) (kids_read bs i at.scope env₀ z))
      (sym counted_abs))

  -- a use
  pub record_use : (rec_at bs i).shape ≡ 7 → {r : Step} → r ≡ given counted (resolve env₀ (id_of (rec_at bs i))) →
      RecordRead bs ws t st i at ws r
  record_use e f =
      counted_reads refl (record {
        rep = rw f counted_stands.rep;
        opened = rw f counted_stands.opened;
        is =
            ap (out_of bs ws t) f
            ∙ out_good bs ws t (given counted (resolve env₀ (id_of (rec_at bs i)))) refl
            ∙ ap (λ (z : intern.State). good (resolve env₀ (id_of (rec_at bs i)), z)) counted_abs
            ∙ sym (intern_use bs i at.scope env₀ (abs_of bs ws t st) h.few e);
        kept = rw f (kept_none at ws counted);
      })
