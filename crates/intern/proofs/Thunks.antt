-- A child in a thunk of its own.
-- In order: an answer whose state is closed; a child, in a thunk or not; the thunk opened; what the child gives.
-- Assumes nothing.
use Prim.Native.Nat.{ℕ, ◌+◌, ◌<◌, ◌≤◌}
use mathlib.Core.Path.{◌≡◌, refl, sym, ap, ◌∙◌}
use mathlib.Core.Bool.{Bool, true, false}
use Rattle.std.specs.Prelude.{Result, Ok, Err}
use mathlib.Core.List.{List, [], ◌∷◌}
use native.Mathlib.Omega.{arith}
use lib.ListN.{length}
use Rattle.std.proofs.lemmas.List.{length-append}
use Rattle.regions.specs.Regions.{WORDS}
use Rattle.model.specs.Answer.{good, ◌>>=◌}
use Rattle.model.specs.Tree.{depth}
use Rattle.model.specs.Forest.{record_count}
use Rattle.model.specs.Intern.{Out, open_thunk, close_thunk, intern_scoped, intern}
use Rattle.model.specs.Intern as intern
use Rattle.refusal.specs.declared.Refusal.{Refusal}
use Rattle.walk.specs.Walk.{tree_at}
use Rattle.scopes.specs.Scopes.{scope_word, level_of, thunk_word, with_thunk}
use Rattle.bindings.specs.Bindings.{env_of}
use Rattle.bindings.proofs.Laws.{env_words}
use Rattle.tables.specs.declared.Tables.{Tables}
use Rattle.tables.specs.Tables.{opened, Open}
use Rattle.tables.proofs.Stack.{opened_open}
use Rattle.interner.specs.declared.State.{State}
use Rattle.interner.specs.declared.Step.{Step}
use Rattle.interner.specs.State.{abs_of, Rep}
use Rattle.interner.specs.Step.{outcome_of, out_of, step_of}
use Rattle.opening.specs.Opening.{with_scope, thunk_closed}
use Rattle.opening.proofs.Counts.{scopes_count}
use Rattle.opening.proofs.Scopes.{scope_frame}
use Rattle.opening.proofs.Thunks.{thunk_level, thunk_abs, thunk_rep, closed_abs, closed_rep}
use Rattle.intern.specs.declared.Here.{Here}
use Rattle.intern.specs.Steps.{KidsStep}
use Rattle.intern.specs.Words.{Words}
use Rattle.intern.specs.Intern.{Stands, Reads, RecordRead, InThunk, ThunkRead, Operands, ReadsAll}
use Rattle.intern.proofs.Kept.{words_then, scope_words}
use Rattle.intern.proofs.Single.{one-operands, one_read, one_reads}

-- ---- an answer whose state is closed

abbrev closing : Out → Out
closing o = o >>= (λ (z : ℕ × intern.State). good (z.0, close_thunk z.1))

out_closed : (bs ws : List ℕ) (t : Tables) (top : ℕ) (r : Step) → Open t top → length t < 64 →
    out_of bs ws t (step_of (thunk_closed r.st top) r.symbol) ≡ closing (out_of bs ws (opened t top) r)
unfolding out_of ◌>>=◌
out_closed bs ws t top r is room = go r.symbol
  where
    go : (o : Result ℕ Refusal) →
        ◌≡◌ {A = Out} (outcome_of (λ s. (s, abs_of bs ws t (thunk_closed r.st top))) o)
        (closing (outcome_of (λ s. (s, abs_of bs ws (opened t top) r.st)) o))
    go (Ok s) = ap (λ (z : intern.State). good (s, z)) (closed_abs bs ws t r.st top is room)
    go (Err x) = refl

-- ---- a child, in a thunk or not

abbrev child_out : List ℕ → List ℕ → Tables → State → ℕ → Bool → Here → Out
child_out bs ws t st i thunk at =
    intern_scoped thunk at.scope (λ c s. intern (tree_at bs i) i c (env_of ws at.top) s) (abs_of bs ws t st)

module _ {bs ws : List ℕ} {t : Tables} {st : State} {i : ℕ} {thunk : Bool} {at : Here} {ws' : List ℕ} {r : Step} where
  pub child_plainly : thunk ≡ false → RecordRead bs ws t st i at ws' r →
      Reads bs ws t st i at (child_out bs ws t st i thunk at) ws' r
  unfolding intern_scoped
  child_plainly e v = rw e v

  pub child_thunked : thunk ≡ true → ThunkRead bs ws t st i at ws' r →
      Reads bs ws t st i at (child_out bs ws t st i thunk at) ws' r
  child_thunked e v = rw e v

-- ---- the thunk opened

module _ {bs ws : List ℕ} {t : Tables} {st : State} {i : ℕ} {at : Here} (lt : i < record_count bs)
    (h : InThunk bs ws t st i at) where
  abbrev thunk_out : Out
  thunk_out = child_out bs ws t st i true at

  tables_room : length t < 64
  unfolding depth
  tables_room = omega (arith, h.room)

  pub thunk_room : (WORDS ≤ length ws) × (at.scope < st.scopes) × (st.scopes ≤ 2048) × (length t < 64)
      × (st.entries ≤ 512)
  thunk_room = (
    h.stands.rep.words,
    h.stands.scope,
    h.few,
    tables_room,
    omega (arith, h.stands.rep.entries.few, h.stands.rep.arena.scoped.few),
  )

  module _ {ws₁ : List ℕ} {inside : State} {inner : Tables}
      (made : (ws₁ ≡ with_thunk ws st.scopes at.scope) × (inside ≡ with_scope st))
      (pushed : inner ≡ opened t st.entries) where
    abbrev own : Here
    own = record { scope = st.scopes; held = at.held; top = at.top }

    words₁ : Words st.scopes at.held at.top ws ws₁
    words₁ =
        scope_words st.scopes at.held at.top st.scopes ws ws₁ (omega arith)
        (rw made.0 (scope_frame h.stands.rep h.few (thunk_word ws at.scope)))

    rep₁ : Rep bs ws₁ inside
    rep₁ =
        rw (made.0, made.1)
        (thunk_rep h.stands.rep h.few h.stands.scope)

    opened₁ : Open inner inside.entries
    opened₁ = rw (made.1, pushed) (opened_open t st.entries h.stands.opened tables_room)

    abs₁ : abs_of bs ws₁ inner inside ≡ open_thunk at.scope (abs_of bs ws t st)
    abs₁ =
        rw (made.0, pushed, made.1) (thunk_abs h.stands.rep h.few h.stands.scope t h.stands.opened
        tables_room)

    level₁ : level_of (scope_word ws₁ st.scopes) ≡ level_of (scope_word ws at.scope)
    level₁ = rw made.0 (thunk_level h.stands.rep h.few h.stands.scope)

    scopes₁ : inside.scopes ≡ st.scopes + 1
    scopes₁ = ap (λ (z : State). z.scopes) made.1

    depth₁ : length inner ≡ length t + 1
    depth₁ = ap length pushed ∙ length-append t (st.entries ∷ [])

    thunk_stands : Stands bs ws₁ inner inside i (depth (tree_at bs i)) own
    thunk_stands = record {
      rep = rep₁;
      opened = opened₁;
      scope = omega (arith, scopes₁);
      held = h.stands.held;
      top = h.stands.top;
      level = omega (arith, level₁, h.stands.level);
      tables = omega (arith, depth₁, h.room);
    }

    env₁ : env_of ws₁ at.top ≡ env_of ws at.top
    env₁ = env_words ws₁ ws at.top words₁.bound

    -- the child may be read there, as the one operand of nothing
    pub thunk_operands : Operands bs ws₁ inner inside i 1 0 own
    thunk_operands =
        one-operands bs ws₁ inner inside i own lt thunk_stands
        (rw (env₁, abs₁) h.well)

    -- ---- what the child gives

    module _ {ws₂ : List ℕ} {k : KidsStep} (all : ReadsAll bs ws₁ inner inside i 1 0 own ws₂ k) where
      abbrev r : Step
      r = one_read ws₂ at.held k

      v : RecordRead bs ws₁ inner inside i own ws₂ r
      v = one_reads bs ws₁ inner inside i own lt ws₂ k all

      scoped_is : thunk_out
          ≡ closing (intern (tree_at bs i) i st.scopes (env_of ws₁ at.top) (abs_of bs ws₁ inner inside))
      unfolding intern_scoped
      scoped_is = rw (scopes_count bs ws t st, env₁, abs₁)

      last-opened : Open (opened t st.entries) r.st.entries
      last-opened = rw pushed at v.opened

      closed₂ : Reads bs ws t st i at thunk_out ws₂ (step_of (thunk_closed r.st st.entries) r.symbol)
      closed₂ = record {
        rep =
            closed_rep bs ws₂ t r.st st.entries h.stands.opened tables_room v.rep last-opened;
        opened = h.stands.opened;
        is =
            out_closed bs ws₂ t st.entries r h.stands.opened tables_room
            ∙ ap (λ (z : Tables). closing (out_of bs ws₂ z r)) (sym pushed)
            ∙ ap closing v.is
            ∙ sym scoped_is;
        kept = record {
          words = words_then (omega (arith, scopes₁)) (omega arith) (omega arith) words₁ v.kept.words;
          scopes = omega (arith, v.kept.scopes, scopes₁);
        };
      }

      pub thunk_done : {last : State} → last ≡ thunk_closed r.st st.entries →
          Reads bs ws t st i at thunk_out ws₂ (step_of last r.symbol)
      thunk_done e = rw e closed₂
