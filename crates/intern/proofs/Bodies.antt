-- A lambda's body entered: its arguments made, its scope opened, its arguments bound.
-- In order: no arguments; the children of a record; kinds; before; the arguments made; the body opened.
-- Assumes nothing.
use Prim.Native.Nat.{ℕ, zero, suc, ◌+◌, ◌*◌, ◌<◌, ◌≤◌}
use mathlib.Core.Path.{◌≡◌, refl, sym, ap, ◌∙◌}
use mathlib.Core.List.{List, []}
use native.Mathlib.Omega.{arith}
use Rattle.std.specs.Prelude.{Ok, Err}
use Rattle.std.proofs.lemmas.Result.{IfOk-at_ok}
use lib.ListN.{length}
use Rattle.regions.specs.Regions.{SCOPES, BINDINGS, WORDS, end}
use Rattle.model.specs.Answer.{good}
use Rattle.model.specs.Tree.{Trees, node, nil, cons, many, take_t, depth, depths}
use Rattle.model.specs.Forest.{record_count}
use Rattle.model.specs.Binding.{kind, lambda, args_of}
use Rattle.model.specs.Intern.{bind_args}
use Rattle.laws.specs.Range.{range}
use Rattle.laws.specs.Members.{Every}
use Rattle.laws.specs.Frame.{Frame}
use Rattle.laws.proofs.ArgLists.{args_length}
use Rattle.refusal.specs.declared.Refusal.{Refusal}
use Rattle.record.specs.Record.{row_at}
use Rattle.shape.proofs.Fitting.{fits_func}
use Rattle.walk.specs.Walk.{trees_from, rec_at, kid_trees_at, tree_at, WellFormed}
use Rattle.walk.proofs.Bridge.{row_fits, records_few, kids_there}
use Rattle.scopes.specs.Scopes.{scope_word, level_of, lambda_word, with_lambda}
use Rattle.bindings.specs.Bindings.{env_of}
use Rattle.bindings.specs.Made.{ArgsBound}
use Rattle.bindings.proofs.Laws.{env_words}
use Rattle.tables.specs.declared.Tables.{Tables}
use Rattle.tables.specs.Tables.{Open}
use Rattle.tables.proofs.Stack.{open_later}
use Rattle.interner.specs.declared.State.{State}
use Rattle.interner.specs.declared.Step.{Step}
use Rattle.interner.specs.Levels.{AtLevel}
use Rattle.interner.specs.State.{abs_of, Rep}
use Rattle.interner.specs.Step.{refusal_of, outs_of, Binds, Bindings, BodyOf}
use Rattle.opening.specs.Opening.{with_scope}
use Rattle.opening.proofs.Counts.{scopes_count}
use Rattle.opening.proofs.Scopes.{scope_frame}
use Rattle.opening.proofs.Bodies.{body_level, body_of, body_abs, body_rep}
use Rattle.standing.proofs.Enter.{lambda_well}
use Rattle.intern.specs.declared.Here.{Here}
use Rattle.intern.specs.declared.Inside.{Inside}
use Rattle.intern.specs.Words.{Words, Kept}
use Rattle.intern.specs.Intern.{StandsAt, CountedAt, args_made, Body, Enters}
use Rattle.intern.proofs.Kept.{words_then, scope_words, leaves_kept, later_rep, later_abs, beside_words}

-- ---- no arguments, from whatever symbol on

pub range_none : (a b n : ℕ) → n ≡ 0 → range a n ≡ range b n
unfolding range
range_none a b n e = rw e

-- ---- the children of a record

some_depth : (m : ℕ) (ts : Trees) → 1 ≤ m → 1 ≤ many ts → 1 ≤ depths (take_t m ts)
unfolding take_t many depths
some_depth zero ts a b = absurd (omega arith)
some_depth (suc m) nil a b = absurd (omega arith)
some_depth (suc m) (cons (node r us) ts) a b = omega arith

-- a record with a child
parent_depth : (bs : List ℕ) (i : ℕ) → WellFormed bs → i < record_count bs → 1 ≤ (row_at bs i).kids →
    2 ≤ depth (tree_at bs i)
unfolding depth kid_trees_at
parent_depth bs i h l e =
    let there = kids_there bs i h.closed l in
    omega (arith, some_depth (row_at bs i).kids (trees_from bs (i + 1)) e (omega (arith, there)))

-- ---- kinds

pub lambda_kind : (s : ℕ) → s ≡ 12 → kind s ≡ lambda
unfolding kind
lambda_kind s e = rw e

-- ---- answers taken apart

module _ (bs ws : List ℕ) (t : Tables) (count : ℕ) (r : Step) where
  outs_good : {s : ℕ} → r.symbol ≡ Ok s → outs_of bs ws t count r ≡ good (range s count, [], abs_of bs ws t r.st)
  unfolding outs_of
  outs_good e = rw e

  outs_refused : {x : Refusal} → r.symbol ≡ Err x → outs_of bs ws t count r ≡ refusal_of x
  unfolding outs_of
  outs_refused e = rw e

-- ---- before

-- a lambda that may be entered
pub record Lambda (bs ws : List ℕ) (t : Tables) (st : State) (i : ℕ) (at : Here) : Type 0 where
  pub sound : WellFormed bs
  pub there : i < record_count bs
  pub shape : (rec_at bs i).shape ≡ 12
  pub stands : StandsAt bs ws t st i at
  pub counted : CountedAt bs ws t st i at

pub lambda_given : {bs ws : List ℕ} {t : Tables} {st : State} {i : ℕ} {at : Here} →
    WellFormed bs → (i < record_count bs) × ((rec_at bs i).shape ≡ 12) → StandsAt bs ws t st i at →
    CountedAt bs ws t st i at → Lambda bs ws t st i at
lambda_given sound there stands counted = record {
  sound = sound;
  there = there.0;
  shape = there.1;
  stands = stands;
  counted = counted;
}

module _ {bs ws : List ℕ} {t : Tables} {st : State} {i : ℕ} {at : Here} (h : Lambda bs ws t st i at) where
  abbrev aux : ℕ
  aux = (rec_at bs i).aux

  abbrev xs : List (ℕ × List ℕ)
  xs = args_of aux (rec_at bs i).lit

  fitting : ((row_at bs i).kids ≡ 1) × (aux ≤ 15)
  fitting = let f = fits_func (row_at bs i) (row_fits bs i h.sound.fit h.there) h.shape in (f.0, f.1)

  deep : 2 ≤ depth (tree_at bs i)
  deep = parent_depth bs i h.sound h.there (omega (arith, fitting.0))

  pub lambda_binds : {n : ℕ} → n ≡ aux → Binds bs ws st at.scope i n
  lambda_binds e = record {
    from = h.there;
    current = h.stands.scope;
    level = omega (arith, h.stands.level, deep);
    few = omega (arith, e, fitting.1);
  }

  -- ---- the arguments made

  module _ {ws₁ : List ℕ} {made : Step} {n : ℕ} (en : n ≡ aux) (b : Bindings bs ws st at.scope i n ws₁ made) where
    first_kept : Kept at ws ws₁ st made.st
    first_kept = leaves_kept at h.stands.rep.arena.scoped.few_scopes b.leaves

    made-opened : Open t made.st.entries
    made-opened = open_later t st.entries h.stands.opened made.st.entries b.leaves.entries

    made_is : outs_of bs ws₁ t n made ≡ args_made bs i at.scope (abs_of bs ws t st)
    made_is = b.is t h.stands.opened xs (args_length aux (rec_at bs i).lit ∙ sym en)

    pub enter_refused : {x : Refusal} → made.symbol ≡ Err x →
        Enters bs ws t st i at ws₁ (record { st = made.st; inside = Err x })
    enter_refused e = record {
      rep = b.rep;
      opened = made-opened;
      kept = first_kept;
      opens = sym made_is ∙ outs_refused bs ws₁ t n made e;
    }

    module _ {s : ℕ} (ok : made.symbol ≡ Ok s) where
      gives : args_made bs i at.scope (abs_of bs ws t st) ≡ good (range s n, [], abs_of bs ws₁ t made.st)
      gives = sym made_is ∙ outs_good bs ws₁ t n made ok

      args_at : Every (AtLevel ws₁ made.st.symbols (level_of (scope_word ws at.scope) + 1)) (range s n)
      args_at =
          IfOk-at_ok (λ (s : ℕ).
          Every (AtLevel ws₁ made.st.symbols (level_of (scope_word ws at.scope) + 1)) (range s n)) ok b.args

      args_few : n ≤ 15
      args_few = omega (arith, en, fitting.1)

      scopes_few : made.st.scopes ≤ 2048
      scopes_few =
          let e = lambda_well h.counted.legible.well (lambda_kind _ h.shape) h.counted.few i _
          (ap (args_made bs i at.scope) (sym h.counted.is) ∙ gives) in
          omega (arith, e.0, scopes_count bs ws₁ t made.st)

      scope_word_lem : scope_word ws₁ at.scope ≡ scope_word ws at.scope
      scope_word_lem = first_kept.words.scopes (SCOPES.first + at.scope) (omega arith) (omega (arith, h.stands.scope))

      scope_low : at.scope < made.st.scopes
      scope_low = omega (arith, h.stands.scope, b.leaves.scopes)

      level_low : level_of (scope_word ws₁ at.scope) < 63
      level_low = omega (arith, ap level_of scope_word_lem, h.stands.level, deep)

      pub enter_room : (WORDS ≤ length ws₁) × (at.scope < made.st.scopes) × (made.st.scopes ≤ 2048) × (n ≤ 15)
          × (level_of (scope_word ws₁ at.scope) < 63)
      enter_room = (b.rep.words, scope_low, scopes_few, args_few, level_low)

      -- ---- the body opened

      module _ {first : ℕ} (same : (range first n ≡ range s n) × (first < 512)) {ws₂ : List ℕ}
          (opened : ws₂ ≡ with_lambda ws₁ made.st.scopes at.scope first n) where
        abbrev m : ℕ
        m = made.st.scopes

        opens : Frame (SCOPES.first + m) (end SCOPES) ws₁ ws₂
        opens = rw opened (scope_frame b.rep scopes_few (lambda_word ws₁ at.scope first n))

        pub enter_bind : (at.top + 15 ≤ 1200) × (WORDS ≤ length ws₂) × (first ≤ 512)
        enter_bind = (
          omega (arith, h.stands.top, deep, h.there, records_few bs h.sound),
          omega (arith, opens.long, b.rep.words),
          omega arith,
        )

        own : Every (AtLevel ws₁ made.st.symbols (level_of (scope_word ws₁ at.scope) + 1)) (range first n)
        own = rw (same.0, scope_word_lem) args_at

        rep₂ : Rep bs ws₂ (with_scope made.st)
        rep₂ = rw opened (body_rep b.rep scopes_few scope_low same.1 args_few own)

        words₂ : Words st.scopes at.held at.top ws₁ ws₂
        words₂ =
            scope_words st.scopes at.held at.top m ws₁ ws₂ (omega (arith, b.leaves.scopes)) opens

        module _ {inside : State} (is : inside ≡ with_scope made.st) {ws₃ : List ℕ} {top' : ℕ}
            (bound : ArgsBound bs i at.top first ws₂ ws₃ top') where
          abbrev e : Inside
          e = record { at = record { scope = m; held = at.held; top = top' }; first = first }

          binds : Frame (BINDINGS.first + 2 * at.top) (BINDINGS.first + 2 * top') ws₂ ws₃
          binds = bound.kept

          words₃ : Words st.scopes at.held at.top ws₂ ws₃
          words₃ =
              beside_words st.scopes at.held h.stands.rep.arena.scoped.few_scopes
              (omega (arith, h.stands.held, h.there, records_few bs h.sound))
              (omega (arith, enter_bind.0, bound.most)) binds

          scope₃ : (k : ℕ) → k < SCOPES.size → scope_word ws₃ k ≡ scope_word ws₂ k
          scope₃ k l = binds.before (SCOPES.first + k) (omega arith)

          body₂ : BodyOf ws₂ (m + 1) at.scope m (range first n)
          body₂ = rw opened (body_of b.rep scopes_few scope_low same.1 args_few)

          env₃ : env_of ws₃ top' ≡ bind_args xs (range first aux) (env_of ws at.top)
          env₃ =
              bound.env
              ∙ ap (bind_args xs (range first aux))
              (env_words ws₂ ws₁ at.top words₂.bound ∙ env_words ws₁ ws at.top first_kept.words.bound)

          body : Body bs ws t st i at ws₃ (with_scope made.st) e
          body = record {
            made = abs_of bs ws₁ t made.st;
            is = gives ∙ rw (← same.0, en);
            scope = sym (scopes_count bs ws₁ t made.st);
            abs =
                later_abs rep₂ binds (omega arith) t made-opened
                ∙ ap (λ (z : List ℕ). abs_of bs z t (with_scope made.st)) opened
                ∙ body_abs b.rep scopes_few scope_low same.1 args_few t made-opened
                ∙ rw en;
            env = env₃;
            body = record {
              inside = body₂.inside;
              low = body₂.low;
              parent = rw (scope₃ m (omega (arith, scopes_few))) body₂.parent;
              args = rw (scope₃ m (omega (arith, scopes_few)), ← en) body₂.args;
            };
            level =
                ap level_of (scope₃ m (omega (arith, scopes_few)))
                ∙ ap (λ (z : List ℕ). level_of (scope_word z m)) opened
                ∙ body_level b.rep scopes_few scope_low same.1 args_few
                ∙ ap (λ (z : ℕ). level_of z + 1) scope_word_lem;
            held = refl;
            more = omega (arith, bound.is);
            most = bound.most;
            low = same.1;
          }

          done : Enters bs ws t st i at ws₃ (record { st = with_scope made.st; inside = Ok e })
          done = record {
            rep = later_rep rep₂ binds (omega arith);
            opened = made-opened;
            kept = record {
              words =
                  words_then (omega arith) (omega arith) (omega arith)
                  (words_then (omega arith) (omega arith) (omega arith) first_kept.words words₂) words₃;
              scopes = omega (arith, first_kept.scopes);
            };
            opens = body;
          }

          pub enter_done : Enters bs ws t st i at ws₃ (record {
            st = inside;
            inside = Ok (record { at = record { scope = m; held = at.held; top = top' }; first = first });
          })
          enter_done = rw is done
