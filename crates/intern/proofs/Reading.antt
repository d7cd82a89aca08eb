-- The loop over operands: what is read and what is left give the whole.
-- In order: the start; the end; the next child; a child that is refused; a child read; no child.
-- Assumes nothing.
use Prim.Native.Nat.{ℕ, zero, suc, ◌+◌, ◌-◌, ◌<◌, ◌≤◌, max}
use mathlib.Core.Path.{◌≡◌, refl, sym, ap, ◌∙◌, subst}
use mathlib.Core.Bool.{Bool, true, false, not, ◌&&◌}
use mathlib.Core.List.{List, [], ◌∷◌, ◌++◌}
use Rattle.std.specs.Prelude.{Ok, Err}
use native.Mathlib.Omega.{arith}
use native.Mathlib.Numerals.{add-one}
use lib.ListN.{length, get_or, set}
use Rattle.regions.specs.Regions.{SCOPES, PENDING}
use Rattle.model.specs.Answer.{good}
use Rattle.model.specs.Tree.{Tree, Trees, cons, is_nil, many, take_t, size, depth, depths}
use Rattle.model.specs.Forest.{record_count}
use Rattle.model.specs.Intern.{bind_def, thunked, intern_scoped, branch, intern, intern_all}
use Rattle.model.specs.Ends.{entries}
use Rattle.laws.proofs.Trees.{size_some}
use Rattle.refusal.specs.declared.Refusal.{Refusal}
use Rattle.refusal.specs.Refusal.{number_of}
use Rattle.walk.specs.Walk.{trees_from, rest_at, tree_at, WellFormed}
use Rattle.walk.proofs.Bridge.{trees_at, trees_left, records_few}
use Rattle.walk.proofs.Ends.{trees_after}
use Rattle.codec.specs.Accepted.{Passes}
use Rattle.codec.proofs.Ends.{entry_is}
use Rattle.symbols.specs.Words.{words_from, pending_from}
use Rattle.symbols.proofs.Words.{words_agree}
use Rattle.scopes.specs.Scopes.{scope_word, level_of}
use Rattle.bindings.specs.Bindings.{env_of}
use Rattle.bindings.specs.Made.{DefBound}
use Rattle.bindings.proofs.Laws.{env_words}
use Rattle.tables.specs.declared.Tables.{Tables}
use Rattle.interner.specs.declared.State.{State}
use Rattle.interner.specs.State.{abs_of}
use Rattle.interner.specs.declared.Step.{Step}
use Rattle.interner.specs.Step.{out_of}
use Rattle.interner.proofs.Sharing.{out_good, out_refused}
use Rattle.opening.proofs.Counts.{scopes_count}
use Rattle.key.specs.Key.{branches_of}
use Rattle.key.specs.declared.Branches.TheVariants.{Zero}
use Rattle.standing.specs.Standing.{WellAll}
use Rattle.standing.proofs.Enter.{child_plain, child_thunk}
use Rattle.standing.proofs.Next.{next_well}
use Rattle.intern.specs.declared.Here.{Here}
use Rattle.intern.specs.Steps.{KidsStep, kids_step, kids_done, child_at, noted}
use Rattle.intern.specs.Words.{Kept}
use Rattle.intern.specs.Intern.{Stands, StandsAt, Reads, LegibleAt, InThunk, trees, Operands}
use Rattle.intern.specs.Intern.{kids_answer, ReadsAll}
use Rattle.intern.proofs.Remains.{Remains, Reading}
use Rattle.intern.proofs.Kept.{kept_none, kept_then, ChildStored, stored}
use Rattle.intern.proofs.After.{kids_good, kids_refused, after, after_none, after-end}
use Rattle.intern.proofs.After.{after_turn, after_refused, after_same}
use Rattle.intern.proofs.After.{noted_list, noted_branched, noted-thunks}
use Rattle.intern.proofs.After.{thunk_few}

-- ---- the start: no child is read

module _ {bs : List ℕ} {t : Tables} {i count op : ℕ} {at : Here} {ws₀ : List ℕ} {st : State} (sound : WellFormed bs)
    (h : Operands bs ws₀ t st i count op at) where
  pub loop_start : Reading bs t i count op at ws₀ st ws₀ (kids_done st Zero) i at.top 0
  unfolding words_from
  loop_start = record {
    sound = sound;
    first = h;
    left = count;
    remains = record {
      sum = omega arith;
      rep = h.stands.rep;
      opened = h.stands.opened;
      outcome = refl;
      there = h.there;
      is = after_none _;
      shallow = omega arith;
      block = h.block;
      plain = h.plain;
      paid = h.paid;
      well = h.well;
      onward = omega arith;
      held = omega (arith, h.stands.held);
      pending = omega (arith, h.stands.held, h.within, records_few bs sound);
      more = omega arith;
      few = h.stands.top;
      branched = tt;
      thunks = record { none_first = λ l. refl; one_then = λ l. omega arith };
      kept = kept_none at ws₀ st;
    };
  }

-- ---- a loop that is under way

module _ {bs : List ℕ} {t : Tables} {i count op : ℕ} {at : Here} {ws₀ : List ℕ} {st₀ : State} {ws : List ℕ} {k : KidsStep}
    {next top j : ℕ} (g : Reading bs t i count op at ws₀ st₀ ws k next top j) where
  abbrev h₀ : Operands bs ws₀ t st₀ i count op at
  h₀ = g.first

  abbrev D : ℕ
  D = depths (trees bs i count)

  -- ---- the end

  at_end : Remains bs t i count op at ws₀ st₀ ws k next top j zero → ReadsAll bs ws₀ t st₀ i count op at ws k
  unfolding take_t
  at_end h =
      let e : j ≡ count = omega (arith, h.sum) in
      record {
        rep = h.rep;
        opened = h.opened;
        is =
            kids_good bs ws t at.held count k h.outcome
            ∙ ap (λ (z : ℕ). kids_answer bs ws t at.held z k) (sym e)
            ∙ sym (after-end (pending_from ws at.held j) (branches_of k.branches) op j next at.scope
            (env_of ws top) (abs_of bs ws t k.st))
            ∙ h.is;
        pending = λ n. omega (arith, h.pending);
        branched = h.branched;
        kept = h.kept;
      }

  pub reading_end : count ≤ j → ReadsAll bs ws₀ t st₀ i count op at ws k
  reading_end l =
      let e : g.left ≡ 0 = omega (arith, g.remains.sum) in
      at_end (subst (λ (z : ℕ). Remains bs t i count op at ws₀ st₀ ws k next top j z) e g.remains)

  -- ---- the next child

  module _ (lt : j < count) where
    abbrev m : ℕ
    m = g.left - 1

    h : Remains bs t i count op at ws₀ st₀ ws k next top j (suc m)
    h =
        let e : g.left ≡ suc m = omega (arith, g.remains.sum) in
        subst (λ (z : ℕ). Remains bs t i count op at ws₀ st₀ ws k next top j z) e g.remains

    abbrev u : Tree
    u = tree_at bs next

    abbrev us : Trees
    us = take_t m (rest_at bs next)

    pub reading_there : next < record_count bs
    reading_there = trees_left bs next (omega (arith, h.there))

    -- it has an entry
    pub reading_low : next < 256
    reading_low = omega (arith, reading_there, records_few bs g.sound)

    left_is : trees bs next (suc m) ≡ cons u us
    unfolding take_t
    left_is = ap (take_t (suc m)) (trees_at bs next reading_there)

    left_many : m ≤ many (rest_at bs next)
    unfolding many
    left_many = omega (arith, h.there, ap many (trees_at bs next reading_there))

    left_depths : depths (trees bs next (suc m)) ≡ max (depth u) (depths us)
    unfolding depths
    left_depths = ap depths left_is

    left_deep : depth u ≤ D
    left_deep = omega (arith, left_depths, h.shallow)

    left_well : WellAll (cons u us) h.block op j at.scope (env_of ws top) (abs_of bs ws t k.st) h.paid
    left_well = rw left_is at h.well

    scope_low : at.scope < k.st.scopes
    scope_low = omega (arith, h₀.stands.scope, h.kept.scopes)

    scope_kept : scope_word ws at.scope ≡ scope_word ws₀ at.scope
    scope_kept = h.kept.words.scopes (SCOPES.first + at.scope) (omega arith) (omega (arith, h₀.stands.scope))

    next_stands : Stands bs ws t k.st next (depth u) (child_at at j top)
    next_stands = record {
      rep = h.rep;
      opened = h.opened;
      scope = scope_low;
      held = h.held;
      top = omega (arith, h.few, left_deep);
      level = omega (arith, ap level_of scope_kept, h₀.stands.level, left_deep);
      tables = omega (arith, h₀.stands.tables, left_deep);
    }

    -- in the scope of its parent, or in a thunk
    pub reading_plain : thunked op j ≡ false → {c : Here} → c ≡ child_at at j top →
        StandsAt bs ws t k.st next c × LegibleAt bs ws t k.st next c
    reading_plain e f = rw f (next_stands, record { def = h.block && not (is_nil us); well = child_plain left_well e })

    pub reading_thunk : thunked op j ≡ true → {c : Here} → c ≡ child_at at j top →
        InThunk bs ws t k.st next c
    reading_thunk e f = rw f (record {
      stands = next_stands;
      room = omega (arith, h₀.room j e, left_deep);
      few = omega (arith, (child_thunk left_well e).0, scopes_count bs ws t k.st);
      well = rw (h.plain j e, scopes_count bs ws t k.st) at (child_thunk left_well e).1;
    })

    deep_some : 1 ≤ D
    unfolding depth
    deep_some = omega (arith, left_deep)

    pub reading_room : (at.held + j < 256) × (top < 1200)
    reading_room =
        let few = records_few bs g.sound in
        (omega (arith, h.held, reading_there), omega (arith, h.few, reading_there, deep_some))

    left_whole : after (pending_from ws at.held j) (branches_of k.branches)
        (intern_all (cons u us) op j next at.scope (env_of ws top) (abs_of bs ws t k.st))
        ≡ intern_all (trees bs i count) op 0 i at.scope (env_of ws₀ at.top) (abs_of bs ws₀ t st₀)
    left_whole = rw left_is at h.is

    module _ {thunk : Bool} (et : thunk ≡ thunked op j) {ws₁ : List ℕ} {r : Step} {c : Here}
        (ec : c ≡ child_at at j top)
        (v₀ : Reads bs ws t k.st next c
        (intern_scoped thunk c.scope (λ c' s. intern u next c' (env_of ws c.top) s) (abs_of bs ws t k.st))
        ws₁ r)
      where
        v : Reads bs ws t k.st next (child_at at j top)
            (intern_scoped thunk at.scope (λ c s. intern u next c (env_of ws top) s) (abs_of bs ws t k.st)) ws₁
            r
        v = rw ec at v₀

        scoped_is : intern_scoped (thunked op j) at.scope (λ c s. intern u next c (env_of ws top) s)
            (abs_of bs ws t k.st) ≡ out_of bs ws₁ t r
        scoped_is = sym (v.is ∙ rw et)

        child_kept : Kept at ws₀ ws₁ st₀ r.st
        child_kept = kept_then (omega arith) h.more h.kept v.kept

        -- ---- a child that is refused

        pub reading_refused : {x : Refusal} → r.symbol ≡ Err x →
            ReadsAll bs ws₀ t st₀ i count op at ws₁ (kids_step r.st (Err x))
        reading_refused {x} n = record {
          rep = v.rep;
          opened = v.opened;
          is =
              kids_refused bs ws₁ t at.held count (kids_step r.st (Err x)) refl
              ∙ sym (after_refused _ _ op j next at.scope (env_of ws top) (abs_of bs ws t k.st) u us
              (number_of x.check) x.place (scoped_is ∙ out_refused bs ws₁ t r n))
              ∙ left_whole;
          pending = λ z. cc;
          branched = tt;
          kept = child_kept;
        }

        -- ---- a child read

        module _ {s : ℕ} (ok : r.symbol ≡ Ok s) (passes : Passes bs) {es : List ℕ} (ended : es ≡ entries bs) {next' : ℕ}
            (entry : next' ≡ get_or es next 0) {ws₂ : List ℕ} {top' : ℕ}
            (d₀ : DefBound bs next top s (set ws₁ (PENDING.first + at.held + j) s) ws₂ top')
          where
            d : DefBound bs next top s (set ws₁ (PENDING.first + (at.held + j)) s) ws₂ top'
            d = let e : PENDING.first + (at.held + j) ≡ PENDING.first + at.held + j = omega arith in rw e d₀

            next_is : next' ≡ next + size u
            next_is = entry ∙ entry_is bs es g.sound passes ended next reading_there

            rest_is : trees_from bs next' ≡ rest_at bs next
            rest_is = ap (trees_from bs) next_is ∙ trees_after bs next

            us_is : trees bs next' m ≡ us
            us_is = ap (take_t m) rest_is

            forward : next + 1 ≤ next'
            forward = omega (arith, next_is, size_some u)

            abbrev st₁ : State
            st₁ = r.st

            gives : intern_scoped (thunked op j) at.scope (λ c s. intern u next c (env_of ws top) s)
                (abs_of bs ws t k.st) ≡ good (s, abs_of bs ws₁ t st₁)
            gives = scoped_is ∙ out_good bs ws₁ t r ok

            after₁ : ChildStored bs ws₁ t st₁ next (at.held + j) top s ws₂ top'
            after₁ = stored v.rep v.opened reading_room.0 reading_room.1 d

            abs₂ : abs_of bs ws₂ t st₁ ≡ abs_of bs ws₁ t st₁
            abs₂ = after₁.abs

            env₂ : env_of ws₂ top' ≡ bind_def u s (env_of ws top)
            env₂ = after₁.env ∙ ap (bind_def u s) (env_words ws₁ ws top v.kept.words.bound)

            pending₂ : pending_from ws₂ at.held (suc j) ≡ pending_from ws at.held j ++ (s ∷ [])
            pending₂ =
                after₁.pending at.held j refl
                ∙ ap (λ (z : List ℕ). z ++ (s ∷ []))
                (words_agree ws ws₁ (PENDING.first + at.held) j
                (λ x l y. v.kept.words.pending x (omega arith) (omega arith)))

            branches₂ : branches_of (noted thunk k.branches k.st.scopes)
                ≡ branches_of k.branches ++ branch (thunked op j) (length (abs_of bs ws t k.st).scopes) []
            branches₂ =
                noted_list k.branches k.st.scopes thunk
                (thunk_few k.branches op j thunk et h.thunks)
                ∙ rw (et, scopes_count bs ws t k.st)

            is₂ : after (pending_from ws₂ at.held (j + 1)) (branches_of (noted thunk k.branches k.st.scopes))
                (intern_all (trees bs next' m) op (j + 1) next' at.scope (env_of ws₂ top')
                (abs_of bs ws₂ t st₁))
                ≡ intern_all (trees bs i count) op 0 i at.scope (env_of ws₀ at.top) (abs_of bs ws₀ t st₀)
            is₂ =
                after_same op at.scope (ap (pending_from ws₂ at.held) (add-one j) ∙ pending₂) branches₂ us_is
                (add-one j) next_is env₂ abs₂
                ∙ sym (after_turn _ _ op j next at.scope (env_of ws top) (abs_of bs ws t k.st) u us
                (s, abs_of bs ws₁ t st₁) gives)
                ∙ left_whole

            step₂ : Kept (child_at at j top) ws₁ ws₂ st₁ st₁
            step₂ = record { words = after₁.words st₁.scopes v.rep.arena.scoped.few_scopes; scopes = omega arith }

            pub reading_turn : {z : KidsStep} → z ≡ kids_done r.st (noted thunk k.branches k.st.scopes) →
                Reading bs t i count op at ws₀ st₀ ws₂ z next' top' (j + 1)
            reading_turn e = rw e (record {
              sound = g.sound;
              first = h₀;
              left = m;
              remains = record {
                sum = omega (arith, h.sum);
                rep = after₁.rep;
                opened = v.opened;
                outcome = refl;
                there = rw rest_is left_many;
                is = is₂;
                shallow = omega (arith, ap depths us_is, left_depths, h.shallow);
                block = h.block;
                plain = h.plain;
                paid = suc h.paid;
                well =
                    rw (us_is, add-one j, env₂, abs₂)
                    (next_well left_well next (s, abs_of bs ws₁ t st₁) gives);
                onward = omega (arith, forward, h.onward);
                held = omega (arith, forward, h.held);
                pending = omega (arith, reading_room.0);
                more = omega (arith, h.more, d.least);
                few = omega (arith, forward, h.few, d.most);
                branched = noted_branched k.branches k.st.scopes thunk h.branched h.rep.arena.scoped.few_scopes;
                thunks =
                    rw (add-one j)
                    (noted-thunks k.branches k.st.scopes op j thunk et h.thunks);
                kept = kept_then (omega arith) h.more child_kept step₂;
              };
            })

-- ---- no child is to be read

pub loop_none : {bs : List ℕ} {t : Tables} {i count op : ℕ} {at : Here} {ws₀ : List ℕ} {st : State} → WellFormed bs →
    Operands bs ws₀ t st i count op at → count ≡ 0 → ReadsAll bs ws₀ t st i count op at ws₀ (kids_done st Zero)
loop_none sound h z = reading_end (loop_start sound h) (omega (arith, z))
