-- A lambda's arguments, as model's `alloc_args` makes them. In order: the definition in closed form; one argument more
-- may be made; the loop.
-- Assumes nothing.
use Prim.Native.Nat.{ℕ, zero, suc, ◌+◌, ◌-◌, ◌<◌, ◌≤◌}
use mathlib.Core.Path.{◌≡◌, refl, sym, ap, ◌∙◌}
use mathlib.Core.Bool.{Bool, false, ◌||◌, or-false}
use Rattle.std.specs.Prelude.{Some}
use mathlib.Core.List.{List, [], ◌∷◌}
use native.Mathlib.Omega.{arith}
use native.Mathlib.Decide.{dec_lt}
use borrow.Author.Tests.{lt-ltb, le-ltb, ne_eqb}
use borrow.Author.Count.{below_more}
use lib.Dec.{eqb}
use lib.ListN.{length, length-append}
use Rattle.regions.specs.Regions.{SCOPES}
use Rattle.model.specs.Lists.{any_in}
use Rattle.model.specs.Answer.{refused, good, ◌>>=◌, guard}
use Rattle.model.specs.Tree.{Rec}
use Rattle.model.specs.Forest.{record_count}
use Rattle.model.specs.Intern.{Scope, scope_at, argument, Outs, push, alloc, alloc_args}
use Rattle.model.specs.Intern as intern
use Rattle.laws.specs.Members.{In}
use Rattle.laws.proofs.Members.{in_one, apart_any_in}
use Rattle.laws.proofs.Ranges.{range_in}
use Rattle.record.specs.Record.{row_at}
use Rattle.key.specs.declared.Node.{Node}
use Rattle.key.specs.declared.Node.TheVariants.{Arg}
use Rattle.symbols.specs.Words.{words_from}
use Rattle.laws.specs.Range.{range}
use Rattle.symbols.specs.Symbols.{key_rec}
use Rattle.symbols.proofs.Laws.{syms_length}
use Rattle.tables.specs.declared.Tables.{Tables}
use Rattle.tables.specs.Tables.{Open}
use Rattle.tables.proofs.Stack.{open_later}
use Rattle.scopes.specs.Levels.{has}
use Rattle.scopes.specs.Scopes.{scope_word, level_of, scopes_of, outward}
use Rattle.scopes.proofs.Laws.{scope_level, scope_args, outward-below}
use Rattle.scopes.proofs.Climb.{tracks_apart}
use Rattle.interner.specs.declared.State.{State}
use Rattle.interner.specs.declared.Step.{Step}
use Rattle.interner.specs.Levels.{AtLevel}
use Rattle.interner.specs.State.{abs_of, Rep}
use Rattle.interner.specs.Step.{Fresh, Levels, Leaves, Pushed, given, over_full, outs_of, Binds, Bindings}
use Rattle.interner.proofs.Levels.{any_has-one}
use Rattle.interner.proofs.Pushing.{pushed_symbols}
use Rattle.interner.proofs.Sharing.{leaves_none, leaves_then}

-- ---- the definition in closed form

-- one argument more
abbrev one_arg : ℕ → Rec → intern.State → intern.State
one_arg cur r s = push cur r [] (length s.syms ∷ []) false argument s

-- the state after k arguments
unfoldable pub push_args : ℕ → Rec → ℕ → intern.State → intern.State
push_args cur r zero s = s
push_args cur r (suc k) s = push_args cur r k (one_arg cur r s)

module _ (at cur : ℕ) (r : Rec) where
  one-length : (s : intern.State) → length (one_arg cur r s).syms ≡ suc (length s.syms)
  unfolding push
  one-length s = length-append s.syms _ ∙ omega arith

  abbrev rest : List (ℕ × List ℕ) → ℕ × intern.State → Outs
  rest xs o = do
    os ← alloc_args at cur r xs o.1
    good (o.0 ∷ os.0, [], os.2)

  one_good : (s : intern.State) (a : ℕ × List ℕ) (xs : List (ℕ × List ℕ)) → length s.syms < 512 →
      alloc_args at cur r (a ∷ xs) s ≡ rest xs (length s.syms, one_arg cur r s)
  unfolding alloc_args alloc guard ◌>>=◌
  one_good s a xs lt =
      ap (λ (b : Bool). guard b 12 at (good (length s.syms, one_arg cur r s)) >>= rest xs)
      (lt-ltb (length s.syms) 512 lt)

  args_good : (xs : List (ℕ × List ℕ)) (s : intern.State) → length s.syms + length xs ≤ 512 →
      alloc_args at cur r xs s ≡ good (range (length s.syms) (length xs), [], push_args cur r (length xs) s)
  unfolding alloc_args push_args range ◌>>=◌
  args_good [] s le = refl
  args_good (a ∷ xs) s le =
      let n : length (one_arg cur r s).syms ≡ suc (length s.syms) = one-length s in
      one_good s a xs (omega arith)
      ∙ (ap (λ (m : Outs). m >>= λ os. good (length s.syms ∷ os.0, [], os.2))
      (args_good xs (one_arg cur r s) (omega arith))
      ∙ ap (λ (k : ℕ).
      good (length s.syms ∷ range k (length xs), [], push_args cur r (length xs) (one_arg cur r s))) n)

  args_full : (xs : List (ℕ × List ℕ)) (s : intern.State) → length s.syms ≤ 512 →
      512 < length s.syms + length xs → alloc_args at cur r xs s ≡ refused 12 at
  unfolding alloc_args alloc guard ◌>>=◌
  args_full [] s le lt = absurd (omega arith)
  args_full (a ∷ xs) s le lt = elim (dec_lt (length s.syms) 512) [
    | yes p ↦
        let n : length (one_arg cur r s).syms ≡ suc (length s.syms) = one-length s in
        one_good s a xs p
        ∙ ap (λ (m : Outs). m >>= λ os. good (length s.syms ∷ os.0, [], os.2))
        (args_full xs (one_arg cur r s) (omega arith) (omega arith))
    | no p ↦
        ap (λ (b : Bool). guard b 12 at (good (length s.syms, one_arg cur r s)) >>= rest xs)
        (le-ltb (length s.syms) 512 (omega arith))
  ]

-- a set of one level
pub one_level : (all r k d j : ℕ) → has all j ≡ false → has r j ≡ (eqb j (k + 1) || has all j) → k ≡ d →
    has r j ≡ eqb j (d + 1)
one_level all r k d j e f g = f ∙ rw (e, g) (or-false (eqb j (d + 1)))

-- ---- one argument more may be made

abbrev arg : ℕ → Node
arg at = Arg (record { source = at })

module _ (bs ws : List ℕ) (st : State) (cur at levels : ℕ) (rep : Rep bs ws st) (from : at < record_count bs)
    (current : cur < st.scopes) where
  arg_fresh : Fresh bs ws st cur (arg at) 0 0
  arg_fresh = record {
    from = from;
    field = tt;
    first = omega arith;
    second = omega arith;
    current = current;
    slots = omega (arith, rep.slots.few);
    pending = omega arith;
    lower = λ k lt. absurd (omega arith);
    sourced = refl;
  }

  module _ (are : (j : ℕ) → has levels j ≡ eqb j (level_of (scope_word ws cur) + 1)) where
    abbrev scs : List Scope
    scs = scopes_of ws st.scopes

    -- no scope around has the new argument
    apart : (s : ℕ) → In s (outward scs cur) → (xs : List ℕ) → (scope_at scs s).args ≡ Some xs →
        any_in xs (st.symbols ∷ []) ≡ false
    apart s around xs e =
        let nested = rep.arena.scoped.nested in
        let lt = outward-below ws st.scopes nested cur current s around in
        apart_any_in xs (st.symbols ∷ []) (λ a i j.
        let l = rep.levels.arguments s lt xs (sym (scope_args ws st.scopes st.scopes s nested lt lt) ∙ e) a i in
        omega (arith, l.low, in_one j))

    arg_levels : Levels ws st cur (st.symbols ∷ []) levels
    arg_levels = record {
      low = λ a i. omega (arith, in_one i);
      are = λ ws' stored j.
          sym (any_has-one ws' j st.symbols ∙ ap (λ (z : ℕ). has z j) stored.own);
      tracks =
          let e = scope_level ws st.scopes st.scopes cur rep.arena.scoped.nested current current in
          tracks_apart scs levels (st.symbols ∷ []) (outward scs cur) (level_of (scope_word ws cur)) (omega (arith, e))
          (λ j le. are j ∙ ne_eqb j (level_of (scope_word ws cur) + 1) (λ d. omega arith)) apart;
    }

-- ---- the loop: k arguments so far

pub record SoFar (bs ws₀ : List ℕ) (st₀ : State) (cur at count k : ℕ) (ws : List ℕ) (s : State) : Type 0 where
  pub few : k ≤ count
  pub rep : Rep bs ws s
  pub leaves : Leaves ws₀ ws st₀ s
  pub symbols : s.symbols ≡ st₀.symbols + k
  pub left : (t : Tables) → Open t st₀.entries →
      push_args cur (row_at bs at).rec (count - k) (abs_of bs ws t s)
      ≡ push_args cur (row_at bs at).rec count (abs_of bs ws₀ t st₀)
  pub args : (i : ℕ) → i < k → AtLevel ws s.symbols (level_of (scope_word ws₀ cur) + 1) (st₀.symbols + i)

module _ {bs ws₀ : List ℕ} {st₀ : State} {cur at count : ℕ} (rep : Rep bs ws₀ st₀) (b : Binds bs ws₀ st₀ cur at count) where
  module _ {levels : ℕ} (are : (j : ℕ) → has levels j ≡ eqb j (level_of (scope_word ws₀ cur) + 1)) {k : ℕ} {ws : List ℕ}
      {s : State} (f : SoFar bs ws₀ st₀ cur at count k ws s) where
    pub next_levels : Fresh bs ws s cur (arg at) 0 0 × Levels ws s cur (s.symbols ∷ []) levels
    next_levels =
        let e : scope_word ws cur ≡ scope_word ws₀ cur =
        f.leaves.scope_words (SCOPES.first + cur) (omega arith)
        (omega (arith, b.current, rep.arena.scoped.few_scopes)) in
        let l : cur < s.scopes = omega (arith, b.current, f.leaves.scopes) in (
          arg_fresh bs ws s cur at levels f.rep b.from l,
          arg_levels bs ws s cur at levels f.rep b.from l (λ j. rw e (are j)),
        )

    module _ {ws₁ : List ℕ} {s₁ : State} (lt : k < count) (done : Pushed bs ws s cur (arg at) 0 0 levels ws₁ s₁) where
      one_is : (t : Tables) → Open t st₀.entries →
          abs_of bs ws₁ t s₁ ≡ one_arg cur (row_at bs at).rec (abs_of bs ws t s)
      unfolding key_rec words_from
      one_is t opened =
          done.is t (open_later t st₀.entries opened s.entries f.leaves.entries)
          ∙ rw (syms_length bs ws s.symbols)

      left_more : (t : Tables) → Open t st₀.entries →
          push_args cur (row_at bs at).rec (count - (k + 1)) (abs_of bs ws₁ t s₁)
          ≡ push_args cur (row_at bs at).rec count (abs_of bs ws₀ t st₀)
      unfolding push_args
      left_more t opened =
          let e : count - k ≡ suc (count - (k + 1)) = omega (arith, lt) in
          ap (push_args cur (row_at bs at).rec (count - (k + 1))) (one_is t opened)
          ∙ (ap (λ (z : ℕ). push_args cur (row_at bs at).rec z (abs_of bs ws t s)) (sym e) ∙ f.left t opened)

      new_level : AtLevel ws₁ s₁.symbols (level_of (scope_word ws₀ cur) + 1) s.symbols
      new_level = record {
        low = omega (arith, pushed_symbols done);
        one = λ j. ap (λ (z : ℕ). has z j) done.stored.own ∙ are j;
      }

      args_more : (i : ℕ) → i < k + 1 → AtLevel ws₁ s₁.symbols (level_of (scope_word ws₀ cur) + 1) (st₀.symbols + i)
      args_more =
          let d : s.symbols ≡ st₀.symbols + k = omega (arith, f.symbols) in
          below_more (λ i. AtLevel ws₁ s₁.symbols (level_of (scope_word ws₀ cur) + 1) (st₀.symbols + i)) k
          (λ i r. let h = f.args i r in record {
            low = omega (arith, h.low, pushed_symbols done);
            one = λ j. rw (done.stored.others (st₀.symbols + i) h.low) (h.one j);
          }) (rw d at new_level)

      pub so_far_more : SoFar bs ws₀ st₀ cur at count (k + 1) ws₁ s₁
      so_far_more = record {
        few = omega (arith, lt);
        rep = done.rep;
        leaves = leaves_then f.leaves done.leaves;
        symbols = omega (arith, pushed_symbols done, f.symbols);
        left = left_more;
        args = args_more;
      }

  pub args_done : {k : ℕ} {ws : List ℕ} {s : State} {r : Step} → st₀.symbols + count ≤ 512 →
      SoFar bs ws₀ st₀ cur at count k ws s → count ≤ k → r ≡ given s st₀.symbols →
      Bindings bs ws₀ st₀ cur at count ws r
  unfolding outs_of push_args
  args_done {k} {ws} {s} le f all e = rw e (record {
    rep = f.rep;
    leaves = f.leaves;
    is = λ t opened xs l. sym (good_args t opened xs l);
    first = (refl, omega (arith, f.symbols, f.few));
    args = λ x i. let w = range_in st₀.symbols count x i in rw w.2 (f.args w.0 (omega (arith, w.1)));
  })
    where
      good_args : (t : Tables) → Open t st₀.entries → (xs : List (ℕ × List ℕ)) → length xs ≡ count →
          alloc_args at cur (row_at bs at).rec xs (abs_of bs ws₀ t st₀)
          ≡ outs_of bs ws t count (given s st₀.symbols)
      good_args t opened xs l =
          let n = syms_length bs ws₀ st₀.symbols in
          let z : count - k ≡ 0 = omega arith in
          args_good at cur (row_at bs at).rec xs (abs_of bs ws₀ t st₀) (omega (arith, n))
          ∙ rw (n, l, ← f.left t opened, z)

  pub args_refused : {r : Step} → 512 < st₀.symbols + count → r ≡ over_full st₀ (arg at) →
      Bindings bs ws₀ st₀ cur at count ws₀ r
  unfolding outs_of
  args_refused lt e = rw e (record {
    rep = rep;
    leaves = leaves_none ws₀ st₀;
    is = λ t opened xs l.
        let n = syms_length bs ws₀ st₀.symbols in
        sym (args_full at cur (row_at bs at).rec xs (abs_of bs ws₀ t st₀) (omega (arith, n, rep.arena.scoped.few))
        (omega (arith, n)));
    first = tt;
    args = tt;
  })
