-- Thunks, as model's `open_thunk` and `close_thunk` have them. In order: a thunk opened; its table dropped.
-- Assumes nothing.
use Prim.Native.Nat.{ℕ, ◌<◌, ◌≤◌}
use mathlib.Core.Path.{◌≡◌, sym, ap, ◌∙◌}
use Rattle.std.specs.Prelude.{None}
use mathlib.Core.List.{List, [], ◌∷◌}
use lib.ListN.{length}
use native.Mathlib.Omega.{arith}
use Rattle.model.specs.Intern.{open_thunk, close_thunk}
use Rattle.laws.proofs.Apart.{none_some}
use Rattle.tables.specs.declared.Tables.{Tables}
use Rattle.tables.specs.Tables.{tables_of, opened, Open}
use Rattle.tables.proofs.Stack.{tables_agree, opened-tables, dropped_tables, dropped_start}
use Rattle.scopes.specs.Scopes.{scope_word, level_of, args_in, thunk_word, with_thunk}
use Rattle.scopes.proofs.Laws.{packed_level, packed_args}
use Rattle.scopes.proofs.Open.{scopes_thunk, nested_thunk}
use Rattle.interner.specs.declared.State.{State}
use Rattle.interner.specs.State.{abs_of, Rep}
use Rattle.opening.specs.Opening.{with_scope, thunk_closed}
use Rattle.opening.proofs.Scopes.{scope_same, scope_new, scope_abs, scope_rep}

-- ---- a thunk opened inside `cur`

module _ {bs ws : List ℕ} {st : State} {cur : ℕ} (rep : Rep bs ws st) (few : st.scopes ≤ 2048)
    (current : cur < st.scopes) where
  abbrev ws₁ : List ℕ
  ws₁ = with_thunk ws st.scopes cur

  word_level : level_of (thunk_word ws cur) ≡ level_of (scope_word ws cur)
  word_level = packed_level cur 0 0 (level_of (scope_word ws cur)) (omega arith) (omega arith) (omega arith)

  word_args : args_in (thunk_word ws cur) ≡ None
  word_args = packed_args cur 0 0 (level_of (scope_word ws cur)) (omega arith) (omega arith) (omega arith)

  pub thunk_level : level_of (scope_word ws₁ st.scopes) ≡ level_of (scope_word ws cur)
  thunk_level = ap level_of (scope_new rep few (thunk_word ws cur)) ∙ word_level

  pub thunk_rep : Rep bs ws₁ (with_scope st)
  thunk_rep =
      scope_rep rep few (thunk_word ws cur)
      (nested_thunk ws st.scopes cur (omega (arith, rep.words)) current (omega arith) rep.arena.scoped.nested)
      (λ xs e. none_some (sym word_args ∙ e))

  module _ (t : Tables) (is : Open t st.entries) (room : length t < 64) where
    pub thunk_abs : abs_of bs ws₁ (opened t st.entries) (with_scope st) ≡ open_thunk cur (abs_of bs ws t st)
    thunk_abs =
        scope_abs rep few (thunk_word ws cur) t (opened t st.entries) is cur None
        ([] ∷ tables_of ws t st.entries)
        (opened-tables t st.entries is room ws₁
        ∙ ap (λ (ts : List (List ℕ)). [] ∷ ts)
        (tables_agree ws ws₁ t st.entries is (scope_same rep few (thunk_word ws cur)).entries))
        (scopes_thunk ws st.scopes cur (omega (arith, rep.words)) current (omega arith))

-- ---- its table dropped: t are the tables around it, and there were `top` entries before it

module _ (bs ws : List ℕ) (t : Tables) (st : State) (top : ℕ) (is : Open t top) (room : length t < 64) where
  pub closed_abs : abs_of bs ws t (thunk_closed st top) ≡ close_thunk (abs_of bs ws (opened t top) st)
  closed_abs = rw (dropped_tables t top is room ws st.entries)

  module _ (rep : Rep bs ws st) (inner : Open (opened t top) st.entries) where
    start_low : top ≤ st.entries
    start_low = dropped_start t top is room st.entries inner

    pub closed_rep : Rep bs ws (thunk_closed st top)
    closed_rep = record {
      words = rep.words;
      arena = rep.arena;
      slots = rep.slots;
      sourced = rep.sourced;
      levels = rep.levels;
      lists = rep.lists;
      entries = record {
        few = omega (arith, start_low, rep.entries.few);
        below = λ k lt. rep.entries.below k (omega (arith, start_low));
        hinted = λ k lt. rep.entries.hinted k (omega (arith, start_low));
      };
      memo = rep.memo;
      few_readings = rep.few_readings;
    }
