-- The body of a lambda opened, as model's `open_scope` has it: its word; what the state stands for; what holds of it.
-- Assumes nothing.
use Prim.Native.Nat.{ℕ, ◌+◌, ◌<◌, ◌≤◌}
use mathlib.Core.Path.{◌≡◌, sym, ap, ◌∙◌, subst}
use Rattle.std.specs.Prelude.{Some}
use Rattle.std.proofs.lemmas.Option.{same_Some}
use mathlib.Core.List.{List}
use native.Mathlib.Omega.{arith}
use native.Mathlib.Numerals.{add-one}
use Rattle.model.specs.Intern.{open_scope}
use Rattle.laws.specs.Range.{range}
use Rattle.laws.specs.Members.{Every}
use Rattle.tables.specs.declared.Tables.{Tables}
use Rattle.tables.specs.Tables.{Open}
use Rattle.tables.proofs.Stack.{tables_agree}
use Rattle.scopes.specs.Scopes.{scope_word, level_of, args_in, args_from, parent_of, lambda_word, with_lambda}
use Rattle.scopes.proofs.Laws.{packed_parent, packed_level, packed_args}
use Rattle.scopes.proofs.Open.{scopes_lambda, nested_lambda}
use Rattle.interner.specs.declared.State.{State}
use Rattle.interner.specs.Levels.{AtLevel}
use Rattle.interner.specs.State.{abs_of, Rep}
use Rattle.interner.specs.Step.{BodyOf}
use Rattle.opening.specs.Opening.{with_scope}
use Rattle.opening.proofs.Scopes.{scope_same, scope_new, scope_abs, scope_rep}

module _ {bs ws : List ℕ} {st : State} {cur first count : ℕ} (rep : Rep bs ws st) (few : st.scopes ≤ 2048)
    (current : cur < st.scopes) (low : first < 512) (args : count ≤ 15) where
  -- ---- its word

  abbrev word : ℕ
  word = lambda_word ws cur first count

  abbrev ws₁ : List ℕ
  ws₁ = with_lambda ws st.scopes cur first count

  word_parent : parent_of word ≡ cur
  word_parent =
      packed_parent cur first (count + 1) (level_of (scope_word ws cur) + 1) (omega arith) low (omega arith)

  word_level : level_of word ≡ level_of (scope_word ws cur) + 1
  word_level = packed_level cur first (count + 1) (level_of (scope_word ws cur) + 1) (omega arith) low (omega arith)

  code_args : args_from first (count + 1) ≡ Some (range first count)
  code_args = rw (add-one count)

  word_args : args_in word ≡ Some (range first count)
  word_args =
      packed_args cur first (count + 1) (level_of (scope_word ws cur) + 1) (omega arith) low (omega arith) ∙ code_args

  word_is : scope_word ws₁ st.scopes ≡ word
  word_is = scope_new rep few word

  pub body_level : level_of (scope_word ws₁ st.scopes) ≡ level_of (scope_word ws cur) + 1
  body_level = ap level_of word_is ∙ word_level

  pub body_of : BodyOf ws₁ (with_scope st).scopes cur st.scopes (range first count)
  body_of = record {
    inside = rep.arena.scoped.some_scope;
    low = omega arith;
    parent = ap parent_of word_is ∙ word_parent;
    args = ap args_in word_is ∙ word_args;
  }

  -- ---- what the state stands for

  pub body_abs : (t : Tables) → Open t st.entries → abs_of bs ws₁ t (with_scope st)
      ≡ open_scope cur (Some (range first count)) (abs_of bs ws t st).tables (abs_of bs ws t st)
  body_abs t is =
      scope_abs rep few word t t is cur (Some (range first count)) (abs_of bs ws t st).tables
      (tables_agree ws ws₁ t st.entries is (scope_same rep few word).entries)
      (scopes_lambda ws st.scopes cur (omega (arith, rep.words)) current (omega arith) first count low
      (omega arith))

  -- ---- what holds of it

  pub body_rep : Every (AtLevel ws st.symbols (level_of (scope_word ws cur) + 1)) (range first count) →
      Rep bs ws₁ (with_scope st)
  body_rep own =
      scope_rep rep few word
      (nested_lambda ws st.scopes cur (omega (arith, rep.words)) current (omega arith) first count low (omega arith)
      rep.arena.scoped.nested)
      (λ xs e. subst (Every (AtLevel ws st.symbols (level_of word)))
      (same_Some _ _ (sym word_args ∙ e))
      (rw word_level own))
