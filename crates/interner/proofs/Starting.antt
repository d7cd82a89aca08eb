-- The state before any record is read, as model's `start` has it.
-- Assumes nothing.
use Prim.Native.Nat.{ℕ, ◌≤◌}
use mathlib.Core.Path.{◌≡◌, refl, sym, ap, ◌∙◌, subst}
use mathlib.Core.List.{List}
use native.Mathlib.Omega.{arith}
use lib.ListN.{length, set, length-set}
use lib.Seq.{get_or-set_same, get_or-set_other}
use Rattle.regions.specs.Regions.{SYMBOLS, SCOPES, FREE_ENDS, PENDING, WORDS}
use Rattle.model.specs.Intern.{start}
use Rattle.laws.proofs.Apart.{none_some}
use Rattle.laws.proofs.Frame.{frame_then, frame_store}
use Rattle.laws.specs.Stack.{stack_of}
use Rattle.symbols.specs.Symbols.{syms_of}
use Rattle.tables.specs.Tables.{new_tables}
use Rattle.tables.proofs.Stack.{first_open, first-tables}
use Rattle.scopes.specs.Scopes.{scope_word, args_in}
use Rattle.scopes.proofs.Open.{scopes_outermost, nested_outermost}
use Rattle.memo.specs.Memo.{memo_of}
use Rattle.free_lists.proofs.Laws.{lists_start}
use Rattle.interner.specs.Levels.{ArgLevels}
use Rattle.interner.specs.State.{abs_of, Rep, first_state, Started}

module _ (ws : List ℕ) (words : WORDS ≤ length ws) where
  abbrev ws₀ : List ℕ
  ws₀ = set ws (FREE_ENDS).first 0

  abbrev ws₁ : List ℕ
  ws₁ = set ws₀ SCOPES.first 0

  long : length ws₀ ≡ length ws
  long = length-set ws (FREE_ENDS).first 0

  no_args : ArgLevels ws₁ 0 1
  no_args c lt xs e =
      let z : c ≡ 0 = omega arith in
      let w : scope_word ws₁ c ≡ 0 = rw z (get_or-set_same ws₀ SCOPES.first 0 0 (omega (arith, long))) in
      none_some (sym (ap args_in w) ∙ e)

  rep_start : (bs : List ℕ) → Rep bs ws₁ first_state
  unfolding syms_of memo_of stack_of
  rep_start bs = record {
    words = omega (arith, length-set ws₀ SCOPES.first 0, long);
    arena = record {
      scoped = record {
        few = omega arith;
        long = omega (arith, length-set ws₀ SCOPES.first 0, long);
        some_scope = omega arith;
        few_scopes = omega arith;
        nested = nested_outermost ws₀ (omega (arith, long));
        placed = λ s lt. absurd (omega arith);
      };
      sound = λ i lt. absurd (omega arith);
    };
    slots = record { few = omega arith; all = refl; within = λ i lt. absurd (omega arith) };
    sourced = λ s lt. absurd (omega arith);
    levels = record { each = λ s lt. absurd (omega arith); arguments = no_args };
    lists = lists_start _ ws₁
        (get_or-set_other ws₀ SCOPES.first (FREE_ENDS).first 0 0 (λ e. omega arith)
        ∙ get_or-set_same ws (FREE_ENDS).first 0 0 (omega arith));
    entries = record {
      few = omega arith;
      below = λ k lt. absurd (omega arith);
      hinted = λ k lt. absurd (omega arith);
    };
    memo = record { few = omega arith; below = tt; once = tt };
    few_readings = omega arith;
  }

  abs_start : (bs : List ℕ) → abs_of bs ws₁ new_tables first_state ≡ start
  unfolding start syms_of memo_of stack_of
  abs_start bs = rw (first-tables ws₁, scopes_outermost ws₁)

  pub started : (ws' : List ℕ) → ws' ≡ ws₁ → Started ws ws' first_state
  started ws' e = subst (λ (z : List ℕ). Started ws z first_state) (sym e) (record {
    state = refl;
    words = refl;
    rep = rep_start;
    is = abs_start;
    opened = first_open;
    frame = frame_then SYMBOLS.first PENDING.first ws ws₀ ws₁
        (frame_store SYMBOLS.first PENDING.first (FREE_ENDS).first 0 ws (omega arith) (omega arith))
        (frame_store SYMBOLS.first PENDING.first SCOPES.first 0 ws₀ (omega arith) (omega arith));
  })
