-- One pair of projections more, as model's `remember` has it: what it asks; what `memo::remember` asks; the words, the state.
-- Assumes nothing.
use Prim.Native.Nat.{ℕ, ◌+◌, ◌<◌, ◌≤◌}
use mathlib.Core.Path.{◌≡◌, refl, sym, ap, ◌∙◌}
use Rattle.std.specs.Prelude.{None}
use mathlib.Core.List.{List, ◌∷◌}
use native.Mathlib.Omega.{arith}
use lib.ListN.{length}
use Rattle.regions.specs.Regions.{SYMBOLS, MEMO, PENDING, WORDS, end}
use Rattle.model.specs.Intern.{recall, remember}
use Rattle.model.specs.Intern as intern
use Rattle.laws.specs.Frame.{Frame}
use Rattle.laws.proofs.Frame.{frame_wider, frame_store}
use Rattle.tables.specs.declared.Tables.{Tables}
use Rattle.tables.specs.Tables.{Open}
use Rattle.memo.specs.Memo.{memo_of, remembered}
use Rattle.memo.proofs.Laws.{memo_remembered}
use Rattle.memo.proofs.Below.{recall_new, pairs_few}
use Rattle.interner.specs.declared.State.{State}
use Rattle.interner.specs.State.{abs_of, Rep}
use Rattle.interner.specs.Step.{Leaves, with_pair}
use Rattle.interner.proofs.Same.{Same, same_above, abs_same, rep_same, rep_with}

-- a and b are to be remembered of p, of which nothing is
pub record Unpaired (ws : List ℕ) (st : State) (p a b : ℕ) : Type 0 where
  pub low : p < st.symbols
  pub first : a < st.symbols
  pub second : b < st.symbols
  pub new : recall (memo_of ws st.memo) p ≡ None

module _ {bs ws : List ℕ} {st : State} {p a b : ℕ} (rep : Rep bs ws st) (h : Unpaired ws st p a b) where
  memo_room : st.memo < st.symbols
  memo_room = pairs_few ws st.memo st.symbols p rep.memo.below rep.memo.once h.new h.low

  pub remember_asks : ((st.memo < MEMO.size) × (WORDS ≤ length ws)) × ((p < 512) × (a < 512) × (b < 512))
  remember_asks =
      let few = rep.arena.scoped.few in (
        (omega (arith, memo_room, few), rep.words),
        (omega (arith, h.low, few), omega (arith, h.first, few), omega (arith, h.second, few)),
      )

  abbrev ws₁ : List ℕ
  ws₁ = remembered ws st.memo p a b

  frame : Frame (MEMO.first + st.memo) (end MEMO) ws ws₁
  frame = frame_store (MEMO.first + st.memo) (end MEMO) (MEMO.first + st.memo) _ ws (omega arith)
      (omega (arith, remember_asks.0.0))

  same : Same ws ws₁ st
  same = same_above bs ws ws₁ st rep (MEMO.first + st.memo) (end MEMO) (omega arith) frame

  memo_is : memo_of ws₁ (st.memo + 1) ≡ (p, a, b) ∷ memo_of ws st.memo
  memo_is =
      let asks = remember_asks in
      memo_remembered ws st.memo p a b asks.0.0 asks.0.1 asks.1.0 asks.1.1

  pub abs_remembered : (t : Tables) → Open t st.entries →
      abs_of bs ws₁ t (with_pair st) ≡ remember p a b (abs_of bs ws t st)
  abs_remembered t opened =
      let kept = abs_same bs ws ws₁ st rep same t opened in
      rw (memo_is ∙ ap (λ (z : intern.State). (p, a, b) ∷ z.memo) (sym kept)) (ap (remember p a b) kept)

  pub rep_remembered : Rep bs ws₁ (with_pair st)
  rep_remembered =
      let old = rep_same bs ws ws₁ st rep same in
      rep_with old old.entries (record {
        few = omega (arith, memo_room);
        below = rw memo_is ((h.low, h.first, h.second), rep.memo.below);
        once = rw memo_is (recall_new (memo_of ws st.memo) p h.new, rep.memo.once);
      }) rep.few_readings

  pub leaves_remembered : Leaves ws ws₁ st (with_pair st)
  leaves_remembered = record {
    frame = frame_wider (MEMO.first + st.memo) (end MEMO) SYMBOLS.first PENDING.first ws ws₁ frame (omega arith)
        (omega arith);
    scope_words = λ k l r. frame.before k (omega arith);
    scopes = refl;
    entries = omega arith;
    readings = refl;
    more = omega arith;
  }
