-- A new symbol in the newest table, and the answers of model's `alloc`. In order: what steps leave; answers;
-- the steps of `alloc`.
-- Assumes nothing.
use Prim.Native.Nat.{ℕ, ◌+◌, ◌*◌, ◌<◌, ◌≤◌}
use mathlib.Core.Path.{◌≡◌, refl, sym, ap, ◌∙◌, subst}
use mathlib.Core.Bool.{true}
use mathlib.Core.List.{List}
use native.Mathlib.Omega.{arith}
use borrow.Author.Tests.{lt-ltb, le-ltb, eq-eqb, ne_eqb}
use Rattle.std.specs.Prelude.{Ok, Err}
use Rattle.std.proofs.lemmas.Result.{IfOk-at_ok}
use Rattle.refusal.specs.declared.Refusal.{Refusal}
use lib.ListN.{length, set}
use Rattle.regions.specs.Regions.{SYMBOLS, ENTRIES, PENDING, end}
use Rattle.model.specs.Answer.{refused, good, guard}
use Rattle.model.specs.Intern.{Out, push, alloc}
use Rattle.model.specs.Intern as intern
use Rattle.laws.specs.Frame.{Frame}
use Rattle.laws.proofs.Frame.{frame_none, frame_then, frame_wider, frame_store}
use Rattle.record.specs.Record.{row_at}
use Rattle.key.specs.declared.Node.{Node}
use Rattle.key.specs.declared.Parts.{Parts}
use Rattle.key.specs.Key.{parts_of}
use Rattle.symbols.specs.Words.{pending_from}
use Rattle.symbols.specs.Symbols.{rec_of, model_node}
use Rattle.symbols.proofs.Laws.{syms_length}
use Rattle.symbols.proofs.Same.{key_opcode}
use Rattle.tables.specs.declared.Tables.{Tables}
use Rattle.tables.specs.Tables.{hint, hint_of, Open}
use Rattle.tables.proofs.Stack.{entered-tables, entered_below, entered_hinted}
use Rattle.graph.proofs.Laws.{still_above}
use Rattle.free_lists.proofs.Laws.{lists_agree}
use Rattle.interner.specs.declared.State.{State}
use Rattle.interner.specs.declared.Step.{Step}
use Rattle.interner.specs.State.{abs_of, Rep}
use Rattle.interner.specs.Step.{refusal_of, out_of, given, over_full, with_symbol, entered, state_after, Leaves, new_deps}
use Rattle.interner.specs.Step.{Fresh, Pushed, alloc_of, Answers}
use Rattle.interner.proofs.Same.{used_sound, Same, abs_same, rep_same, rep_with}
use Rattle.interner.proofs.Pushing.{pushed_entries, pushed_symbols}

-- ---- what steps leave

pub leaves_then : {us ws xs : List ℕ} {a b c : State} → Leaves us ws a b → Leaves ws xs b c → Leaves us xs a c
leaves_then {us} {ws} {xs} g h = record {
  frame = frame_then SYMBOLS.first PENDING.first us ws xs g.frame h.frame;
  scope_words = λ k l r. h.scope_words k l r ∙ g.scope_words k l r;
  scopes = h.scopes ∙ g.scopes;
  entries = omega (arith, g.entries, h.entries);
  readings = h.readings ∙ g.readings;
  more = omega (arith, g.more, h.more);
}

pub leaves_none : (ws : List ℕ) (st : State) → Leaves ws ws st st
leaves_none ws st = record {
  frame = frame_none SYMBOLS.first PENDING.first ws;
  scope_words = λ k l r. refl;
  scopes = refl;
  entries = omega arith;
  readings = refl;
  more = omega arith;
}

-- ---- answers

pub out-given : (bs ws : List ℕ) (t : Tables) (st : State) (s : ℕ) →
    out_of bs ws t (given st s) ≡ good (s, abs_of bs ws t st)
unfolding out_of
out-given bs ws t st s = refl

out_full : (bs ws : List ℕ) (t : Tables) (st : State) (node : Node) →
    out_of bs ws t (over_full st node) ≡ refused 12 (parts_of node).source
unfolding out_of
out_full bs ws t st node = refl

module _ (bs ws : List ℕ) (t : Tables) (r : Step) where
  pub out_good : {s : ℕ} → r.symbol ≡ Ok s → out_of bs ws t r ≡ good (s, abs_of bs ws t r.st)
  unfolding out_of
  out_good e = rw e

  pub out_refused : {e : Refusal} → r.symbol ≡ Err e → out_of bs ws t r ≡ refusal_of e
  unfolding out_of
  out_refused e = rw e

module _ {bs ws : List ℕ} {t : Tables} {st : State} where
  -- the definition's answer in other words
  pub answers_as : {o o' : Out} {ws' : List ℕ} {r : Step} → Answers bs ws t st o ws' r → o ≡ o' →
      Answers bs ws t st o' ws' r
  answers_as a e = record { rep = a.rep; leaves = a.leaves; low = a.low; is = a.is ∙ e }

  -- a symbol that is given is one of those that stand
  pub low_at : {o : Out} {ws' : List ℕ} {r : Step} → Answers bs ws t st o ws' r → {s : ℕ} → r.symbol ≡ Ok s →
      s < r.st.symbols
  low_at {r = r} a = λ e. IfOk-at_ok (λ (s : ℕ). s < r.st.symbols) e a.low

  -- a symbol that stands, and nothing changed
  pub given_answers : {s : ℕ} {r : Step} → Rep bs ws st → s < st.symbols → r ≡ given st s →
      Answers bs ws t st (good (s, abs_of bs ws t st)) ws r
  given_answers {s} rep low e =
      rw e (record { rep = rep; leaves = leaves_none ws st; low = low; is = out-given bs ws t st s })

-- a symbol that is found leaves the state, and a new one is counted
pub old_state : (st : State) (count s : ℕ) → s < st.symbols → st ≡ state_after st count (Ok s)
old_state st count s lt = rw (ne_eqb s st.symbols (λ e. omega (arith, e)), state_after) refl

pub new_state : (st : State) (count : ℕ) {st₁ : State} → st₁ ≡ with_symbol st count →
    entered st₁ ≡ state_after st count (Ok st.symbols)
new_state st count e = rw (e, eq-eqb st.symbols st.symbols refl, state_after) refl

module _ {bs ws : List ℕ} {st : State} {cur : ℕ} {node : Node} {held count : ℕ} (t : Tables) (rep : Rep bs ws st)
    (fresh : Fresh bs ws st cur node held count) where
  abbrev allocated : Out
  allocated = alloc_of bs ws t st cur node held count true

  abbrev shared_push : intern.State
  shared_push =
      push cur (rec_of bs node) (pending_from ws held count) (new_deps bs ws st node held count) true (model_node bs node)
      (abs_of bs ws t st)

  alloc_good : st.symbols < 512 → allocated ≡ good (st.symbols, shared_push)
  unfolding alloc guard
  alloc_good few = rw (syms_length bs ws st.symbols, lt-ltb st.symbols 512 few)

  alloc_full : 512 ≤ st.symbols → allocated ≡ refused 12 (parts_of node).source
  unfolding alloc guard
  alloc_full full = rw (syms_length bs ws st.symbols, le-ltb st.symbols 512 full)

  pub full_answers : 512 ≤ st.symbols → Answers bs ws t st allocated ws (over_full st node)
  full_answers full = record {
    rep = rep;
    leaves = leaves_none ws st;
    low = tt;
    is = out_full bs ws t st node ∙ sym (alloc_full full);
  }

  module _ {ws₁ : List ℕ} {st₁ : State} {levels : ℕ} (m : ℕ) (few : st.symbols < 512) (opened : Open t st.entries)
      (done : Pushed bs ws st cur node held count levels ws₁ st₁) where
    abbrev ws₂ : List ℕ
    ws₂ = set ws₁ (ENTRIES.first + st₁.entries) (st.symbols + 512 * m)

    newest : st.symbols < st₁.symbols
    newest = omega (arith, pushed_symbols done)

    still_open : Open t st₁.entries
    still_open = subst (Open t) (sym (pushed_entries done)) opened

    frame : Frame (ENTRIES.first + st₁.entries) (end ENTRIES) ws₁ ws₂
    frame = frame_store (ENTRIES.first + st₁.entries) (end ENTRIES) (ENTRIES.first + st₁.entries)
        (st.symbols + 512 * m) ws₁ (omega arith) (omega (arith, pushed_entries done, rep.entries.few))

    same : Same ws₁ ws₂ st₁
    same = record {
      still = still_above frame (omega arith) done.rep.slots.few done.rep.arena.scoped;
      lists = λ g. lists_agree g ws₁ ws₂ st₁.symbols done.rep.arena.scoped.few
          (λ k l r. frame.before k (omega arith));
      entries = λ k l r. frame.before k r;
      memo = λ k l r. frame.after k l;
    }

    room : ENTRIES.first + st₁.entries < length ws₁
    room = omega (arith, pushed_entries done, rep.entries.few, done.rep.words)

    abs_shared : abs_of bs ws₂ t (entered st₁) ≡ shared_push
    unfolding push
    abs_shared =
        let made = done.is t opened in
        let kept = abs_same bs ws₁ ws₂ st₁ done.rep same t still_open ∙ made in
        rw (
          entered-tables t st₁.entries still_open ws₁ st.symbols m few room,
          ap (λ (z : intern.State). z.tables) made,
          ap (λ (z : intern.State). z.syms) kept,
          ap (λ (z : intern.State). z.scopes) kept,
          ap (λ (z : intern.State). z.memo) kept,
          ap (λ (z : intern.State). z.readings) kept,
          syms_length bs ws st.symbols,
        )

    rep_shared : m ≡ hint_of bs ws₁ st.symbols → Rep bs ws₂ (entered st₁)
    rep_shared own =
        let new = done.rep in
        let old = rep_same bs ws₁ ws₂ st₁ new same in
        rep_with old (record {
          few = omega (arith, pushed_symbols done, pushed_entries done, rep.entries.few);
          below = entered_below t st₁.entries still_open ws₁ st.symbols m few room st₁.symbols
              new.entries.below newest;
          hinted = entered_hinted t st₁.entries still_open ws₁ st.symbols m few room bs st₁.slots
              st₁.symbols (used_sound bs ws₁ st₁ new) new.slots.few new.arena.scoped.few
              new.entries.below newest new.entries.hinted own;
        }) old.memo old.few_readings

    leaves_entered : Leaves ws₁ ws₂ st₁ (entered st₁)
    leaves_entered = record {
      frame = frame_wider (ENTRIES.first + st₁.entries) (end ENTRIES) SYMBOLS.first PENDING.first ws₁ ws₂ frame
          (omega arith) (omega arith);
      scope_words = λ k l r. frame.before k (omega arith);
      scopes = refl;
      entries = omega arith;
      readings = refl;
      more = omega arith;
    }

    own-hint : (p : Parts) → p ≡ parts_of node →
        m ≡ hint (row_at bs p.source).rec.opcode (pending_from ws held count) → m ≡ hint_of bs ws₁ st.symbols
    own-hint p is h =
        h ∙ rw (is, ← key_opcode bs (parts_of node).source (parts_of node).field) (sym done.hinted)

    pub shared_answers : {p : Parts} {ws' : List ℕ} → p ≡ parts_of node →
        m ≡ hint (row_at bs p.source).rec.opcode (pending_from ws held count) → ws' ≡ ws₂ →
        Answers bs ws t st allocated ws' (given (entered st₁) st.symbols)
    shared_answers {p} is h d = rw d (record {
      rep = rep_shared (own-hint p is h);
      leaves = leaves_then done.leaves leaves_entered;
      low = omega (arith, pushed_symbols done);
      is = out-given bs ws₂ t (entered st₁) st.symbols
          ∙ ap (λ (z : intern.State). good (st.symbols, z)) abs_shared
          ∙ sym (alloc_good few);
    })
