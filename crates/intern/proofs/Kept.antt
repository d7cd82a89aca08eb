-- What is kept of the words and the state, step after step.
-- In order: words; words and state; stores that a state does not hang on; a child's symbol stored, and its definition
-- bound.
-- Assumes nothing.
use Prim.Native.Nat.{ℕ, suc, ◌+◌, ◌*◌, ◌<◌, ◌≤◌}
use mathlib.Core.Path.{◌≡◌, refl, ap, ◌∙◌}
use mathlib.Core.List.{List, [], ◌∷◌, ◌++◌}
use native.Mathlib.Omega.{arith}
use lib.ListN.{set, get_or}
use lib.Seq.{get_or-set_same}
use Rattle.regions.specs.Regions.{SCOPES, MEMO, PENDING, BINDINGS, end}
use Rattle.model.specs.Intern.{bind_def}
use Rattle.laws.specs.Frame.{Frame}
use Rattle.laws.proofs.Frame.{frame_none, frame_then, frame_wider, frame_store}
use Rattle.walk.specs.Walk.{tree_at}
use Rattle.symbols.specs.Words.{pending_from}
use Rattle.symbols.proofs.Words.{words_more, words_agree}
use Rattle.bindings.specs.Bindings.{env_of}
use Rattle.bindings.specs.Made.{DefBound}
use Rattle.bindings.proofs.Laws.{env_words}
use Rattle.tables.specs.declared.Tables.{Tables}
use Rattle.tables.specs.Tables.{Open}
use Rattle.interner.specs.declared.State.{State}
use Rattle.interner.specs.State.{abs_of, Rep}
use Rattle.interner.specs.Step.{Leaves}
use Rattle.interner.proofs.Same.{same_above, rep_same, abs_same}
use Rattle.intern.specs.declared.Here.{Here}
use Rattle.intern.specs.Words.{INTERNING, Words, Kept}

-- ---- words

pub in_interning : {lo hi : ℕ} {ws ws' : List ℕ} → Frame lo hi ws ws' → hi ≤ end INTERNING →
    Frame INTERNING.first (end INTERNING) ws ws'
in_interning {lo} {hi} {ws} {ws'} f le = frame_wider lo hi INTERNING.first (end INTERNING) ws ws' f (omega arith) le

words_none : (n held top : ℕ) (ws : List ℕ) → Words n held top ws ws
words_none n held top ws = record {
  frame = frame_none INTERNING.first (end INTERNING) ws;
  scopes = λ k l r. refl;
  pending = λ k l r. refl;
  bound = λ k l r. refl;
}

pub words_then : {n held top m held' top' : ℕ} {ws ws₁ ws₂ : List ℕ} → n ≤ m → held ≤ held' → top ≤ top' →
    Words n held top ws ws₁ → Words m held' top' ws₁ ws₂ → Words n held top ws ws₂
words_then {ws = ws} {ws₁} {ws₂} a b c h g = record {
  frame = frame_then INTERNING.first (end INTERNING) ws ws₁ ws₂ h.frame g.frame;
  scopes = λ k l r. g.scopes k l (omega arith) ∙ h.scopes k l r;
  pending = λ k l r. g.pending k l (omega arith) ∙ h.pending k l r;
  bound = λ k l r. g.bound k l (omega arith) ∙ h.bound k l r;
}

-- a scope opened after the first n
pub scope_words : (n held top m : ℕ) (ws ws' : List ℕ) → n ≤ m → Frame (SCOPES.first + m) (end SCOPES) ws ws' →
    Words n held top ws ws'
scope_words n held top m ws ws' le f = record {
  frame = in_interning f (omega arith);
  scopes = λ k l r. f.before k (omega arith);
  pending = λ k l r. f.after k (omega arith);
  bound = λ k l r. f.after k (omega arith);
}

-- ---- words and state

pub kept_none : (at : Here) (ws : List ℕ) (st : State) → Kept at ws ws st st
kept_none at ws st = record { words = words_none st.scopes at.held at.top ws; scopes = omega arith }

pub kept_then : {at at' : Here} {ws ws₁ ws₂ : List ℕ} {st st₁ st₂ : State} → at.held ≤ at'.held →
    at.top ≤ at'.top → Kept at ws ws₁ st st₁ → Kept at' ws₁ ws₂ st₁ st₂ → Kept at ws ws₂ st st₂
kept_then a b h g = record {
  words = words_then h.scopes a b h.words g.words;
  scopes = omega (arith, h.scopes, g.scopes);
}

-- a step that makes symbols only
pub leaves_kept : (at : Here) {ws ws' : List ℕ} {st st' : State} → st.scopes ≤ 2049 → Leaves ws ws' st st' →
    Kept at ws ws' st st'
leaves_kept at {ws} {ws'} few h = record {
  words = record {
    frame = in_interning h.frame (omega arith);
    scopes = λ k l r. h.scope_words k l (omega arith);
    pending = λ k l r. h.frame.after k l;
    bound = λ k l r. h.frame.after k (omega arith);
  };
  scopes = omega (arith, h.scopes);
}

-- ---- stores that a state does not hang on

module _ {bs ws ws' : List ℕ} {st : State} (rep : Rep bs ws st) {lo hi : ℕ} (f : Frame lo hi ws ws')
    (le : PENDING.first ≤ lo) where
  room : MEMO.first + st.memo ≤ lo
  room = omega (arith, le, rep.memo.few, rep.arena.scoped.few)

  pub later_rep : Rep bs ws' st
  later_rep = rep_same bs ws ws' st rep (same_above bs ws ws' st rep lo hi room f)

  pub later_abs : (t : Tables) → Open t st.entries → abs_of bs ws' t st ≡ abs_of bs ws t st
  later_abs = abs_same bs ws ws' st rep (same_above bs ws ws' st rep lo hi room f)

-- bindings changed above `top`
pub beside_words : (n held : ℕ) {top r : ℕ} {ws ws' : List ℕ} → n ≤ 2049 → held ≤ PENDING.size → r ≤ 1200 →
    Frame (BINDINGS.first + 2 * top) (BINDINGS.first + 2 * r) ws ws' → Words n held top ws ws'
beside_words n held {top} {r} {ws} {ws'} few pend room h = record {
  frame = in_interning h (omega arith);
  scopes = λ k l r. h.before k (omega arith);
  pending = λ k l r. h.before k (omega arith);
  bound = λ k l r. h.before k (omega arith);
}

-- ---- a child's symbol stored at word p, and its definition bound

pub record ChildStored (bs ws : List ℕ) (t : Tables) (st : State) (i held top symbol : ℕ) (ws' : List ℕ) (top' : ℕ) : Type 0
  where
    pub rep : Rep bs ws' st
    pub abs : abs_of bs ws' t st ≡ abs_of bs ws t st
    pub env : env_of ws' top' ≡ bind_def (tree_at bs i) symbol (env_of ws top)
    pub words : (n : ℕ) → n ≤ 2049 → Words n held top ws ws'
    pub pending : (from j : ℕ) → from + j ≡ held →
        pending_from ws' from (suc j) ≡ pending_from ws from j ++ (symbol ∷ [])

module _ {bs ws : List ℕ} {t : Tables} {st : State} {i held top symbol : ℕ} {ws' : List ℕ} {top' : ℕ}
    (rep : Rep bs ws st) (open' : Open t st.entries) (pend : held < PENDING.size) (room : top < 1200)
    (d : DefBound bs i top symbol (set ws (PENDING.first + held) symbol) ws' top') where
  abbrev ws₁ : List ℕ
  ws₁ = set ws (PENDING.first + held) symbol

  first : Frame (PENDING.first + held) (end PENDING) ws ws₁
  first = frame_store (PENDING.first + held) (end PENDING) (PENDING.first + held) symbol ws (omega arith) (omega arith)

  both : Frame PENDING.first (end BINDINGS) ws ws'
  both =
      frame_then PENDING.first (end BINDINGS) ws ws₁ ws'
      (frame_wider (PENDING.first + held) (end PENDING) PENDING.first (end BINDINGS) ws ws₁ first (omega arith)
      (omega arith))
      (frame_wider (BINDINGS.first + 2 * top) (BINDINGS.first + 2 * top') PENDING.first (end BINDINGS) ws₁ ws'
      d.kept (omega arith) (omega (arith, d.most)))

  stored_env : env_of ws' top' ≡ bind_def (tree_at bs i) symbol (env_of ws top)
  stored_env =
      d.env
      ∙ ap (bind_def (tree_at bs i) symbol)
      (env_words ws₁ ws top (λ k l r. first.after k (omega arith)))

  stored_words : (n : ℕ) → n ≤ 2049 → Words n held top ws ws'
  stored_words n few = words_then (omega arith) (omega arith) (omega arith) (record {
    frame = in_interning first (omega arith);
    scopes = λ k l r. first.before k (omega arith);
    pending = λ k l r. first.before k r;
    bound = λ k l r. first.after k l;
  }) (beside_words n held few (omega arith) (omega (arith, d.most)) d.kept)

  stored_at : get_or ws' (PENDING.first + held) 0 ≡ symbol
  stored_at =
      d.kept.before (PENDING.first + held) (omega arith)
      ∙ get_or-set_same ws (PENDING.first + held) symbol 0 (omega (arith, rep.words))

  stored_pending : (from j : ℕ) → from + j ≡ held →
      pending_from ws' from (suc j) ≡ pending_from ws from j ++ (symbol ∷ [])
  stored_pending from j e =
      let at : PENDING.first + from + j ≡ PENDING.first + held = omega arith in
      let old : pending_from ws' from j ≡ pending_from ws from j =
      words_agree ws ws' (PENDING.first + from) j (λ k l r. (stored_words 0 (omega arith)).pending k (omega arith) (omega
      arith)) in
      words_more ws' (PENDING.first + from) j ∙ rw (at, old, stored_at)

  pub stored : ChildStored bs ws t st i held top symbol ws' top'
  stored = record {
    rep = later_rep rep both (omega arith);
    abs = later_abs rep both (omega arith) t open';
    env = stored_env;
    words = stored_words;
    pending = stored_pending;
  }
