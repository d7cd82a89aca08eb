-- Interning a checked tree keeps a state sound, from any state: `intern_keeps`, `all_keep`, and `child_keeps` of an
-- operand; and `forest_keeps`, of a forest from the start, whose limits are 512 symbols, 2,048 readings, 2,049 scopes
-- and 2,560 child slots.
-- In order: thunks; trees; forests.
-- Assumes nothing.
use mathlib.Core.Path.{◌≡◌, refl, ap}
use mathlib.Core.Logic.{inl, inr}
use mathlib.Core.Bool.{Bool, true, false}
use Rattle.std.specs.Prelude.{None}
use mathlib.Core.List.{List, [], ◌∷◌, ◌++◌}
use Prim.Native.Nat.{ℕ, zero, suc, ◌+◌, ◌≤◌, ◌<◌}
use native.Mathlib.Omega.{arith}
use lib.Dec.{ltb}
use lib.ListN.{length}
use borrow.Author.Tests.{ltb-true}
use Rattle.model.specs.Tree.{Tree, Trees, node, nil, cons, many, size}
use Rattle.model.specs.Faults.{faults}
use Rattle.model.specs.Binding.{kind, inside, after, unbound, unbound_in}
use Rattle.model.specs.Intern.{State, Out, Env, start, read, bind_def, open_thunk, close_thunk, drop_first, recall, thunked}
use Rattle.model.specs.Intern.{branch, intern_scoped, intern_kind, intern, intern_all, intern_forest}
use Rattle.laws.proofs.Apart.{none_some}
use Rattle.laws.specs.Clear.{Clear}
use Rattle.laws.proofs.Clear.{clear_left, clear_right}
use Rattle.laws.proofs.Holds.{Holds, holds_bind, holds_guard, holds_map}
use Rattle.laws.proofs.Members.{clash}
use Rattle.laws.proofs.Walks.{every_cons}
use Rattle.laws.specs.Members.{Under}
use Rattle.theory.specs.Checked.{Fine, Fines, CheckedIn}
use Rattle.theory.specs.Good.{args_in, sym_count, scope_count}
use Rattle.theory.proofs.Interning.Inv.{any_opened, any_closed}
use Rattle.theory.specs.Sound.{TreeHas, TreesHave, scope_of, StateSound, Room, thunks, Pays}
use Rattle.theory.proofs.Bounds.Sound.{room_less, keeps_none}
use Rattle.theory.proofs.Bounds.Sound.{keeps_then, keeps_less, KeepsOne, KeepsAll, one_then, all_then}
use Rattle.theory.proofs.Bounds.Steps.{sound_same, open_sound, open_room, open_more, read_sound, read_room}
use Rattle.theory.proofs.Bounds.Kinds.{EnvLow, env_more, env_def, plain_kids, kind_keeps}

-- ---- thunks

drop-one : (n : ℕ) (ts : List (List ℕ)) → length ts ≡ suc n → length (drop_first ts) ≡ n
drop-one n [] e = absurd (omega arith)
drop-one n (t ∷ ts) e = omega arith

close_keeps : (B : ℕ → Type 0) (cur : ℕ) (st : State) (k c : ℕ) (o : ℕ × State) → 1 ≤ length st.tables →
    KeepsOne B (open_thunk cur st) k c o → KeepsOne B st k c (o.0, close_thunk o.1)
close_keeps B cur st k c o Some w = record {
  keeps = record {
    sound = sound_same (drop_first o.1.tables) o.1.memo o.1.readings s.few_readings
        (omega (arith, Some, dropped)) (λ i h. s.tables_low i (any_closed i o.1.tables h)) s.memo_low s;
    room = record { slots_paid = w.keeps.room.slots_paid; scopes_paid = w.keeps.room.scopes_paid };
    more_syms = w.keeps.more_syms;
    more_scopes = omega (arith, open_more cur None ([] ∷ st.tables) st, w.keeps.more_scopes);
    tables_kept = dropped;
  };
  low = w.low;
}
  where
    s : StateSound B o.1
    s = w.keeps.sound

    dropped : length (drop_first o.1.tables) ≡ length st.tables
    dropped = drop-one (length st.tables) o.1.tables w.keeps.tables_kept

-- a child in its own thunk takes the scope that its reading pays for
abbrev pub scope_free : Bool → ℕ → ℕ
scope_free true c = c
scope_free false c = suc c

pub record Scoped (B : ℕ → Type 0) (t : Bool) (st : State) (k c : ℕ) (o : ℕ × State) : Type 0 where
  pub one : KeepsOne B st k (scope_free t c) o
  pub opened : t ≡ true → scope_count st < scope_count o.1

pub thunk_sound : (B : ℕ → Type 0) (cur : ℕ) (st : State) → StateSound B st → cur < scope_count st →
    StateSound B (open_thunk cur st)
thunk_sound B cur st h l =
    open_sound B cur None ([] ∷ st.tables) st h l (λ x i. absurd i) (omega arith)
    (λ i k. any_opened i st.tables k)

scoped_keeps : (B : ℕ → Type 0) (t : Bool) (cur : ℕ) (child : ℕ → State → Out) (st : State) (k c : ℕ) → StateSound B st →
    cur < scope_count st → Room st k c → (t ≡ true → 1 ≤ c) →
    ((d : ℕ) (s : State) (e : ℕ) → StateSound B s → d < scope_count s → sym_count s ≡ sym_count st → Room s k e →
    Holds (KeepsOne B s (suc k) (suc e)) (child d s)) →
    Holds (Scoped B t st (suc k) c) (intern_scoped t cur child st)
unfolding intern_scoped
scoped_keeps B false cur child st k c h l rm p ch =
    holds_map (KeepsOne B st (suc k) (suc c)) (Scoped B false st (suc k) c) (child cur st) (ch cur st c h l refl rm)
    λ o w.
    record { one = w; opened = λ e. absurd (clash false e refl) }
scoped_keeps B true cur child st k zero h l rm p ch = absurd (omega (arith, p refl))
scoped_keeps B true cur child st k (suc c) h l rm p ch =
    holds_bind (KeepsOne B (open_thunk cur st) (suc k) (suc c)) (Scoped B true st (suc k) (suc c)) _ _
    (ch (scope_count st) (open_thunk cur st) c (thunk_sound B cur st h l)
    (omega (arith, open_more cur None ([] ∷ st.tables) st)) refl (open_room cur None ([] ∷ st.tables) st k c rm))
    λ o w.
    record {
      one = close_keeps B cur st (suc k) (suc c) o h.tables_open w;
      opened = λ e. omega (arith, open_more cur None ([] ∷ st.tables) st, w.keeps.more_scopes);
    }

-- ---- trees

pub free_more : {c : ℕ} (b : Bool) → 1 ≤ c → 1 ≤ scope_free b c
free_more true l = l
free_more false l = omega arith

-- one child, and then the others
module _ (B : ℕ → Type 0) (op j : ℕ) (ts : Trees) (st st1 : State) (k c s : ℕ) (os : List ℕ × List ℕ × State) where
  cons_keeps : (b : Bool) → Scoped B b st (suc k) c (s, st1) →
      thunked op j ≡ b →
      KeepsAll B st1 (suc k + many ts) (scope_free b c + plain_kids op (suc j) ts) (many ts) op (suc j) os →
      KeepsAll B st (k + suc (many ts)) (c + elim b [
        | true ↦ plain_kids op (suc j) ts
        | false ↦ suc (plain_kids op (suc j) ts)
      ])
      (suc (many ts)) op j (s ∷ os.0, branch b (scope_count st) os.1, os.2)
  cons_keeps b w e v = record {
    keeps = keeps_then w.one.keeps
        (keeps_less v.keeps (omega arith) (free b));
    low = every_cons (λ x. x < sym_count os.2) s os.0 (omega (arith, w.one.low, v.keeps.more_syms)) v.low;
    count = ap suc v.count;
    branches = scopes b w.opened;
    thunks_are = counted b e;
  }
    where
      free : (b : Bool) → c + elim b [ true ↦ plain_kids op (suc j) ts | false ↦ suc (plain_kids op (suc j) ts) ] ≤
          scope_free b c + plain_kids op (suc j) ts
      free true = omega arith
      free false = omega arith

      scopes : (b : Bool) → (b ≡ true → scope_count st < scope_count st1) →
          Under (scope_count os.2) (branch b (scope_count st) os.1)
      scopes true o x (inl e) = omega (arith, o refl, v.keeps.more_scopes)
      scopes true o x (inr i) = v.branches x i
      scopes false o x i = v.branches x i

      counted : (b : Bool) → thunked op j ≡ b → length (branch b (scope_count st) os.1) ≡ thunks op j (s ∷ os.0)
      counted true e = rw (e, thunks) (ap suc v.thunks_are)
      counted false e = rw (e, thunks) v.thunks_are

module _ (B : ℕ → Type 0) (b0 : B 0) (b1 : B 1) (b2 : B 2) where
  mutual
    unfolding intern faults many

    pub intern_keeps : (t : Tree) (ids : List ℕ) → TreeHas B t → Fine t → Clear (unbound t ids) →
        (at cur : ℕ) (env : Env) (st : State) (k c : ℕ) → StateSound B st → cur < scope_count st →
        EnvLow ids env (sym_count st) → Room st k c → Holds (KeepsOne B st (suc k) (suc c)) (intern t at cur env st)
    intern_keeps (node r ts) ids has fine known at cur env st k c h l en rm =
        holds_guard (KeepsOne B st (suc k) (suc c)) (ltb st.readings 2048) 11 at _ λ e.
        let s = read_sound B st (ltb-true st.readings 2048 e) h in
        let rm' = read_room st k c rm in
        holds_map (KeepsOne B (read st) (suc k) (suc c)) (KeepsOne B st (suc k) (suc c))
        (intern_kind (kind r.shape) at cur r env (λ c e s. intern_all ts r.opcode 0 (suc at) c e s) (read st))
        (kind_keeps B b0 b1 b2 at cur r ts has.0 fine ids known env
        (λ c e s. intern_all ts r.opcode 0 (suc at) c e s)
        (λ cr en s j d hs ls es rs ps. all_keep ts (inside r ++ ids) has.1 fine.2 known.1 r.opcode
        0 (suc at) cr en s j d hs ls es rs ps)
        (read st) k c s l en rm' (kind r.shape) refl) λ o w.
        one_then (record {
          sound = s;
          room = rm';
          more_syms = omega arith;
          more_scopes = omega arith;
          tables_kept = refl;
        }) w

    pub all_keep : (ts : Trees) (ids : List ℕ) → TreesHave B ts → Fines ts → Clear (unbound_in ts ids) →
        (op j at cur : ℕ) (env : Env) (st : State) (k c : ℕ) → StateSound B st → cur < scope_count st →
        EnvLow ids env (sym_count st) → Room st k c → Pays op c →
        Holds (KeepsAll B st (k + many ts) (c + plain_kids op j ts) (many ts) op j) (intern_all ts op j at cur env st)
    all_keep nil ids has fine known op j at cur env st k c h l en rm ps =
        record {
          keeps = keeps_none h (room_less st k c (k + 0) (c + 0) (omega arith) (omega arith) rm);
          low = λ x i. absurd i;
          count = refl;
          branches = λ x i. absurd i;
          thunks_are = refl;
        }
    all_keep (cons t ts) ids has fine known op j at cur env st k c h l en rm ps =
        holds_bind (Scoped B (thunked op j) st (suc k) c)
        (KeepsAll B st (k + suc (many ts)) (c + plain_kids op j (cons t ts)) (suc (many ts)) op j) _ _
        (scoped_keeps B (thunked op j) cur (λ d s. intern t at d env s) st k c h l rm (λ e. ps j e) λ d s e hs ls ss rs.
        intern_keeps t ids has.0 fine.0 (clear_left (unbound t ids) _ known) at d env s k e hs ls
        (env_more ids env (sym_count st) (sym_count s) (omega arith) en) rs) λ o w.
        holds_bind (KeepsAll B o.1 (suc k + many ts) (scope_free (thunked op j) c + plain_kids op (suc j) ts) (many ts)
        op (suc j))
        (KeepsAll B st (k + suc (many ts)) (c + plain_kids op j (cons t ts)) (suc (many ts)) op j) _ _
        (all_keep ts (after t ++ ids) has.1 fine.1 (clear_right (unbound t ids) _ known) op (suc j)
        (at + size t) cur
        (bind_def t o.0 env) o.1 (suc k) (scope_free (thunked op j) c) w.one.keeps.sound
        (omega (arith, w.one.keeps.more_scopes))
        (env_def t o.0 ids env (sym_count o.1) w.one.low
        (env_more ids env (sym_count st) (sym_count o.1) w.one.keeps.more_syms en))
        w.one.keeps.room (λ i e. free_more (thunked op j) (ps i e))) λ os v.
        cons_keeps B op j ts st o.1 k c o.0 os (thunked op j) w refl v

  -- a tree as an operand, in its own thunk or not
  pub child_keeps : (t : Tree) (ids : List ℕ) → TreeHas B t → Fine t → Clear (unbound t ids) →
      (op j at cur : ℕ) (env : Env) (st : State) (k c : ℕ) → StateSound B st → cur < scope_count st →
      EnvLow ids env (sym_count st) → Room st k c → Pays op c →
      Holds (Scoped B (thunked op j) st (suc k) c) (intern_scoped (thunked op j) cur (λ d s. intern t at d env s) st)
  child_keeps t ids has fine known op j at cur env st k c h l en rm ps =
      scoped_keeps B (thunked op j) cur (λ d s. intern t at d env s) st k c h l rm (λ e. ps j e) λ d s e hs ls ss rs.
      intern_keeps t ids has fine known at d env s k e hs ls
      (env_more ids env (sym_count st) (sym_count s) (omega arith) en) rs

-- ---- forests

pub start_sound : (B : ℕ → Type 0) → StateSound B start
unfolding start recall
start_sound B = record {
  few_symbols = omega arith;
  few_readings = omega arith;
  syms_sound = λ i l. absurd (omega arith);
  tables_open = omega arith;
  tables_low = λ i h. absurd (any_opened i [] h);
  memo_low = λ p a b e. none_some e;
  around_low = λ b l. none_around b (omega arith);
  args_low = λ b l. no_args b (omega arith);
}
  where
    none_around : (b : ℕ) → b ≡ 0 → Under b (scope_of start b).around
    none_around b e = rw e (λ x i. absurd i)

    no_args : (b : ℕ) → b ≡ 0 → Under 0 (args_in (scope_of start b).args)
    no_args b e = rw e (λ x i. absurd i)

pub start_room : Room start 0 0
unfolding start
start_room = record { slots_paid = omega arith; scopes_paid = omega arith }

-- a state reached from the start has room for what stands in it
pub forest_keeps : (B : ℕ → Type 0) → B 0 → B 1 → B 2 → (ts : Trees) → TreesHave B ts → CheckedIn ts false [] →
    Holds (KeepsAll B start (many ts) (plain_kids 0 0 ts) (many ts) 0 0) (intern_forest ts)
unfolding intern_forest thunked start
forest_keeps B b0 b1 b2 ts has c =
    holds_map (KeepsAll B start (0 + many ts) (0 + plain_kids 0 0 ts) (many ts) 0 0)
    (KeepsAll B start (many ts) (plain_kids 0 0 ts) (many ts) 0 0) (intern_forest ts)
    (all_keep B b0 b1 b2 ts [] has c.fine c.known 0 0 0 0 [] start 0 0 (start_sound B) (omega arith)
    (λ i h. absurd h) start_room
    (λ j e. absurd (clash false e refl))) λ os w.
    all_then (keeps_none (start_sound B) start_room) w (omega arith) (omega arith)
