-- Each step of interning keeps a state sound, and takes no more slots and scopes than are paid for.
-- In order: a new symbol; the symbol of a key; arguments; projections; scopes that open and close.
-- Assumes nothing.
use mathlib.Core.Path.{◌≡◌, refl, ap, sym, ◌∙◌}
use mathlib.Core.Logic.{◌⊎◌, inl, inr}
use mathlib.Core.Bool.{Bool, true, false}
use Rattle.std.specs.Prelude.{Option, None, Some}
use mathlib.Core.List.{List, [], ◌∷◌, ◌++◌}
use Prim.Native.Nat.{ℕ, suc, ◌+◌, ◌≤◌, ◌<◌}
use native.Mathlib.Omega.{arith}
use lib.Dec.{eqb, ltb}
use lib.ListN.{length, length-append, get_or, get_or-append}
use lib.Seq.{get_or-append_seam}
use borrow.Author.Tests.{ltb-true}
use Rattle.model.specs.Lists.{any_in, without}
use Rattle.model.specs.Answer.{good}
use Rattle.model.specs.Tree.{Rec, rec}
use Rattle.model.specs.Intern.{Node, argument, operation, Sym, Scope, State, Out, sym_at, no_sym, root_scope, climb}
use Rattle.model.specs.Intern.{placement, union_deps, enter, push, alloc, finish, alloc_args, open_scope, recall}
use Rattle.model.specs.Intern.{remember, pick, new_projections, pair_projection, thunked, read}
use Rattle.laws.proofs.Slots.{slots_more}
use Rattle.laws.proofs.Walks.{if_holds, every_cons}
use Rattle.laws.proofs.Holds.{Holds, holds_guard, holds_bind}
use Rattle.laws.specs.Members.{Under}
use Rattle.laws.proofs.Members.{without_cases}
use Rattle.theory.specs.Good.{args_in, sym_count, scope_count}
use Rattle.theory.specs.Inv.{InAny}
use Rattle.theory.proofs.Interning.Inv.{lt_or, recall_cases}
use Rattle.theory.proofs.Interning.Push.{new_sym, enter_cases, union_deps_from, one_more}
use Rattle.theory.proofs.Interning.Finish.{lookup_found, finish_cases}
use Rattle.theory.specs.Sound.{RecHas, thunks, NodeSound, SymSound, scope_of, StateSound, Room}
use Rattle.theory.proofs.Bounds.Sound.{room_less, keeps_none, keeps_then, KeepsOne, KeepsArgs, one_less}
use Rattle.theory.proofs.Bounds.Sound.{sym_more}

-- ---- a new symbol

-- the scopes from `cur` outward
outward_low : (B : ℕ → Type 0) (cur : ℕ) (st : State) → StateSound B st → cur < scope_count st →
    Under (scope_count st) (cur ∷ (scope_of st cur).around)
outward_low B cur st h l x (inl e) = omega arith
outward_low B cur st h l x (inr i) = omega (arith, h.around_low cur l x i)

climb_low : (scs : List Scope) (deps l : List ℕ) (m : ℕ) → 0 < m → Under m l → climb scs deps l < m
unfolding climb
climb_low scs deps [] m z h = z
climb_low scs deps (s ∷ l) m z h = go (get_or scs s root_scope).args (climb_low scs deps l m z (λ x i. h x (inr i)))
  where
    go : (o : Option (List ℕ)) → climb scs deps l < m →
        elim o [ None ↦ s | Some xs ↦ elim (any_in xs deps) [ true ↦ s | false ↦ climb scs deps l ] ] < m
    go None r = h s (inl refl)
    go (Some xs) r = if_holds (λ x. x < m) (any_in xs deps) s (climb scs deps l) (h s (inl refl)) r

pub enter_low : (n m : ℕ) (ts : List (List ℕ)) → m < n → ((i : ℕ) → InAny i ts → i < n) → (i : ℕ) → InAny i (enter m ts) →
    i < n
enter_low n m ts l h i k = elim (enter_cases i m ts k) [ inl e ↦ omega arith | inr j ↦ h i j ]

pub enter-length : (n : ℕ) (ts : List (List ℕ)) → length (enter n ts) ≡ length ts
enter-length n [] = refl
enter-length n (t ∷ ts) = refl

module _ (B : ℕ → Type 0) (at cur : ℕ) (r : Rec) (has : RecHas B r) where
  push_keeps : (ks deps : List ℕ) (b : Bool) (nd : Node) (st : State) (k c : ℕ) → StateSound B st → cur < scope_count st →
      sym_count st < 512 → Under (sym_count st) ks → Under (suc (sym_count st)) deps →
      NodeSound B (sym_count st) (scope_count st) r ks nd →
      Room st (k + length ks) c → KeepsOne B st (suc k) c (sym_count st, push cur r ks deps b nd st)
  unfolding push placement
  push_keeps ks deps b nd st k c h cl few kl dl ns rm = record {
    keeps = record {
      sound = record {
        few_symbols = omega (arith, more);
        few_readings = h.few_readings;
        syms_sound = λ i l. syms i (lt_or i n (omega (arith, more)));
        tables_open = omega (arith, h.tables_open, kept);
        tables_low = tables;
        memo_low = λ p x y e. (
          omega (arith, (h.memo_low p x y e).0, more),
          omega (arith, (h.memo_low p x y e).1, more),
        );
        around_low = h.around_low;
        args_low = λ s l x i. omega (arith, h.args_low s l x i, more);
      };
      room = record {
        slots_paid = omega (arith, rm.slots_paid, more, slots_more st.syms new);
        scopes_paid = rm.scopes_paid;
      };
      more_syms = omega (arith, more);
      more_scopes = omega arith;
      tables_kept = kept;
    };
    low = omega (arith, more);
  }
    where
      n : ℕ
      n = sym_count st

      next : State
      next = push cur r ks deps b nd st

      new : Sym
      new = new_sym cur r ks deps nd st

      more : length (st.syms ++ (new ∷ [])) ≡ suc (sym_count st)
      more = one_more st.syms new

      old : (i : ℕ) → i < sym_count st → sym_at (st.syms ++ (new ∷ [])) i ≡ sym_at st.syms i
      old i l = get_or-append st.syms (new ∷ []) no_sym i l

      last : sym_at (st.syms ++ (new ∷ [])) (sym_count st) ≡ new
      last = get_or-append_seam st.syms new [] no_sym

      placed : climb st.scopes deps (cur ∷ (scope_of st cur).around) < scope_count st
      placed = climb_low st.scopes deps _ (scope_count st) (omega arith) (outward_low B cur st h cl)

      new_sound : SymSound B (sym_count st) (scope_count st) new
      new_sound = record { kids_low = kl; deps_low = dl; scope_low = placed; rec_has = has; node_sound = ns }

      syms : (i : ℕ) → (i < sym_count st) ⊎ (i ≡ sym_count st) →
          SymSound B i (scope_count st) (sym_at (st.syms ++ (new ∷ [])) i)
      syms i (inl l) = rw (old i l) (h.syms_sound i l)
      syms i (inr e) = rw (e, last) new_sound

      tables : (i : ℕ) → InAny i next.tables → i < length (st.syms ++ (new ∷ []))
      tables =
          if_holds (λ ts. (i : ℕ) → InAny i ts → i < length (st.syms ++ (new ∷ []))) b (enter n st.tables)
          st.tables
          (enter_low _ n st.tables (omega (arith, more)) (λ i k. omega (arith, h.tables_low i k, more)))
          (λ i k. omega (arith, h.tables_low i k, more))

      kept : length next.tables ≡ length st.tables
      kept =
          if_holds (λ ts. length ts ≡ length st.tables) b (enter n st.tables) st.tables
          (enter-length n st.tables) refl

  alloc_keeps : (ks deps : List ℕ) (b : Bool) (nd : Node) (st : State) (k c : ℕ) → StateSound B st → cur < scope_count st →
      Under (sym_count st) ks → Under (suc (sym_count st)) deps → NodeSound B (sym_count st) (scope_count st) r ks nd →
      Room st (k + length ks) c → Holds (KeepsOne B st (suc k) c) (alloc at cur r ks deps b nd st)
  unfolding alloc
  alloc_keeps ks deps b nd st k c h cl kl dl ns rm =
      holds_guard (KeepsOne B st (suc k) c) (ltb (sym_count st) 512) 12 at _ λ e.
      push_keeps ks deps b nd st k c h cl (ltb-true (sym_count st) 512 e) kl dl ns rm

  -- the symbol of a key, found or made: room for j slots is left, if there is room for all of them before or for the
  -- new ones
  pub finish_keeps : (ks own : List ℕ) (nd : Node) (st : State) (k c j : ℕ) → j ≤ k + length ks → j ≤ suc k →
      StateSound B st → cur < scope_count st → Under (sym_count st) ks → NodeSound B (sym_count st) (scope_count st) r ks nd →
      Room st (k + length ks) c → Holds (KeepsOne B st j c) (finish at cur r ks own nd st)
  finish_keeps ks own nd st k c j lj ls h cl kl ns rm =
      finish_cases (KeepsOne B st j c) at cur r ks own nd st
      (λ i e. record {
        keeps = keeps_none h (room_less st (k + length ks) c j c lj (omega arith) rm);
        low = h.tables_low i (lookup_found st.syms r ks st.tables i e).0;
      })
      (λ e l. one_less (push_keeps ks deps true nd st k c h cl l kl deps_low ns rm) ls (omega arith))
    where
      deps : List ℕ
      deps = without (union_deps st.syms ks) own

      deps_low : Under (suc (sym_count st)) (without (union_deps st.syms ks) own)
      deps_low a i =
          let w = union_deps_from st.syms st.syms ks (λ k l. refl) a
          (without_cases a (union_deps st.syms ks) own i).0 in
          let l = kl w.0 w.1 in
          omega (arith, l, (h.syms_sound w.0 l).deps_low a w.2)

  -- ---- arguments

  pub alloc_args_keeps : (xs : List (ℕ × List ℕ)) (st : State) (k c : ℕ) → StateSound B st → cur < scope_count st →
      Room st k c → Holds (KeepsArgs B st k c (length xs)) (alloc_args at cur r xs st)
  unfolding alloc_args
  alloc_args_keeps [] st k c h cl rm =
      record { keeps = keeps_none h rm; low = λ x i. absurd i; count = refl }
  alloc_args_keeps (a ∷ xs) st k c h cl rm =
      holds_bind (KeepsOne B st (suc k) c) (KeepsArgs B st k c (suc (length xs))) _ _
      (alloc_keeps [] (sym_count st ∷ []) false argument st k c h cl (λ x i. absurd i)
      (every_cons (λ x. x < suc (sym_count st)) (sym_count st) [] (omega arith) (λ x i. absurd i)) tt
      (room_less st k c (k + 0) c (omega arith) (omega arith) rm)) λ o w.
      holds_bind (KeepsArgs B o.1 k c (length xs)) (KeepsArgs B st k c (suc (length xs))) _ _
      (alloc_args_keeps xs o.1 k c w.keeps.sound (omega (arith, w.keeps.more_scopes))
      (room_less o.1 (suc k) c k c (omega arith) (omega arith) w.keeps.room)) λ os v.
      record {
        keeps = keeps_then w.keeps v.keeps;
        low =
            every_cons (λ x. x < sym_count os.2) o.0 os.0 (omega (arith, w.low, v.keeps.more_syms)) v.low;
        count = ap suc v.count;
      }

-- ---- projections

-- where a and b are low, and what was remembered before
pub recall_low : (p a b : ℕ) (st : State) (n : ℕ) → a < n → b < n →
    ((q x y : ℕ) → recall st.memo q ≡ Some (x, y) → (x < n) × (y < n)) →
    (q x y : ℕ) → recall (remember p a b st).memo q ≡ Some (x, y) → (x < n) × (y < n)
recall_low p a b st n la lb h q x y e = elim (recall_cases p a b st q x y e) [
  | inl s ↦ (omega (arith, s.1), omega (arith, s.2))
  | inr f ↦ h q x y f
]

-- what is sound of a state is of its symbols and scopes, and of other tables, projections and readings if they are low
pub sound_same : {B : ℕ → Type 0} {st : State} (ts : List (List ℕ)) (memo : List (ℕ × ℕ × ℕ)) (n : ℕ) → n ≤ 2048 →
    1 ≤ length ts → ((i : ℕ) → InAny i ts → i < sym_count st) →
    ((p a b : ℕ) → recall memo p ≡ Some (a, b) → (a < sym_count st) × (b < sym_count st)) → StateSound B st →
    StateSound B (record { syms = st.syms; tables = ts; scopes = st.scopes; memo = memo; readings = n })
sound_same ts memo n few_readings tables_open tables_low memo_low h = record {
  few_symbols = h.few_symbols;
  few_readings = few_readings;
  syms_sound = h.syms_sound;
  tables_open = tables_open;
  tables_low = tables_low;
  memo_low = memo_low;
  around_low = h.around_low;
  args_low = h.args_low;
}

-- a SelectField has no thunk
no_thunks : (j : ℕ) (ks : List ℕ) → thunks 0x8C j ks ≡ 0
unfolding thunked
no_thunks j [] = refl
no_thunks j (k ∷ ks) = no_thunks (suc j) ks

pub field_thunks : (op : ℕ) → op ≡ 0x8C → (ks : List ℕ) → thunks op 0 ks ≡ 0
field_thunks op e ks = ap (λ (o : ℕ). thunks o 0 ks) e ∙ no_thunks 0 ks

pub pick_low : (i n : ℕ) (ab : ℕ × ℕ) → ab.0 < n → ab.1 < n → pick i ab < n
pick_low i n ab la lb = if_holds (λ x. x < n) (eqb i 1) ab.0 ab.1 la lb

module _ (B : ℕ → Type 0) (b0 : B 0) (b1 : B 1) (b2 : B 2) (at cur : ℕ) (r : Rec) (has : RecHas B r)
    (s17 : r.shape ≡ 17) (op : r.opcode ≡ 0x8C) where
  field_has : (j : ℕ) → B j → RecHas B (rec r.shape r.opcode 0 (j ∷ []))
  field_has j b = record {
    shape_has = has.shape_has;
    opcode_has = has.opcode_has;
    aux_has = b0;
    lit_has = every_cons B j [] b (λ x i. absurd i);
  }

  -- one projection: a slot is taken, and a symbol pays for it
  projection_keeps : (j : ℕ) → B j → (p : ℕ) (st : State) (k c : ℕ) → StateSound B st → cur < scope_count st →
      p < sym_count st →
      Room st (suc k) c → Holds (KeepsOne B st (suc k) c)
      (finish at cur (rec r.shape r.opcode 0 (j ∷ [])) (p ∷ []) [] (operation []) st)
  projection_keeps j b p st k c h cl pl rm =
      finish_keeps B at cur _ (field_has j b) (p ∷ []) [] (operation []) st k c (suc k) (omega arith) (omega arith) h cl
      (every_cons (λ x. x < sym_count st) p [] pl (λ x i. absurd i))
      (λ x i. absurd i, omega arith, sym (field_thunks r.opcode op (p ∷ [])))
      (room_less st (suc k) c (k + 1) c (omega arith) (omega arith) rm)

  pub projections_keep : (i p : ℕ) (st : State) (k c : ℕ) → StateSound B st → cur < scope_count st → p < sym_count st →
      Room st (suc k) c → Holds (KeepsOne B st (suc k) c) (pair_projection at cur r i p st)
  unfolding pair_projection new_projections
  projections_keep i p st k c h cl pl rm = go (recall st.memo p) refl
    where
      new : Holds (KeepsOne B st (suc k) c) (new_projections at cur r i p st)
      new =
          holds_bind (KeepsOne B st (suc k) c) (KeepsOne B st (suc k) c) _ _ (projection_keeps 1 b1 p st k c h cl pl rm)
          λ a w.
          holds_bind (KeepsOne B a.1 (suc k) c) (KeepsOne B st (suc k) c) _ _
          (projection_keeps 2 b2 p a.1 k c w.keeps.sound (omega (arith, w.keeps.more_scopes))
          (omega (arith, w.keeps.more_syms)) w.keeps.room) λ b v.
          let la : a.0 < sym_count b.1 = omega (arith, w.low, v.keeps.more_syms) in
          let u = keeps_then w.keeps v.keeps in
          record {
            keeps = record {
              sound = sound_same b.1.tables ((p, a.0, b.0) ∷ b.1.memo) b.1.readings u.sound.few_readings
                  u.sound.tables_open u.sound.tables_low
                  (recall_low p a.0 b.0 b.1 (sym_count b.1) la v.low u.sound.memo_low) u.sound;
              room = record { slots_paid = u.room.slots_paid; scopes_paid = u.room.scopes_paid };
              more_syms = u.more_syms;
              more_scopes = u.more_scopes;
              tables_kept = u.tables_kept;
            };
            low = pick_low i (sym_count b.1) (a.0, b.0) la v.low;
          }

      go : (f : Option (ℕ × ℕ)) → recall st.memo p ≡ f →
          Holds (KeepsOne B st (suc k) c) (elim f as (λ z. Out)
          [ Some ab ↦ good (pick i ab, st) | None ↦ new_projections at cur r i p st ])
      go (Some ab) e =
          let w = h.memo_low p ab.0 ab.1 e in
          record { keeps = keeps_none h rm; low = pick_low i (sym_count st) ab w.0 w.1 }
      go None e = new

-- ---- scopes

last_scope : (scs : List Scope) (s : Scope) → get_or (scs ++ (s ∷ [])) (length scs) root_scope ≡ s
last_scope scs s = get_or-append_seam scs s [] root_scope

-- a scope opens, with tables that hold no more than those there are
pub open_sound : (B : ℕ → Type 0) (cur : ℕ) (args : Option (List ℕ)) (ts : List (List ℕ)) (st : State) →
    StateSound B st → cur < scope_count st → Under (sym_count st) (args_in args) → 1 ≤ length ts →
    ((i : ℕ) → InAny i ts → InAny i st.tables) → StateSound B (open_scope cur args ts st)
open_sound B cur args ts st h cl al to tl = record {
  few_symbols = h.few_symbols;
  few_readings = h.few_readings;
  syms_sound = λ i l. sym_more B i (scope_count st) _ (sym_at st.syms i) (omega (arith, more)) (h.syms_sound i l);
  tables_open = to;
  tables_low = λ i k. h.tables_low i (tl i k);
  memo_low = h.memo_low;
  around_low = λ b l. around b (lt_or b (scope_count st) (omega (arith, more)));
  args_low = λ b l. arguments b (lt_or b (scope_count st) (omega (arith, more)));
}
  where
    new : Scope
    new = record { around = cur ∷ (scope_of st cur).around; args = args }

    more : length (st.scopes ++ (new ∷ [])) ≡ suc (scope_count st)
    more = simp length-append (omega arith)

    old : (b : ℕ) → b < scope_count st → get_or (st.scopes ++ (new ∷ [])) b root_scope ≡ scope_of st b
    old b l = get_or-append st.scopes (new ∷ []) root_scope b l

    around : (b : ℕ) → (b < scope_count st) ⊎ (b ≡ scope_count st) →
        Under b (get_or (st.scopes ++ (new ∷ [])) b root_scope).around
    around b (inl l) = rw (old b l) (h.around_low b l)
    around b (inr e) = rw (e, last_scope st.scopes new) (outward_low B cur st h cl)

    arguments : (b : ℕ) → (b < scope_count st) ⊎ (b ≡ scope_count st) →
        Under (sym_count st) (args_in (get_or (st.scopes ++ (new ∷ [])) b root_scope).args)
    arguments b (inl l) = rw (old b l) (h.args_low b l)
    arguments b (inr e) = rw (e, last_scope st.scopes new) al

pub open_room : (cur : ℕ) (args : Option (List ℕ)) (ts : List (List ℕ)) (st : State) (k c : ℕ) → Room st k (suc c) →
    Room (open_scope cur args ts st) k c
open_room cur args ts st k c h =
    record { slots_paid = h.slots_paid; scopes_paid = simp length-append (omega (arith, h.scopes_paid)) }

pub open_more : (cur : ℕ) (args : Option (List ℕ)) (ts : List (List ℕ)) (st : State) →
    scope_count (open_scope cur args ts st) ≡ suc (scope_count st)
open_more cur args ts st = simp length-append (omega arith)

-- a reading pays for a slot and a scope
pub read_sound : (B : ℕ → Type 0) (st : State) → st.readings < 2048 → StateSound B st → StateSound B (read st)
read_sound B st l h =
    sound_same st.tables st.memo (suc st.readings) l h.tables_open h.tables_low h.memo_low h

pub read_room : (st : State) (k c : ℕ) → Room st k c → Room (read st) (suc k) (suc c)
read_room st k c h =
    record { slots_paid = omega (arith, h.slots_paid); scopes_paid = omega (arith, h.scopes_paid) }
