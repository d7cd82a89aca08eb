-- Laws of what code relies on at every point of interning (`Sound`, `Room`).
-- In order: parts of a list; what readings pay for; the limits that follow; from one state to a later one, and what a
-- step gives there. Steps and Kinds keep both at each step, Trees through a tree.
-- B is a property of numbers, such as being a byte; `Sound` carries it along for each stored record.
-- Assumes nothing.
use mathlib.Core.Path.{◌≡◌, refl, ◌∙◌}
use mathlib.Core.List.{List}
use Prim.Native.Nat.{ℕ, ◌+◌, ◌≤◌, ◌<◌}
use native.Mathlib.Omega.{arith}
use lib.ListN.{length, take, drop, take-append-drop}
use Rattle.model.specs.Tree.{Rec}
use Rattle.model.specs.Intern.{Node, constant, unparsed, argument, func, operation, Sym, State}
use Rattle.theory.specs.Sound.{thunks, NodeSound, SymSound, StateSound, Room}
use Rattle.laws.specs.Slots.{slots_in}
use Rattle.laws.specs.Members.{Every, Under}
use Rattle.laws.proofs.Members.{in_left, in_right}
use Rattle.theory.specs.Good.{sym_count, scope_count}

-- ---- parts of a list

pub every_take : (B : ℕ → Type 0) (n : ℕ) (bs : List ℕ) → Every B bs → Every B (take n bs)
every_take B n bs h x i = h x (rw (← take-append-drop n bs) (in_left x (take n bs) (drop n bs) i))

pub every_drop : (B : ℕ → Type 0) (n : ℕ) (bs : List ℕ) → Every B bs → Every B (drop n bs)
every_drop B n bs h x i = h x (rw (← take-append-drop n bs) (in_right x (take n bs) (drop n bs) i))

-- ---- what readings pay for

pub room_less : (st : State) (k c j d : ℕ) → j ≤ k → d ≤ c → Room st k c → Room st j d
room_less st k c j d lj ld h = record { slots_paid = omega arith; scopes_paid = omega arith }

-- ---- the limits

pub slots_limit : (B : ℕ → Type 0) (st : State) (k c : ℕ) → StateSound B st → Room st k c → slots_in st.syms ≤ 2048 + 512
slots_limit B st k c h r = omega (arith, h.few_symbols, h.few_readings, r.slots_paid)

pub scopes_limit : (B : ℕ → Type 0) (st : State) (k c : ℕ) → StateSound B st → Room st k c → scope_count st ≤ 2049
scopes_limit B st k c h r = omega (arith, h.few_readings, r.scopes_paid)

-- ---- from one state to a later one

-- st' is sound, with room for k slots and c scopes, has at least what st has, and as many open tables
pub record Keeps (B : ℕ → Type 0) (st st' : State) (k c : ℕ) : Type 0 where
  pub sound : StateSound B st'
  pub room : Room st' k c
  pub more_syms : sym_count st ≤ sym_count st'
  pub more_scopes : scope_count st ≤ scope_count st'
  pub tables_kept : length st'.tables ≡ length st.tables

pub keeps_none : {B : ℕ → Type 0} {st : State} {k c : ℕ} → StateSound B st → Room st k c → Keeps B st st k c
keeps_none h r =
    record { sound = h; room = r; more_syms = omega arith; more_scopes = omega arith; tables_kept = refl }

pub keeps_then : {B : ℕ → Type 0} {a b c : State} {k d j e : ℕ} → Keeps B a b k d → Keeps B b c j e → Keeps B a c j e
keeps_then g h = record {
  sound = h.sound;
  room = h.room;
  more_syms = omega (arith, g.more_syms, h.more_syms);
  more_scopes = omega (arith, g.more_scopes, h.more_scopes);
  tables_kept = h.tables_kept ∙ g.tables_kept;
}

pub keeps_less : {B : ℕ → Type 0} {a b : State} {k c j d : ℕ} → Keeps B a b k c → j ≤ k → d ≤ c → Keeps B a b j d
keeps_less {b} {k} {c} {j} {d} h lj ld = record {
  sound = h.sound;
  room = room_less b k c j d lj ld h.room;
  more_syms = h.more_syms;
  more_scopes = h.more_scopes;
  tables_kept = h.tables_kept;
}

-- a symbol; the symbols of some arguments; those of the operands of an opcode from operand j on, and the scopes of
-- their thunks
pub record KeepsOne (B : ℕ → Type 0) (st : State) (k c : ℕ) (o : ℕ × State) : Type 0 where
  pub keeps : Keeps B st o.1 k c
  pub low : o.0 < sym_count o.1

pub record KeepsArgs (B : ℕ → Type 0) (st : State) (k c n : ℕ) (os : List ℕ × List ℕ × State) : Type 0 where
  pub keeps : Keeps B st os.2 k c
  pub low : Under (sym_count os.2) os.0
  pub count : length os.0 ≡ n

pub record KeepsAll (B : ℕ → Type 0) (st : State) (k c n op j : ℕ) (os : List ℕ × List ℕ × State) : Type 0 where
  pub keeps : Keeps B st os.2 k c
  pub low : Under (sym_count os.2) os.0
  pub count : length os.0 ≡ n
  pub branches : Under (scope_count os.2) os.1
  pub thunks_are : length os.1 ≡ thunks op j os.0

-- these after a step, and with less room
pub one_then : {B : ℕ → Type 0} {st st' : State} {k c j d : ℕ} {o : ℕ × State} → Keeps B st st' k c →
    KeepsOne B st' j d o → KeepsOne B st j d o
one_then g w = record { keeps = keeps_then g w.keeps; low = w.low }

pub one_less : {B : ℕ → Type 0} {st : State} {k c j d : ℕ} {o : ℕ × State} → KeepsOne B st k c o → j ≤ k → d ≤ c →
    KeepsOne B st j d o
one_less w lj ld = record { keeps = keeps_less w.keeps lj ld; low = w.low }

pub all_then : {B : ℕ → Type 0} {st st' : State} {k c j d l e n op i : ℕ} {os : List ℕ × List ℕ × State} →
    Keeps B st st' k c → KeepsAll B st' j d n op i os → l ≤ j → e ≤ d → KeepsAll B st l e n op i os
all_then g w lj ld = record {
  keeps = keeps_then g (keeps_less w.keeps lj ld);
  low = w.low;
  count = w.count;
  branches = w.branches;
  thunks_are = w.thunks_are;
}

pub under_more : (n m : ℕ) (xs : List ℕ) → n ≤ m → Under n xs → Under m xs
under_more n m xs l h x i = omega (arith, h x i)

node_more : (B : ℕ → Type 0) (i m m' : ℕ) (r : Rec) (ks : List ℕ) (nd : Node) → m ≤ m' →
    NodeSound B i m r ks nd → NodeSound B i m' r ks nd
node_more B i m m' r ks constant l h = tt
node_more B i m m' r ks unparsed l h = tt
node_more B i m m' r ks argument l h = tt
node_more B i m m' r ks (func xs b) l h = (omega (arith, h.0), h.1, h.2, h.3)
node_more B i m m' r ks (operation brs) l h = (under_more m m' brs l h.0, h.1, h.2)

pub sym_more : (B : ℕ → Type 0) (i m m' : ℕ) (y : Sym) → m ≤ m' → SymSound B i m y → SymSound B i m' y
sym_more B i m m' y l h = record {
  kids_low = h.kids_low;
  deps_low = h.deps_low;
  scope_low = omega (arith, h.scope_low);
  rec_has = h.rec_has;
  node_sound = node_more B i m m' y.rec y.kids y.node l h.node_sound;
}
