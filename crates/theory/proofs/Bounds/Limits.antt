-- The limits of interning: at every point where a state is sound and its slots and scopes are paid for
-- (`sound_limits`), and for the symbols of an accepted forest (`forest_limits`): at most 512 symbols, 2,048 readings,
-- 2,049 scopes, 2,560 child slots, and each child lower than its symbol.
-- In order: limits; forests, with a property B of their numbers or without.
-- Assumes nothing.
use mathlib.Core.Path.{◌≡◌, subst}
use mathlib.Core.List.{List}
use Prim.Native.Nat.{ℕ, ◌+◌, ◌≤◌, ◌<◌}
use native.Mathlib.Omega.{arith}
use Rattle.model.specs.Answer.{refused, good, ◌>>=◌}
use Rattle.model.specs.Tree.{Tree, Trees, node, nil, cons, many}
use Rattle.model.specs.Accept.{accept}
use Rattle.model.specs.Intern.{State, Outs, start, intern_forest, intern_last}
use Rattle.model.specs.Call.{interned}
use Rattle.laws.specs.Slots.{slots_in}
use Rattle.laws.proofs.Apart.{good_inj, refused_good}
use Rattle.laws.proofs.Holds.{Holds}
use Rattle.laws.specs.Members.{In}
use Rattle.theory.proofs.Acceptance.Accept.{accepted}
use Rattle.theory.specs.Good.{sym_count, scope_count, sym_kids}
use Rattle.theory.specs.Sound.{TreeHas, TreesHave, StateSound, Room, Any}
use Rattle.theory.proofs.Bounds.Sound.{room_less, KeepsAll}
use Rattle.theory.proofs.Bounds.Sound.{slots_limit, scopes_limit}
use Rattle.theory.proofs.Bounds.Kinds.{plain_kids, last_under}
use Rattle.theory.proofs.Bounds.Trees.{forest_keeps}

-- ---- limits

pub record Limits (st : State) : Type 0 where
  pub symbols : sym_count st ≤ 512
  pub readings : st.readings ≤ 2048
  pub scopes : scope_count st ≤ 2049
  pub slots : slots_in st.syms ≤ 2048 + 512
  pub kids_low : (i k : ℕ) → i < sym_count st → In k (sym_kids st.syms i) → k < i

sound_limits : (B : ℕ → Type 0) (st : State) (k c : ℕ) → StateSound B st → Room st k c → Limits st
sound_limits B st k c h r = record {
  symbols = h.few_symbols;
  readings = h.few_readings;
  scopes = scopes_limit B st k c h r;
  slots = slots_limit B st k c h r;
  kids_low = λ i j l m. (h.syms_sound i l).kids_low j m;
}

-- ---- forests

-- what is left of an accepted forest
pub record Leaves (B : ℕ → Type 0) (o : ℕ × State) : Type 0 where
  pub sound : StateSound B o.1
  pub room : Room o.1 0 0
  pub root_low : o.0 < sym_count o.1

forest_leaves : (B : ℕ → Type 0) → B 0 → B 1 → B 2 → (forest : List ℕ) (ts : Trees) → accept forest ≡ good ts →
    TreesHave B ts →
    (o : ℕ × State) → interned forest ≡ good o → Leaves B o
unfolding interned ◌>>=◌ intern_last
forest_leaves B b0 b1 b2 forest ts e has o is =
    go (intern_forest ts) (forest_keeps B b0 b1 b2 ts has (accepted forest ts e).0) (rw (e, ◌>>=◌) at is)
  where
    some_tree : 1 ≤ many ts
    some_tree = (accepted forest ts e).1

    go : (m : Outs) → Holds (KeepsAll B start (many ts) (plain_kids 0 0 ts) (many ts) 0 0) m → intern_last m ≡ good o →
        Leaves B o
    go (refused n p) h is = refused_good is
    go (good os) h is = subst (Leaves B) (good_inj is) (record {
      sound = h.keeps.sound;
      room = room_less os.2 (many ts) (plain_kids 0 0 ts) 0 0 (omega arith) (omega arith) h.keeps.room;
      root_low = last_under (sym_count os.2) os.0 (omega (arith, h.count, some_tree)) h.low;
    })

mutual
  pub any_tree : (t : Tree) → TreeHas Any t
  any_tree (node r ts) =
      (record { shape_has = tt; opcode_has = tt; aux_has = tt; lit_has = λ x i. tt }, any_trees ts)

  pub any_trees : (ts : Trees) → TreesHave Any ts
  any_trees nil = tt
  any_trees (cons t ts) = (any_tree t, any_trees ts)

-- the symbols of an accepted forest
pub forest_sound : (forest : List ℕ) (ts : Trees) → accept forest ≡ good ts → (o : ℕ × State) →
    interned forest ≡ good o → Leaves Any o
forest_sound forest ts e o is = forest_leaves Any tt tt tt forest ts e (any_trees ts) o is

pub forest_limits : (forest : List ℕ) (ts : Trees) → accept forest ≡ good ts → (o : ℕ × State) →
    interned forest ≡ good o →
    Limits o.1 × (o.0 < sym_count o.1)
forest_limits forest ts e o is =
    let w = forest_sound forest ts e o is in
    (sound_limits Any o.1 0 0 w.sound w.room, w.root_low)
