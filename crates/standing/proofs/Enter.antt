-- Into a forest, a record, a lambda's body and an operand: what may be read there.
-- In order: forests; how many children a record has; the children of a record that is no lambda; a lambda's body;
-- operands.
-- Assumes nothing.
use mathlib.Core.Path.{◌≡◌, refl}
use mathlib.Core.Bool.{Bool, true, false, not, ◌&&◌}
use Rattle.std.specs.Prelude.{None, Some}
use mathlib.Core.List.{List, [], ◌∷◌, ◌++◌}
use Prim.Native.Nat.{ℕ, ◌≤◌, ◌<◌}
use native.Mathlib.Omega.{arith}
use lib.ListN.{length}
use Rattle.model.specs.Answer.{good}
use Rattle.model.specs.Tree.{Rec, Tree, Trees, node, cons, many, is_nil}
use Rattle.model.specs.Binding.{Kind, kind, val_use, val_def, block, lambda, field, other, is_block, args_of, arg_ids}
use Rattle.model.specs.Binding.{inside}
use Rattle.model.specs.Accept.{accept}
use Rattle.model.specs.Intern.{State, Env, start, read, alloc_args, bind_args, open_scope, open_thunk, thunked}
use Rattle.laws.proofs.Holds.{holds_good}
use Rattle.laws.proofs.Members.{clash}
use Rattle.laws.specs.ArgLists.{bound_by}
use Rattle.theory.specs.Checked.{CheckedIn}
use Rattle.theory.proofs.Acceptance.Checked.{checked-head, checked_kids}
use Rattle.theory.proofs.Acceptance.Records.{kind_shape, lam_child, field_child, op_lambda}
use Rattle.theory.proofs.Acceptance.Accept.{accepted}
use Rattle.theory.specs.Good.{scope_count}
use Rattle.theory.specs.Inv.{keys}
use Rattle.theory.proofs.Interning.Fresh.{bind_args-keys}
use Rattle.theory.proofs.Interning.Body.{ArgsDone, args_done, opened}
use Rattle.theory.proofs.Interning.Walk.{is_block_is}
use Rattle.theory.specs.Sound.{StateSound, Any}
use Rattle.theory.proofs.Bounds.Sound.{room_less, KeepsArgs}
use Rattle.theory.proofs.Bounds.Steps.{alloc_args_keeps, open_sound, open_room, read_room}
use Rattle.theory.proofs.Bounds.Kinds.{inside_of, lambda_plain}
use Rattle.theory.proofs.Bounds.Trees.{start_room}
use Rattle.theory.proofs.Bounds.Limits.{any_tree}
use Rattle.standing.specs.Standing.{Standing, Well, WellAll}
use Rattle.standing.proofs.Moves.{start_stands, read_stands, thunk_stands, body_stands}

-- ---- forests

pub forest_well : (bs : List ℕ) (ts : Trees) → accept bs ≡ good ts → WellAll ts false 0 0 0 [] start 0
unfolding thunked
forest_well bs ts e = record {
  standing = start_stands;
  checked = (accepted bs ts e).0;
  free = 0;
  room = start_room;
  pays = λ j t. absurd (clash false t refl);
}

-- ---- records

-- only a lambda binds arguments
pub no_args : (r : Rec) → (kind r.shape ≡ lambda → ⊥) → inside r ≡ []
no_args r h = go (kind r.shape) refl
  where
    go : (k : Kind) → kind r.shape ≡ k → inside r ≡ []
    go val_use e = inside_of r val_use e
    go val_def e = inside_of r val_def e
    go block e = inside_of r block e
    go lambda e = absurd (h e)
    go field e = inside_of r field e
    go other e = inside_of r other e

module _ {r : Rec} {ts : Trees} {def : Bool} {cur : ℕ} {env : Env} {st : State}
    (w : Well (node r ts) def cur env st) where
  -- how many children there are
  pub lambda_one : kind r.shape ≡ lambda → many ts ≡ 1
  lambda_one e = lam_child r (many ts) (kind_shape r.shape lambda e).shape w.checked.fine.0

  pub field_one : kind r.shape ≡ field → many ts ≡ 1
  field_one e = field_child r (many ts) (kind_shape r.shape field e).shape w.checked.fine.0

  -- the children of a record that binds no arguments
  pub kids_well : inside r ≡ [] → st.readings < 2048 → WellAll ts (is_block r) r.opcode 0 cur env (read st) 1
  kids_well e l = record {
    standing = read_stands w.standing l;
    checked = rw e at (checked_kids r ts def (keys env) w.checked);
    free = 1;
    room = read_room st 0 0 w.room;
    pays = λ j t. omega arith;
  }

  -- ---- lambdas

  module _ (e : kind r.shape ≡ lambda) where
    twelve : r.shape ≡ 12
    twelve = (kind_shape r.shape lambda e).shape

    body_checked : (ss : List ℕ) → length ss ≡ length (bound_by r) →
        CheckedIn ts false (keys (bind_args (bound_by r) ss env))
    unfolding arg_ids
    body_checked ss l =
        let ids : keys (bind_args (bound_by r) ss env) ≡ arg_ids r ++ keys env = bind_args-keys (bound_by r) ss env l in
        rw ids (rw (is_block_is r lambda e, inside_of r lambda e) at (checked_kids r ts def (keys env) w.checked))

    -- once its arguments are made, its scope can be opened and its body read
    pub lambda_well : st.readings < 2048 → (at : ℕ) (made : List ℕ × List ℕ × State) →
        alloc_args at cur r (args_of r.aux r.lit) (read st) ≡ good made →
        (scope_count made.2 ≤ 2048)
        × WellAll ts false r.opcode 0 (scope_count made.2) (bind_args (args_of r.aux r.lit) made.0 env)
        (open_scope cur (Some made.0) made.2.tables made.2) 1
    lambda_well l at made is = (
      omega (arith, kept.keeps.room.scopes_paid, kept.keeps.sound.few_readings),
      record {
        standing = body_stands before done sound;
        checked = body_checked made.0 done.many_args;
        free = 0;
        room = open_room cur (Some made.0) made.2.tables made.2 1 0 kept.keeps.room;
        pays = λ j t.
            absurd (clash (thunked r.opcode j) t
            (lambda_plain r.opcode (op_lambda r twelve w.checked.fine.1) j));
      },
    )
      where
        before : Standing cur env (read st)
        before = read_stands w.standing l

        done : ArgsDone (read st) before.args cur r made
        done = holds_good (ArgsDone (read st) before.args cur r) is (args_done at cur r (read st) before.args)

        kept : KeepsArgs Any (read st) 1 1 (length (bound_by r)) made
        kept =
            holds_good (KeepsArgs Any (read st) 1 1 (length (bound_by r))) is
            (alloc_args_keeps Any at cur r (any_tree (node r ts)).0 (bound_by r) (read st) 1 1 before.sound
            before.current (read_room st 0 0 w.room))

        sound : StateSound Any (opened cur made)
        sound =
            open_sound Any cur (Some made.0) made.2.tables made.2 kept.keeps.sound
            (omega (arith, before.current, kept.keeps.more_scopes)) kept.low kept.keeps.sound.tables_open
            (λ i h. h)

-- ---- operands

module _ {t : Tree} {ts : Trees} {b : Bool} {op j cur : ℕ} {env : Env} {st : State} {k : ℕ}
    (w : WellAll (cons t ts) b op j cur env st k) where
  pub child_plain : thunked op j ≡ false → Well t (b && not (is_nil ts)) cur env st
  child_plain e = record {
    standing = w.standing;
    checked = checked-head t ts b (keys env) w.checked;
    room = room_less st k w.free 0 0 (omega arith) (omega arith) w.room;
  }

  pub child_thunk : thunked op j ≡ true →
      (scope_count st ≤ 2048) × Well t (b && not (is_nil ts)) (scope_count st) env (open_thunk cur st)
  child_thunk e = (
    omega (arith, w.pays j e, w.room.scopes_paid, w.standing.sound.few_readings),
    record {
      standing = thunk_stands w.standing;
      checked = checked-head t ts b (keys env) w.checked;
      room = open_room cur None ([] ∷ st.tables) st 0 0
          (room_less st k w.free 0 1 (omega arith) (w.pays j e) w.room);
    },
  )
