-- Interning keeps the meaning: the symbol of a tree that checks 4, 5, 8, 9 and 10 let through stands for the tree.
--
-- In order: what a record's kind says of its children; a record, by its kind (`intern_kind_keeps`); trees, by induction
-- (`intern_keeps`, `intern_all_keeps`); an operand (`child_keeps`).
-- Interned uses `intern_all_keeps`.
-- Assumes nothing.
use mathlib.Core.Path.{◌≡◌, refl, ap, sym}
use mathlib.Core.Bool.{Bool, true, false, not, ◌&&◌}
use mathlib.Core.List.{List, [], ◌++◌}
use Prim.Native.Nat.{ℕ, suc, ◌+◌}
use native.Mathlib.Omega.{arith}
use lib.Dec.{ltb}
use borrow.Author.Tests.{eqb-true}
use Rattle.model.specs.Lists.{any_in, twice}
use Rattle.model.specs.Tree.{Rec, Tree, Trees, node, nil, cons, many, is_nil, size}
use Rattle.model.specs.Shape.{shapes}
use Rattle.model.specs.Binding.{Kind, kind, val_use, val_def, block, lambda, field, other, is_block, id_of, inside, after}
use Rattle.model.specs.Binding.{arg_ids}
use Rattle.model.specs.Unfold.{unfold_kind, unfold_at, unfold_all, unfold_last}
use Rattle.model.specs.Intern.{Sym, Scope, State, Env, Kids, resolve, read, thunked, bind_def, intern_kind, intern}
use Rattle.model.specs.Intern.{intern_scoped, intern_all}
use Rattle.laws.proofs.Holds.{Holds, holds_bind, holds_guard, holds_map}
use Rattle.laws.specs.Members.{In}
use Rattle.laws.proofs.Members.{clash, in_right, or_neither, any_in_false}
use Rattle.theory.specs.Checked.{Checked, CheckedIn}
use Rattle.theory.proofs.Acceptance.Checked.{checked-head, checked-tail, checked_kids}
use Rattle.theory.proofs.Acceptance.Checked.{checked-own}
use Rattle.theory.proofs.Acceptance.Records.{kind_shape, fits_at, def_child, field_child, field_rec_lem, lam_child}
use Rattle.theory.proofs.Acceptance.Records.{lam_rec, use_bound}
use Rattle.theory.specs.Good.{is_plain}
use Rattle.theory.specs.Inv.{Args, keys, Inv}
use Rattle.theory.proofs.Interning.Inv.{grow_none, grow_then, grow-same, inv_same}
use Rattle.theory.proofs.Interning.Keep.{Unfolding, KeepsMeaning, KeepsMeanings, KidsKeep, PlainRec, made_of, intern_last_keeps}
use Rattle.theory.proofs.Interning.Keep.{intern_general_keeps}
use Rattle.theory.proofs.Interning.Fields.{intern_field_keeps}
use Rattle.theory.proofs.Interning.Body.{BodyKeeps, intern_func_keeps}
use Rattle.theory.proofs.Interning.Operands.{KeptIn, intern_scoped_keeps, bind_def-keys, nil_keeps, cons_keeps}

-- ---- a record's kind and its children

pub is_block_is : (r : Rec) (k : Kind) → kind r.shape ≡ k → is_block r ≡
    elim k [ val_use ↦ false | val_def ↦ false | block ↦ true | lambda ↦ false | field ↦ false | other ↦ false ]
unfolding kind
is_block_is r val_use e = rw (kind_shape r.shape val_use e).shape
is_block_is r val_def e = rw (kind_shape r.shape val_def e).shape
is_block_is r block e = rw (kind_shape r.shape block e).shape
is_block_is r lambda e = rw (kind_shape r.shape lambda e).shape
is_block_is r field e = rw (kind_shape r.shape field e).shape
is_block_is r other e = go (is_block r) refl
  where
    go : (t : Bool) → is_block r ≡ t → t ≡ false
    go true f = absurd (clash (is_plain (kind r.shape)) (ap is_plain e) (rw (eqb-true r.shape 11 f)))
    go false f = refl

module _
    (at cur : ℕ) (r : Rec) (env : Env) (A : Args) (ts : Trees) (b : Bool) (c : Checked (node r ts) b (keys env))
    (kids : Kids) (keep : KidsKeep kids r.opcode (is_block r) ts) (st : State) where
  -- the children of a record that binds no arguments, read from any state
  kids_keep : inside r ≡ [] → (t : Bool) → is_block r ≡ t → (s : State) →
      Holds (KeepsMeanings s A cur env r.opcode 0 t ts) (kids cur env s)
  kids_keep e t f s = rw f at (keep cur env A s (rw e at (checked_kids r ts b (keys env) c)))

  plain-rec : is_plain (kind r.shape) ≡ true → PlainRec r (many ts)
  plain-rec e = record { kind_is = e; fits_is = c.fine.0; agrees_is = c.fine.1 }

  -- ---- a record, by its kind

  abbrev unfold_by : Kind → Unfolding
  unfold_by k = unfold_kind k r (unfold_all ts) (unfold_last ts)

  val_use_keeps : kind r.shape ≡ val_use → KeepsMeaning st A cur env (unfold_by val_use) (resolve env (id_of r), st)
  unfolding unfold_kind
  val_use_keeps e = record {
    grows = grow_none st;
    keeps = λ fin scs f inv ok. (
      inv,
      record {
        result = record { low = ok.low (id_of r) known; within = λ a h. ok.deps_in (id_of r) a known h };
        means = λ ρ ms sem d. sym (sem (id_of r) known d);
      },
    );
  }
    where
      known : In (id_of r) (keys env)
      known = use_bound r ts (keys env) c.known (kind_shape r.shape val_use e).shape

  lambda_keeps : kind r.shape ≡ lambda →
      Holds (KeepsMeaning st A cur env (unfold_by lambda)) (intern_kind lambda at cur r env kids st)
  unfolding intern_kind unfold_kind inside
  lambda_keeps e =
      intern_func_keeps at cur r env A ts kids reads (lam_rec r (many ts) shape c.fine.0 c.fine.1)
      (lam_child r (many ts) shape c.fine.0) apart st
    where
      shape : r.shape ≡ 12
      shape = (kind_shape r.shape lambda e).shape

      args : inside r ≡ arg_ids r
      args = rw (e, inside)

      reads : BodyKeeps kids r env ts
      reads sc en B s f =
          rw (is_block_is r lambda e) at (keep sc en B s (rw f (rw args at (checked_kids r ts b (keys env) c))))

      apart : (i : ℕ) → In i (keys env) → In i (arg_ids r) → ⊥
      apart i h g =
          let own : List ℕ = after (node r ts) ++ inside r in
          let free = (or_neither (any_in own (keys env)) (twice own) (checked-own r ts b (keys env) c)).0 in
          any_in_false i own (keys env) free (in_right i (after (node r ts)) (inside r) (rw args g)) h

  field_keeps : kind r.shape ≡ field →
      Holds (KeepsMeaning st A cur env (unfold_by field)) (intern_kind field at cur r env kids st)
  unfolding intern_kind unfold_kind inside
  field_keeps e =
      holds_bind (KeepsMeanings st A cur env r.opcode 0 false ts) (KeepsMeaning st A cur env (made_of r ts)) (kids cur env st) _
      (reads st)
      (intern_field_keeps at cur r env A ts kids reads (plain-rec (ap is_plain e))
      (field_child r (many ts) shape c.fine.0) (field_rec_lem r (many ts) shape c.fine.0 c.fine.1) st)
    where
      shape : r.shape ≡ 17
      shape = (kind_shape r.shape field e).shape

      reads : (s : State) → Holds (KeepsMeanings s A cur env r.opcode 0 false ts) (kids cur env s)
      reads s = kids_keep (rw (e, inside)) false (is_block_is r field e) s

  intern_kind_keeps : (k : Kind) → kind r.shape ≡ k →
      Holds (KeepsMeaning st A cur env (unfold_by k)) (intern_kind k at cur r env kids st)
  unfolding intern_kind unfold_kind inside shapes
  intern_kind_keeps val_use e = val_use_keeps e
  intern_kind_keeps val_def e =
      let one = def_child r (many ts) (kind_shape r.shape val_def e).shape c.fine.0 in
      intern_last_keeps cur r.opcode env A false ts st (kids cur env st) (omega arith) (λ f. one)
      (kids_keep (rw (e, inside)) false (is_block_is r val_def e) st)
  intern_kind_keeps block e =
      let some = (fits_at r (many ts) 11 (kind_shape r.shape block e).shape c.fine.0).least_is in
      intern_last_keeps cur r.opcode env A true ts st (kids cur env st) some (λ f. absurd (clash true refl f))
      (kids_keep (rw (e, inside)) true (is_block_is r block e) st)
  intern_kind_keeps lambda e = lambda_keeps e
  intern_kind_keeps field e = field_keeps e
  intern_kind_keeps other e =
      intern_general_keeps at cur r env A ts st (kids cur env st) (plain-rec (ap is_plain e))
      (kids_keep (rw (e, inside)) false (is_block_is r other e) st)

-- ---- trees

-- a reading counts, and changes no more
pub read_inv : {st : State} {A : Args} {cur : ℕ} {fin : List Sym} {scs : List Scope} → Inv fin scs st A cur →
    Inv fin scs (read st) A cur
read_inv {st} inv = inv_same st.tables st.memo (suc st.readings) (λ i k. k) inv.memo_ok inv

read_kept : {st : State} {A : Args} {cur : ℕ} {env : Env} {u : Unfolding} {o : ℕ × State} →
    KeepsMeaning (read st) A cur env u o → KeepsMeaning st A cur env u o
read_kept {st} {A} {cur} {o} k = record {
  grows = grow_then (grow-same st (read st) refl refl) k.grows;
  keeps = λ fin scs f inv ok. k.keeps fin scs f (read_inv inv) ok;
}

mutual
  unfolding intern unfold_at

  pub intern_keeps : (t : Tree) (at cur : ℕ) (env : Env) (A : Args) (b : Bool) (st : State) → Checked t b (keys env) →
      Holds (KeepsMeaning st A cur env (unfold_at t)) (intern t at cur env st)
  intern_keeps (node r ts) at cur env A b st c =
      let kids : Kids = λ c e s. intern_all ts r.opcode 0 (suc at) c e s in
      holds_guard (KeepsMeaning st A cur env (unfold_at (node r ts))) (ltb st.readings 2048) 11 at _ λ e.
      holds_map (KeepsMeaning (read st) A cur env (unfold_at (node r ts))) (KeepsMeaning st A cur env (unfold_at (node r ts)))
      (intern_kind (kind r.shape) at cur r env kids (read st))
      (intern_kind_keeps at cur r env A ts b c kids
      (λ c e B s h. intern_all_keeps ts r.opcode 0 (suc at) c e B (is_block r) s h)
      (read st) (kind r.shape) refl) λ o k. read_kept k

  pub intern_all_keeps : (ts : Trees) (op j at cur : ℕ) (env : Env) (A : Args) (b : Bool) (st : State) →
      CheckedIn ts b (keys env) → Holds (KeepsMeanings st A cur env op j b ts) (intern_all ts op j at cur env st)
  intern_all_keeps nil op j at cur env A b st c = nil_keeps op j cur env A b st
  intern_all_keeps (cons t ts) op j at cur env A b st c =
      holds_bind (KeptIn (thunked op j) st A cur env (unfold_at t)) (KeepsMeanings st A cur env op j b (cons t ts)) _ _
      (intern_scoped_keeps cur st A env (unfold_at t) (thunked op j) (λ c s. intern t at c env s)
      (λ sc s. intern_keeps t at sc env A (b && not (is_nil ts)) s (checked-head t ts b (keys env) c))) λ o h.
      holds_bind (KeepsMeanings o.1 A cur (bind_def t o.0 env) op (suc j) b ts)
      (KeepsMeanings st A cur env op j b (cons t ts)) _ _
      (intern_all_keeps ts op (suc j) (at + size t) cur (bind_def t o.0 env) A b o.1
      (rw (bind_def-keys t o.0 env) (checked-tail t ts b (keys env) c))) λ os k.
      cons_keeps op j cur env A b t ts st c o os h k

-- the first of some operands, in its own thunk or not
pub child_keeps : (t : Tree) (ts : Trees) (op j at cur : ℕ) (env : Env) (A : Args) (b : Bool) (st : State) →
    CheckedIn (cons t ts) b (keys env) →
    Holds (KeptIn (thunked op j) st A cur env (unfold_at t))
    (intern_scoped (thunked op j) cur (λ c s. intern t at c env s) st)
child_keeps t ts op j at cur env A b st c =
    intern_scoped_keeps cur st A env (unfold_at t) (thunked op j) (λ c s. intern t at c env s)
    (λ sc s. intern_keeps t at sc env A (b && not (is_nil ts)) s (checked-head t ts b (keys env) c))
