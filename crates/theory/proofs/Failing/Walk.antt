-- Every tree that checks 4, 5, 8, 9 and 10 let through and that has no lambda and no SelectField: its symbol has its
-- value, if it has one.
-- In order: the records of such trees; a record, by its kind; trees, by induction (`intern_keeps`, `intern_all_keeps`).
-- Assumes nothing.
use mathlib.Core.Path.{◌≡◌, refl}
use mathlib.Core.Bool.{Bool, true, false, not, ◌&&◌}
use Rattle.std.specs.Prelude.{Option}
use mathlib.Core.List.{[]}
use Prim.Native.Nat.{ℕ, suc, ◌+◌}
use native.Mathlib.Omega.{arith}
use lib.Dec.{ltb}
use Rattle.model.specs.Tree.{Rec, Tree, Trees, node, nil, cons, many, is_nil, size}
use Rattle.model.specs.Opcodes.{FuncValue, SelectField}
use Rattle.model.specs.Binding.{Kind, kind, val_use, val_def, block, lambda, field, other, is_block, id_of, inside}
use Rattle.model.specs.Intern.{State, Env, Kids, resolve, bind_def, thunked, intern_kind, read, intern, intern_all}
use Rattle.model.specs.Failing.{Semantics, Values, value_in, eval_kind, eval, eval_all, eval_last}
use Rattle.laws.proofs.Holds.{Holds, holds_bind, holds_guard, holds_map}
use Rattle.laws.proofs.Members.{clash}
use Rattle.theory.specs.Checked.{Checked, CheckedIn}
use Rattle.theory.specs.Inv.{keys}
use Rattle.theory.proofs.Acceptance.Checked.{checked-head, checked-tail, checked_kids}
use Rattle.theory.proofs.Acceptance.Records.{kind_shape, def_child, def_eager, block_eager}
use Rattle.theory.proofs.Acceptance.Each.{Each, EachIn}
use Rattle.theory.proofs.Interning.Inv.{grow_none, grow-same, grow_then}
use Rattle.theory.proofs.Interning.Operands.{bind_def-keys, is_def_is}
use Rattle.theory.proofs.Interning.Walk.{is_block_is}
use Rattle.theory.proofs.Failing.Live.{Final, Here, after_none, living_none}
use Rattle.theory.proofs.Failing.Thunks.{Owes, OwesIn, intern_scoped_keeps}
use Rattle.theory.proofs.Failing.Symbols.{OwesAll, intern_general_keeps}
use Rattle.theory.proofs.Failing.Operands.{intern_last_keeps, nil_keeps, cons_keeps}

-- no lambda and no SelectField
abbrev pub Allowed : Rec → Type 0
Allowed r = (r.shape ≡ FuncValue → ⊥) × (r.shape ≡ SelectField → ⊥)

module _ {W : Type 0} (sem : Semantics W) (F : Final) where
  -- ---- a record, by its kind

  abbrev KidsKeep : Kids → ℕ → Bool → Trees → Type 0
  KidsKeep kids op b ts =
      (c : ℕ) (env : Env) (st : State) → CheckedIn ts b (keys env) → Holds (OwesAll sem F st c env op 0 b ts) (kids c env st)

  module _
      (at cur : ℕ) (r : Rec) (env : Env) (ts : Trees) (b : Bool) (c : Checked (node r ts) b (keys env)) (kids : Kids)
      (keep : KidsKeep kids r.opcode (is_block r) ts) (allowed : Allowed r) (st : State) where
    kids_keep : inside r ≡ [] → (t : Bool) → is_block r ≡ t →
        Holds (OwesAll sem F st cur env r.opcode 0 t ts) (kids cur env st)
    kids_keep e t f = rw f at (keep cur env st (rw e at (checked_kids r ts b (keys env) c)))

    use_keeps : Owes sem F st cur env (λ ms. value_in ms (id_of r)) (resolve env (id_of r), st)
    use_keeps = record {
      grows = grow_none st;
      after = λ i h. after_none F st cur h;
      valued = λ i h ms w ev q. record {
        found_is = (ev (id_of r) w q).0;
        scope_in = (ev (id_of r) w q).1;
        live = [];
        living = living_none sem F st st cur (omega arith);
      };
    }

    intern_kind_keeps : (k : Kind) → kind r.shape ≡ k →
        Holds (Owes sem F st cur env (λ ms. eval_kind sem k r ms (eval_all sem ts ms) (eval_last sem ts ms)))
        (intern_kind k at cur r env kids st)
    unfolding intern_kind eval_kind inside
    intern_kind_keeps val_use e = use_keeps
    intern_kind_keeps val_def e =
        let is = (kind_shape r.shape val_def e).shape in
        intern_last_keeps sem F cur r.opcode env false ts st (kids cur env st)
        (def_eager r is c.fine.1) (λ f. def_child r (many ts) is c.fine.0)
        (kids_keep (rw (e, inside)) false (is_block_is r val_def e))
    intern_kind_keeps block e =
        intern_last_keeps sem F cur r.opcode env true ts st (kids cur env st)
        (block_eager r (kind_shape r.shape block e).shape c.fine.1) (λ f. absurd (clash true refl f))
        (kids_keep (rw (e, inside)) true (is_block_is r block e))
    intern_kind_keeps lambda e = absurd (allowed.0 (kind_shape r.shape lambda e).shape)
    intern_kind_keeps field e = absurd (allowed.1 (kind_shape r.shape field e).shape)
    intern_kind_keeps other e =
        intern_general_keeps sem F at cur env r ts st (kids cur env st) c.fine.0
        (kids_keep (rw (e, inside)) false (is_block_is r other e))

  -- ---- trees

  -- a reading counts, and changes no more
  module _ (st : State) (cur : ℕ) (env : Env) (e : Values W → Option W) (o : ℕ × State)
      (k : Owes sem F (read st) cur env e o) where
    here_read : Here F st cur → Here F (read st) cur
    here_read h = record { opens = h.opens; plain = h.plain; lined = h.lined }

    read_kept : Owes sem F st cur env e o
    read_kept = record {
      grows = grow_then (grow-same st (read st) refl refl) k.grows;
      after = λ i h. let a = k.after i (here_read h) in record { lined = a.lined; placed = a.placed };
      valued = λ i h ms w ev q.
          let v = k.valued i (here_read h) ms w ev q in
          record {
            found_is = v.found_is;
            scope_in = v.scope_in;
            live = v.live;
            living = record { bounds = v.living.bounds; lives = v.living.lives };
          };
    }

  mutual
    unfolding intern eval

    intern_keeps : (t : Tree) → Each Allowed t → (at cur : ℕ) (env : Env) (b : Bool) (st : State) →
        Checked t b (keys env) → Holds (Owes sem F st cur env (λ ms. eval sem t ms)) (intern t at cur env st)
    intern_keeps (node r ts) allowed at cur env b st c =
        let kids : Kids = λ c e s. intern_all ts r.opcode 0 (suc at) c e s in
        holds_guard (Owes sem F st cur env (λ ms. eval sem (node r ts) ms)) (ltb st.readings 2048) 11 at _ λ e.
        holds_map (Owes sem F (read st) cur env (λ ms. eval sem (node r ts) ms))
        (Owes sem F st cur env (λ ms. eval sem (node r ts) ms))
        (intern_kind (kind r.shape) at cur r env kids (read st))
        (intern_kind_keeps at cur r env ts b c kids
        (λ c e s h. intern_all_keeps ts allowed.1 r.opcode 0 (suc at) c e (is_block r) s h)
        allowed.0 (read st) (kind r.shape) refl) λ o k.
        read_kept st cur env (λ ms. eval sem (node r ts) ms) o k

    pub intern_all_keeps : (ts : Trees) → EachIn Allowed ts → (op j at cur : ℕ) (env : Env) (b : Bool) (st : State) →
        CheckedIn ts b (keys env) → Holds (OwesAll sem F st cur env op j b ts) (intern_all ts op j at cur env st)
    intern_all_keeps nil allowed op j at cur env b st c = nil_keeps sem F op j cur env b st
    intern_all_keeps (cons t ts) allowed op j at cur env b st c =
        holds_bind (OwesIn sem F (thunked op j) st cur env (λ ms. eval sem t ms)) (OwesAll sem F st cur env op j b (cons t ts)) _ _
        (intern_scoped_keeps sem F cur st env (λ ms. eval sem t ms) (thunked op j) (λ c s. intern t at c env s)
        (λ sc s. intern_keeps t allowed.0 at sc env (b && not (is_nil ts)) s (checked-head t ts b (keys env) c))) λ o h.
        holds_bind (OwesAll sem F o.1 cur (bind_def t o.0 env) op (suc j) b ts)
        (OwesAll sem F st cur env op j b (cons t ts)) _ _
        (intern_all_keeps ts allowed.1 op (suc j) (at + size t) cur (bind_def t o.0 env) b o.1
        (rw (bind_def-keys t o.0 env) (checked-tail t ts b (keys env) c))) λ os k.
        cons_keeps sem F op j cur env b t ts st (is_def_is t ts b (keys env) c) o os h k
