-- The symbol of a record's key. In order: a record's node by its shape; a record with no children; room; a node that is
-- no lambda; a lambda.
-- Assumes nothing.
use Prim.Native.Nat.{ℕ, ◌<◌}
use mathlib.Core.Path.{◌≡◌, refl, sym, ap, ◌∙◌, subst}
use mathlib.Core.Bool.{Bool, true, false}
use mathlib.Core.List.{List, []}
use Rattle.std.specs.Prelude.{None}
use native.Mathlib.Omega.{arith}
use borrow.Author.Tests.{eq-eqb, ne_eqb, eqb-true, eqb-false}
use lib.Dec.{eqb}
use Rattle.model.specs.Tree.{Row}
use Rattle.model.specs.Shape.{shapes, fits}
use Rattle.model.specs.Intern.{Out, finish, node_of}
use Rattle.laws.specs.Range.{range}
use Rattle.record.specs.Record.{row_at}
use Rattle.shape.proofs.Fitting.{fitting}
use Rattle.walk.specs.Walk.{WellFormed}
use Rattle.walk.proofs.Bridge.{row_fits}
use Rattle.key.specs.declared.Node.{Node}
use Rattle.key.specs.declared.Node.TheVariants.{Const, Unparsed, Lambda}
use Rattle.key.specs.Key.{node_field, branches_of, first_of, second_of, choose, parts_of}
use Rattle.symbols.specs.Words.{pending_from}
use Rattle.symbols.specs.Symbols.{key_rec}
use Rattle.tables.specs.declared.Tables.{Tables}
use Rattle.interner.specs.declared.State.{State}
use Rattle.interner.specs.declared.Step.{Step}
use Rattle.symbols.specs.Sourced.{Sourced}
use Rattle.interner.specs.State.{abs_of, Rep}
use Rattle.interner.specs.Step.{Answers, BodyOf, Fresh, Ready, finish_of}
use Rattle.key.specs.declared.Branches.{Branches}
use Rattle.key.specs.declared.Branches.TheVariants.{Zero, One, Two}
use Rattle.concluding.specs.Concluding.{op_node, general_node, Concludes, Branched}
use Rattle.interner.proofs.Sharing.{answers_as}

-- ---- a record's node, by its shape

abbrev const_node : ℕ → Node
const_node i = Const (record { source = i })

abbrev unparsed_node : ℕ → Node
unparsed_node i = Unparsed (record { source = i })

module _ (s i : ℕ) (b : Branches) where
  node_cases : (P : Node → Type 0) → (s ≡ 0 → P (const_node i)) → ((s ≡ 0 → ⊥) → s ≡ 1 → P (unparsed_node i)) →
      ((s ≡ 0 → ⊥) → (s ≡ 1 → ⊥) → P (op_node i b)) → P (general_node s i b)
  node_cases P c u o = go (eqb s 0) (eqb s 1) (eqb-true s 0) (eqb-false s 0) (eqb-true s 1) (eqb-false s 1)
    where
      go : (t v : Bool) → (t ≡ true → s ≡ 0) → (t ≡ false → s ≡ 0 → ⊥) → (v ≡ true → s ≡ 1) →
          (v ≡ false → s ≡ 1 → ⊥) → P (choose t (const_node i) (choose v (unparsed_node i) (op_node i b)))
      go true v zero other one more = c (zero refl)
      go false true zero other one more = u (other refl) (one refl)
      go false false zero other one more = o (other refl) (more refl)

-- ---- a record with no children

module _ (r : Row) (h : fits r ≡ true) where
  const_kids : r.rec.shape ≡ 0 → r.kids ≡ 0
  unfolding shapes
  const_kids e = omega (arith, rw e at (fitting r h).many)

  unparsed_kids : r.rec.shape ≡ 1 → r.kids ≡ 0
  unfolding shapes
  unparsed_kids e = omega (arith, rw e at (fitting r h).many)

-- ---- room

module _ {bs ws : List ℕ} {st : State} {i cur inner held count : ℕ}
    (h : Concludes bs ws st i cur inner held count) where
  fresh_from : (node : Node) → (parts_of node).source ≡ i → node_field node ≡ None →
      (parts_of node).first < 4096 → (parts_of node).second < 4096 → Sourced bs node count →
      Fresh bs ws st cur node held count
  fresh_from node source field first second sourced = record {
    from = omega (arith, h.from);
    field = rw field tt;
    first = first;
    second = second;
    current = h.current;
    slots = h.slots;
    pending = h.pending;
    lower = h.lower;
    sourced = sourced;
  }

-- ---- a node that is no lambda

abbrev shape_of : List ℕ → ℕ → ℕ
shape_of bs i = (row_at bs i).rec.shape

branched_low : (b : Branches) → Branched b → (first_of b < 4096) × (second_of b < 4096)
branched_low Zero br = (omega arith, omega arith)
branched_low (One a) br = (br, omega arith)
branched_low (Two a b) br = br

op_ready : {bs ws : List ℕ} {st : State} {i cur held count : ℕ} → Concludes bs ws st i cur cur held count →
    (b : Branches) → Branched b → Ready bs ws st cur (op_node i b) held count
op_ready {i = i} h b br =
    let low = branched_low b br in
    record {
      fresh = fresh_from h (op_node i b) refl refl low.0 low.1 h.children;
      keyed = tt;
      forced = h.forced;
    }

pub general_ready : {bs ws : List ℕ} {st : State} {i cur held count : ℕ} (b : Branches) {node : Node} →
    node ≡ general_node (shape_of bs i) i b → WellFormed bs → Concludes bs ws st i cur cur held count → Branched b →
    Ready bs ws st cur node held count
general_ready {bs} {ws} {st} {i} {cur} {held} {count} b is sound h br =
    let fit = row_fits bs i sound.fit h.from in
    subst (λ (n : Node). Ready bs ws st cur n held count) (sym is)
    (node_cases (shape_of bs i) i b (λ n. Ready bs ws st cur n held count)
    (λ e. let k = const_kids (row_at bs i) fit e in record {
      fresh = fresh_from h (const_node i) refl refl (omega arith) (omega arith) (k, sym h.children ∙ k);
      keyed = tt;
      forced = h.forced;
    })
    (λ n e. let k = unparsed_kids (row_at bs i) fit e in record {
      fresh = fresh_from h (unparsed_node i) refl refl (omega arith) (omega arith)
          (k, sym h.children ∙ k);
      keyed = tt;
      forced = h.forced;
    })
    (λ n m. op_ready h b br))

module _ (bs ws : List ℕ) (t : Tables) (st : State) (i cur held count : ℕ) (b : Branches) where
  abbrev general_of : Out
  general_of =
      finish i cur (row_at bs i).rec (pending_from ws held count) [] (node_of (row_at bs i).rec (branches_of b))
      (abs_of bs ws t st)

  op_is : (shape_of bs i ≡ 0 → ⊥) → (shape_of bs i ≡ 1 → ⊥) →
      finish_of bs ws t st cur (op_node i b) held count ≡ general_of
  unfolding key_rec node_of
  op_is n m = rw (ne_eqb (shape_of bs i) 0 n, ne_eqb (shape_of bs i) 1 m, node_of)

  general_is : finish_of bs ws t st cur (general_node (shape_of bs i) i b) held count ≡ general_of
  unfolding key_rec node_of
  general_is =
      node_cases (shape_of bs i) i b (λ n. finish_of bs ws t st cur n held count ≡ general_of)
      (λ e. rw (eq-eqb (shape_of bs i) 0 e, node_of))
      (λ n e. rw (ne_eqb (shape_of bs i) 0 n, eq-eqb (shape_of bs i) 1 e, node_of))
      op_is

  pub general_answers : {node : Node} → node ≡ general_node (shape_of bs i) i b → {ws' : List ℕ} {r : Step} →
      Answers bs ws t st (finish_of bs ws t st cur node held count) ws' r → Answers bs ws t st general_of ws' r
  general_answers e a = answers_as a (ap (λ (n : Node). finish_of bs ws t st cur n held count) e ∙ general_is)

-- ---- a lambda

pub lambda_ready : {bs ws : List ℕ} {st : State} {i cur held first body : ℕ} → Rep bs ws st →
    Concludes bs ws st i cur body held 1 → (shape_of bs i ≡ 12) × (first < 4096) →
    BodyOf ws st.scopes cur body (range first (row_at bs i).rec.aux) →
    Ready bs ws st cur (Lambda (record { source = i; first = first; body = body })) held 1
lambda_ready {i = i} {first = first} {body = body} rep h p b = record {
  fresh = fresh_from h (Lambda (record { source = i; first = first; body = body })) refl refl p.1
      (omega (arith, b.low, rep.arena.scoped.few_scopes)) (p.0, refl);
  keyed = b;
  forced = h.forced;
}
