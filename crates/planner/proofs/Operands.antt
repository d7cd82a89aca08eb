-- Where operands are built. In order: the scopes left where there are none, and at the two operands
-- that can be thunks; the first of them; all are there; one operand of an operation.
-- Assumes nothing.
use Prim.Native.Nat.{ℕ, zero, suc, ◌<◌}
use mathlib.Core.Path.{◌≡◌, refl, sym, subst}
use mathlib.Core.Logic.{inl, inr}
use mathlib.Core.Bool.{Bool, true, false, ◌&&◌, ◌||◌}
use Rattle.std.specs.Prelude.{Option, None, IfSome}
use Rattle.std.specs.Bool.{then_some}
use mathlib.Core.List.{List, [], ◌∷◌}
use lib.Dec.{eqb}
use lib.ListN.{drop}
use borrow.Author.Tests.{eqb-true, eqb-false, ne_eqb}
use Rattle.model.specs.Tree.{Trees, cons}
use Rattle.model.specs.Intern.{thunked, Env}
use Rattle.model.specs.Gate.{Graph}
use Rattle.model.specs.Materialize.{build_op, build_value}
use Rattle.model.specs.Labels.{LTrees, lcons, l_build_op, l_build_value}
use Rattle.laws.specs.Members.{Every, Under}
use Rattle.laws.proofs.Apart.{false_true}
use Rattle.laws.proofs.Building.{op_left, op_eager, op_thunk}
use Rattle.labels.proofs.Steps.{l_op_left, l_op_eager, l_op_thunk}
use Rattle.key.specs.declared.Operation.{Operation}
use Rattle.shape.proofs.Thunks.{first_eager}
use Rattle.key.specs.Key.{branches_of}
use Rattle.planner.specs.Building.{left_at, first_scope, opened_at, operand_tree, l_operand_tree}

-- ---- the scopes left

-- a thunk that is not operand 1 is operand 2 of an IF
second_thunk : (op j : ℕ) → thunked op j ≡ true → (j ≡ 1 → ⊥) → (op ≡ 0x95) × (j ≡ 2)
unfolding thunked
second_thunk op j e n =
    let w = go (eqb op 0x95) (eqb j 2) (eqb op 0xED || eqb op 0xEC) (rw (ne_eqb j 1 n) at e) in
    (eqb-true op 0x95 w.0, eqb-true j 2 w.1)
  where
    go : (a b d : Bool) → ((a && b) || (d && false)) ≡ true → (a ≡ true) × (b ≡ true)
    go true true d h = (refl, refl)
    go true false true h = false_true h
    go true false false h = false_true h
    go false b true h = false_true h
    go false b false h = false_true h

left_none : (op j : ℕ) → left_at op [] j ≡ []
unfolding left_at
left_none op zero = refl
left_none op (suc j) = go (thunked op j) (left_none op j)
  where
    go : (b : Bool) {brs : List ℕ} → brs ≡ [] → ◌≡◌ {A = List ℕ} (elim b [ true ↦ drop 1 brs | false ↦ brs ]) []
    go true e = rw e
    go false e = e

-- an operation without thunks
pub opened_zero : (op j : ℕ) → opened_at op [] j ≡ None
unfolding opened_at
opened_zero op j = go (thunked op j) (left_none op j)
  where
    go : (b : Bool) {brs : List ℕ} → brs ≡ [] → ◌≡◌ {A = Option ℕ} (elim b [ true ↦ first_scope brs | false ↦ None ]) None
    go true f = rw f
    go false f = refl

module _ (op : ℕ) (brs : List ℕ) (j : ℕ) where
  pub opened_none : thunked op j ≡ false → opened_at op brs j ≡ None
  unfolding opened_at
  opened_none e = rw (e, opened_at)

  pub opened-first : thunked op j ≡ true → j ≡ 1 → opened_at op brs j ≡ first_scope brs
  unfolding opened_at left_at
  opened-first e f =
      let one : left_at op brs j ≡ brs = rw f (rw (first_eager op, left_at)) in
      rw (e, opened_at, one)

  pub opened_second : thunked op j ≡ true → (j ≡ 1 → ⊥) → opened_at op brs j ≡ first_scope (drop 1 brs)
  unfolding opened_at left_at thunked
  opened_second e n =
      let w = second_thunk op j e n in
      let two : left_at op brs j ≡ drop 1 brs = rw (w.0, w.1) in
      rw (e, opened_at, two)

-- ---- one thunk

module _ (op j : ℕ) (is : thunked op j ≡ true) where
  pub opened_one : (a : ℕ) → opened_at op (a ∷ []) j ≡ then_some (eqb j 1) a
  opened_one a = go (eqb j 1) refl
    where
      go : (t : Bool) → eqb j 1 ≡ t → opened_at op (a ∷ []) j ≡ then_some t a
      go true e = opened-first op (a ∷ []) j is (eqb-true j 1 e)
      go false e = opened_second op (a ∷ []) j is (eqb-false j 1 e)

-- ---- all scopes are there

module _ (m : ℕ) where
  low_drop : (brs : List ℕ) → Every (λ b. b < m) brs → Every (λ b. b < m) (drop 1 brs)
  low_drop [] h = h
  low_drop (x ∷ brs) h = λ b i. h b (inr i)

  low_left : (op : ℕ) (brs : List ℕ) → Every (λ b. b < m) brs → (j : ℕ) → Every (λ b. b < m) (left_at op brs j)
  unfolding left_at
  low_left op brs h zero = h
  low_left op brs h (suc j) = go (thunked op j) (low_left op brs h j)
    where
      go : (t : Bool) → Every (λ b. b < m) (left_at op brs j) →
          Every (λ b. b < m) (elim t [ true ↦ drop 1 (left_at op brs j) | false ↦ left_at op brs j ])
      go true k = low_drop (left_at op brs j) k
      go false k = k

  low_first : (brs : List ℕ) → Every (λ b. b < m) brs → IfSome (first_scope brs) (λ b. b < m)
  low_first [] h = tt
  low_first (b ∷ brs) h = h b (inl refl)

  low_opened : (op : ℕ) (brs : List ℕ) → Every (λ b. b < m) brs → (j : ℕ) → IfSome (opened_at op brs j) (λ b. b < m)
  unfolding opened_at
  low_opened op brs h j = go (thunked op j)
    where
      go : (t : Bool) → IfSome (elim t [ true ↦ first_scope (left_at op brs j) | false ↦ None ]) (λ b. b < m)
      go true = low_first (left_at op brs j) (low_left op brs h j)
      go false = tt

pub opened_there : {m : ℕ} (op : ℕ) (o : Operation) (j : ℕ) {w : Option ℕ} → w ≡ opened_at op (branches_of o.branches) j
    → Under m (branches_of o.branches) → IfSome w (λ b. b < m)
opened_there {m} op o j e h =
    subst (λ (x : Option ℕ). IfSome x (λ b. b < m)) (sym e) (low_opened m op (branches_of o.branches) h j)

-- ---- one operand

module _ (gr : Graph) (sc : ℕ) (env : Env) (last op : ℕ) (brs : List ℕ) (j k : ℕ) (ks : List ℕ) where
  abbrev after : List ℕ → Trees
  after left = build_op gr (build_value gr) sc env last op (suc j) ks left

  pub operand_next : build_op gr (build_value gr) sc env last op j (k ∷ ks) (left_at op brs j)
      ≡ cons (operand_tree (opened_at op brs j) gr k sc env last) (after (left_at op brs (suc j)))
  unfolding left_at opened_at
  operand_next = go (thunked op j) refl (left_at op brs j)
    where
      go : (t : Bool) → thunked op j ≡ t → (l : List ℕ)
          → build_op gr (build_value gr) sc env last op j (k ∷ ks) l
          ≡ cons (operand_tree (elim t [ true ↦ first_scope l | false ↦ None ]) gr k sc env last)
          (after (elim t [ true ↦ drop 1 l | false ↦ l ]))
      go true e [] = op_left gr (build_value gr) sc env last op j k ks
      go true e (b ∷ l) = op_thunk gr (build_value gr) sc env last op j k ks b l e
      go false e l = op_eager gr (build_value gr) sc env last op j k ks l e

  -- and with labels
  abbrev l_after : List ℕ → LTrees
  l_after left = l_build_op gr (l_build_value gr) sc env last op (suc j) ks left

  pub l_operand_next : l_build_op gr (l_build_value gr) sc env last op j (k ∷ ks) (left_at op brs j)
      ≡ lcons (l_operand_tree (opened_at op brs j) gr k sc env last) (l_after (left_at op brs (suc j)))
  unfolding left_at opened_at
  l_operand_next = go (thunked op j) refl (left_at op brs j)
    where
      go : (t : Bool) → thunked op j ≡ t → (l : List ℕ)
          → l_build_op gr (l_build_value gr) sc env last op j (k ∷ ks) l
          ≡ lcons (l_operand_tree (elim t [ true ↦ first_scope l | false ↦ None ]) gr k sc env last)
          (l_after (elim t [ true ↦ drop 1 l | false ↦ l ]))
      go true e [] = l_op_left gr (l_build_value gr) sc env last op j k ks
      go true e (b ∷ l) = l_op_thunk gr (l_build_value gr) sc env last op j k ks b l e
      go false e l = l_op_eager gr (l_build_value gr) sc env last op j k ks l e
