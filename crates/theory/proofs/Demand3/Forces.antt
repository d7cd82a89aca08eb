-- The ids that checks 9 and 10 carry along are those in force by record numbers, whatever a definition stands in
-- (`Loose`): `known_ids`.
-- In order: what a record binds; `Loose`; trees taken apart; what the checks know at each record.
-- Assumes nothing.
use mathlib.Core.Path.{◌≡◌, refl, ap, sym, ◌∙◌}
use mathlib.Core.Logic.{◌⊎◌, inl, inr, ◌↔◌}
use mathlib.Core.Bool.{Bool, true, false}
use mathlib.Core.List.{List, [], ◌∷◌, ◌++◌}
use Prim.Native.Nat.{ℕ, suc, ◌+◌, ◌≤◌, ◌<◌}
use native.Mathlib.Omega.{arith}
use lib.Dec.{eqb}
use lib.ListN.{get_or}
use borrow.Author.Tests.{eqb-true, eq-eqb}
use Rattle.model.specs.Tree.{Rec, Trees, node, cons, sizes}
use Rattle.model.specs.Faults.{faults_in}
use Rattle.model.specs.Binding.{Kind, kind, val_use, val_def, block, lambda, field, other, id_of, arg_ids, inside, defined}
use Rattle.model.specs.Binding.{after, ids_check}
use Rattle.model.specs.Nesting.{rec_in, shape_in, end_of, Descends}
use Rattle.laws.specs.Members.{In}
use Rattle.laws.proofs.Members.{in_left, in_right, in_either}
use Rattle.theory.proofs.Demand3.Nesting.{Spot, top, under, later, spot, rec-top, rec-under, rec_later, extent_top}
use Rattle.theory.proofs.Demand3.Nesting.{extent_under, extent_later, all_sizes, extent_fits, below-range}
use Rattle.theory.proofs.Demand3.Nesting.{below_top, top_below, below-under, under-below, under-not_later}
use Rattle.theory.proofs.Demand3.Nesting.{below_later, later_below}
use Rattle.theory.proofs.Demand3.Faulty.{said}

-- ---- what a record binds

lambda_shape : (s : ℕ) → kind s ≡ lambda → s ≡ 12
unfolding kind
lambda_shape s e = go (eqb s 7) (eqb s 10) (eqb s 11) (eqb s 12) (eqb s 17) refl e
  where
    go : (a b c d e : Bool) → eqb s 12 ≡ d →
        elim a as (λ z. Kind) [
          | true ↦ val_use
          | false ↦ elim b [
            | true ↦ val_def
            | false ↦ elim c [
              | true ↦ block
              | false ↦ elim d [ true ↦ lambda | false ↦ elim e [ true ↦ field | false ↦ other ] ]
            ]
          ]
        ] ≡ lambda →
        s ≡ 12
    go true b c d e f h = cc
    go false true c d e f h = cc
    go false false true d e f h = cc
    go false false false true e f h = eqb-true s 12 f
    go false false false false true f h = cc
    go false false false false false f h = cc

pub inside_lambda : (r : Rec) (i : ℕ) → In i (inside r) → (r.shape ≡ 12) × In i (arg_ids r)
unfolding inside
inside_lambda r i h = go (kind r.shape) refl h
  where
    go : (k : Kind) → kind r.shape ≡ k →
        In i (elim k [ val_use ↦ [] | val_def ↦ [] | block ↦ [] | lambda ↦ arg_ids r | field ↦ [] | other ↦ [] ]) →
        (r.shape ≡ 12) × In i (arg_ids r)
    go val_use e h = absurd h
    go val_def e h = absurd h
    go block e h = absurd h
    go lambda e h = (lambda_shape r.shape e, h)
    go field e h = absurd h
    go other e h = absurd h

pub lambda_inside : (r : Rec) (i : ℕ) → r.shape ≡ 12 → In i (arg_ids r) → In i (inside r)
unfolding kind inside
lambda_inside r i e h = let k : kind r.shape ≡ lambda = ap kind e in rw (inside, k) h

pub defined_def : (r : Rec) (i : ℕ) → In i (defined r) → (r.shape ≡ 10) × (id_of r ≡ i)
defined_def r i h = go (eqb r.shape 10) refl h
  where
    go : (b : Bool) → eqb r.shape 10 ≡ b → In i (elim b [ true ↦ id_of r ∷ [] | false ↦ [] ]) →
        (r.shape ≡ 10) × (id_of r ≡ i)
    go true e (inl f) = (eqb-true r.shape 10 e, sym f)
    go true e (inr h) = absurd h
    go false e h = absurd h

pub def_defined : (r : Rec) (i : ℕ) → r.shape ≡ 10 → id_of r ≡ i → In i (defined r)
def_defined r i e f = rw (eq-eqb r.shape 10 e, In) (inl (sym f))

-- ---- ids in force, whatever a definition stands in: to the end of all that it lies below

pub data Loose (ts : Trees) (i p : ℕ) : Type 0 where
  def : (d : ℕ) → d < sizes ts → shape_in ts d ≡ 10 → id_of (rec_in ts d) ≡ i → end_of ts d ≤ p →
      ((c : ℕ) → Descends ts c d → Descends ts c p) → Loose ts i p
  arg : (l : ℕ) → shape_in ts l ≡ 12 → In i (arg_ids (rec_in ts l)) → Descends ts l p → Loose ts i p

-- ---- trees taken apart

module _ (r : Rec) (us ts : Trees) (i : ℕ) where
  abbrev W : Trees
  W = cons (node r us) ts

  loose_inside : (q : ℕ) → q < sizes us → In i (inside r) → Loose W i (suc q)
  loose_inside q l h =
      let w = inside_lambda r i h in
      arg 0 (ap (λ z. z.shape) (rec-top r us ts) ∙ w.0) (rw (rec-top r us ts) w.1) (below_top r us ts q l)

  loose_under : (q : ℕ) → q < sizes us → Loose us i q → Loose W i (suc q)
  loose_under q l (def d k s e h f) =
      def (suc d) (omega (arith, all_sizes r us ts)) (ap (λ z. z.shape) (rec-under r us ts d k) ∙ s)
      (ap id_of (rec-under r us ts d k) ∙ e) (omega (arith, extent_under r us ts d k)) (λ c. go c (spot (sizes us) c))
    where
      go : (c : ℕ) → Spot (sizes us) c → Descends W c (suc d) → Descends W c (suc q)
      go c top b = below_top r us ts q l
      go c (under a j) b = below-under r us ts a q j (f a (under-below r us ts a d j b))
      go c (later a) b = absurd (omega (arith, b.0))
  loose_under q l (arg a s h b) =
      let j = (below-range us a q b).0 in
      arg (suc a) (ap (λ z. z.shape) (rec-under r us ts a j) ∙ s) (rw (rec-under r us ts a j) h)
      (below-under r us ts a q j b)

  under_loose : (q : ℕ) → q < sizes us → Loose W i (suc q) → In i (inside r) ⊎ Loose us i q
  under_loose q l (def d k s e h f) = go d (spot (sizes us) d) s e h f
    where
      go : (d : ℕ) → Spot (sizes us) d → shape_in W d ≡ 10 → id_of (rec_in W d) ≡ i → end_of W d ≤ suc q →
          ((c : ℕ) → Descends W c d → Descends W c (suc q)) → In i (inside r) ⊎ Loose us i q
      go d top s e h f = absurd (omega (arith, extent_top r us ts))
      go d (under a j) s e h f =
          inr (def a j (sym (ap (λ z. z.shape) (rec-under r us ts a j)) ∙ s)
          (sym (ap id_of (rec-under r us ts a j)) ∙ e) (omega (arith, extent_under r us ts a j)) (λ c b.
          let k = (below-range us c a b).0 in under-below r us ts c q k (f (suc c) (below-under r us ts c a k b))))
      go d (later a) s e h f = absurd (omega arith)
  under_loose q l (arg a s h b) = go a (spot (sizes us) a) s h b
    where
      go : (a : ℕ) → Spot (sizes us) a → shape_in W a ≡ 12 → In i (arg_ids (rec_in W a)) → Descends W a (suc q) →
          In i (inside r) ⊎ Loose us i q
      go a top s h b =
          inl (lambda_inside r i (sym (ap (λ z. z.shape) (rec-top r us ts)) ∙ s) (rw (rec-top r us ts) at h))
      go a (under c j) s h b =
          inr (arg c (sym (ap (λ z. z.shape) (rec-under r us ts c j)) ∙ s) (rw (rec-under r us ts c j) at h)
          (under-below r us ts c q j b))
      go a (later c) s h b = absurd (omega (arith, b.0))

  loose_after : (q : ℕ) → In i (after (node r us)) → Loose W i (suc (sizes us + q))
  unfolding after
  loose_after q h =
      let w = defined_def r i h in
      def 0 (omega (arith, all_sizes r us ts)) (ap (λ z. z.shape) (rec-top r us ts) ∙ w.0)
      (ap id_of (rec-top r us ts) ∙ w.1) (omega (arith, extent_top r us ts)) (λ c b. absurd (omega (arith, b.0)))

  loose_later : (q : ℕ) → Loose ts i q → Loose W i (suc (sizes us + q))
  loose_later q (def d k s e h f) =
      def (suc (sizes us + d)) (omega (arith, all_sizes r us ts)) (ap (λ z. z.shape) (rec_later r us ts d) ∙ s)
      (ap id_of (rec_later r us ts d) ∙ e) (omega (arith, extent_later r us ts d)) (λ c. go c (spot (sizes us) c))
    where
      go : (c : ℕ) → Spot (sizes us) c → Descends W c (suc (sizes us + d)) → Descends W c (suc (sizes us + q))
      go c top b = absurd (top_below r us ts d b)
      go c (under a j) b = absurd (under-not_later r us ts a d j b)
      go c (later a) b = below_later r us ts a q (f a (later_below r us ts a d b))
  loose_later q (arg a s h b) =
      arg (suc (sizes us + a)) (ap (λ z. z.shape) (rec_later r us ts a) ∙ s) (rw (rec_later r us ts a) h)
      (below_later r us ts a q b)

  later_loose : (q : ℕ) → Loose W i (suc (sizes us + q)) → In i (after (node r us)) ⊎ Loose ts i q
  unfolding after
  later_loose q (def d k s e h f) = go d (spot (sizes us) d) k s e h f
    where
      go : (d : ℕ) → Spot (sizes us) d → d < sizes W → shape_in W d ≡ 10 → id_of (rec_in W d) ≡ i →
          end_of W d ≤ suc (sizes us + q) →
          ((c : ℕ) → Descends W c d → Descends W c (suc (sizes us + q))) → In i (after (node r us)) ⊎ Loose ts i q
      go d top k s e h f =
          inl (def_defined r i (sym (ap (λ z. z.shape) (rec-top r us ts)) ∙ s)
          (sym (ap id_of (rec-top r us ts)) ∙ e))
      go d (under a j) k s e h f = absurd (top_below r us ts q (f 0 (below_top r us ts a j)))
      go d (later a) k s e h f =
          inr (def a (omega (arith, all_sizes r us ts)) (sym (ap (λ z. z.shape) (rec_later r us ts a)) ∙ s)
          (sym (ap id_of (rec_later r us ts a)) ∙ e) (omega (arith, extent_later r us ts a)) (λ c b.
          later_below r us ts c q (f (suc (sizes us + c)) (below_later r us ts c a b))))
  later_loose q (arg a s h b) = go a (spot (sizes us) a) s h b
    where
      go : (a : ℕ) → Spot (sizes us) a → shape_in W a ≡ 12 → In i (arg_ids (rec_in W a)) →
          Descends W a (suc (sizes us + q)) → In i (after (node r us)) ⊎ Loose ts i q
      go a top s h b = absurd (top_below r us ts q b)
      go a (under c j) s h b = absurd (under-not_later r us ts c q j b)
      go a (later c) s h b =
          inr (arg c (sym (ap (λ z. z.shape) (rec_later r us ts c)) ∙ s) (rw (rec_later r us ts c) at h)
          (later_below r us ts c q b))

  top_loose : Loose W i 0 → ⊥
  top_loose (def d k s e h f) = omega (arith, (extent_fits W d k).0)
  top_loose (arg a s h b) = omega (arith, b.0)

-- ---- what the checks know at each record

-- the ids at record p are the first ones and those in force
abbrev At : Trees → List ℕ → ℕ → List ℕ → Type 0
At ts ids p env = (i : ℕ) → In i env ↔ (In i ids ⊎ Loose ts i p)

-- the ids handed on: new ones, or those from before
handed : (i : ℕ) (new ids : List ℕ) {L K : Type 0} → (In i new → K) → (L → K) → In i (new ++ ids) ⊎ L →
    In i ids ⊎ K
handed i new ids f g (inr h) = inr (g h)
handed i new ids {K} f g (inl h) = go (in_either i new ids h)
  where
    go : In i new ⊎ In i ids → In i ids ⊎ K
    go (inl k) = inr (f k)
    go (inr k) = inl k

taken : (i : ℕ) (new ids : List ℕ) {L K : Type 0} → (K → In i new ⊎ L) → In i ids ⊎ K → In i (new ++ ids) ⊎ L
taken i new ids f (inl h) = inl (in_right i new ids h)
taken i new ids {L} f (inr k) = go (f k)
  where
    go : In i new ⊎ L → In i (new ++ ids) ⊎ L
    go (inl h) = inl (in_left i new ids h)
    go (inr h) = inr h

pub known_ids : (test : List ℕ → Rec → Bool) (ts : Trees) (ids : List ℕ) (p : ℕ) → p < sizes ts →
    (env : List ℕ) × (get_or (faults_in (ids_check test) ts ids) p false ≡ test env (rec_in ts p)) × At ts ids p env
known_ids test =
    said (ids_check test) At
    (λ r us ts ids i. (λ h. inl h, λ h. elim h [ inl k ↦ k | inr k ↦ absurd (top_loose r us ts i k) ]))
    (λ r us ts ids q env j w i. (
      λ h. handed i (inside r) ids (loose_inside r us ts i q j) (loose_under r us ts i q j) ((w i).0 h),
      λ h. (w i).1 (taken i (inside r) ids (under_loose r us ts i q j) h),
    ))
    (λ r us ts ids q env w i. (
      λ h. handed i (after (node r us)) ids (loose_after r us ts i q) (loose_later r us ts i q) ((w i).0 h),
      λ h. (w i).1 (taken i (after (node r us)) ids (later_loose r us ts i q) h),
    ))
