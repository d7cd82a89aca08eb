-- What a check finds that has a test for each record: the first faulty place; what the walk of checks 7 to 10 says.
-- In order: the first faulty place; two conditions with one first place; no place found; what the walk says of each
-- record.
-- Assumes nothing.
use mathlib.Core.Path.{◌≡◌, refl, ap, sym, ◌∙◌, subst}
use mathlib.Core.Logic.{◌⊎◌, inl, inr, ◌↔◌}
use mathlib.Core.Bool.{Bool, true, false}
use Rattle.std.specs.Prelude.{Option, None, Some}
use Rattle.std.proofs.lemmas.Option.{same_Some}
use mathlib.Core.List.{List, [], ◌∷◌}
use Prim.Native.Nat.{ℕ, zero, suc, ◌+◌, ◌<◌}
use native.Mathlib.Omega.{arith}
use lib.Dec.{ltb}
use lib.ListN.{length, get_or, get_or-eq_default}
use borrow.Author.Tests.{ltb-true, ltb-false}
use Rattle.model.specs.Lists.{first}
use Rattle.model.specs.Tree.{Rec, Trees, node, cons, sizes}
use Rattle.model.specs.Faults.{Check, faults, faults_in}
use Rattle.model.specs.Places.{First}
use Rattle.model.specs.Nesting.{rec_in}
use Rattle.laws.specs.Clear.{Clear}
use Rattle.laws.proofs.Apart.{none_some, false_true}
use Rattle.laws.proofs.Members.{clash}
use Rattle.laws.proofs.Clear.{first_clear, faults_in_length}
use Rattle.theory.proofs.Demand3.Nesting.{Spot, top, under, later, spot, by_parts, joined_left, joined_right}
use Rattle.theory.proofs.Demand3.Nesting.{rec-top, rec-under, rec_later, all_sizes, nil_sizes}

-- in a list with a test for each record, in the file's order, that of record p is true
abbrev pub Faulty : List Bool → ℕ → Type 0
Faulty tests p = get_or tests p false ≡ true

-- ---- the first faulty place

first_some : (bs : List Bool) (p : ℕ) → first bs ≡ Some p → First (Faulty bs) p
unfolding first
first_some [] p e = none_some e
first_some (true ∷ bs) p e =
    subst (First (Faulty (true ∷ bs))) (same_Some _ _ e) (refl, λ q l. absurd (omega arith))
first_some (false ∷ bs) p e = go (first bs) refl e (λ i f. first_some bs i f)
  where
    step : (i : ℕ) → First (Faulty bs) i → First (Faulty (false ∷ bs)) (suc i)
    step i h = (h.0, lower)
      where
        lower : (q : ℕ) → q < suc i → Faulty (false ∷ bs) q → ⊥
        lower zero l m = clash false m refl
        lower (suc q) l m = h.1 q (omega arith) m

    go : (o : Option ℕ) → first bs ≡ o → elim o [ None ↦ None | Some i ↦ Some (suc i) ] ≡ Some p →
        ((i : ℕ) → first bs ≡ Some i → First (Faulty bs) i) → First (Faulty (false ∷ bs)) p
    go None f e rest = none_some e
    go (Some i) f e rest = subst (First (Faulty (false ∷ bs))) (same_Some _ _ e) (step i (rest i f))

some_first : (bs : List Bool) (p : ℕ) → First (Faulty bs) p → first bs ≡ Some p
unfolding first
some_first [] p h = absurd (clash false h.0 refl)
some_first (true ∷ bs) zero h = refl
some_first (true ∷ bs) (suc p) h = absurd (h.1 0 (omega arith) refl)
some_first (false ∷ bs) zero h = absurd (clash false h.0 refl)
some_first (false ∷ bs) (suc p) h = rw (some_first bs p (h.0, λ q l m. h.1 (suc q) (omega arith) m), first)

-- `first` gives the least place that is faulty: the first of which P holds, where the tests say P
pub first_of : (P : ℕ → Type 0) (bs : List Bool) → ((q : ℕ) → Faulty bs q ↔ P q) → (p : ℕ) → (first bs ≡ Some p) ↔ First P p
first_of P bs same p = (
  λ e. let h = first_some bs p e in ((same p).0 h.0, λ q l m. h.1 q l ((same q).1 m)),
  λ h. some_first bs p ((same p).1 h.0, λ q l m. h.1 q l ((same q).0 m)),
)

-- ---- two conditions with one first place

-- where P holds, Q does; where Q holds, P does there or before
pub first_same : (P Q : ℕ → Type 0) → ((p : ℕ) → P p → Q p) →
    ((p : ℕ) → Q p → P p ⊎ ((q : ℕ) × (q < p) × P q)) → (p : ℕ) → First P p ↔ First Q p
first_same P Q to back p = (
  λ h. (to p h.0, λ q l m. lower h q l (back q m)),
  λ h. (here h (back p h.0), λ q l d. h.1 q l (to q d)),
)
  where
    lower : First P p → (q : ℕ) → q < p → P q ⊎ ((i : ℕ) × (i < q) × P i) → ⊥
    lower h q l (inl d) = h.1 q l d
    lower h q l (inr (i, k, d)) = h.1 i (omega arith) d

    here : First Q p → P p ⊎ ((q : ℕ) × (q < p) × P q) → P p
    here h (inl d) = d
    here h (inr (q, l, d)) = absurd (h.1 q l (to q d))

-- ---- no place found

clear_faulty : (bs : List Bool) → Clear bs → (p : ℕ) → Faulty bs p → ⊥
clear_faulty [] h p m = false_true m
clear_faulty (b ∷ bs) h zero m = clash b m h.0
clear_faulty (b ∷ bs) h (suc p) m = clear_faulty bs h.1 p m

pub none_faulty : (bs : List Bool) → first bs ≡ None → (p : ℕ) → Faulty bs p → ⊥
none_faulty bs e = clear_faulty bs (first_clear bs e)

-- what is faulty is there
faulty_there : (bs : List Bool) (n p : ℕ) → length bs ≡ n → Faulty bs p → p < n
faulty_there bs n p e m = go (ltb p n) refl
  where
    go : (b : Bool) → ltb p n ≡ b → p < n
    go true f = ltb-true p n f
    go false f =
        false_true (sym (get_or-eq_default bs false (omega (arith, e, ltb-false p n f))) ∙ m)

-- ---- what the walk says of each record

module _ {C : Type 0} (k : Check C) where
  pub fault_there : (ts : Trees) (c : C) (p : ℕ) → Faulty (faults_in k ts c) p → p < sizes ts
  fault_there ts c p = faulty_there (faults_in k ts c) (sizes ts) p (faults_in_length k ts c)

  -- d is what the check knows at record p of trees in a row, at which it knows c: `At ts c p d`. It is what it knows at
  -- the first record, or at one below it, or at one of the later trees
  module _ (At : Trees → C → ℕ → C → Type 0)
      (at_top : (r : Rec) (us ts : Trees) (c : C) → At (cons (node r us) ts) c 0 (k.here c ts))
      (at_under : (r : Rec) (us ts : Trees) (c : C) (q : ℕ) (d : C) → q < sizes us →
      At us (k.inner r (k.here c ts)) q d → At (cons (node r us) ts) c (suc q) d)
      (at-later : (r : Rec) (us ts : Trees) (c : C) (q : ℕ) (d : C) → At ts (k.later (node r us) c) q d →
      At (cons (node r us) ts) c (suc (sizes us + q)) d) where
    -- the test of record p is made with what the check knows there
    abbrev Said : Trees → C → ℕ → Type 0
    Said ts c p = (d : C) × (get_or (faults_in k ts c) p false ≡ k.offends d (rec_in ts p)) × At ts c p d

    abbrev AllSaid : Trees → Type 0
    AllSaid ts = (c : C) (p : ℕ) → p < sizes ts → Said ts c p

    said_step : (r : Rec) (us ts : Trees) → AllSaid us → AllSaid ts → AllSaid (cons (node r us) ts)
    unfolding faults
    said_step r us ts f g c p l = go p (spot (sizes us) p) l
      where
        go : (p : ℕ) → Spot (sizes us) p → p < sizes (cons (node r us) ts) → Said (cons (node r us) ts) c p
        go p top l = (k.here c ts, ap (k.offends (k.here c ts)) (sym (rec-top r us ts)), at_top r us ts c)
        go p (under q j) l =
            let w = f (k.inner r (k.here c ts)) q j in (
              w.0,
              joined_left (faults_in k us (k.inner r (k.here c ts))) _ false (sizes us)
                  (faults_in_length k us (k.inner r (k.here c ts))) q j ∙
                  w.1 ∙ ap (k.offends w.0) (sym (rec-under r us ts q j)),
              at_under r us ts c q w.0 j w.2,
            )
        go p (later q) l =
            let w = g (k.later (node r us) c) q (omega (arith, all_sizes r us ts)) in (
              w.0,
              joined_right (faults_in k us (k.inner r (k.here c ts))) (faults_in k ts (k.later (node r us) c)) false
                  (sizes us) (faults_in_length k us (k.inner r (k.here c ts))) q ∙
                  w.1 ∙ ap (k.offends w.0) (sym (rec_later r us ts q)),
              at-later r us ts c q w.0 w.2,
            )

    pub said : (ts : Trees) (c : C) (p : ℕ) → p < sizes ts → Said ts c p
    said = by_parts AllSaid (λ c p l. absurd (omega (arith, nil_sizes))) said_step
