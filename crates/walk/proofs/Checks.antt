-- The walk with each of the four tests is the model's check.
-- In order: a check that knows more is the check of the part that it looks at; 7, 8, 9, 10.
-- Assumes nothing.
use Prim.Native.Nat.{ℕ}
use mathlib.Core.Path.{◌≡◌, refl, ap, ◌∙◌}
use mathlib.Core.List.{List}
use Rattle.model.specs.Lists.{first}
use Rattle.model.specs.Tree.{Rec, Tree, Trees, node, nil, cons}
use Rattle.model.specs.Faults.{Check, faults, faults_in}
use Rattle.model.specs.Forest.{trees_of, depth_check, check7}
use Rattle.model.specs.Binding.{place_check, ids_check, rebound_at, unbound_at, check8, check9, check10}
use Rattle.walk.specs.declared.Test.TheVariants.{Depth, Definitions, Bindings, Uses}
use Rattle.walk.specs.Faults.{start, check_by}

-- what k knows has a part that goes the way of what l knows, and k looks at that part as l does
module _ {C D : Type 0} (k : Check C) (l : Check D) (part : C → D)
    (at-record : (c : C) (r : Rec) → k.offends c r ≡ l.offends (part c) r)
    (inner : (r : Rec) (c : C) → part (k.inner r c) ≡ l.inner r (part c))
    (here : (c : C) (ts : Trees) → part (k.here c ts) ≡ l.here (part c) ts)
    (later : (t : Tree) (c : C) → part (k.later t c) ≡ l.later t (part c)) where
  mutual
    unfolding faults

    walk_is : (t : Tree) (c : C) → faults k t c ≡ faults l t (part c)
    walk_is (node r ts) c =
        let a = at-record c r in
        let b = walks_are ts (k.inner r c) ∙ ap (faults_in l ts) (inner r c) in
        cc

    walks_are : (ts : Trees) (c : C) → faults_in k ts c ≡ faults_in l ts (part c)
    walks_are nil c = refl
    walks_are (cons t ts) c =
        let a = walk_is t (k.here c ts) ∙ ap (faults l t) (here c ts) in
        let b = walks_are ts (k.later t c) ∙ ap (faults_in l ts) (later t c) in
        cc

pub check_7 : (bs : List ℕ) → first (faults_in (check_by Depth) (trees_of bs) start) ≡ check7 bs
unfolding check7
check_7 bs =
    ap first (walks_are (check_by Depth) depth_check (λ c. c.depth) (λ c r. refl) (λ r c. refl) (λ c ts. refl) (λ t c. refl)
    (trees_of bs) start)

pub check_8 : (ts : Trees) → first (faults_in (check_by Definitions) ts start) ≡ check8 ts
unfolding check8
check_8 ts =
    ap first (walks_are (check_by Definitions) place_check (λ c. c.def) (λ c r. refl) (λ r c. refl) (λ c ts. refl) (λ t c. refl)
    ts start)

pub check_9 : (ts : Trees) → first (faults_in (check_by Bindings) ts start) ≡ check9 ts
unfolding check9
check_9 ts =
    ap first (walks_are (check_by Bindings) (ids_check rebound_at) (λ c. c.ids) (λ c r. refl) (λ r c. refl) (λ c ts. refl)
    (λ t c. refl) ts start)

pub check_10 : (ts : Trees) → first (faults_in (check_by Uses) ts start) ≡ check10 ts
unfolding check10
check_10 ts =
    ap first (walks_are (check_by Uses) (ids_check unbound_at) (λ c. c.ids) (λ c r. refl) (λ r c. refl) (λ c ts. refl)
    (λ t c. refl) ts start)
