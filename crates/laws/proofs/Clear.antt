-- Lists of tests: `Clear` says that no test is true, which is when `first` finds no place.
--
-- In order: `Clear`, and `◌++◌`; trees in a row; `Clear` and `first`; how many tests a walk makes. A check that passes
-- is taken apart, and put together, by these.
-- Assumes nothing.
use mathlib.Core.Path.{◌≡◌, refl, ap, ap₂, ◌∙◌}
use mathlib.Core.Bool.{Bool, true, false}
use Rattle.std.specs.Prelude.{Option, None, Some}
use mathlib.Core.List.{List, [], ◌∷◌, ◌++◌}
use Prim.Native.Nat.{ℕ, suc, ◌+◌}
use lib.ListN.{length, length-append}
use Rattle.model.specs.Lists.{first}
use Rattle.model.specs.Tree.{Tree, Trees, node, nil, cons, size, sizes}
use Rattle.model.specs.Faults.{Check, faults, faults_in}
use Rattle.laws.specs.Clear.{Clear}
use Rattle.laws.proofs.Apart.{some_none}

-- ---- `Clear`, and lists joined

pub clear_left : (bs cs : List Bool) → Clear (bs ++ cs) → Clear bs
clear_left [] cs h = tt
clear_left (b ∷ bs) cs h = (h.0, clear_left bs cs h.1)

pub clear_right : (bs cs : List Bool) → Clear (bs ++ cs) → Clear cs
clear_right [] cs h = h
clear_right (b ∷ bs) cs h = clear_right bs cs h.1

pub clear_join : (bs cs : List Bool) → Clear bs → Clear cs → Clear (bs ++ cs)
clear_join [] cs h k = k
clear_join (b ∷ bs) cs h k = (h.0, clear_join bs cs h.1 k)

-- ---- trees in a row: the first of them and the rest

module _ {C : Type 0} (k : Check C) (t : Tree) (ts : Trees) (c : C) where
  pub clear_head : Clear (faults_in k (cons t ts) c) → Clear (faults k t (k.here c ts))
  unfolding faults
  clear_head = clear_left (faults k t (k.here c ts)) (faults_in k ts (k.later t c))

  pub clear_tail : Clear (faults_in k (cons t ts) c) → Clear (faults_in k ts (k.later t c))
  unfolding faults
  clear_tail = clear_right (faults k t (k.here c ts)) (faults_in k ts (k.later t c))

  pub clear_cons : Clear (faults k t (k.here c ts)) → Clear (faults_in k ts (k.later t c)) →
      Clear (faults_in k (cons t ts) c)
  unfolding faults
  clear_cons = clear_join (faults k t (k.here c ts)) (faults_in k ts (k.later t c))

-- ---- `first`

-- a check that finds no place is one whose tests are all false
pub first_clear : (bs : List Bool) → first bs ≡ None → Clear bs
unfolding first
first_clear [] e = tt
first_clear (true ∷ bs) e = some_none e
first_clear (false ∷ bs) e = (refl, first_clear bs (go (first bs) e))
  where
    go : (o : Option ℕ) → ◌≡◌ {A = Option ℕ} (elim o [ None ↦ None | Some i ↦ Some (suc i) ]) None → o ≡ None
    go None e = refl
    go (Some i) e = some_none e

pub clear_first : (bs : List Bool) → Clear bs → first bs ≡ None
unfolding first
clear_first [] h = refl
clear_first (true ∷ bs) h = cc
clear_first (false ∷ bs) h = rw (clear_first bs h.1)

-- ---- how many tests a walk makes: one a record

module _ {C : Type 0} (k : Check C) where
  mutual
    unfolding faults size

    pub faults_length : (t : Tree) (c : C) → length (faults k t c) ≡ size t
    faults_length (node r ts) c = ap suc (faults_in_length ts (k.inner r c))

    pub faults_in_length : (ts : Trees) (c : C) → length (faults_in k ts c) ≡ sizes ts
    faults_in_length nil c = refl
    faults_in_length (cons t ts) c =
        length-append (faults k t (k.here c ts)) (faults_in k ts (k.later t c)) ∙
        ap₂ ◌+◌ (faults_length t (k.here c ts)) (faults_in_length ts (k.later t c))
