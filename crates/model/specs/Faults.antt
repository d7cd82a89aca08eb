-- Checks 7 to 10 look at each record where it stands: one walk over trees, for every such check.
-- In order: what a check has to know and to say; the walk.
-- Assumes nothing.
use Rattle.std.specs.Prelude.{Bool, List, [], ◌∷◌, ◌++◌}
use Rattle.model.specs.Tree.{Rec, Tree, Trees, node, nil, cons}

-- a check, where a `C` is what it has to know of the place at which a record stands
pub record Check (C : Type 0) : Type 0 where
  -- of a record at its place: whether it offends
  pub offends : C → Rec → Bool
  -- of the children of a record
  pub inner : Rec → C → C
  -- of the first of trees in a row, with those after it
  pub here : C → Trees → C
  -- of the trees in a row after a tree
  pub later : Tree → C → C

-- for each record, in file order, whether it offends
unfoldable mutual
  pub faults : {C : Type 0} → Check C → Tree → C → List Bool
  faults k (node r ts) c = k.offends c r ∷ faults_in k ts (k.inner r c)

  pub faults_in : {C : Type 0} → Check C → Trees → C → List Bool
  faults_in k nil c = []
  faults_in k (cons t ts) c = faults k t (k.here c ts) ++ faults_in k ts (k.later t c)
