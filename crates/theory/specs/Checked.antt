-- What checks 4, 5, 8, 9 and 10 leave of a tree: `Checked t b ids`, where b says whether a definition has to stand there,
-- and `ids` are in force; `CheckedIn`, the same of a record's children. Assumes nothing.
use Rattle.std.specs.Prelude.{◌≡◌, Bool, true, List, ℕ}
use Rattle.model.specs.Tree.{Rec, Tree, Trees, node, nil, cons, many}
use Rattle.model.specs.Shape.{fits, agrees}
use Rattle.model.specs.Binding.{misplaced, misplaced_in, rebound, rebound_in, unbound, unbound_in}
use Rattle.laws.specs.Clear.{Clear}

-- check 4 of a record with so many children
abbrev pub FitsWith : Rec → ℕ → Type 0
FitsWith r n = fits (record { rec = r; kids = n }) ≡ true

-- checks 4 and 5, for each record of a tree
abbrev mutual
  pub Fine : Tree → Type 0
  Fine (node r ts) = FitsWith r (many ts) × (agrees r ≡ true) × Fines ts

  pub Fines : Trees → Type 0
  Fines nil = Unit {0}
  Fines (cons t ts) = Fine t × Fines ts

pub record Checked (t : Tree) (b : Bool) (ids : List ℕ) : Type 0 where
  pub fine : Fine t
  pub placed : Clear (misplaced t b)
  pub fresh : Clear (rebound t ids)
  pub known : Clear (unbound t ids)

-- here b says that these are a block's children
pub record CheckedIn (ts : Trees) (b : Bool) (ids : List ℕ) : Type 0 where
  pub fine : Fines ts
  pub placed : Clear (misplaced_in ts b)
  pub fresh : Clear (rebound_in ts ids)
  pub known : Clear (unbound_in ts ids)
