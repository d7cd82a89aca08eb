-- Conditions 7 to 10 by record numbers: which record lies below which, what stands in a block, which ids are in force.
-- In order: records and their subtrees; depth; definitions in their places; ids in force.
-- Records are numbered in the file's order, from 0, over all trees. Nothing here is what the checks run, which walk the
-- trees with a depth, a flag or a list of ids at hand.
-- Assumes nothing.
use Rattle.std.specs.Prelude.{◌≡◌, ◌⊎◌, ◌≢◌, ℕ, zero, suc, ◌+◌, ◌≤◌, ◌<◌, List, [], ◌∷◌, ◌++◌, get_or, take, drop}
use Rattle.model.specs.Tree.{Rec, Row, Tree, Trees, node, nil, cons, sizes, rows_of}
use Rattle.model.specs.Opcodes.{ValUse, ValDef, BlockValue, FuncValue}
use Rattle.model.specs.Binding.{id_of}
use Rattle.model.specs.Places.{First, no_record, children}
use Rattle.model.specs.ShapeRules.{IdAt}

-- ---- records and their subtrees

-- record p
abbrev pub rec_in : Trees → ℕ → Rec
rec_in ts p = (get_or (rows_of ts) p no_record).rec

abbrev pub shape_in : Trees → ℕ → ℕ
shape_in ts p = (rec_in ts p).shape

-- for each record, how many records its subtree has
unfoldable mutual
  pub extents : Tree → List ℕ
  extents (node r ts) = suc (sizes ts) ∷ extents_in ts

  pub extents_in : Trees → List ℕ
  extents_in nil = []
  extents_in (cons t ts) = extents t ++ extents_in ts

-- the record after the subtree of record b
abbrev pub end_of : Trees → ℕ → ℕ
end_of ts b = b + get_or (extents_in ts) b 0

-- the subtree of record b has n records: n is the first number so that the records from b on, so many, are one for b and
-- one for each child of these. After 6, that is what `extents_in` gives, and the records are the file's: `file_extents`
-- and `file_records` in `theory`
abbrev pub Subtree : List Row → ℕ → ℕ → Type 0
Subtree rows b = First (λ n. suc (children (take n (drop b rows))) ≡ n)

-- record p lies below record b: "a record is followed by its children's subtrees"
abbrev pub Descends : Trees → ℕ → ℕ → Type 0
Descends ts b p = (b < p) × (p < end_of ts b)

-- record p is a child of record b: it lies below b, and below no record that lies between the two
abbrev pub Child : Trees → ℕ → ℕ → Type 0
Child ts b p = Descends ts b p × ((c : ℕ) → b < c → Descends ts c p → ⊥)

-- ---- 7: "deeper than 64 (a root has depth 1)"

-- record p is deeper than n: every record is deeper than 0, and what lies below a record deeper than n is deeper than
-- n + 1
unfoldable pub Deeper : Trees → ℕ → ℕ → Type 0
Deeper ts zero p = p < sizes ts
Deeper ts (suc n) p = (b : ℕ) × Descends ts b p × Deeper ts n b

-- ---- 8: "a definition out of place"

-- record p stands "as a block's child before the last": after its subtree the block goes on
abbrev pub BeforeLast : Trees → ℕ → Type 0
BeforeLast ts p = (b : ℕ) × (shape_in ts b ≡ BlockValue) × Child ts b p × (end_of ts p < end_of ts b)

-- "A ValDef stands only as a block's child before the last, and such a child is a ValDef"
abbrev pub OutOfPlace : Trees → ℕ → Type 0
OutOfPlace ts p =
    (p < sizes ts) ×
    (((shape_in ts p ≡ ValDef) × (BeforeLast ts p → ⊥)) ⊎ (BeforeLast ts p × (shape_in ts p ≢ ValDef)))

-- ---- 9 and 10: ids in force

-- argument k of a lambda, from 0, has id i
abbrev pub Argument : Rec → ℕ → ℕ → Type 0
Argument r k i = (k < r.aux) × IdAt r.lit k i

-- id i is in force at record p
pub data InForce (ts : Trees) (i p : ℕ) : Type 0 where
  -- "A definition is in force after its own value, to its block's end": definition d, block b
  after_definition : (d b : ℕ) → shape_in ts d ≡ ValDef → id_of (rec_in ts d) ≡ i → shape_in ts b ≡ BlockValue → Child ts b d →
      end_of ts d ≤ p → p < end_of ts b → InForce ts i p
  -- "an argument in its lambda's body": lambda l, of which all that lies below it is the body
  in_lambda : (l k : ℕ) → shape_in ts l ≡ FuncValue → Argument (rec_in ts l) k i → Descends ts l p → InForce ts i p

-- record p binds id i: a definition its id, a lambda its arguments. "Nothing else binds"
abbrev pub Binds : Rec → ℕ → Type 0
Binds r i = ((r.shape ≡ ValDef) × (id_of r ≡ i)) ⊎ ((r.shape ≡ FuncValue) × ((k : ℕ) × Argument r k i))

-- two arguments of one lambda have one id
abbrev pub BindsTwice : Rec → Type 0
BindsTwice r = (r.shape ≡ FuncValue) × ((j k i : ℕ) × (j < k) × Argument r j i × Argument r k i)

-- "9, an id bound while in force or twice in one lambda"
abbrev pub Rebinds : Trees → ℕ → Type 0
Rebinds ts p = ((i : ℕ) × Binds (rec_in ts p) i × InForce ts i p) ⊎ BindsTwice (rec_in ts p)

-- "10, a use of an id not in force"
abbrev pub Unbound : Trees → ℕ → Type 0
Unbound ts p = (shape_in ts p ≡ ValUse) × (InForce ts (id_of (rec_in ts p)) p → ⊥)
