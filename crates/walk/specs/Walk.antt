-- The walk by record number: the trees from a record on, and what walking one of them, or several, gives.
-- In order: trees by record number; what a walk requires; places; where subtrees end; what a walk ensures.
-- Assumes nothing.
use Rattle.std.specs.Prelude.{ℕ, ◌+◌, ◌*◌, ◌<◌, ◌≤◌, ◌≡◌, List, drop, get_or, Option, None, Some, IfSome, Result, Ok, Err, IfOk, IsNone}
use Rattle.std.specs.Result.{result_err}
use Rattle.model.specs.Lists.{first}
use Rattle.model.specs.Tree.{Rec, Tree, Trees, node, take_t, drop_t, size, sizes, grow}
use Rattle.model.specs.Faults.{faults, faults_in}
use Rattle.model.specs.Forest.{record_count, rows_in, trees_of, check4, check6}
use Rattle.laws.specs.Frame.{Frame}
use Rattle.record.specs.Record.{Laid, row_at}
use Rattle.regions.specs.Regions.{IDS, end}
use Rattle.walk.specs.declared.Context.{Context}
use Rattle.walk.specs.declared.Test.{Test}
use Rattle.walk.specs.Faults.{start, check_by}
use Rattle.walk.specs.Words.{ctx_of}

-- ---- trees by record number

-- the trees that the records from number i on are
unfoldable pub trees_from : List ℕ → ℕ → Trees
trees_from bs i = grow (drop i (rows_in bs))

-- record i without its child count
abbrev pub rec_at : List ℕ → ℕ → Rec
rec_at bs i = (row_at bs i).rec

-- the children of record i, what follows its subtree, and the subtree itself
unfoldable pub kid_trees_at : List ℕ → ℕ → Trees
kid_trees_at bs i = take_t (row_at bs i).kids (trees_from bs (i + 1))

unfoldable pub rest_at : List ℕ → ℕ → Trees
rest_at bs i = drop_t (row_at bs i).kids (trees_from bs (i + 1))

abbrev pub tree_at : List ℕ → ℕ → Tree
tree_at bs i = node (rec_at bs i) (kid_trees_at bs i)

-- ---- what a walk requires

-- records lie where the directory says, fit their shapes, and close
pub record WellFormed (bs : List ℕ) : Type 0 where
  pub laid : Laid bs
  pub fit : check4 bs ≡ None
  pub closed : check6 bs ≡ None

-- record i can stand there: each record before it binds at most 15 ids, and takes the depth up by at most one
pub record CanStand (i : ℕ) (c : Context) : Type 0 where
  pub shallow : c.depth ≤ i + 1
  pub few : c.top ≤ 15 * i

-- ---- places

-- a place counted from i on
abbrev pub shift : ℕ → Option ℕ → Option ℕ
shift i None = None
shift i (Some p) = Some (i + p)

-- ---- where subtrees end

-- the entries of the records from lo up to hi: each is the number of the first record after the record's subtree
abbrev pub Ends : List ℕ → ℕ → ℕ → List ℕ → Type 0
Ends bs lo hi es = (k : ℕ) → lo ≤ k → k < hi → get_or es k 0 ≡ k + size (tree_at bs k)

-- a walk has come to a record, and the entries of those from lo up to it are noted; no entry changed of a record before lo,
-- nor any past the last record
pub record Noted (bs : List ℕ) (lo : ℕ) (es es' : List ℕ) (r : Result ℕ ℕ) : Type 0 where
  pub ends : IfOk r (λ j. Ends bs lo j es')
  pub kept : Frame lo (record_count bs) es es'

-- ---- what a walk ensures

-- the walk of so many records from i on comes to the record where `rest` starts, or to one of the forest that offends
abbrev pub Comes : List ℕ → ℕ → ℕ → Trees → Result ℕ ℕ → Type 0
Comes bs i n rest (Ok j) = (j ≡ i + n) × (trees_from bs j ≡ rest)
Comes bs i n rest (Err p) = p < record_count bs

-- the walk of record i's subtree
pub record Walked (bs : List ℕ) (t : Test) (i : ℕ) (c : Context) (ws ws' es es' : List ℕ) (r : Result ℕ ℕ) : Type 0 where
  pub fault : result_err r ≡ shift i (first (faults (check_by t) (tree_at bs i) (ctx_of ws c)))
  pub comes : Comes bs i (size (tree_at bs i)) (rest_at bs i) r
  pub noted : Noted bs (i + 1) es es' r
  pub kept : Frame c.top (end IDS) ws ws'

-- the walk of `count` trees from record i on
pub record WalkedIn (bs : List ℕ) (t : Test) (i count : ℕ) (c : Context) (ws ws' es es' : List ℕ) (r : Result ℕ ℕ) : Type 0
  where
    pub fault : result_err r ≡ shift i (first (faults_in (check_by t) (take_t count (trees_from bs i)) (ctx_of ws c)))
    pub comes : Comes bs i (sizes (take_t count (trees_from bs i))) (drop_t count (trees_from bs i)) r
    pub noted : Noted bs i es es' r
    pub kept : Frame c.top (end IDS) ws ws'

-- the walk of a forest's trees: a place is a record's number
pub record Checked (bs : List ℕ) (t : Test) (ws ws' es es' : List ℕ) (r : Option ℕ) : Type 0 where
  pub place : r ≡ first (faults_in (check_by t) (trees_of bs) start)
  pub low : IfSome r (λ p. p < record_count bs)
  pub kept : Frame IDS.first (end IDS) ws ws'
  pub ends : IsNone r → Ends bs 0 (record_count bs) es'
  pub entries : Frame 0 (record_count bs) es es'
