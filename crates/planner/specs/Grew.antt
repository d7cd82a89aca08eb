-- A plan that grows. In order: rows planned, and the symbols that they define; one row put; a tree planned, and trees side
-- by side.
-- bs are the forest's bytes, pl the plan's words: three a row, at most 256 rows.
-- Assumes nothing.
use Rattle.std.specs.Prelude.{ℕ, ◌+◌, ◌*◌, ◌≤◌, ◌<◌, max, ◌≡◌, Option, None, Some, MatchOption, IfSome, true, false, List, [], ◌∷◌, ◌++◌, ltb, length, get_or}
use Rattle.model.specs.Tree.{Row, Tree, Trees, nil, cons, rows, rows_of, depth}
use Rattle.plan.specs.declared.Planned.{Planned}
use Rattle.plan.specs.Plan.{store_planned, plan_from, row_for, symbol_of, symbols_in, Writable, AllWritable, planned_rows}
use Rattle.planner.specs.declared.Plan.{Plan}

-- rows rs, the deepest at depth d, are planned after p, which has room for them. Words past the rows are as they were
pub record Grew (bs pl : List ℕ) (p : Plan) (rs : List Row) (d : ℕ) (pl' : List ℕ) (r : Plan) : Type 0 where
  pub count : r.rows ≡ p.rows + length rs
  pub few : r.rows ≤ 256
  pub plan : planned_rows bs pl' 0 r.rows ≡ planned_rows bs pl 0 p.rows ++ rs
  pub writable : AllWritable bs (plan_from pl 0 p.rows) → AllWritable bs (plan_from pl' 0 r.rows)
  pub deepest : r.deepest ≡ max p.deepest d
  pub rest : (k : ℕ) → 3 * r.rows ≤ k → get_or pl' k 0 ≡ get_or pl k 0

-- rows rs are more than p has room for
pub record Over (p : Plan) (rs : List Row) : Type 0 where
  pub more : 256 < p.rows + length rs

-- rows rs planned after p, if it has room
pub record Grows (bs pl : List ℕ) (p : Plan) (rs : List Row) (d : ℕ) (pl' : List ℕ) (r : Option Plan) : Type 0 where
  pub is : MatchOption r (Over p rs) (λ q. Grew bs pl p rs d pl' q)

-- the symbols that the rows up to p define
abbrev pub defined_to : List ℕ → Plan → List ℕ
defined_to pl p = symbols_in (plan_from pl 0 p.rows)

-- the rows planned after p, if it has room, define symbols ss
abbrev pub Defining : List ℕ → Plan → List ℕ → List ℕ → Option Plan → Type 0
Defining pl p ss pl' r = IfSome r (λ q. defined_to pl' q ≡ defined_to pl p ++ ss)

-- one row put where the plan ends, at depth d; from 256 rows on none is stored
unfoldable pub with_row : List ℕ → Plan → Planned → List ℕ
with_row pl p row = elim (ltb p.rows 256) [ true ↦ store_planned pl (3 * p.rows) row | false ↦ pl ]

unfoldable pub one_more : Plan → ℕ → Option Plan
one_more p d =
    elim (ltb p.rows 256) [
      | true ↦ Some (record { rows = p.rows + 1; deepest = max p.deepest d })
      | false ↦ None
    ]

pub record RowPut (pl : List ℕ) (p : Plan) (row : Planned) (d : ℕ) (pl' : List ℕ) (r : Option Plan) : Type 0 where
  pub words : pl' ≡ with_row pl p row
  pub plan : r ≡ one_more p d
  pub grew : (bs : List ℕ) → Writable bs row → Grows bs pl p (row_for bs row ∷ []) d pl' r
  pub defining : Defining pl p (symbol_of row) pl' r

-- a tree with `above` levels above it
abbrev pub Grown : List ℕ → List ℕ → Plan → ℕ → Tree → List ℕ → Option Plan → Type 0
Grown bs pl p above t pl' r = Grows bs pl p (rows t) (above + depth t) pl' r

-- the greatest depth of trees with `above` levels above them, 0 of none
abbrev pub deep_in : ℕ → Trees → ℕ
deep_in above nil = 0
deep_in above (cons t ts) = max (above + depth t) (deep_in above ts)

abbrev pub GrownAll : List ℕ → List ℕ → Plan → ℕ → Trees → List ℕ → Option Plan → Type 0
GrownAll bs pl p above ts pl' r = Grows bs pl p (rows_of ts) (deep_in above ts) pl' r
