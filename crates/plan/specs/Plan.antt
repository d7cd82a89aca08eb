-- A plan's rows in work words. In order: a row in words; the rows of a written tree that they stand for; the symbols that
-- are defined; rows that can be written.
-- Assumes nothing.
use Rattle.std.specs.Prelude.{ℕ, zero, suc, ◌+◌, ◌<◌, ◌≡◌, Bool, true, false, List, [], ◌∷◌, ◌++◌, eqb, length, get_or}
use Rattle.std.proofs.lemmas.List.Edits.{sets}
use Rattle.model.specs.Bytes.{put32}
use Rattle.model.specs.Tree.{rec, Row}
use Rattle.model.specs.Opcodes as code
use Rattle.model.specs.Shape.{a_id, a_opt, ◌then◌, times, whole}
use Rattle.model.specs.Forest.{record_count}
use Rattle.model.specs.Binding.{args_of}
use Rattle.model.specs.Materialize.{arg_lit}
use Rattle.record.specs.Record.{row_at}
use Rattle.plan.specs.declared.Planned.{Planned}
use Rattle.plan.specs.declared.Planned.TheVariants.{Copy, Field, ValUse, ValDef, Block, Lambda}

-- ---- in words: which kind of row it is, and two numbers

abbrev pub words_of : Planned → List ℕ
words_of (Copy i) = 0 ∷ i ∷ 0 ∷ []
words_of (Field f) = 1 ∷ f ∷ 0 ∷ []
words_of (ValUse id) = 2 ∷ id ∷ 0 ∷ []
words_of (ValDef id s) = 3 ∷ id ∷ s ∷ []
words_of (Block kids) = 4 ∷ kids ∷ 0 ∷ []
words_of (Lambda i last) = 5 ∷ i ∷ last ∷ []

-- the row p stored from word `at` on
unfoldable pub store_planned : List ℕ → ℕ → Planned → List ℕ
store_planned ws at p = sets ws at (words_of p)

abbrev pub choose : Bool → Planned → Planned → Planned
choose true p q = p
choose false p q = q

unfoldable pub planned_of : ℕ → ℕ → ℕ → Planned
planned_of tag a b =
    choose (eqb tag 0) (Copy a)
    (choose (eqb tag 1) (Field a)
    (choose (eqb tag 2) (ValUse a)
    (choose (eqb tag 3) (ValDef a b)
    (choose (eqb tag 4) (Block a) (Lambda a b)))))

unfoldable pub planned_at : List ℕ → ℕ → Planned
planned_at ws at = planned_of (get_or ws at 0) (get_or ws (at + 1) 0) (get_or ws (at + 2) 0)

-- n rows from word `at` on
unfoldable pub plan_from : List ℕ → ℕ → ℕ → List Planned
plan_from ws at zero = []
plan_from ws at (suc n) = planned_at ws at ∷ plan_from ws (at + 3) n

-- ---- what a planned row stands for, in forest bs: the records that `materialize` makes or copies

unfoldable pub row_for : List ℕ → Planned → Row
row_for bs (Copy i) = row_at bs i
row_for bs (Field f) = record { rec = rec code.SelectField code.SelectFieldOp 0 (f ∷ []); kids = 1 }
row_for bs (ValUse id) = record { rec = rec code.ValUse code.ValUseOp 0 (put32 id); kids = 0 }
row_for bs (ValDef id s) = record { rec = rec code.ValDef code.ValDefOp 0 (put32 id ++ (0 ∷ [])); kids = 1 }
row_for bs (Block kids) = record { rec = rec code.BlockValue code.BlockValueOp 0 []; kids = kids }
row_for bs (Lambda i last) =
    let xs = args_of (row_at bs i).rec.aux (row_at bs i).rec.lit in
    record { rec = rec code.FuncValue code.FuncValueOp (length xs) (arg_lit last xs); kids = 1 }

unfoldable pub rows_for : List ℕ → List Planned → List Row
rows_for bs [] = []
rows_for bs (p ∷ ps) = row_for bs p ∷ rows_for bs ps

-- the n rows planned from word `at` on
abbrev pub planned_rows : List ℕ → List ℕ → ℕ → ℕ → List Row
planned_rows bs ws at n = rows_for bs (plan_from ws at n)

-- ---- the symbols that are defined, in the order of the rows

abbrev pub symbol_of : Planned → List ℕ
symbol_of (Copy i) = []
symbol_of (Field f) = []
symbol_of (ValUse id) = []
symbol_of (ValDef id s) = s ∷ []
symbol_of (Block kids) = []
symbol_of (Lambda i last) = []

unfoldable pub symbols_in : List Planned → List ℕ
symbols_in [] = []
symbols_in (p ∷ ps) = symbol_of p ++ symbols_in ps

-- ---- rows that can be written

-- a lambda whose arguments can be numbered after `last`: its literal is its arguments, and their numbers fit
pub record Renumbered (r : Row) (last : ℕ) : Type 0 where
  pub args : whole (times r.rec.aux (a_id then a_opt)) r.rec.lit ≡ true
  pub fit : last + r.rec.aux < 4294967296

-- a planned row that can be written
abbrev pub Writable : List ℕ → Planned → Type 0
Writable bs (Copy i) = i < record_count bs
Writable bs (Field f) = f < 256
Writable bs (ValUse id) = Unit {0}
Writable bs (ValDef id s) = Unit {0}
Writable bs (Block kids) = kids < 65536
Writable bs (Lambda i last) = (i < record_count bs) × Renumbered (row_at bs i) last

-- and so each row of a plan
abbrev pub AllWritable : List ℕ → List Planned → Type 0
AllWritable bs [] = Unit {0}
AllWritable bs (p ∷ ps) = Writable bs p × AllWritable bs ps
