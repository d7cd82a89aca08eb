-- Binding: the ids and opts in a literal, what a record binds and where, and checks 8 to 10 over trees.
-- In order: kinds of record; ids, opts and arguments; what is bound; 8; the ids in force; 9; 10.
-- Assumes nothing.
use Rattle.std.specs.Prelude.{ℕ, zero, suc, ◌+◌, ◌-◌, Bool, true, false, not, ◌&&◌, ◌||◌, List, [], ◌∷◌, ◌++◌, map, eqb, length, drop, take, Option, None, Some}
use Rattle.std.specs.Bool.{beq}
use Rattle.model.specs.Lists.{is_in, any_in, twice, first}
use Rattle.model.specs.Bytes.{u32}
use Rattle.model.specs.Tree.{Rec, Tree, Trees, is_nil, top}
use Rattle.model.specs.Opcodes.{ValUse, ValDef, BlockValue, FuncValue, SelectField}
use Rattle.model.specs.Shape.{a_opt}
use Rattle.model.specs.Faults.{Check, faults, faults_in}

-- ---- the kinds of record that the pass and the unfolding tell apart

pub data Kind : Type 0 where
  val_use val_def block lambda field other : Kind

-- the kind of a shape
unfoldable pub kind : ℕ → Kind
kind s =
    elim (eqb s ValUse) [
      | true ↦ val_use
      | false ↦ elim (eqb s ValDef) [
        | true ↦ val_def
        | false ↦ elim (eqb s BlockValue) [
          | true ↦ block
          | false ↦ elim (eqb s FuncValue) [
            | true ↦ lambda
            | false ↦ elim (eqb s SelectField) [
              | true ↦ field
              | false ↦ other
            ]
          ]
        ]
      ]
    ]

abbrev pub is_def : Tree → Bool
is_def t = eqb (top t).shape ValDef

abbrev pub is_block : Rec → Bool
is_block r = eqb r.shape BlockValue

-- ---- ids, opts and arguments

-- the id at the start of a literal
unfoldable pub id_of : Rec → ℕ
id_of r = u32 r.lit

-- the bytes of the opt at the start of a list
unfoldable pub opt_of : List ℕ → List ℕ
opt_of bs = elim (a_opt bs) [ None ↦ [] | Some rest ↦ take (length bs - length rest) bs ]

-- n arguments: id and opt of each
unfoldable pub args_of : ℕ → List ℕ → List (ℕ × List ℕ)
args_of zero bs = []
args_of (suc n) bs = let o = opt_of (drop 4 bs) in (u32 bs, o) ∷ args_of n (drop (4 + length o) bs)

unfoldable pub arg_ids : Rec → List ℕ
arg_ids r = map (λ a. a.0) (args_of r.aux r.lit)

-- ---- what is bound

-- the ids that a record binds in its children: "an argument [is in force] in its lambda's body"
unfoldable pub inside : Rec → List ℕ
inside r =
    elim (kind r.shape) [ val_use ↦ [] | val_def ↦ [] | block ↦ [] | lambda ↦ arg_ids r | field ↦ [] | other ↦ [] ]

-- the id that a record binds in its later siblings: "A definition is in force after its own value, to its block's end"
abbrev pub defined : Rec → List ℕ
defined r = elim (eqb r.shape ValDef) [ true ↦ id_of r ∷ [] | false ↦ [] ]

-- the ids that a tree binds in its later siblings
unfoldable pub after : Tree → List ℕ
after t = defined (top t)

-- all that a record binds
abbrev pub own : Rec → List ℕ
own r = defined r ++ inside r

-- ---- 8: a definition out of place

-- `d` says that a definition has to stand here
abbrev pub misplaced_at : Bool → Rec → Bool
misplaced_at d r = not (beq (eqb r.shape ValDef) d)

-- of trees in a row it is known whether they are a block's children, of which all but the last are definitions
abbrev pub place_check : Check Bool
place_check = record {
  offends = misplaced_at;
  inner = λ r b. is_block r;
  here = λ b ts. b && not (is_nil ts);
  later = λ t b. b;
}

-- for each record
abbrev pub misplaced : Tree → Bool → List Bool
misplaced = faults place_check

abbrev pub misplaced_in : Trees → Bool → List Bool
misplaced_in = faults_in place_check

unfoldable pub check8 : Trees → Option ℕ
check8 ts = first (misplaced_in ts false)

-- ---- the ids in force, of which 9 and 10 are tests

abbrev pub ids_check : (List ℕ → Rec → Bool) → Check (List ℕ)
ids_check test = record {
  offends = test;
  inner = λ r ids. inside r ++ ids;
  here = λ ids ts. ids;
  later = λ t ids. after t ++ ids;
}

-- ---- 9: an id bound while in force or twice in one lambda

abbrev pub rebound_at : List ℕ → Rec → Bool
rebound_at ids r = any_in (own r) ids || twice (own r)

-- for each record, with the ids in force where it stands
abbrev pub rebound : Tree → List ℕ → List Bool
rebound = faults (ids_check rebound_at)

abbrev pub rebound_in : Trees → List ℕ → List Bool
rebound_in = faults_in (ids_check rebound_at)

unfoldable pub check9 : Trees → Option ℕ
check9 ts = first (rebound_in ts [])

-- ---- 10: a use of an id not in force

abbrev pub unbound_at : List ℕ → Rec → Bool
unbound_at ids r = eqb r.shape ValUse && not (is_in (id_of r) ids)

abbrev pub unbound : Tree → List ℕ → List Bool
unbound = faults (ids_check unbound_at)

abbrev pub unbound_in : Trees → List ℕ → List Bool
unbound_in = faults_in (ids_check unbound_at)

unfoldable pub check10 : Trees → Option ℕ
check10 ts = first (unbound_in ts [])
