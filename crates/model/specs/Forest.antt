-- From bytes to trees, and checks 2 to 7 and 16: each gives the place where it fails, or none.
-- A check is said of any bytes; what it says counts only where the checks before it found nothing.
-- Assumes nothing.
use Rattle.std.specs.Prelude.{ℕ, zero, suc, ◌+◌, ◌*◌, Bool, true, false, not, ◌&&◌, ◌||◌, List, [], ◌∷◌, map, eqb, leb, ltb, length, get_or, drop, take, Option, None, Some}
use Rattle.model.specs.Lists.{first}
use Rattle.model.specs.Bytes.{u16}
use Rattle.model.specs.Answer.{at0}
use Rattle.model.specs.Tree.{Rec, rec, Row, Tree, Trees, grow}
use Rattle.model.specs.Faults.{Check, faults, faults_in}
use Rattle.model.specs.Shape.{Pairs, shape_of, fits, agrees}

-- ---- reading

-- bytes 0 to 1: trees; bytes 2 to 3: records
unfoldable pub tree_count : List ℕ → ℕ
tree_count bs = u16 bs

unfoldable pub record_count : List ℕ → ℕ
record_count bs = u16 (drop 2 bs)

-- n pairs of offset and length
unfoldable pub pairs_at : ℕ → List ℕ → Pairs
pairs_at zero bs = []
pairs_at (suc n) bs = (u16 bs, u16 (drop 2 bs)) ∷ pairs_at n (drop 4 bs)

unfoldable pub pairs_of : List ℕ → Pairs
pairs_of bs = pairs_at (record_count bs) (drop 4 bs)

-- a record: shape, opcode, 16-bit child count, aux, literal
unfoldable pub row_of : List ℕ → Row
row_of bs = record { rec = rec (get_or bs 0 0) (get_or bs 1 0) (get_or bs 4 0) (drop 5 bs); kids = u16 (drop 2 bs) }

-- the records of these lengths, one after the other
unfoldable pub rows_at : Pairs → List ℕ → List Row
rows_at [] bs = []
rows_at (p ∷ ps) bs = row_of (take p.1 bs) ∷ rows_at ps (drop p.1 bs)

-- where the directory ends
unfoldable pub body_start : List ℕ → ℕ
body_start bs = 4 + 4 * record_count bs

unfoldable pub rows_in : List ℕ → List Row
rows_in bs = rows_at (pairs_of bs) (drop (body_start bs) bs)

-- the trees of a forest
unfoldable pub trees_of : List ℕ → Trees
trees_of bs = grow (rows_in bs)

-- ---- 2: under 4 or over 65,535 bytes, or header counts out of range

unfoldable pub check2 : List ℕ → Option ℕ
check2 bs =
    at0 (ltb (length bs) 4 || ltb 65535 (length bs) ||
    not (leb 1 (tree_count bs) && leb (tree_count bs) 16 && leb 1 (record_count bs) && leb (record_count bs) 256))

-- ---- 3: the directory

abbrev is_empty : Pairs → Bool
is_empty [] = true
is_empty (p ∷ ps) = false

-- a pair offends that does not start at `from`, where the one before ends, is shorter than 5, or is last and does not
-- end at the forest's end
unfoldable pub bad_pairs : ℕ → ℕ → Pairs → List Bool
bad_pairs total from [] = []
bad_pairs total from (p ∷ ps) =
    (not (eqb p.0 from) || ltb p.1 5 || (is_empty ps && not (eqb (p.0 + p.1) total))) ∷
    bad_pairs total (p.0 + p.1) ps

-- place 0 where the directory itself does not fit
unfoldable pub check3 : List ℕ → Option ℕ
check3 bs =
    elim (ltb (length bs) (body_start bs)) [
      | true ↦ Some 0
      | false ↦ first (bad_pairs (length bs) (body_start bs) (pairs_of bs))
    ]

-- ---- 4: a record against its shape. 5: opcode against shape

unfoldable pub check4 : List ℕ → Option ℕ
check4 bs = first (map (λ r. not (fits r)) (rows_in bs))

unfoldable pub check5 : List ℕ → Option ℕ
check5 bs = first (map (λ r. not (agrees r.rec)) (rows_in bs))

-- ---- 6: trees do not close

-- so many trees are still to come at record `at`: "the first record left over, or the record count if records lack"
unfoldable pub unclosed : ℕ → ℕ → List Row → Option ℕ
unclosed zero at [] = None
unclosed (suc n) at [] = Some at
unclosed zero at (r ∷ rs) = Some at
unclosed (suc n) at (r ∷ rs) = unclosed (n + r.kids) (suc at) rs

unfoldable pub check6 : List ℕ → Option ℕ
check6 bs = unclosed (tree_count bs) 0 (rows_in bs)

-- ---- 7: deeper than 64

-- what is known of a record is its depth
abbrev pub depth_check : Check ℕ
depth_check = record {
  offends = λ d r. ltb 64 d;
  inner = λ r d. suc d;
  here = λ d ts. d;
  later = λ t d. d;
}

-- for each record, of a tree whose root has depth d
abbrev pub deep : Tree → ℕ → List Bool
deep = faults depth_check

abbrev pub deeps : Trees → ℕ → List Bool
deeps = faults_in depth_check

unfoldable pub check7 : List ℕ → Option ℕ
check7 bs = first (deeps (trees_of bs) 1)

-- ---- 16: an opcode, other than 00, that had another shape earlier

-- the opcodes of records, with their shapes
abbrev pub opcode_shapes : List Row → Pairs
opcode_shapes rs = map (λ r. (r.rec.opcode, r.rec.shape)) rs

-- the first of these records with the opcode of r, other than 00, has another shape than r
unfoldable pub other_shape : List Row → Rec → Bool
other_shape rs r =
    not (eqb r.opcode 0) &&
    elim (shape_of (opcode_shapes rs) r.opcode) [ None ↦ false | Some s ↦ not (eqb s r.shape) ]

-- over the whole forest, environment trees included
unfoldable pub check16 : List ℕ → Option ℕ
check16 bs = first (map (λ r. other_shape (rows_in bs) r.rec) (rows_in bs))
