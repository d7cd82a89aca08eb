-- Records and trees ("The forest"): what a record says of itself, trees of records, their records in file order, and
-- their bytes.
-- Assumes nothing.
use Rattle.std.specs.Prelude.{ℕ, zero, suc, ◌+◌, ◌*◌, ◌/◌, ◌%◌, max, Bool, true, false, ◌&&◌, List, [], ◌∷◌, ◌++◌, eqb, length}
use Rattle.model.specs.Lists.{same}
use Rattle.model.specs.Bytes.{put16}

-- ---- records

-- a record without its child count
pub record Rec : Type 0 where
  pub shape : ℕ
  pub opcode : ℕ
  pub aux : ℕ
  pub lit : List ℕ

abbrev pub rec : ℕ → ℕ → ℕ → List ℕ → Rec
rec s o a l = record { shape = s; opcode = o; aux = a; lit = l }

-- a constant's aux: "class plus 7 × mark"; the mark tells parameters of equal value apart
abbrev pub class : ℕ → ℕ
class aux = aux % 7

abbrev pub mark : ℕ → ℕ
mark aux = aux / 7

-- "the same shape, opcode, aux, literal"
unfoldable pub same_rec : Rec → Rec → Bool
same_rec a b =
    eqb a.shape b.shape && eqb a.opcode b.opcode && eqb a.aux b.aux && same a.lit b.lit

-- ---- trees

mutual
  pub data Tree : Type 0 where
    node : Rec → Trees → Tree

  pub data Trees : Type 0 where
    nil : Trees
    cons : Tree → Trees → Trees

abbrev pub top : Tree → Rec
top (node r ts) = r

abbrev pub below : Tree → Trees
below (node r ts) = ts

abbrev pub is_nil : Trees → Bool
is_nil nil = true
is_nil (cons t ts) = false

unfoldable pub many : Trees → ℕ
many nil = 0
many (cons t ts) = suc (many ts)

-- the last tree of a forest; a forest of no trees is never accepted
unfoldable pub root : Trees → Tree
root nil = node (rec 0 0 0 []) nil
root (cons t nil) = t
root (cons t (cons u ts)) = root (cons u ts)

unfoldable pub take_t : ℕ → Trees → Trees
take_t zero ts = nil
take_t (suc n) nil = nil
take_t (suc n) (cons t ts) = cons t (take_t n ts)

unfoldable pub drop_t : ℕ → Trees → Trees
drop_t zero ts = ts
drop_t (suc n) nil = nil
drop_t (suc n) (cons t ts) = drop_t n ts

-- the list with one more tree at the end
unfoldable pub snoc : Trees → Tree → Trees
snoc nil r = cons r nil
snoc (cons t ts) r = cons t (snoc ts r)

-- how many records
unfoldable mutual
  pub size : Tree → ℕ
  size (node r ts) = suc (sizes ts)

  pub sizes : Trees → ℕ
  sizes nil = 0
  sizes (cons t ts) = size t + sizes ts

-- "a root has depth 1"
unfoldable mutual
  pub depth : Tree → ℕ
  depth (node r ts) = suc (depths ts)

  pub depths : Trees → ℕ
  depths nil = 0
  depths (cons t ts) = max (depth t) (depths ts)

-- ---- rows: records in a file, "followed by its children's subtrees, in order"

pub record Row : Type 0 where
  pub rec : Rec
  pub kids : ℕ

unfoldable mutual
  pub rows : Tree → List Row
  rows (node r ts) = record { rec = r; kids = many ts } ∷ rows_of ts

  pub rows_of : Trees → List Row
  rows_of nil = []
  rows_of (cons t ts) = rows t ++ rows_of ts

-- the trees that rows are, if they close: from the last row on, each row takes its children from the trees that
-- follow it
unfoldable pub grow : List Row → Trees
grow [] = nil
grow (r ∷ rs) = let s = grow rs in cons (node r.rec (take_t r.kids s)) (drop_t r.kids s)

-- ---- bytes: header, directory of offsets and lengths, records

unfoldable pub row_bytes : Row → List ℕ
row_bytes r = r.rec.shape ∷ r.rec.opcode ∷ (put16 r.kids ++ (r.rec.aux ∷ r.rec.lit))

unfoldable pub row_len : Row → ℕ
row_len r = 5 + length r.rec.lit

-- the directory of rows whose first begins at offset `at`
unfoldable pub directory : ℕ → List Row → List ℕ
directory at [] = []
directory at (r ∷ rs) = put16 at ++ put16 (row_len r) ++ directory (at + row_len r) rs

unfoldable pub bodies : List Row → List ℕ
bodies [] = []
bodies (r ∷ rs) = row_bytes r ++ bodies rs

-- the forest of k trees with these rows
unfoldable pub forest_of : ℕ → List Row → List ℕ
forest_of k rs = put16 k ++ put16 (length rs) ++ directory (4 + 4 * length rs) rs ++ bodies rs

unfoldable pub serialise : Trees → List ℕ
serialise ts = forest_of (many ts) (rows_of ts)
