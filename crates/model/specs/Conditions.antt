-- What each of the paper's numbers says: `Applies c n p` is the condition of number n, with its place p, on call c. The
-- conditions are said each for itself: none speaks of another number or of the order in which the call tests them, but
-- that 11 and 12 "come as interning meets them". They are said by something else than the functions that test them, as
-- far as that is to be had. So what demand 3 says of a number is a fact:
-- - 1 to 3, 5 to 10 and 16: the check is right. The conditions are the paper's sentences on bytes, on pairs (OpcodeRules), on
--   child counts (6), on ancestors (7), on where a definition stands (8), on ids in force (9 and 10; Nesting) and on two
--   records by number (16).
-- - 4: the check reads literals rightly. What a shape has can only be the table itself: it stands a second time in
--   ShapeRules, as the paper lists it, with literals put together of parts.
-- - 11 and 12: the limits, 2,048 and 512, and where they are passed. What is a reading, and when a symbol is made, only
--   the definition says: Trace is it once more, with a log in place of limits.
-- - 13 and 14: the limits. The tree is the one that the definitions make; there is no other.
-- How bytes are read as records, and records as trees (Forest, Tree), is the definitions' own throughout.
-- In order: the forest's header, directory and trees; the tree that document 01 defines; the conditions; the order of
-- the checks; what is said of a call with them.
-- Assumes nothing.
use Rattle.std.specs.Prelude.{◌≡◌, ◌⊎◌, ◌≢◌, true, List, [], ◌∷◌, ◌++◌, ℕ, zero, suc, ◌+◌, ◌*◌, ◌≤◌, ◌<◌, length, get_or, take}
use Rattle.model.specs.Lists.{is_in}
use Rattle.model.specs.Tree.{size, depth}
use Rattle.model.specs.Forest.{tree_count, record_count, pairs_of, rows_in, trees_of}
use Rattle.model.specs.Intern.{State}
use Rattle.model.specs.Call.{Call, tree_of, bytes_of}
use Rattle.model.specs.Places.{First, record_at, children}
use Rattle.model.specs.ShapeRules.{ShapeOffends}
use Rattle.model.specs.OpcodeRules.{OpcodeOffends}
use Rattle.model.specs.Nesting.{Deeper, OutOfPlace, Rebinds, Unbound}
use Rattle.model.specs.Trace.{TooManyReadings, TooManySymbols, Interned}

-- ---- 2 and 3: the header and the directory

-- "Bytes 0 to 1: trees, 1 to 16. Bytes 2 to 3: records N, 1 to 256"
abbrev pub InRange : List ℕ → Type 0
InRange forest =
    (1 ≤ tree_count forest) × (tree_count forest ≤ 16) × (1 ≤ record_count forest) × (record_count forest ≤ 256)

-- "under 4 or over 65,535 bytes, or header counts out of range"
abbrev pub HeaderOffends : List ℕ → Type 0
HeaderOffends forest = (length forest < 4) ⊎ (65535 < length forest) ⊎ (InRange forest → ⊥)

-- where the directory ends, "4 + 4 × N"
abbrev pub directory_end : List ℕ → ℕ
directory_end forest = 4 + 4 * record_count forest

abbrev pub offset_at : List ℕ → ℕ → ℕ
offset_at forest p = (get_or (pairs_of forest) p (0, 0)).0

abbrev pub length_at : List ℕ → ℕ → ℕ
length_at forest p = (get_or (pairs_of forest) p (0, 0)).1

-- where pair p has to start: "the first offset is 4 + 4 × N, each next is the previous offset plus length"
abbrev pub start_of : List ℕ → ℕ → ℕ
start_of forest zero = directory_end forest
start_of forest (suc p) = offset_at forest p + length_at forest p

-- pair p starts elsewhere, is too short ("a length is at least 5"), or is the last and ends elsewhere than the forest
abbrev pub PairOffends : List ℕ → ℕ → Type 0
PairOffends forest p =
    (p < record_count forest) ×
    ((offset_at forest p ≢ start_of forest p) ⊎ (length_at forest p < 5) ⊎
    ((suc p ≡ record_count forest) × (offset_at forest p + length_at forest p ≢ length forest)))

-- "directory": place 0 "when the directory does not fit", else the first pair that offends
abbrev pub DirectoryOffends : List ℕ → ℕ → Type 0
DirectoryOffends forest p =
    ((p ≡ 0) × (length forest < directory_end forest)) ⊎
    ((directory_end forest ≤ length forest) × First (PairOffends forest) p)

-- ---- 6: trees

-- the first p records are all the trees: a record for each tree and for each child of these records
abbrev pub Closed : List ℕ → ℕ → Type 0
Closed forest p = tree_count forest + children (take p (rows_in forest)) ≡ p

-- "6, trees do not close": "the first record left over, or the record count if records lack"
abbrev pub TreesOffend : List ℕ → ℕ → Type 0
TreesOffend forest p =
    ((p < record_count forest) × First (Closed forest) p) ⊎
    ((p ≡ record_count forest) × ((q : ℕ) → q ≤ record_count forest → Closed forest q → ⊥))

-- ---- 16: two records of one opcode

-- record q has the opcode of record p, and another shape
abbrev pub ShapesDiffer : List ℕ → ℕ → ℕ → Type 0
ShapesDiffer forest q p =
    ((record_at forest q).rec.opcode ≡ (record_at forest p).rec.opcode) ×
    ((record_at forest q).rec.shape ≢ (record_at forest p).rec.shape)

-- "whose opcode, other than 00, had another shape earlier"
abbrev pub HadOtherShape : List ℕ → ℕ → Type 0
HadOtherShape forest p =
    (p < record_count forest) × ((record_at forest p).rec.opcode ≢ 0) × ((q : ℕ) × (q < p) × ShapesDiffer forest q p)

-- ---- 13: the tree that is made of the symbols

-- "a written tree over 256 records, over 65,535 bytes or longer than the output"
abbrev pub TooLarge : ℕ → ℕ × State → Type 0
TooLarge room o = (256 < size (tree_of o)) ⊎ (65535 < length (bytes_of o)) ⊎ (room < length (bytes_of o))

-- ---- the conditions

pub data Applies (c : Call) : ℕ → ℕ → Type 0 where
  -- "under 16,384 work words"
  at_1 : c.words < 16384 → Applies c 1 0
  -- "under 4 or over 65,535 bytes, or header counts out of range"
  at_2 : HeaderOffends c.forest → Applies c 2 0
  -- "directory"
  at_3 : (p : ℕ) → DirectoryOffends c.forest p → Applies c 3 p
  -- "a record against its shape"
  at_4 : (p : ℕ) → First (ShapeOffends c.forest) p → Applies c 4 p
  -- "opcode against shape"
  at_5 : (p : ℕ) → First (OpcodeOffends c.forest) p → Applies c 5 p
  -- "trees do not close"
  at_6 : (p : ℕ) → TreesOffend c.forest p → Applies c 6 p
  -- "deeper than 64 (a root has depth 1)"
  at_7 : (p : ℕ) → First (Deeper (trees_of c.forest) 64) p → Applies c 7 p
  -- "the first record whose opcode, other than 00, had another shape earlier"
  at_16 : (p : ℕ) → First (HadOtherShape c.forest) p → Applies c 16 p
  -- "a definition out of place"
  at_8 : (p : ℕ) → First (OutOfPlace (trees_of c.forest)) p → Applies c 8 p
  -- "an id bound while in force or twice in one lambda"
  at_9 : (p : ℕ) → First (Rebinds (trees_of c.forest)) p → Applies c 9 p
  -- "a use of an id not in force"
  at_10 : (p : ℕ) → First (Unbound (trees_of c.forest)) p → Applies c 10 p
  -- "over 2,048 readings"
  at_11 : (p : ℕ) → TooManyReadings c.forest p → Applies c 11 p
  -- "over 512 symbols"
  at_12 : (p : ℕ) → TooManySymbols c.forest p → Applies c 12 p
  -- "a written tree over 256 records, over 65,535 bytes or longer than the output"
  at_13 : (o : ℕ × State) → Interned c.forest o → TooLarge c.room o → Applies c 13 0
  -- "a written tree deeper than 64"
  at_14 : (o : ℕ × State) → Interned c.forest o → 64 < depth (tree_of o) → Applies c 14 0

-- ---- the order of the checks

-- "Accepted now means none of 2 to 10, nor 16": their checks, "each over the whole forest before the next", 16 "after 7 and
-- before 8"
abbrev pub acceptance : List ℕ
acceptance = 2 ∷ 3 ∷ 4 ∷ 5 ∷ 6 ∷ 7 ∷ 16 ∷ 8 ∷ 9 ∷ 10 ∷ []

-- all of them, in the order in which the call makes them
abbrev pub order : List ℕ
order = 1 ∷ (acceptance ++ (11 ∷ 12 ∷ 13 ∷ 14 ∷ []))

-- m stands before n in a list
abbrev pub Before : ℕ → ℕ → List ℕ → Type 0
Before m n [] = ⊥
Before m n (k ∷ ks) = ((k ≡ m) × (is_in n ks ≡ true)) ⊎ Before m n ks

-- ---- what is said of a call with them

-- none of acceptance applies to the forest, whatever else the call is given
abbrev pub Accepted : List ℕ → Type 0
Accepted forest = (c : Call) → c.forest ≡ forest → (n p : ℕ) → is_in n acceptance ≡ true → Applies c n p → ⊥

-- no refusal applies to the call
abbrev pub NoneApplies : Call → Type 0
NoneApplies c = (n p : ℕ) → Applies c n p → ⊥

-- number n applies, with place p, and none before it in the order does
abbrev pub FirstApplies : Call → ℕ → ℕ → Type 0
FirstApplies c n p = Applies c n p × ((m q : ℕ) → Before m n order → Applies c m q → ⊥)
