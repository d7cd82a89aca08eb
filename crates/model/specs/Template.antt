-- Every filling of a template. A hire contract is printed before the values of its script are known: the script's marked
-- constants, its parameters, stand for them. The clause says that what was seen on the template holds of every filling.
-- The statement is that the pass commutes with filling: fill the forest and run the pass, or run the pass and fill the
-- tree, the bytes are the same. `theory` (Templates) proves `Commutes` and `CallCommutes` of every template and filling.
-- In order: parameters; a filling; a forest filled; a template; what the pass makes, filled; the statement, of the
-- definitions and of the call; the clause, in its terms.
-- Assumes nothing.
use Rattle.std.specs.Prelude.{◌≡◌, ◌⊎◌, Bool, true, false, ◌&&◌, List, [], ◌∷◌, map, ℕ, suc, ◌<◌, ◌≤◌, eqb, ltb, length}
use Rattle.model.specs.Answer.{Answer, refused, good}
use Rattle.model.specs.Tree.{Rec, rec, Row, Tree, Trees, node, nil, cons, root, rows, forest_of}
use Rattle.model.specs.Opcodes.{Const, ValDef}
use Rattle.model.specs.Forest.{tree_count, rows_in, trees_of}
use Rattle.model.specs.Unfold.{Unfolded, Unfoldeds, arg, lam, made, done, more, unfolded}
use Rattle.model.specs.Intern.{Sym, State}
use Rattle.model.specs.Call.{Call, ample, Written, interned, tree_of, bytes_of, run, numbers}
use Rattle.model.specs.Places.{record_at}
use Rattle.model.specs.Conditions.{Accepted}

-- ---- parameters

-- a constant with an aux over 6, that is, with a mark; the aux, class and mark, says of which parameter it is
unfoldable pub is_parameter : Rec → Bool
is_parameter r = eqb r.shape Const && ltb 6 r.aux

-- the same of record p of a forest, the parameter being a
pub record StandsFor (forest : List ℕ) (p a : ℕ) : Type 0 where
  pub is_constant : (record_at forest p).rec.shape ≡ Const
  pub is_parameter_lem : (record_at forest p).rec.aux ≡ a
  pub has_mark : 6 < a

-- ---- a filling

-- a literal of at least one byte for each aux over 6
pub record Filling : Type 0 where
  pub literal : ℕ → List ℕ
  pub some_bytes : (a : ℕ) → 6 < a → 1 ≤ length (literal a)

-- ---- a forest filled

-- each parameter gets its literal, all else stays
abbrev pub fill_rec : Filling → Rec → Rec
fill_rec f r =
    rec r.shape r.opcode r.aux (elim (is_parameter r) [ true ↦ f.literal r.aux | false ↦ r.lit ])

abbrev pub fill_row : Filling → Row → Row
fill_row f r = record { rec = fill_rec f r.rec; kids = r.kids }

-- as many trees, the same records in the same order, filled; the directory follows
abbrev pub fill_forest : Filling → List ℕ → List ℕ
fill_forest f forest = forest_of (tree_count forest) (map (fill_row f) (rows_in forest))

-- the same of trees
abbrev mutual
  pub fill_tree : Filling → Tree → Tree
  fill_tree f (node r ts) = node (fill_rec f r) (fill_trees f ts)

  pub fill_trees : Filling → Trees → Trees
  fill_trees f nil = nil
  fill_trees f (cons t ts) = cons (fill_tree f t) (fill_trees f ts)

-- ---- a template

-- an accepted forest in which two constants with the same aux over 6 have the same literal
pub record Template (forest : List ℕ) : Type 0 where
  pub accepted : Accepted forest
  pub one_value : (a p q : ℕ) → StandsFor forest p a → StandsFor forest q a →
      (record_at forest p).rec.lit ≡ (record_at forest q).rec.lit

-- ---- what the pass makes, filled

abbrev pub fill_sym : Filling → Sym → Sym
fill_sym f y =
    record { rec = fill_rec f y.rec; kids = y.kids; deps = y.deps; scope = y.scope; node = y.node }

-- the symbols' records are filled; scopes, tables, projections and readings stay
abbrev pub fill_state : Filling → State → State
fill_state f st = record {
  syms = map (fill_sym f) st.syms;
  tables = st.tables;
  scopes = st.scopes;
  memo = st.memo;
  readings = st.readings;
}

-- the root's symbol, and the state
abbrev pub fill_interned : Filling → ℕ × State → ℕ × State
fill_interned f o = (o.0, fill_state f o.1)

-- the tree, and its bytes; as many symbols and readings
abbrev pub fill_written : Filling → Written → Written
fill_written f w = record {
  tree = fill_tree f w.tree;
  bytes = fill_forest f w.bytes;
  symbols = w.symbols;
  readings = w.readings;
}

-- a refusal stays, with its place
abbrev pub map_answer : {A B : Type 0} → (A → B) → Answer A → Answer B
map_answer g (refused n p) = refused n p
map_answer g (good a) = good (g a)

abbrev mutual
  pub fill_unfolded : Filling → Unfolded → Unfolded
  fill_unfolded f (arg d p) = arg d p
  fill_unfolded f (lam s o a opts us) = lam s o a opts (fill_unfoldeds f us)
  fill_unfolded f (made r us) = made (fill_rec f r) (fill_unfoldeds f us)

  pub fill_unfoldeds : Filling → Unfoldeds → Unfoldeds
  fill_unfoldeds f done = done
  fill_unfoldeds f (more u us) = more (fill_unfolded f u) (fill_unfoldeds f us)

-- ---- the statement, of the definitions

-- how many of some records are definitions
unfoldable pub definitions : List Row → ℕ
definitions [] = 0
definitions (r ∷ rs) = elim (eqb r.rec.shape ValDef) [ true ↦ suc (definitions rs) | false ↦ definitions rs ]

-- of a template whose filled forest is not too long
pub record Commutes (f : Filling) (forest : List ℕ) : Type 0 where
  -- the filled forest is accepted, and read it is the filled trees
  pub accepted : Accepted (fill_forest f forest)
  pub reads : trees_of (fill_forest f forest) ≡ fill_trees f (trees_of forest)
  -- what its root unfolds to is what the template's root unfolds to, filled
  pub means : unfolded (root (trees_of (fill_forest f forest))) ≡ fill_unfolded f (unfolded (root (trees_of forest)))
  -- the same symbols with the same scopes and readings, filled; or the same refusal, 11 or 12, at the same place
  pub interns : interned (fill_forest f forest) ≡ map_answer (fill_interned f) (interned forest)
  -- so the tree that document 01 defines is the template's, filled: the same records in the same order, the same ids, as
  -- many definitions, other literals at parameters and nowhere else. It is so of any symbols and scopes
  pub tree : (o : ℕ × State) → tree_of (fill_interned f o) ≡ fill_tree f (tree_of o)
  pub records : (o : ℕ × State) → rows (tree_of (fill_interned f o)) ≡ map (fill_row f) (rows (tree_of o))
  pub same_definitions : (o : ℕ × State) → definitions (rows (tree_of (fill_interned f o))) ≡ definitions (rows (tree_of o))
  pub bytes : (o : ℕ × State) → bytes_of (fill_interned f o) ≡ fill_forest f (bytes_of o)

-- ---- of the call

-- a tree's bytes are not too many for a forest, nor for the output
pub record BytesFit (room : ℕ) (bytes : List ℕ) : Type 0 where
  pub short : length bytes ≤ 65535
  pub fits_in : length bytes ≤ room

-- of a call on a template, and one on the filled forest, which may be lent another output
pub record CallCommutes (f : Filling) (c c' : Call) : Type 0 where
  -- if the template's call gives 0 and the filled tree fits, the filled forest's call gives 0 with exactly these bytes,
  -- symbols and readings
  pub writes : (w : Written) → run c ≡ good w → BytesFit c'.room (fill_forest f w.bytes) →
      run c' ≡ good (fill_written f w)
  -- what may differ is 13: but for it, the number and the place are the same
  pub only_13 : ((numbers c).number ≡ 13) ⊎ ((numbers c').number ≡ 13) ⊎
      (((numbers c').number ≡ (numbers c).number) × ((numbers c').place ≡ (numbers c).place))
  -- by the number of bytes: where the trees of both fit, the answer is the same, filled
  pub by_bytes : ((o : ℕ × State) → interned c.forest ≡ good o →
      BytesFit c.room (bytes_of o) × BytesFit c'.room (fill_forest f (bytes_of o))) →
      run c' ≡ map_answer (fill_written f) (run c)

-- of every template, and every filling that does not make the forest too long: else the filled forest is refused with 2
abbrev pub EveryFilling : Type 0
EveryFilling =
    (f : Filling) (forest : List ℕ) → Template forest → length (fill_forest f forest) ≤ 65535 →
    Commutes f forest × ((c c' : Call) → c.forest ≡ forest → c'.forest ≡ fill_forest f forest → c'.words ≡ c.words →
    CallCommutes f c c')

-- ---- the clause

-- of a template for which the call, lent as much as any needs, wrote w, and of a filling
pub record Clause (forest : List ℕ) (w : Written) (f : Filling) : Type 0 where
  -- the address: the filled script's call writes the tree that was seen, filled
  pub address : run (ample (fill_forest f forest)) ≡ good (fill_written f w)
  -- the price: it has as many definitions
  pub price : definitions (rows (fill_tree f w.tree)) ≡ definitions (rows w.tree)
  -- the printed terms: it means what the template's root means, filled
  pub terms : unfolded (fill_tree f w.tree) ≡ fill_unfolded f (unfolded (root (trees_of forest)))
