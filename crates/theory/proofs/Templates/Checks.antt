-- A filled forest is accepted where the forest is, if it is not too long: `filled_accepted`. No check looks at the literal
-- of a constant, but that 4 asks for one byte.
-- In order: rows and trees, filled; 2 and 3; 4 and 5; 6; 16; 7 to 10, which are one walk; all of them.
-- Assumes nothing.
use mathlib.Core.Path.{◌≡◌, refl, ap, ap₂, sym, ◌∙◌, subst}
use mathlib.Core.Bool.{Bool, true, false, not, ◌&&◌, ◌||◌}
use mathlib.Core.List.{List, [], ◌∷◌, ◌++◌, map, map-append}
use Prim.Native.Nat.{ℕ, zero, suc, ◌+◌, ◌≤◌, max}
use native.Mathlib.Omega.{arith}
use lib.Dec.{eqb}
use lib.ListN.{length, length-map}
use borrow.Author.Tests.{not-false, le-leb}
use Rattle.model.specs.Lists.{any_in, twice, first}
use Rattle.model.specs.Answer.{good}
use Rattle.model.specs.Tree.{Rec, rec, Row, Tree, Trees, node, nil, cons, is_nil, many, take_t, drop_t, grow, rows, rows_of}
use Rattle.model.specs.Tree.{depth, depths, forest_of}
use Rattle.model.specs.Opcodes.{ValUse, ValDef}
use Rattle.model.specs.Shape.{shapes, fits, agrees}
use Rattle.model.specs.Faults.{Check, faults, faults_in}
use Rattle.model.specs.Forest.{tree_count, record_count, rows_in, trees_of, check4, check5, unclosed, check6}
use Rattle.model.specs.Forest.{depth_check, check7, opcode_shapes, other_shape, check16}
use Rattle.model.specs.Binding.{kind, inside, defined, after}
use Rattle.model.specs.Binding.{place_check, ids_check, rebound_at, unbound_at, check8, check9, check10}
use Rattle.model.specs.Accept.{checks, accept}
use Rattle.model.specs.Template.{is_parameter, definitions, Filling, fill_rec, fill_row, fill_forest, fill_tree, fill_trees}
use Rattle.laws.specs.Clear.{Clear}
use Rattle.laws.proofs.Clear.{first_clear, clear_first}
use Rattle.laws.proofs.Members.{both_and}
use Rattle.laws.proofs.Checks.{Passes, passes_checked, ◌also◌}
use Rattle.laws.proofs.Header.{header_of, row_count}
use Rattle.theory.specs.Checked.{FitsWith}
use Rattle.theory.proofs.Acceptance.Records.{fits_at}
use Rattle.theory.proofs.Acceptance.Bytes.{laid_trees, laid_rows, laid_passes_2, laid_passes_3}
use Rattle.theory.proofs.Templates.Records.{other_stays, shape_other, parameter_is, parameter_gets}

module _ (f : Filling) where
  -- ---- rows and trees

  pub many_kept : (ts : Trees) → many (fill_trees f ts) ≡ many ts
  unfolding many
  many_kept nil = refl
  many_kept (cons t ts) = ap suc (many_kept ts)

  mutual
    unfolding rows

    pub rows_filled : (t : Tree) → rows (fill_tree f t) ≡ map (fill_row f) (rows t)
    rows_filled (node r ts) =
        ap₂ (λ (n : ℕ) (rs : List Row). record { rec = fill_rec f r; kids = n } ∷ rs) (many_kept ts) (rows_of_filled ts)

    pub rows_of_filled : (ts : Trees) → rows_of (fill_trees f ts) ≡ map (fill_row f) (rows_of ts)
    rows_of_filled nil = refl
    rows_of_filled (cons t ts) =
        ap₂ ◌++◌ (rows_filled t) (rows_of_filled ts) ∙ sym (map-append (fill_row f) (rows t) (rows_of ts))

  take_filled : (n : ℕ) (ts : Trees) → take_t n (fill_trees f ts) ≡ fill_trees f (take_t n ts)
  unfolding take_t
  take_filled zero ts = refl
  take_filled (suc n) nil = refl
  take_filled (suc n) (cons t ts) = ap (cons (fill_tree f t)) (take_filled n ts)

  drop_filled : (n : ℕ) (ts : Trees) → drop_t n (fill_trees f ts) ≡ fill_trees f (drop_t n ts)
  unfolding drop_t
  drop_filled zero ts = refl
  drop_filled (suc n) nil = refl
  drop_filled (suc n) (cons t ts) = drop_filled n ts

  grow_filled : (rs : List Row) → grow (map (fill_row f) rs) ≡ fill_trees f (grow rs)
  unfolding grow
  grow_filled [] = refl
  grow_filled (r ∷ rs) =
      ap (λ (s : Trees). cons (node (fill_rec f r.rec) (take_t r.kids s)) (drop_t r.kids s)) (grow_filled rs)
      ∙ ap₂ (λ (a b : Trees). cons (node (fill_rec f r.rec) a) b) (take_filled r.kids (grow rs))
      (drop_filled r.kids (grow rs))

  mutual
    unfolding depth

    pub depth_kept : (t : Tree) → depth (fill_tree f t) ≡ depth t
    depth_kept (node r ts) = ap suc (depths_kept ts)

    depths_kept : (ts : Trees) → depths (fill_trees f ts) ≡ depths ts
    depths_kept nil = refl
    depths_kept (cons t ts) = ap₂ max (depth_kept t) (depths_kept ts)

  pub definitions_kept : (rs : List Row) → definitions (map (fill_row f) rs) ≡ definitions rs
  unfolding definitions
  definitions_kept [] = refl
  definitions_kept (r ∷ rs) =
      ap (λ (n : ℕ). elim (eqb r.rec.shape ValDef) as (λ z. ℕ) [ true ↦ suc n | false ↦ n ]) (definitions_kept rs)

  -- what is read of a forest that is filled
  pub filled_rows : (bs : List ℕ) → rows_in (fill_forest f bs) ≡ map (fill_row f) (rows_in bs)
  filled_rows bs = laid_rows (tree_count bs) (map (fill_row f) (rows_in bs))

  pub filled_count : (bs : List ℕ) → tree_count (fill_forest f bs) ≡ tree_count bs
  filled_count bs = laid_trees (tree_count bs) (map (fill_row f) (rows_in bs))

  pub filled_trees : (bs : List ℕ) → trees_of (fill_forest f bs) ≡ fill_trees f (trees_of bs)
  unfolding trees_of
  filled_trees bs = ap grow (filled_rows bs) ∙ grow_filled (rows_in bs)

  -- a forest of some rows
  pub forest_filled : (k : ℕ) (rs : List Row) → fill_forest f (forest_of k rs) ≡ forest_of k (map (fill_row f) rs)
  forest_filled k rs =
      ap₂ (λ (n : ℕ) (qs : List Row). forest_of n (map (fill_row f) qs)) (laid_trees k rs) (laid_rows k rs)

  -- ---- 4 and 5

  constant_row : (s o a : ℕ) (l : List ℕ) (n : ℕ) → s ≡ 0 → n ≤ 0 → a ≤ 251 → 1 ≤ length l → FitsWith (rec s o a l) n
  unfolding fits shapes
  constant_row s o a l n e h k w =
      rw e
      (both_and _ _ (both_and _ _ (both_and _ _ (le-leb 0 n (omega arith)) (le-leb n 0 h)) (le-leb a 251 k))
      (le-leb 1 (length l) w))

  record_fits : (r : Rec) (n : ℕ) → FitsWith r n → FitsWith (fill_rec f r) n
  unfolding shapes
  record_fits r n h = go (is_parameter r) refl
    where
      go : (b : Bool) → is_parameter r ≡ b → FitsWith (fill_rec f r) n
      go true e =
          let p = parameter_is r e in
          let w = fits_at r n 0 p.0 h in
          subst (λ (q : Rec). FitsWith q n) (sym (parameter_gets f r e))
          (constant_row r.shape r.opcode r.aux (f.literal r.aux) n p.0 w.most_is w.aux_is
          (f.some_bytes r.aux p.1))
      go false e = subst (λ (q : Rec). FitsWith q n) (sym (other_stays f r e)) h

  fits_kept : (rs : List Row) → Clear (map (λ r. not (fits r)) rs) →
      Clear (map (λ r. not (fits r)) (map (fill_row f) rs))
  fits_kept [] h = tt
  fits_kept (r ∷ rs) h = (ap not (record_fits r.rec r.kids (not-false _ h.0)), fits_kept rs h.1)

  agrees_kept : (rs : List Row) →
      map (λ r. not (agrees r.rec)) (map (fill_row f) rs) ≡ map (λ r. not (agrees r.rec)) rs
  unfolding agrees
  agrees_kept [] = refl
  agrees_kept (r ∷ rs) = ap (λ (bs : List Bool). not (agrees r.rec) ∷ bs) (agrees_kept rs)

  -- ---- 6

  closes_kept : (n at : ℕ) (rs : List Row) → unclosed n at (map (fill_row f) rs) ≡ unclosed n at rs
  unfolding unclosed
  closes_kept zero at [] = refl
  closes_kept (suc n) at [] = refl
  closes_kept zero at (r ∷ rs) = refl
  closes_kept (suc n) at (r ∷ rs) = closes_kept (n + r.kids) (suc at) rs

  -- ---- 16

  shapes_kept : (rs : List Row) → opcode_shapes (map (fill_row f) rs) ≡ opcode_shapes rs
  shapes_kept [] = refl
  shapes_kept (r ∷ rs) = ap (◌∷◌ (r.rec.opcode, r.rec.shape)) (shapes_kept rs)

  others_kept : (qs rs : List Row) →
      map (λ r. other_shape (map (fill_row f) qs) r.rec) (map (fill_row f) rs) ≡ map (λ r. other_shape qs r.rec) rs
  unfolding other_shape
  others_kept qs [] = refl
  others_kept qs (r ∷ rs) = rw (shapes_kept qs) (ap (◌∷◌ (other_shape qs r.rec)) (others_kept qs rs))

  -- ---- 7 to 10

  -- a check that does not tell a record or a tree from a filled one
  pub record Blind {C : Type 0} (k : Check C) : Type 0 where
    pub offends_kept : (c : C) (r : Rec) → k.offends c (fill_rec f r) ≡ k.offends c r
    pub inner_kept : (r : Rec) (c : C) → k.inner (fill_rec f r) c ≡ k.inner r c
    pub here_kept : (c : C) (ts : Trees) → k.here c (fill_trees f ts) ≡ k.here c ts
    pub later_kept : (t : Tree) (c : C) → k.later (fill_tree f t) c ≡ k.later t c

  module _ {C : Type 0} (k : Check C) (blind : Blind k) where
    mutual
      unfolding faults

      faults_kept : (t : Tree) (c : C) → faults k (fill_tree f t) c ≡ faults k t c
      faults_kept (node r ts) c =
          ap₂ (λ (b : Bool) (d : C). b ∷ faults_in k (fill_trees f ts) d) (blind.offends_kept c r) (blind.inner_kept r c)
          ∙ ap (λ (bs : List Bool). k.offends c r ∷ bs) (faults_in_kept ts (k.inner r c))

      faults_in_kept : (ts : Trees) (c : C) → faults_in k (fill_trees f ts) c ≡ faults_in k ts c
      faults_in_kept nil c = refl
      faults_in_kept (cons t ts) c =
          ap₂ (λ (d e : C). faults k (fill_tree f t) d ++ faults_in k (fill_trees f ts) e) (blind.here_kept c ts)
          (blind.later_kept t c)
          ∙ ap₂ ◌++◌ (faults_kept t (k.here c ts)) (faults_in_kept ts (k.later t c))

  pub is_nil_kept : (ts : Trees) → is_nil (fill_trees f ts) ≡ is_nil ts
  is_nil_kept nil = refl
  is_nil_kept (cons t ts) = refl

  constant_inside : (r : Rec) → r.shape ≡ 0 → inside r ≡ []
  unfolding inside kind
  constant_inside r e = rw e

  inside_kept : (r : Rec) → inside (fill_rec f r) ≡ inside r
  inside_kept r = go (is_parameter r) refl
    where
      go : (b : Bool) → is_parameter r ≡ b → inside (fill_rec f r) ≡ inside r
      go true e =
          let z = (parameter_is r e).0 in
          constant_inside (fill_rec f r) z ∙ sym (constant_inside r z)
      go false e = ap inside (other_stays f r e)

  defined_kept : (r : Rec) → defined (fill_rec f r) ≡ defined r
  defined_kept r = go (eqb r.shape ValDef) refl
    where
      go : (b : Bool) → eqb r.shape ValDef ≡ b → defined (fill_rec f r) ≡ defined r
      go true e = ap defined (other_stays f r (shape_other r 9 e))
      go false e = rw (e, defined)

  after_kept : (t : Tree) → after (fill_tree f t) ≡ after t
  unfolding after
  after_kept (node r ts) = defined_kept r

  depth_blind : Blind depth_check
  depth_blind = record {
    offends_kept = λ d r. refl;
    inner_kept = λ r d. refl;
    here_kept = λ d ts. refl;
    later_kept = λ t d. refl;
  }

  place_blind : Blind place_check
  place_blind = record {
    offends_kept = λ d r. refl;
    inner_kept = λ r b. refl;
    here_kept = λ b ts. ap (λ (z : Bool). b && not z) (is_nil_kept ts);
    later_kept = λ t b. refl;
  }

  ids_blind : (test : List ℕ → Rec → Bool) → ((ids : List ℕ) (r : Rec) → test ids (fill_rec f r) ≡ test ids r) →
      Blind (ids_check test)
  ids_blind test kept = record {
    offends_kept = kept;
    inner_kept = λ r ids. ap (λ (own : List ℕ). own ++ ids) (inside_kept r);
    here_kept = λ ids ts. refl;
    later_kept = λ t ids. ap (λ (own : List ℕ). own ++ ids) (after_kept t);
  }

  rebound_kept : (ids : List ℕ) (r : Rec) → rebound_at ids (fill_rec f r) ≡ rebound_at ids r
  rebound_kept ids r =
      ap (λ (xs : List ℕ). any_in xs ids || twice xs) (ap₂ ◌++◌ (defined_kept r) (inside_kept r))

  unbound_kept : (ids : List ℕ) (r : Rec) → unbound_at ids (fill_rec f r) ≡ unbound_at ids r
  unbound_kept ids r = go (eqb r.shape ValUse) refl
    where
      go : (b : Bool) → eqb r.shape ValUse ≡ b → unbound_at ids (fill_rec f r) ≡ unbound_at ids r
      go true e = ap (unbound_at ids) (other_stays f r (shape_other r 6 e))
      go false e = rw e

  -- ---- all of them

  module _ (bs : List ℕ) (pass : Passes (checks bs)) (short : length (fill_forest f bs) ≤ 65535) where
    abbrev rs : List Row
    rs = rows_in bs

    passes_filled : Passes (checks (fill_forest f bs))
    unfolding checks check4 check5 check6 check7 check16 check8 check9 check10
    passes_filled =
        let h = header_of bs pass.0 in
        let count : length (map (fill_row f) rs) ≡ record_count bs = length-map rs (fill_row f) ∙ row_count bs in
        let n : (1 ≤ length (map (fill_row f) rs)) × (length (map (fill_row f) rs) ≤ 256) =
        (omega (arith, h.records_least), omega (arith, h.records_most)) in
        let two = laid_passes_2 (tree_count bs) (map (fill_row f) rs) (h.trees_least, h.trees_most) n short in
        let three = laid_passes_3 (tree_count bs) (map (fill_row f) rs) (h.trees_least, h.trees_most) n short in
        rw (filled_rows bs, filled_count bs, filled_trees bs, agrees_kept rs, closes_kept (tree_count bs) 0 rs)
        (two also three also clear_first _ (fits_kept rs (first_clear _ pass.1.1.0))
        also pass.1.1.1.0
        also pass.1.1.1.1.0
        also ap first (faults_in_kept depth_check depth_blind (trees_of bs) 1) ∙ pass.1.1.1.1.1.0
        also ap first (others_kept rs rs) ∙ pass.1.1.1.1.1.1.0
        also ap first (faults_in_kept place_check place_blind (trees_of bs) false) ∙ pass.1.1.1.1.1.1.1.0
        also ap first (faults_in_kept (ids_check rebound_at) (ids_blind rebound_at rebound_kept) (trees_of bs) [])
        ∙ pass.1.1.1.1.1.1.1.1.0
        also ap first (faults_in_kept (ids_check unbound_at) (ids_blind unbound_at unbound_kept) (trees_of bs) [])
        ∙ pass.1.1.1.1.1.1.1.1.1.0
        also tt)

    pub filled_accepted : accept (fill_forest f bs) ≡ good (fill_trees f (trees_of bs))
    unfolding accept
    filled_accepted =
        passes_checked (checks (fill_forest f bs)) (trees_of (fill_forest f bs)) passes_filled ∙ ap good (filled_trees bs)
