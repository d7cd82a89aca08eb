-- The steps of the walk. In order: the first fault of two lists of tests in a row; a record and its children; trees in
-- a row; what is left of trees in a row gives the whole.
-- Assumes nothing.
use Prim.Native.Nat.{ℕ, zero, suc, ◌+◌, ◌-◌, ◌<◌, ◌≤◌}
use mathlib.Core.Path.{◌≡◌, refl, sym, ap, ◌∙◌}
use mathlib.Core.Bool.{Bool, true, false, not, ◌&&◌}
use Rattle.std.specs.Prelude.{Option, None, Some, Ok}
use mathlib.Core.List.{List, ◌∷◌, ◌++◌, []}
use native.Mathlib.Omega.{arith}
use borrow.Author.Tests.{lt-ltb, le-ltb}
use lib.Dec.{ltb}
use lib.ListN.{length}
use Rattle.model.specs.Lists.{first}
use Rattle.model.specs.Tree.{Rec, Tree, Trees, node, nil, cons, is_nil, many, take_t, drop_t, size, sizes}
use Rattle.model.specs.Faults.{Check, faults, faults_in}
use Rattle.model.specs.Forest.{record_count}
use Rattle.laws.proofs.Apart.{some_none}
use Rattle.laws.proofs.Clear.{faults_length}
use Rattle.walk.specs.Faults.{Ctx, testing}
use Rattle.walk.specs.Walk.{trees_from, rest_at, tree_at, shift, Comes}
use Rattle.walk.proofs.Bridge.{trees_at}

-- ---- the first fault of two lists in a row

shift-shift : (i n : ℕ) (o : Option ℕ) → shift i (shift n o) ≡ shift (i + n) o
shift-shift i n None = refl
shift-shift i n (Some q) = ap Some (omega arith)

pub shift_zero : (o : Option ℕ) → shift 0 o ≡ o
shift_zero None = refl
shift_zero (Some q) = ap Some (omega arith)

shift_none : (i : ℕ) (o : Option ℕ) → None ≡ shift i o → o ≡ None
shift_none i None e = refl
shift_none i (Some q) e = some_none (sym e)

first_false : (bs : List Bool) → first (false ∷ bs) ≡ shift 1 (first bs)
unfolding first
first_false bs = go (first bs)
  where
    go : (o : Option ℕ) → ◌≡◌ {A = Option ℕ} (elim o [ None ↦ None | Some i ↦ Some (suc i) ]) (shift 1 o)
    go None = refl
    go (Some q) = ap Some (omega arith)

first_true : (bs : List Bool) → first (true ∷ bs) ≡ Some 0
unfolding first
first_true bs = refl

-- the test of record i, and the tests after it
pub shift_hit : (i : ℕ) (b : Bool) (bs : List Bool) → b ≡ true → shift i (first (b ∷ bs)) ≡ Some i
shift_hit i b bs e =
    ap (λ (z : Bool). shift i (first (z ∷ bs))) e ∙ ap (shift i) (first_true bs) ∙ ap Some (omega arith)

pub shift_miss : (i : ℕ) (b : Bool) (bs : List Bool) → b ≡ false → shift i (first (b ∷ bs)) ≡ shift (i + 1) (first bs)
shift_miss i b bs e =
    ap (λ (z : Bool). shift i (first (z ∷ bs))) e ∙ ap (shift i) (first_false bs) ∙ shift-shift i 1 (first bs)

-- no fault in the first list
first_later : (xs ys : List Bool) → first xs ≡ None → first (xs ++ ys) ≡ shift (length xs) (first ys)
first_later [] ys e = sym (shift_zero (first ys))
first_later (true ∷ xs) ys e = some_none (sym (first_true xs) ∙ e)
first_later (false ∷ xs) ys e =
    first_false (xs ++ ys)
    ∙ ap (shift 1) (first_later xs ys (shift_none 1 (first xs) (sym (sym (first_false xs) ∙ e))))
    ∙ shift-shift 1 (length xs) (first ys)
    ∙ ap (λ (n : ℕ). shift n (first ys)) (omega arith)

-- a fault in the first list
first_sooner : (xs ys : List Bool) (q : ℕ) → first xs ≡ Some q → first (xs ++ ys) ≡ Some q
unfolding first
first_sooner [] ys q e = some_none (sym e)
first_sooner (true ∷ xs) ys q e = first_true (xs ++ ys) ∙ sym (first_true xs) ∙ e
first_sooner (false ∷ xs) ys q e = go (first xs) refl (λ r f. first_sooner xs ys r f)
  where
    go : (o : Option ℕ) → first xs ≡ o → ((r : ℕ) → first xs ≡ Some r → first (xs ++ ys) ≡ Some r) →
        first (false ∷ (xs ++ ys)) ≡ Some q
    go None f g = some_none (sym (sym (ap (shift 1) f) ∙ sym (first_false xs) ∙ e))
    go (Some r) f g = first_false (xs ++ ys) ∙ ap (shift 1) (g r f) ∙ sym (ap (shift 1) f) ∙ sym (first_false xs) ∙ e

-- ---- a record and its children

module _ {C : Type 0} (k : Check C) where
  pub node_offends : (i : ℕ) (r : Rec) (ts : Trees) (c : C) → k.offends c r ≡ true →
      Some i ≡ shift i (first (faults k (node r ts) c))
  unfolding faults
  node_offends i r ts c e = sym (shift_hit i (k.offends c r) (faults_in k ts (k.inner r c)) e)

  pub node_passes : (i : ℕ) (r : Rec) (ts : Trees) (c : C) → k.offends c r ≡ false →
      shift (i + 1) (first (faults_in k ts (k.inner r c))) ≡ shift i (first (faults k (node r ts) c))
  unfolding faults
  node_passes i r ts c e = sym (shift_miss i (k.offends c r) (faults_in k ts (k.inner r c)) e)

  -- ---- trees in a row

  row_passes : (j : ℕ) (t : Tree) (ts : Trees) (c : C) → None ≡ shift j (first (faults k t (k.here c ts))) →
      shift (j + size t) (first (faults_in k ts (k.later t c))) ≡ shift j (first (faults_in k (cons t ts) c))
  unfolding faults
  row_passes j t ts c e =
      ap (λ (n : ℕ). shift (j + n) (first (faults_in k ts (k.later t c)))) (sym (faults_length k t (k.here c ts)))
      ∙ sym (shift-shift j (length (faults k t (k.here c ts))) (first (faults_in k ts (k.later t c))))
      ∙ ap (shift j) (sym (first_later (faults k t (k.here c ts)) (faults_in k ts (k.later t c)) clear))
    where
      clear : first (faults k t (k.here c ts)) ≡ None
      clear = shift_none j (first (faults k t (k.here c ts))) e

  row_offends : (j q : ℕ) (t : Tree) (ts : Trees) (c : C) → Some q ≡ shift j (first (faults k t (k.here c ts))) →
      Some q ≡ shift j (first (faults_in k (cons t ts) c))
  unfolding faults
  row_offends j q t ts c e = go (first (faults k t (k.here c ts))) refl e
    where
      go : (o : Option ℕ) → first (faults k t (k.here c ts)) ≡ o → Some q ≡ shift j o →
          Some q ≡ shift j (first (faults k t (k.here c ts) ++ faults_in k ts (k.later t c)))
      go None f g = some_none g
      go (Some r) f g =
          g ∙ ap (shift j) (sym (first_sooner (faults k t (k.here c ts)) (faults_in k ts (k.later t c)) r f))

take-cons : (n : ℕ) (t : Tree) (ts : Trees) → 0 < n → take_t n (cons t ts) ≡ cons t (take_t (n - 1) ts)
unfolding take_t
take-cons zero t ts l = absurd (omega arith)
take-cons (suc n) t ts l = let e : suc n - 1 ≡ n = omega arith in rw e

drop-cons : (n : ℕ) (t : Tree) (ts : Trees) → 0 < n → drop_t n (cons t ts) ≡ drop_t (n - 1) ts
unfolding drop_t
drop-cons zero t ts l = absurd (omega arith)
drop-cons (suc n) t ts l = let e : suc n - 1 ≡ n = omega arith in rw e

-- all but the last: more are to come
here_is : (m : ℕ) (ts : Trees) → m ≤ many ts → not (is_nil (take_t m ts)) ≡ ltb 0 m
unfolding take_t many
here_is zero ts l = sym (le-ltb 0 0 (omega arith))
here_is (suc m) nil l = absurd (omega arith)
here_is (suc m) (cons t ts) l = sym (lt-ltb 0 (suc m) (omega arith))

-- ---- what is left gives the whole

-- of `count` trees from record i on, `left` are left from record j on, and stand at d
pub record Remains (bs : List ℕ) (p : Ctx → Rec → Bool) (i count : ℕ) (c : Ctx) (j left : ℕ) (d : Ctx) : Type 0 where
  pub fault : shift j (first (faults_in (testing p) (take_t left (trees_from bs j)) d)) ≡ shift i
      (first (faults_in (testing p) (take_t count (trees_from bs i)) c))
  pub place : j + sizes (take_t left (trees_from bs j)) ≡ i + sizes (take_t count (trees_from bs i))
  pub rest : drop_t left (trees_from bs j) ≡ drop_t count (trees_from bs i)
  pub there : left ≤ many (trees_from bs j)

module _ (bs : List ℕ) (p : Ctx → Rec → Bool) (i count : ℕ) (c : Ctx) where
  pub remains_start : count ≤ many (trees_from bs i) → Remains bs p i count c i count c
  remains_start l = record { fault = refl; place = refl; rest = refl; there = l }

  module _ (j left : ℕ) (d : Ctx) (h : Remains bs p i count c j left d) where
    pub remains_end : left ≤ 0 →
        (None ≡ shift i (first (faults_in (testing p) (take_t count (trees_from bs i)) c))) × Comes bs i
        (sizes (take_t count (trees_from bs i))) (drop_t count (trees_from bs i)) (Ok j)
    unfolding take_t drop_t faults size first
    remains_end l =
        let e : left ≡ 0 = omega arith in (
          ap (λ (n : ℕ). shift j (first (faults_in (testing p) (take_t n (trees_from bs j)) d))) (sym e) ∙ h.fault,
          (
            omega (arith, ap (λ (n : ℕ). j + sizes (take_t n (trees_from bs j))) e, h.place),
            ap (λ (n : ℕ). drop_t n (trees_from bs j)) (sym e) ∙ h.rest,
          ),
        )

    module _ (some_left : 0 < left) (lt : j < record_count bs) where
      take_left : take_t left (trees_from bs j) ≡ cons (tree_at bs j) (take_t (left - 1) (rest_at bs j))
      take_left = ap (take_t left) (trees_at bs j lt) ∙ take-cons left (tree_at bs j) (rest_at bs j) some_left

      drop_left : drop_t left (trees_from bs j) ≡ drop_t (left - 1) (rest_at bs j)
      drop_left = ap (drop_t left) (trees_at bs j lt) ∙ drop-cons left (tree_at bs j) (rest_at bs j) some_left

      still_there : left - 1 ≤ many (rest_at bs j)
      unfolding many
      still_there = omega (arith, h.there, ap many (trees_at bs j lt))

      -- where the first of them stands
      abbrev stands : Ctx
      stands = record { depth = d.depth; def = d.def && ltb 0 (left - 1); ids = d.ids }

      stands_here : (testing p).here d (take_t (left - 1) (rest_at bs j)) ≡ stands
      stands_here =
          ap (λ (b : Bool). record { depth = d.depth; def = d.def && b; ids = d.ids })
          (here_is (left - 1) (rest_at bs j) still_there)

      pub remains_offends : (q : ℕ) → Some q ≡ shift j (first (faults (testing p) (tree_at bs j) stands)) →
          Some q ≡ shift i (first (faults_in (testing p) (take_t count (trees_from bs i)) c))
      remains_offends q e =
          row_offends (testing p) j q (tree_at bs j) (take_t (left - 1) (rest_at bs j)) d (rw stands_here e)
          ∙ ap (λ (ts : Trees). shift j (first (faults_in (testing p) ts d))) (sym take_left)
          ∙ h.fault

      pub remains_turn : (next : ℕ) (d' : Ctx) → None ≡ shift j (first (faults (testing p) (tree_at bs j) stands)) →
          next ≡ j + size (tree_at bs j) → trees_from bs next ≡ rest_at bs j → d' ≡ (testing p).later (tree_at bs j) d →
          Remains bs p i count c next (left - 1) d'
      unfolding size
      remains_turn next d' e place rest there = record {
        fault =
            rw (rest, there, place)
            (row_passes (testing p) j (tree_at bs j) (take_t (left - 1) (rest_at bs j)) d (rw stands_here e)
            ∙ ap (λ (ts : Trees). shift j (first (faults_in (testing p) ts d))) (sym take_left)
            ∙ h.fault);
        place = rw rest (omega (arith, place, ap sizes take_left, h.place));
        rest = ap (drop_t (left - 1)) rest ∙ sym drop_left ∙ h.rest;
        there = rw rest still_there;
      }
