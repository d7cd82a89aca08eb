-- A block of definitions and a result: what it unfolds to, and that it is checked if its parts are, one after the
-- other.
--
-- In order: definitions, what they bind and the ids they put in force; small definitions, since a block's child count
-- has to fit 16 bits; what a block unfolds to (`wrap_unfold`), also where `wrap_block` drops a definition that only
-- renames (`wrap_cases`); that it is checked (`wrap_checked`).
-- Scopes uses the two laws of `wrap_block`, Failing/Building `wrap_cases`.
-- Assumes nothing.
use mathlib.Core.Path.{◌≡◌, refl, ap, sym, ◌∙◌, subst}
use mathlib.Core.Bool.{Bool, true, false, ◌&&◌}
use mathlib.Core.List.{List, [], ◌∷◌, ◌++◌}
use Prim.Native.Nat.{ℕ, suc, ◌≤◌, ◌<◌}
use native.Mathlib.Omega.{arith}
use lib.Dec.{eqb}
use borrow.Author.Tests.{eqb-true, eq-eqb, le-leb}
use Rattle.model.specs.Lists.{is_in, any_in, twice}
use Rattle.model.specs.Tree.{rec, Tree, Trees, node, nil, cons, many, is_nil, top, size, sizes, snoc}
use Rattle.model.specs.Shape.{fits, agrees, shapes, shape_of, both_ways, one_way, whole}
use Rattle.model.specs.Faults.{faults}
use Rattle.model.specs.Binding.{Kind, kind, val_use, id_of, inside, after}
use Rattle.model.specs.Unfold.{Meaning, meaning, unfold_kind, unfold_item, unfold_at, unfold_all, unfold_last}
use Rattle.model.specs.Materialize.{val_def_of, renames, wrap_block}
use Rattle.laws.proofs.Members.{and_both}
use Rattle.laws.proofs.Rows.{many_sizes}
use Rattle.laws.proofs.Trees.{size_some, many-snoc, sizes_snoc, def_size}
use Rattle.theory.specs.Checked.{FitsWith, Checked, CheckedIn}
use Rattle.theory.proofs.Acceptance.Checked.{checked_join, nil-checked}
use Rattle.theory.proofs.Building.Written.{def_unfold, def_value}

-- ---- definitions, one after the other

abbrev IsDef : Tree → Type 0
IsDef d = (i : ℕ) × (v : Tree) × (d ≡ val_def_of i v)

abbrev pub AllDefs : Trees → Type 0
AllDefs nil = Unit {0}
AllDefs (cons d ds) = IsDef d × AllDefs ds

-- what is in force after a definition, and after all of them
abbrev pub bind_def : Tree → Meaning → Meaning
bind_def d ms = (id_of (top d), λ e. unfold_at d ms e) ∷ ms

abbrev pub bind_defs : Trees → Meaning → Meaning
bind_defs nil ms = ms
bind_defs (cons d ds) ms = bind_defs ds (bind_def d ms)

abbrev pub ids_after : Trees → List ℕ → List ℕ
ids_after nil ids = ids
ids_after (cons d ds) ids = ids_after ds (after d ++ ids)

abbrev pub CheckedDefs : Trees → List ℕ → Type 0
CheckedDefs nil ids = Unit {0}
CheckedDefs (cons d ds) ids = Checked d true ids × CheckedDefs ds (after d ++ ids)

-- each definition is small
abbrev pub SmallDefs : Trees → Type 0
SmallDefs nil = Unit {0}
SmallDefs (cons d ds) = (size d ≤ 65535) × SmallDefs ds

snoc_some : (ds : Trees) (r : Tree) → is_nil (snoc ds r) ≡ false
unfolding snoc
snoc_some nil r = refl
snoc_some (cons d ds) r = refl

-- definitions of a small block are small
small_defs : (ds : Trees) → sizes ds ≤ 65535 → SmallDefs ds
unfolding sizes
small_defs nil l = tt
small_defs (cons d ds) l = (omega arith, small_defs ds (omega arith))

-- ---- what a block unfolds to

abbrev pub block_of : Trees → Tree
block_of ts = node (rec 11 0xD8 0 []) ts

block_unfold : (ts : Trees) (ms : Meaning) (d : ℕ) → unfold_at (block_of ts) ms d ≡ unfold_last ts ms d
unfolding unfold_at unfold_kind kind
block_unfold ts ms d = refl

last_snoc : (ds : Trees) (r : Tree) (ms : Meaning) (d : ℕ) → unfold_last (snoc ds r) ms d ≡ unfold_at r (bind_defs ds ms) d
unfolding snoc unfold_last unfold_item
last_snoc nil r ms d = refl
last_snoc (cons e ds) r ms d = rw (snoc_some ds r) (last_snoc ds r (bind_def e ms) d)

pub kind_use : (s : ℕ) → eqb s 7 ≡ true → kind s ≡ val_use
unfolding kind
kind_use s e = rw (e, kind)

use_of : (r : Tree) (ms : Meaning) (d : ℕ) → eqb (top r).shape 7 ≡ true → unfold_at r ms d ≡ meaning ms (id_of (top r)) d
unfolding unfold_at unfold_kind
use_of (node r ts) ms d e =
    ap (λ (k : Kind). unfold_kind k r (λ m x. unfold_all ts m x) (λ m x. unfold_last ts m x) ms d) (kind_use r.shape e)

-- a result that only renames definition d is a use of it
pub renames_is : (d v r : Tree) → renames d (cons v nil) r ≡ true →
    (eqb (top r).shape 7 ≡ true) × (eqb (id_of (top d)) (id_of (top r)) ≡ true)
unfolding renames
renames_is d v r e =
    let p = and_both (eqb (top v).shape 7 && eqb (top r).shape 7) (eqb (id_of (top r)) (id_of (top d))) e in (
      (and_both (eqb (top v).shape 7) (eqb (top r).shape 7) p.0).1,
      eq-eqb (id_of (top d)) (id_of (top r)) (sym (eqb-true (id_of (top r)) (id_of (top d)) p.1)),
    )

-- a definition that is a use, and a result that uses it: the definition's value alone unfolds to the same
renamed_unfold : (i : ℕ) (v r : Tree) (ms : Meaning) (d : ℕ) → renames (val_def_of i v) (cons v nil) r ≡ true →
    unfold_at v ms d ≡ unfold_at r (bind_def (val_def_of i v) ms) d
unfolding meaning
renamed_unfold i v r ms d e =
    let x = val_def_of i v in
    let is = renames_is x v r e in
    sym (use_of r (bind_def x ms) d is.0 ∙ rw (is.1, meaning) (def_unfold i v ms d))

-- a block's tree is the result if there are no definitions, the value of the one if it only renames, or else the block
pub wrap_cases : (P : Tree → Type 0) (ds : Trees) (r : Tree) → AllDefs ds → (ds ≡ nil → P r) →
    ((i : ℕ) (v : Tree) → ds ≡ cons (val_def_of i v) nil → renames (val_def_of i v) (cons v nil) r ≡ true → P v) →
    P (block_of (snoc ds r)) → P (wrap_block ds r)
unfolding wrap_block snoc val_def_of
wrap_cases P nil r h none renamed whole = none refl
wrap_cases P (cons x nil) r h none renamed whole =
    let (i, v, e) = h.0 in
    subst Want (sym e) (λ re wh. go i v (renames (val_def_of i v) (cons v nil) r) refl (re i v) wh) renamed whole
  where
    Want : Tree → Type 0
    Want x = ((i : ℕ) (v : Tree) → cons x nil ≡ cons (val_def_of i v) nil → renames (val_def_of i v) (cons v nil) r ≡ true → P v) →
        P (block_of (cons x (cons r nil))) → P (wrap_block (cons x nil) r)

    go : (i : ℕ) (v : Tree) (b : Bool) → renames (val_def_of i v) (cons v nil) r ≡ b →
        (cons (val_def_of i v) nil ≡ cons (val_def_of i v) nil → renames (val_def_of i v) (cons v nil) r ≡ true → P v) →
        P (block_of (cons (val_def_of i v) (cons r nil))) →
        P (elim b [ true ↦ v | false ↦ block_of (cons (val_def_of i v) (cons r nil)) ])
    go i v true e re wh = re refl e
    go i v false e re wh = wh
wrap_cases P (cons x (cons y ds)) r h none renamed whole = whole

pub wrap_unfold : (ds : Trees) (r : Tree) → AllDefs ds → (ms : Meaning) (d : ℕ) →
    unfold_at (wrap_block ds r) ms d ≡ unfold_at r (bind_defs ds ms) d
wrap_unfold ds r h ms d =
    wrap_cases (λ t. unfold_at t ms d ≡ unfold_at r (bind_defs ds ms) d) ds r h (λ e. rw e refl)
    (λ i v e q. rw e (renamed_unfold i v r ms d q)) (block_unfold (snoc ds r) ms d ∙ last_snoc ds r ms d)

-- ---- a block is checked

snoc-checked : (ds : Trees) (r : Tree) (ids : List ℕ) → CheckedDefs ds ids → Checked r false (ids_after ds ids) →
    CheckedIn (snoc ds r) true ids
unfolding snoc
snoc-checked nil r ids h c = checked_join r nil true ids c (nil-checked true (after r ++ ids))
snoc-checked (cons d ds) r ids h c =
    checked_join d (snoc ds r) true ids (rw (snoc_some ds r) h.0) (snoc-checked ds r (after d ++ ids) h.1 c)

block_fits : (n : ℕ) → suc n ≤ 65535 → FitsWith (rec 11 0xD8 0 []) (suc n)
unfolding fits shapes whole
block_fits n l = rw (le-leb 1 (suc n) (omega arith), le-leb (suc n) 65535 l)

block_checked : (ts : Trees) (ids : List ℕ) → FitsWith (rec 11 0xD8 0 []) (many ts) → CheckedIn ts true ids →
    Checked (block_of ts) false ids
unfolding shape_of both_ways one_way agrees is_in faults kind inside after any_in twice
block_checked ts ids f c = record {
  fine = (f, refl, c.fine);
  placed = (refl, c.placed);
  fresh = (refl, c.fresh);
  known = (refl, c.known);
}

pub wrap_checked : (ds : Trees) (r : Tree) (ids : List ℕ) → size (wrap_block ds r) < 65535 → AllDefs ds →
    (SmallDefs ds → CheckedDefs ds ids) → (size r < 65535 → Checked r false (ids_after ds ids)) →
    Checked (wrap_block ds r) false ids
unfolding wrap_block snoc many val_def_of size
wrap_checked nil r ids l h c k = k l
wrap_checked (cons x nil) r ids l h c k =
    let (i, v, e) = h.0 in
    subst Want (sym e) (go i v (renames (val_def_of i v) (cons v nil) r)) l c k
  where
    Want : Tree → Type 0
    Want x = size (wrap_block (cons x nil) r) < 65535 → (SmallDefs (cons x nil) → CheckedDefs (cons x nil) ids) →
        (size r < 65535 → Checked r false (after x ++ ids)) → Checked (wrap_block (cons x nil) r) false ids

    go : (i : ℕ) (v : Tree) (b : Bool) →
        size (elim b [ true ↦ v | false ↦ block_of (cons (val_def_of i v) (cons r nil)) ]) < 65535 →
        (SmallDefs (cons (val_def_of i v) nil) → CheckedDefs (cons (val_def_of i v) nil) ids) →
        (size r < 65535 → Checked r false (after (val_def_of i v) ++ ids)) →
        Checked (elim b [ true ↦ v | false ↦ block_of (cons (val_def_of i v) (cons r nil)) ]) false ids
    go i v true l c k = def_value i v ids (c (omega (arith, def_size i v), tt)).0
    go i v false l c k =
        block_checked (cons (val_def_of i v) (cons r nil)) ids (block_fits 1 (omega arith))
        (snoc-checked (cons (val_def_of i v) nil) r ids (c (omega arith, tt)) (k (omega arith)))
wrap_checked (cons x (cons y ds)) r ids l h c k =
    let all = sizes_snoc ds r in
    let kids = many-snoc ds r in
    let fewer = many_sizes ds in
    let short : suc (suc (many (snoc ds r))) ≤ 65535 = omega (arith, size_some x, size_some y, size_some r) in
    let small : SmallDefs (cons x (cons y ds)) = (omega arith, (omega arith, small_defs ds (omega arith))) in
    block_checked (cons x (cons y (snoc ds r))) ids (block_fits (suc (many (snoc ds r))) short)
    (snoc-checked (cons x (cons y ds)) r ids (c small) (k (omega arith)))
