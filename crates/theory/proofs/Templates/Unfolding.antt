-- The unfolding of a filled tree is the unfolding, filled: `unfolded_fills`, of a tree that checks 4, 5, 8, 9 and 10 let
-- through. (Elsewhere a constant could stand where a definition has to, and its literal be taken for an id.)
-- In order: what is in force; a block's children; records by their kind; trees, by induction.
-- Assumes nothing.
use mathlib.Core.Path.{◌≡◌, refl, ap, ap₂, ◌∙◌, fun_ext}
use mathlib.Core.Bool.{Bool, true, false, not, ◌&&◌}
use mathlib.Core.List.{List, [], ◌∷◌, ◌++◌, map}
use Prim.Native.Nat.{ℕ, suc, ◌-◌}
use native.Mathlib.Omega.{arith}
use lib.Dec.{eqb}
use Rattle.model.specs.Tree.{Rec, Tree, Trees, node, nil, cons, is_nil, top, many}
use Rattle.model.specs.Binding.{Kind, kind, val_use, val_def, block, lambda, field, other, is_block, id_of, args_of, inside, after}
use Rattle.model.specs.Unfold.{Unfolded, Unfoldeds, arg, lam, made, more, Meaning, meaning, bind_from, unfold_kind}
use Rattle.model.specs.Unfold.{unfold_item, unfold_at, unfold_all, unfold_last, unfolded}
use Rattle.theory.specs.Checked.{Checked, CheckedIn}
use Rattle.theory.proofs.Acceptance.Checked.{checked-head, checked-tail, checked_kids}
use Rattle.theory.proofs.Acceptance.Checked.{checked_place}
use Rattle.theory.proofs.Acceptance.Records.{kind_shape, def_child}
use Rattle.theory.proofs.Interning.Walk.{is_block_is}
use Rattle.model.specs.Template.{Filling, fill_rec, fill_tree, fill_trees, fill_unfolded, fill_unfoldeds}
use Rattle.theory.proofs.Templates.Checks.{is_nil_kept}
use Rattle.theory.proofs.Templates.Records.{Other, other_stays, shape_other, shape_is_other}

-- ---- a block's children

-- no child but the last is a constant
abbrev Leading : Trees → Type 0
Leading nil = Unit {0}
Leading (cons t ts) = (is_nil ts ≡ false → Other (top t)) × Leading ts

leading_block : (ts : Trees) (ids : List ℕ) → CheckedIn ts true ids → Leading ts
leading_block nil ids c = tt
leading_block (cons (node r us) ts) ids c = (
  λ e. shape_other r 9 (checked_place r us _ ids (checked-head (node r us) ts true ids c) ∙ ap not e),
  leading_block ts (after (node r us) ++ ids) (checked-tail (node r us) ts true ids c),
)

leading_one : (ts : Trees) → many ts ≡ 1 → Leading ts
unfolding many
leading_one nil e = tt
leading_one (cons t nil) e = (λ z. absurd (omega (arith, go z)), tt)
  where
    go : true ≡ false → ◌≡◌ {A = ℕ} 0 1
    go z = cc
leading_one (cons t (cons u ts)) e = absurd (omega arith)

module _ (f : Filling) where
  -- ---- what is in force

  abbrev fill_meaning : Meaning → Meaning
  fill_meaning ms = map (λ m. (m.0, λ d. fill_unfolded f (m.1 d))) ms

  meaning_fills : (ms : Meaning) (i d : ℕ) → meaning (fill_meaning ms) i d ≡ fill_unfolded f (meaning ms i d)
  unfolding meaning
  meaning_fills [] i d = refl
  meaning_fills (m ∷ ms) i d = go (eqb m.0 i) (meaning_fills ms i d)
    where
      go : (b : Bool) → meaning (fill_meaning ms) i d ≡ fill_unfolded f (meaning ms i d) → ◌≡◌ {A = Unfolded}
          (elim b [ true ↦ fill_unfolded f (m.1 d) | false ↦ meaning (fill_meaning ms) i d ])
          (fill_unfolded f (elim b [ true ↦ m.1 d | false ↦ meaning ms i d ]))
      go true h = refl
      go false h = h

  bind_from_fills : (e p : ℕ) (xs : List (ℕ × List ℕ)) (ms : Meaning) →
      bind_from e p xs (fill_meaning ms) ≡ fill_meaning (bind_from e p xs ms)
  unfolding bind_from
  bind_from_fills e p [] ms = refl
  bind_from_fills e p (a ∷ xs) ms =
      ap (λ (z : Meaning). (a.0, λ d. arg (d - e) p) ∷ z) (bind_from_fills e (suc p) xs ms)

  -- ---- records by their kind

  abbrev Unfolds : (Meaning → ℕ → Unfolded) → (Meaning → ℕ → Unfolded) → Type 0
  Unfolds u' u = (ms : Meaning) (d : ℕ) → u' (fill_meaning ms) d ≡ fill_unfolded f (u ms d)

  abbrev UnfoldsAll : (Meaning → ℕ → Unfoldeds) → (Meaning → ℕ → Unfoldeds) → Type 0
  UnfoldsAll u' u = (ms : Meaning) (d : ℕ) → u' (fill_meaning ms) d ≡ fill_unfoldeds f (u ms d)

  item_fills : (b : Bool) (i' i : ℕ) → (b ≡ false → i' ≡ i) → (item' item rest' rest : Meaning → ℕ → Unfolded) →
      Unfolds item' item → Unfolds rest' rest → Unfolds (unfold_item b i' item' rest') (unfold_item b i item rest)
  unfolding unfold_item
  item_fills true i' i e item' item rest' rest h k ms d = h ms d
  item_fills false i' i e item' item rest' rest h k ms d =
      ap₂ (λ (j : ℕ) (v : ℕ → Unfolded). rest' ((j, v) ∷ fill_meaning ms) d) (e refl) (fun_ext λ x. h ms x)
      ∙ k ((i, λ e. item ms e) ∷ ms) d

  kind_unfolds : (r : Rec) (all' all : Meaning → ℕ → Unfoldeds) (result' result : Meaning → ℕ → Unfolded) →
      UnfoldsAll all' all → (kind r.shape ≡ val_def → Unfolds result' result) →
      (kind r.shape ≡ block → Unfolds result' result) → (k : Kind) → kind r.shape ≡ k →
      Unfolds (unfold_kind k (fill_rec f r) all' result') (unfold_kind k r all result)
  unfolding unfold_kind
  kind_unfolds r all' all result' result h p q val_use e ms d =
      ap (λ (z : Rec). meaning (fill_meaning ms) (id_of z) d)
      (other_stays f r (shape_is_other r 6 (kind_shape r.shape val_use e).shape))
      ∙ meaning_fills ms (id_of r) d
  kind_unfolds r all' all result' result h p q val_def e ms d = p e ms d
  kind_unfolds r all' all result' result h p q block e ms d = q e ms d
  kind_unfolds r all' all result' result h p q lambda e ms d =
      ap (λ (z : Rec). unfold_kind lambda z all' result' (fill_meaning ms) d)
      (other_stays f r (shape_is_other r 11 (kind_shape r.shape lambda e).shape))
      ∙ ap (lam r.shape r.opcode r.aux (map (λ a. a.1) (args_of r.aux r.lit)))
      (ap (λ (m : Meaning). all' m (suc d)) (bind_from_fills (suc d) 0 (args_of r.aux r.lit) ms)
      ∙ h (bind_from (suc d) 0 (args_of r.aux r.lit) ms) (suc d))
  kind_unfolds r all' all result' result h p q field e ms d = ap (made (fill_rec f r)) (h ms d)
  kind_unfolds r all' all result' result h p q other e ms d = ap (made (fill_rec f r)) (h ms d)

  id_kept : (t : Tree) → Other (top t) → id_of (top (fill_tree f t)) ≡ id_of (top t)
  id_kept (node r ts) o = ap id_of (other_stays f r o)

  -- ---- trees

  mutual
    unfolding unfold_at

    tree_unfolds : (t : Tree) (b : Bool) (ids : List ℕ) → Checked t b ids → (ms : Meaning) (d : ℕ) →
        unfold_at (fill_tree f t) (fill_meaning ms) d ≡ fill_unfolded f (unfold_at t ms d)
    tree_unfolds (node r ts) b ids c ms d =
        let k : CheckedIn ts (is_block r) (inside r ++ ids) = checked_kids r ts b ids c in
        kind_unfolds r (λ m e. unfold_all (fill_trees f ts) m e) (λ m e. unfold_all ts m e)
        (λ m e. unfold_last (fill_trees f ts) m e) (λ m e. unfold_last ts m e)
        (λ m e. all_unfold ts (is_block r) (inside r ++ ids) k m e)
        (λ x m e. last_unfolds ts (is_block r) (inside r ++ ids) k
        (leading_one ts (def_child r (many ts) (kind_shape r.shape val_def x).shape c.fine.0)) m e)
        (λ x m e. last_unfolds ts (is_block r) (inside r ++ ids) k
        (leading_block ts (inside r ++ ids) (rw (is_block_is r block x) at k)) m e)
        (kind r.shape) refl ms d

    all_unfold : (ts : Trees) (b : Bool) (ids : List ℕ) → CheckedIn ts b ids → (ms : Meaning) (d : ℕ) →
        unfold_all (fill_trees f ts) (fill_meaning ms) d ≡ fill_unfoldeds f (unfold_all ts ms d)
    all_unfold nil b ids c ms d = refl
    all_unfold (cons t ts) b ids c ms d =
        ap₂ more (tree_unfolds t (b && not (is_nil ts)) ids (checked-head t ts b ids c) ms d)
        (all_unfold ts b (after t ++ ids) (checked-tail t ts b ids c) ms d)

    last_unfolds : (ts : Trees) (b : Bool) (ids : List ℕ) → CheckedIn ts b ids → Leading ts → (ms : Meaning) (d : ℕ) →
        unfold_last (fill_trees f ts) (fill_meaning ms) d ≡ fill_unfolded f (unfold_last ts ms d)
    last_unfolds nil b ids c l ms d = refl
    last_unfolds (cons t ts) b ids c l ms d =
        ap (λ (z : Bool). unfold_item z (id_of (top (fill_tree f t))) (λ m e. unfold_at (fill_tree f t) m e)
        (λ m e. unfold_last (fill_trees f ts) m e) (fill_meaning ms) d) (is_nil_kept f ts)
        ∙ item_fills (is_nil ts) (id_of (top (fill_tree f t))) (id_of (top t)) (λ z. id_kept t (l.0 z))
        (λ m e. unfold_at (fill_tree f t) m e) (λ m e. unfold_at t m e) (λ m e. unfold_last (fill_trees f ts) m e)
        (λ m e. unfold_last ts m e)
        (λ m e. tree_unfolds t (b && not (is_nil ts)) ids (checked-head t ts b ids c) m e)
        (λ m e. last_unfolds ts b (after t ++ ids) (checked-tail t ts b ids c) l.1 m e) ms d

  pub unfolded_fills : (t : Tree) (b : Bool) (ids : List ℕ) → Checked t b ids →
      unfolded (fill_tree f t) ≡ fill_unfolded f (unfolded t)
  unfolding unfolded
  unfolded_fills t b ids c = tree_unfolds t b ids c [] 0
