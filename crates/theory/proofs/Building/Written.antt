-- The records that building writes: what each unfolds to, and that it is checked if its children are.
--
-- In order: a use; a definition; a record of the forest that binds nothing; a lambda. Blocks are in the next file.
-- Blocks, Scopes and Built cite each law where they meet the record.
-- Assumes nothing.
use mathlib.Core.Path.{◌≡◌, refl, ap, ◌∙◌}
use mathlib.Core.Bool.{Bool, true, false, not, ◌||◌}
use mathlib.Core.List.{List, [], ◌∷◌, ◌++◌}
use Prim.Native.Nat.{ℕ, suc}
use native.Mathlib.Omega.{arith}
use lib.Dec.{eqb}
use borrow.Author.Tests.{eqb-true}
use Rattle.model.specs.Lists.{is_in, any_in, twice}
use Rattle.model.specs.Bytes.{u32, put32}
use Rattle.model.specs.Tree.{Rec, rec, Tree, Trees, node, nil, cons, many, top}
use Rattle.model.specs.Shape.{fits, agrees, shapes, shape_of, both_ways, one_way, a_id, a_opt, ◌then◌, whole}
use Rattle.model.specs.Faults.{faults}
use Rattle.model.specs.Binding.{Kind, kind, val_use, val_def, block, lambda, field, other, id_of, inside, after, arg_ids}
use Rattle.model.specs.Binding.{defined, args_of}
use Rattle.model.specs.Unfold.{lam, made, Meaning, meaning, bind_from, unfold_kind, unfold_item, unfold_at, unfold_all}
use Rattle.model.specs.Unfold.{unfold_last}
use Rattle.model.specs.Materialize.{val_use_of, val_def_of}
use Rattle.laws.proofs.Apart.{false_true}
use Rattle.laws.specs.Members.{In}
use Rattle.laws.proofs.Members.{clash, in_is_in, not_in_is_in, neither_or}
use Rattle.laws.specs.ArgLists.{syms_in, opts_in}
use Rattle.theory.specs.Checked.{FitsWith, Checked, CheckedIn}
use Rattle.theory.proofs.Acceptance.Checked.{checked-head, checked_kids}
use Rattle.theory.proofs.Acceptance.Checked.{plain_join, nil-checked}
use Rattle.theory.specs.Good.{is_plain}

-- a number that was written is read back
pub read_id : (n : ℕ) (rest : List ℕ) → u32 (put32 n ++ rest) ≡ n
unfolding u32 put32
read_id n rest = omega arith

-- ---- a use

pub use_unfold : (i : ℕ) (ms : Meaning) (d : ℕ) → unfold_at (val_use_of i) ms d ≡ meaning ms i d
unfolding val_use_of unfold_at unfold_kind kind id_of put32
use_unfold i ms d = ap (λ (z : ℕ). meaning ms z d) (read_id i [])

use_id : (i : ℕ) → id_of (top (val_use_of i)) ≡ i
unfolding val_use_of id_of put32
use_id i = read_id i []

pub use_checked : (i : ℕ) (ids : List ℕ) → In i ids → Checked (val_use_of i) false ids
unfolding val_use_of fits shapes shape_of both_ways one_way agrees whole a_id is_in faults kind inside after
    any_in twice many put32
use_checked i ids h = record {
  fine = (refl, refl, tt);
  placed = (refl, tt);
  fresh = (refl, tt);
  known = (in_force, tt);
}
  where
    in_force : not (is_in (id_of (top (val_use_of i))) ids) ≡ false
    in_force = ap not (ap (λ (z : ℕ). is_in z ids) (use_id i) ∙ in_is_in i ids h)

-- ---- a definition

pub def_id : (i : ℕ) (v : Tree) → id_of (top (val_def_of i v)) ≡ i
unfolding val_def_of id_of
def_id i v = read_id i (0 ∷ [])

pub def_after : (i : ℕ) (v : Tree) → after (val_def_of i v) ≡ i ∷ []
unfolding after val_def_of
def_after i v = ap (λ (z : ℕ). z ∷ []) (def_id i v)

pub def_unfold : (i : ℕ) (v : Tree) (ms : Meaning) (d : ℕ) → unfold_at (val_def_of i v) ms d ≡ unfold_at v ms d
unfolding val_def_of unfold_at unfold_kind unfold_item kind
def_unfold i v ms d = refl

pub def_checked : (i : ℕ) (v : Tree) (ids : List ℕ) → (In i ids → ⊥) → Checked v false ids →
    Checked (val_def_of i v) true ids
unfolding val_def_of fits shapes shape_of both_ways one_way agrees whole ◌then◌ a_id a_opt is_in faults kind
    inside after any_in twice many put32
def_checked i v ids n c = record {
  fine = (refl, refl, (c.fine, tt));
  placed = (refl, kids.placed);
  fresh = (neither_or _ false (neither_or _ false new refl) refl, kids.fresh);
  known = (refl, kids.known);
}
  where
    kids : CheckedIn (cons v nil) false ids
    kids = plain_join v nil ids c (nil-checked false ids)

    new : is_in (id_of (top (val_def_of i v))) ids ≡ false
    new = ap (λ (z : ℕ). is_in z ids) (def_id i v) ∙ not_in_is_in i ids n

-- a checked definition's value is checked
pub def_value : (i : ℕ) (v : Tree) (ids : List ℕ) → Checked (val_def_of i v) true ids → Checked v false ids
unfolding val_def_of kind inside
def_value i v ids c = checked-head v nil false ids (checked_kids (top (val_def_of i v)) (cons v nil) true ids c)

-- ---- a record that is no use, definition, block or lambda

pub plain-not : (s c : ℕ) → is_plain (kind c) ≡ false → is_plain (kind s) ≡ true → eqb s c ≡ false
plain-not s c f p = go (eqb s c) refl
  where
    go : (b : Bool) → eqb s c ≡ b → b ≡ false
    go true e = absurd (clash (is_plain (kind s)) p (ap (λ (z : ℕ). is_plain (kind z)) (eqb-true s c e) ∙ f))
    go false e = refl

-- it is a field, or of no kind of its own
pub plain_cases : (P : Kind → Type 0) → P field → P other → (k : Kind) → is_plain k ≡ true → P k
plain_cases P f o val_use e = false_true e
plain_cases P f o val_def e = false_true e
plain_cases P f o block e = false_true e
plain_cases P f o lambda e = false_true e
plain_cases P f o field e = f
plain_cases P f o other e = o

plain-inside : (r : Rec) → is_plain (kind r.shape) ≡ true → inside r ≡ []
unfolding inside
plain-inside r p =
    plain_cases (λ k. ◌≡◌ {A = List ℕ}
    (elim k [ val_use ↦ [] | val_def ↦ [] | block ↦ [] | lambda ↦ arg_ids r | field ↦ [] | other ↦ [] ]) [])
    refl refl (kind r.shape) p

plain-after : (r : Rec) (ts : Trees) → is_plain (kind r.shape) ≡ true → after (node r ts) ≡ []
unfolding after kind
plain-after r ts p = rw (plain-not r.shape 10 refl p, defined)

pub plain_unfold : (r : Rec) (ts : Trees) → is_plain (kind r.shape) ≡ true → (ms : Meaning) (d : ℕ) →
    unfold_at (node r ts) ms d ≡ made r (unfold_all ts ms d)
unfolding unfold_at unfold_kind
plain_unfold r ts p ms d =
    plain_cases (λ k.
    unfold_kind k r (λ m e. unfold_all ts m e) (λ m e. unfold_last ts m e) ms d ≡ made r (unfold_all ts ms d))
    refl refl (kind r.shape) p

pub plain-checked : (r : Rec) (ts : Trees) (ids : List ℕ) → is_plain (kind r.shape) ≡ true → FitsWith r (many ts) →
    agrees r ≡ true → CheckedIn ts false ids → Checked (node r ts) false ids
unfolding faults kind after any_in twice
plain-checked r ts ids p f a c = record {
  fine = (f, a, c.fine);
  placed = (rw not_def, rw not_block c.placed);
  fresh = (ap (λ (z : List ℕ). any_in z ids || twice z) own, rw none_inside c.fresh);
  known = (rw not_use, rw none_inside c.known);
}
  where
    not_use : eqb r.shape 7 ≡ false
    not_use = plain-not r.shape 7 refl p

    not_def : eqb r.shape 10 ≡ false
    not_def = plain-not r.shape 10 refl p

    not_block : eqb r.shape 11 ≡ false
    not_block = plain-not r.shape 11 refl p

    none_inside : inside r ≡ []
    none_inside = plain-inside r p

    own : after (node r ts) ++ inside r ≡ []
    own = rw (plain-after r ts p, none_inside)

-- ---- a lambda

pub lam_unfold : (n : ℕ) (l : List ℕ) (ts : Trees) (ms : Meaning) (d : ℕ) →
    unfold_at (node (rec 12 0xD9 n l) ts) ms d ≡
    lam 12 0xD9 n (opts_in (args_of n l)) (unfold_all ts (bind_from (suc d) 0 (args_of n l) ms) (suc d))
unfolding unfold_at unfold_kind kind
lam_unfold n l ts ms d = refl

pub lam_checked : (n : ℕ) (l : List ℕ) (ts : Trees) (ids : List ℕ) → FitsWith (rec 12 0xD9 n l) (many ts) →
    agrees (rec 12 0xD9 n l) ≡ true → (any_in (syms_in (args_of n l)) ids || twice (syms_in (args_of n l))) ≡ false →
    CheckedIn ts false (syms_in (args_of n l) ++ ids) → Checked (node (rec 12 0xD9 n l) ts) false ids
unfolding faults kind after inside arg_ids
lam_checked n l ts ids f a o c = record {
  fine = (f, a, c.fine);
  placed = (refl, c.placed);
  fresh = (o, c.fresh);
  known = (refl, c.known);
}
