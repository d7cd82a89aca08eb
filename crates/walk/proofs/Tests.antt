-- The tests of one record. In order: what a record binds; a clash; checks 9 and 10.
-- Assumes nothing.
use Prim.Native.Nat.{ℕ, zero, suc, ◌+◌, ◌-◌, ◌<◌, ◌≤◌}
use mathlib.Core.Path.{◌≡◌, refl, sym, ap, ◌∙◌}
use mathlib.Core.Bool.{Bool, true, false, not, ◌||◌}
use mathlib.Core.List.{List, ◌∷◌, ◌++◌, []}
use native.Mathlib.Omega.{arith}
use borrow.Author.Tests.{eq-eqb, ne_eqb}
use lib.Dec.{eqb}
use lib.ListN.{length, get_or, set, length-append}
use Rattle.model.specs.Lists.{is_in, any_in, twice}
use Rattle.model.specs.Bytes.{u32}
use Rattle.model.specs.Tree.{Rec, Tree, top}
use Rattle.model.specs.Binding.{Kind, val_use, val_def, block, lambda, field, other, kind, id_of, arg_ids, inside}
use Rattle.model.specs.Binding.{defined, after, rebound_at, unbound_at}
use Rattle.laws.proofs.Apart.{true_false}
use Rattle.laws.proofs.Members.{is_in-append}
use Rattle.laws.specs.Stack.{stack_of}
use Rattle.laws.proofs.Stack.{stack_length}
use Rattle.regions.specs.Regions.{IDS, end}
use Rattle.walk.specs.Words.{ids_of, arg_ids_at, clash, Bound}
use Rattle.walk.proofs.Words.{bound_none, bound_one}
use Rattle.walk.proofs.Bridge.{func_few, func_literal, def_literal, use_literal}

-- ---- what a record binds

pub id_is : (x : ℕ) (lit : List ℕ) (r : Rec) → x ≡ u32 lit → lit ≡ r.lit → x ≡ id_of r
unfolding id_of
id_is x lit r e f = e ∙ ap u32 f

defined_def : (r : Rec) → r.shape ≡ 10 → defined r ≡ id_of r ∷ []
defined_def r e = rw (defined, eq-eqb r.shape 10 e)

defined_other : (r : Rec) → (r.shape ≡ 10 → ⊥) → defined r ≡ []
defined_other r h = rw (defined, ne_eqb r.shape 10 h)

-- a definition's id was put on top
pub bound_def : (ws : List ℕ) (at id : ℕ) (t : Tree) → (top t).shape ≡ 10 → id ≡ id_of (top t) → at < IDS.size →
    end IDS ≤ length ws → Bound ws at (after t) (set ws at id) (at + 1)
unfolding after
bound_def ws at id t e f = bound_one ws at id (after t) (rw f (defined_def (top t) e))

pub after_other : (t : Tree) → ((top t).shape ≡ 10 → ⊥) → after t ≡ []
unfolding after
after_other t = defined_other (top t)

inside_lambda : (r : Rec) → r.shape ≡ 12 → inside r ≡ arg_ids r
unfolding inside kind
inside_lambda r e = let k : kind r.shape ≡ lambda = ap kind e in rw (inside, k)

pub inside_other : (r : Rec) → (r.shape ≡ 12 → ⊥) → inside r ≡ []
unfolding inside kind
inside_other r h =
    go (eqb r.shape 7) (eqb r.shape 10) (eqb r.shape 11) (eqb r.shape 12) (eqb r.shape 17)
    (ne_eqb r.shape 12 h)
  where
    kind_by : Bool → Bool → Bool → Bool → Bool → Kind
    kind_by a b c d f =
        elim a [
          | true ↦ val_use
          | false ↦ elim b [
            | true ↦ val_def
            | false ↦ elim c [
              | true ↦ block
              | false ↦ elim d [ true ↦ lambda | false ↦ elim f [ true ↦ field | false ↦ other ] ]
            ]
          ]
        ]

    ids_by : Kind → List ℕ
    ids_by k = elim k [ val_use ↦ [] | val_def ↦ [] | block ↦ [] | lambda ↦ arg_ids r | field ↦ [] | other ↦ [] ]

    go : (a b c d f : Bool) → d ≡ false → ids_by (kind_by a b c d f) ≡ []
    go true b c d f e = refl
    go false true c d f e = refl
    go false false true d f e = refl
    go false false false true f e = true_false e
    go false false false false true e = refl
    go false false false false false e = refl

pub lambda_ids : (n : ℕ) (lit : List ℕ) (r : Rec) → n ≡ r.aux → lit ≡ r.lit → r.shape ≡ 12 →
    arg_ids_at n lit ≡ inside r
unfolding arg_ids
lambda_ids n lit r e f g = rw (e, f) (sym (inside_lambda r g))

-- ---- a clash

clash_own : (ws : List ℕ) (top m : ℕ) (more : List ℕ) → ids_of ws (top + m) ≡ more ++ ids_of ws top →
    clash ws top m ≡ (any_in more (ids_of ws top) || twice more)
unfolding ids_of stack_of clash any_in twice
clash_own ws top zero [] e = refl
clash_own ws top zero (x ∷ more) e =
    let n = length-append (x ∷ more) (ids_of ws top) in
    absurd (omega (arith, ap length e, n, stack_length (λ j. get_or ws j 0) (top + 0), stack_length (λ j. get_or ws j 0) top))
clash_own ws top (suc m) [] e = absurd (omega (arith, ap length e, stack_length (λ j. get_or ws j 0) (top + suc m), stack_length (λ j. get_or ws j 0) top))
clash_own ws top (suc m) (x ∷ more) e =
    let z : suc (top + m) ≡ top + suc m = omega arith in
    let f : get_or ws (top + m) 0 ∷ ids_of ws (top + m) ≡ x ∷ (more ++ ids_of ws top) = ap (ids_of ws) z ∙ e in
    let g : get_or ws (top + m) 0 ≡ x = cc in
    let h : ids_of ws (top + m) ≡ more ++ ids_of ws top = cc in
    rw (clash_own ws top m more h, g, h, is_in-append x more (ids_of ws top))
    (swap (is_in x more) (is_in x (ids_of ws top)) _ _)
  where
    swap : (p q r s : Bool) → ((p || q) || (r || s)) ≡ ((q || r) || (p || s))
    swap true true r s = refl
    swap true false true s = refl
    swap true false false s = refl
    swap false true r s = refl
    swap false false r s = refl

-- ---- checks 9 and 10

-- 9; s is the record's shape, and x its id
pub rebound_def : (r : Rec) (ids : List ℕ) {s x : ℕ} {b : Bool} → s ≡ r.shape → s ≡ 10 → x ≡ id_of r → b ≡ is_in x ids →
    b ≡ rebound_at ids r
unfolding any_in twice is_in
rebound_def r ids e f g h =
    h ∙ rw (defined_def r (sym e ∙ f), inside_other r (λ z. omega arith), g) (go (is_in (id_of r) ids))
  where
    go : (b : Bool) → b ≡ ((b || false) || (false || false))
    go true = refl
    go false = refl

pub rebound_other : (r : Rec) (ws : List ℕ) (top end : ℕ) → (r.shape ≡ 10 → ⊥) → top ≤ end →
    ids_of ws end ≡ inside r ++ ids_of ws top → clash ws top (end - top) ≡ rebound_at (ids_of ws top) r
rebound_other r ws top end h l e =
    let z : top + (end - top) ≡ end = omega arith in
    rw (defined_other r h) (clash_own ws top (end - top) (inside r) (rw z e))

-- 10
module _ (r : Rec) (ids : List ℕ) {s : ℕ} (e : s ≡ r.shape) where
  pub unbound_use : {x : ℕ} {b : Bool} → s ≡ 7 → x ≡ id_of r → b ≡ is_in x ids → not b ≡ unbound_at ids r
  unbound_use f g h = rw (h, g, eq-eqb r.shape 7 (sym e ∙ f))

  pub unbound_other : (s ≡ 7 → ⊥) → false ≡ unbound_at ids r
  unbound_other h = rw (ne_eqb r.shape 7 (λ f. h (e ∙ f)))

-- what a record of a shape binds and tests, with what its literal holds
pub ruleset records = (
  func_few,
  func_literal,
  def_literal,
  use_literal,
  bound_none,
  bound_def,
  after_other,
  inside_other,
  lambda_ids,
  rebound_def,
  rebound_other,
  unbound_use,
  unbound_other,
)
