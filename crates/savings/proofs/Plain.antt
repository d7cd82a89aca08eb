-- Where no id is bound while it is in force (check 9), the uses of an id are its use records, whatever is bound where:
-- code may count so.
-- In order: rows joined; no more uses than rows; trees that pass check 9; a definition's uses.
-- Assumes nothing.
use mathlib.Core.Path.{◌≡◌, refl, ap}
use mathlib.Core.Logic.{inl}
use mathlib.Core.Bool.{Bool, true, false}
use mathlib.Core.List.{List, [], ◌∷◌, ◌++◌}
use Prim.Native.Nat.{ℕ, ◌+◌, ◌≤◌}
use native.Mathlib.Omega.{arith}
use lib.ListN.{length}
use Rattle.model.specs.Lists.{is_in, any_in, twice}
use Rattle.model.specs.Tree.{Rec, Row, Tree, Trees, node, nil, cons, top, rows, rows_of}
use Rattle.model.specs.Faults.{faults}
use Rattle.model.specs.Binding.{is_def, id_of, inside, defined, after, own, rebound, rebound_in, rebound_at, ids_check}
use Rattle.model.specs.Savings.{own_use, uses_of, uses_in}
use Rattle.laws.specs.Clear.{Clear}
use Rattle.laws.proofs.Apart.{false_true}
use Rattle.laws.specs.Members.{In}
use Rattle.laws.proofs.Clear.{clear_head, clear_tail}
use Rattle.laws.proofs.Members.{or_neither, any_in_false, not_in_is_in, in_left, in_right}
use Rattle.savings.specs.Plain.{plain_uses}

plain_join : (i : ℕ) (rs qs : List Row) → plain_uses i (rs ++ qs) ≡ plain_uses i rs + plain_uses i qs
unfolding plain_uses
plain_join i [] qs = omega arith
plain_join i (r ∷ rs) qs = omega (arith, plain_join i rs qs)

pub plain_few : (i : ℕ) (rs : List Row) → plain_uses i rs ≤ length rs
unfolding plain_uses own_use
plain_few i [] = omega arith
plain_few i (r ∷ rs) = grind (arith, plain_few i rs)

-- ---- trees that pass check 9

-- a record binds no id in force
not_bound : (r : Rec) (i : ℕ) (ids : List ℕ) → In i ids → rebound_at ids r ≡ false →
    (is_in i (defined r) ≡ false) × (is_in i (inside r) ≡ false)
not_bound r i ids h e =
    let a = or_neither (any_in (own r) ids) (twice (own r)) e in
    let n : In i (own r) → ⊥ = λ m. any_in_false i (own r) ids a.0 m h in (
      not_in_is_in i (defined r) λ m. n (in_left i (defined r) (inside r) m),
      not_in_is_in i (inside r) λ m. n (in_right i (defined r) (inside r) m),
    )

not_after : (t : Tree) (i : ℕ) (ids : List ℕ) → In i ids → Clear (rebound t ids) → is_in i (after t) ≡ false
unfolding after faults
not_after (node r us) i ids h c = (not_bound r i ids h c.0).0

mutual
  unfolding rows uses_of plain_uses faults

  tree_plain : (t : Tree) (i : ℕ) (ids : List ℕ) → In i ids → Clear (rebound t ids) → uses_of i t ≡ plain_uses i (rows t)
  tree_plain (node r ts) i ids h c =
      rw (not_bound r i ids h c.0).1
      (ap (λ (z : ℕ). own_use i r + z) (uses_plain ts i (inside r ++ ids) (in_right i (inside r) ids h) c.1))

  pub uses_plain : (ts : Trees) (i : ℕ) (ids : List ℕ) → In i ids → Clear (rebound_in ts ids) →
      uses_in i ts ≡ plain_uses i (rows_of ts)
  uses_plain nil i ids h c = refl
  uses_plain (cons t ts) i ids h c =
      let a = clear_head (ids_check rebound_at) t ts ids c in
      let b = clear_tail (ids_check rebound_at) t ts ids c in
      let u = uses_plain ts i (after t ++ ids) (in_right i (after t) ids h) b in
      rw (not_after t i ids h a) (omega (arith, plain_join i (rows t) (rows_of ts), tree_plain t i ids h a, u))

-- ---- a definition's uses, in its later siblings

pub def_uses : (t : Tree) (ts : Trees) (ids : List ℕ) → is_def t ≡ true → Clear (rebound_in (cons t ts) ids) →
    uses_in (id_of (top t)) ts ≡ plain_uses (id_of (top t)) (rows_of ts)
unfolding after
def_uses t ts ids d c =
    uses_plain ts (id_of (top t)) (after t ++ ids) (here (is_def t) d) (clear_tail (ids_check rebound_at) t ts ids c)
  where
    here : (b : Bool) → b ≡ true → In (id_of (top t)) (elim b as (λ z. List ℕ) [ true ↦ id_of (top t) ∷ [] | false ↦ [] ] ++ ids)
    here true e = inl refl
    here false e = false_true e
