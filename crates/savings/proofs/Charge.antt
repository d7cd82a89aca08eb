-- What a definition adds to the count over records by being in force: for each of its uses, its value's size less what a
-- use costs.
-- In order: sums of shares; scopes and what is in force; `uses_charged`.
-- Assumes nothing.
use mathlib.Core.Path.{◌≡◌, ap}
use mathlib.Core.Bool.{Bool, true, false}
use mathlib.Core.List.{List, [], ◌∷◌, ◌++◌, map}
use Prim.Native.Nat.{ℕ, ◌+◌, ◌*◌}
use native.Mathlib.Nat.{add-mul}
use native.Mathlib.Omega.{arith}
use lib.IntN.{ℤ, pos, ◌+ℤ◌, ◌-ℤ◌}
use Rattle.std.specs.Prelude.{Option, None, Some}
use Rattle.std.proofs.lemmas.Int.{ints}
use Rattle.model.specs.Lists.{is_in}
use Rattle.model.specs.Tree.{Rec, Tree, Trees, node, nil, cons}
use Rattle.model.specs.Binding.{inside, after}
use Rattle.model.specs.Savings.{value_size, use_cost, own_use, uses_of, uses_in, sum_ℤ, Share, worth, Force}
use Rattle.model.specs.Savings.{bind, hide, use_share, share, later, shares_of, shares_in}

-- ---- sums of shares

abbrev pub worths : List Share → ℤ
worths ss = sum_ℤ (map worth ss)

pub worths_join : (ss rs : List Share) → worths (ss ++ rs) ≡ worths ss +ℤ worths rs
unfolding sum_ℤ
worths_join [] rs = omega (arith, ints)
worths_join (s ∷ ss) rs = omega (arith, ints, worths_join ss rs)

abbrev pub counted_in : Trees → Force → ℤ
counted_in ts w = worths (shares_in ts w)

-- what n uses of a value of size v add
abbrev pub charge : ℕ → ℕ → ℤ
charge n v = pos (n * v) -ℤ pos (use_cost * n)

charge_add : (n m v : ℕ) → charge (n + m) v ≡ charge n v +ℤ charge m v
charge_add n m v = omega (arith, ints, add-mul n m v)

-- ---- scopes and what is in force

-- in the scope that g opens, id i is what it was bound to outside; or, if c, it is p
abbrev Passes : (Force → Force) → ℕ → Bool → Option ℕ → Type 0
Passes g i c p =
    (o : Option ℕ) (w : Force) (j : ℕ) → g (bind i o w) j ≡ bind i (elim c [ true ↦ p | false ↦ o ]) (g w) j

hide_passes : (ids : List ℕ) (i : ℕ) → Passes (hide ids) i (is_in i ids) None
unfolding bind hide
hide_passes ids i o w j = grind arith

later_passes : (t : Tree) (i : ℕ) → Passes (later t) i (is_in i (after t)) (Some (value_size t))
unfolding later after is_in bind
later_passes t i o w j = grind arith

-- ---- what uses add

own_charged : (r : Rec) (ts : Trees) (i v : ℕ) (w : Force) →
    worth (share (node r ts) (bind i (Some v) w)) ≡ worth (share (node r ts) (bind i None w)) +ℤ charge (own_use i r) v
unfolding share worth bind own_use use_share
own_charged r ts i v w = grind (arith, ints)

-- of trees: their count with id i bound to a value of size v, by that with i bound to none
abbrev pub Charged : Trees → ℕ → ℕ → Force → Type 0
Charged ts i v w = counted_in ts (bind i (Some v) w) ≡ counted_in ts (bind i None w) +ℤ charge (uses_in i ts) v

-- the same in the scope that g opens
scope_charged : (ts : Trees) (g : Force → Force) (i v : ℕ) (c : Bool) (p : Option ℕ) (w : Force) → Passes g i c p →
    Charged ts i v (g w) →
    counted_in ts (g (bind i (Some v) w)) ≡
    counted_in ts (g (bind i None w)) +ℤ charge (elim c [ true ↦ 0 | false ↦ uses_in i ts ]) v
scope_charged ts g i v true p w h k =
    omega (arith, ints, ap (counted_in ts) (λ l j. h (Some v) w j l), ap (counted_in ts) (λ l j. h None w j l))
scope_charged ts g i v false p w h k =
    omega (arith, ints, k, ap (counted_in ts) (λ l j. h (Some v) w j l), ap (counted_in ts) (λ l j. h None w j l))

mutual
  unfolding shares_of uses_of sum_ℤ

  tree_charged : (t : Tree) (i v : ℕ) (w : Force) →
      worths (shares_of t (bind i (Some v) w)) ≡ worths (shares_of t (bind i None w)) +ℤ charge (uses_of i t) v
  tree_charged (node r ts) i v w =
      let ids = inside r in
      let c = is_in i ids in
      omega (
        arith,
        ints,
        own_charged r ts i v w,
        scope_charged ts (hide ids) i v c None w (hide_passes ids i) (uses_charged ts i v (hide ids w)),
        charge_add (own_use i r) (elim c [ true ↦ 0 | false ↦ uses_in i ts ]) v,
      )

  pub uses_charged : (ts : Trees) (i v : ℕ) (w : Force) → Charged ts i v w
  uses_charged nil i v w = omega (arith, ints)
  uses_charged (cons t ts) i v w =
      let c = is_in i (after t) in
      let u = bind i (Some v) w in
      let n = bind i None w in
      omega (
        arith,
        ints,
        worths_join (shares_of t u) (shares_in ts (later t u)),
        worths_join (shares_of t n) (shares_in ts (later t n)),
        tree_charged t i v w,
        scope_charged ts (later t) i v c (Some (value_size t)) w (later_passes t i) (uses_charged ts i v (later t w)),
        charge_add (uses_of i t) (elim c [ true ↦ 0 | false ↦ uses_in i ts ]) v,
      )
