-- "Their sum is proved equal to a count over records": `savings_sum`.
-- In order: sums of savings; where nothing is in force; a record with its later siblings; the law.
-- Assumes nothing.
use mathlib.Core.Path.{◌≡◌, refl, ap}
use mathlib.Core.Bool.{Bool, true, false}
use mathlib.Core.List.{List, [], ◌∷◌, ◌++◌, map}
use Prim.Native.Nat.{ℕ}
use native.Mathlib.Omega.{arith}
use lib.Dec.{eqb}
use lib.IntN.{ℤ, ◌+ℤ◌}
use borrow.Author.Tests.{eqb-true}
use Rattle.std.specs.Prelude.{None, Some}
use Rattle.std.proofs.lemmas.Int.{ints}
use Rattle.model.specs.Opcodes.{ValUse, ValDef}
use Rattle.model.specs.Tree.{Tree, Trees, node, nil, cons, top}
use Rattle.model.specs.Binding.{is_def, id_of, inside}
use Rattle.model.specs.Savings.{value_size, uses_in, def_here, defs_of, saving, savings, sum_ℤ, def_of, nothing, worth, Force}
use Rattle.model.specs.Savings.{bind, hide, use_share, share, later, shares_of, shares_in, counted, SumIsCount}
use Rattle.savings.proofs.Join.{id_saving, savings_join}
use Rattle.savings.proofs.Charge.{worths_join, counted_in, uses_charged}

-- ---- sums of savings

abbrev saved : List (ℕ × ℤ) → ℤ
saved ss = sum_ℤ (map (λ s. s.1) ss)

saved_join : (ss rs : List (ℕ × ℤ)) → saved (ss ++ rs) ≡ saved ss +ℤ saved rs
unfolding sum_ℤ
saved_join [] rs = omega (arith, ints)
saved_join (s ∷ ss) rs = omega (arith, ints, saved_join ss rs)

-- ---- where nothing is in force

abbrev free : Force
free i = None

hide_free : (ids : List ℕ) (j : ℕ) → hide ids free j ≡ None
unfolding hide
hide_free ids j = grind arith

bind_free : (i j : ℕ) → bind i None free j ≡ None
unfolding bind
bind_free i j = grind arith

-- ---- a record: what it counts, and what it adds to its later siblings' count if it is a definition

record_counted : (t : Tree) (ts : Trees) →
    worth (share t free) +ℤ counted_in ts (later t free) ≡ saved (map id_saving (def_here t ts)) +ℤ counted_in ts free
unfolding share use_share worth later def_here saving sum_ℤ
record_counted t ts = go (eqb (top t).shape ValUse) refl (is_def t) refl
  where
    i : ℕ
    i = id_of (top t)

    v : ℕ
    v = value_size t

    go : (a : Bool) → eqb (top t).shape ValUse ≡ a → (b : Bool) → is_def t ≡ b →
        worth (elim a [ true ↦ nothing | false ↦ elim b [ true ↦ def_of v | false ↦ nothing ] ]) +ℤ
        counted_in ts (elim b [ true ↦ bind i (Some v) free | false ↦ free ]) ≡
        saved (map id_saving (elim b [ true ↦ record { id = i; uses = uses_in i ts; size = v } ∷ [] | false ↦ [] ])) +ℤ
        counted_in ts free
    go true e true f = absurd (omega (arith, eqb-true (top t).shape ValUse e, eqb-true (top t).shape ValDef f))
    go false e true f = omega (arith, ints, uses_charged ts i v free, ap (counted_in ts) (λ k j. bind_free i j k))
    go a e false f = grind (arith, ints)

-- ---- the law

pub savings_sum : (ts : Trees) → SumIsCount ts
unfolding counted savings defs_of sum_ℤ shares_of
savings_sum nil = refl
savings_sum (cons (node r us) ts) =
    let t = node r us in
    let ds = map id_saving (def_here t ts) in
    omega (
      arith,
      ints,
      ap saved (savings_join r us ts),
      saved_join (ds ++ savings us) (savings ts),
      saved_join ds (savings us),
      worths_join (shares_in us (hide (inside r) free)) (shares_in ts (later t free)),
      ap (counted_in us) (λ k j. hide_free (inside r) j k),
      record_counted t ts,
      savings_sum us,
      savings_sum ts,
    )
