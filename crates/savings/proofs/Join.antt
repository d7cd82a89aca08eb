-- Savings by a recursion over records: of a definition, if a record is one, of its children and of its later siblings.
-- In order: `savings_join`; no more savings than records.
-- Assumes nothing.
use mathlib.Core.Path.{◌≡◌, ap, ◌∙◌}
use mathlib.Core.List.{List, ◌++◌, map, map-append}
use Prim.Native.Nat.{ℕ, ◌≤◌}
use native.Mathlib.Omega.{arith}
use lib.IntN.{ℤ}
use lib.ListN.{length, length-append}
use Rattle.model.specs.Tree.{Rec, Tree, Trees, node, nil, cons, sizes}
use Rattle.model.specs.Savings.{Def, def_here, defs_of, defs_in, saving, savings}

-- of a definition
abbrev pub id_saving : Def → ℕ × ℤ
id_saving d = (d.id, saving d.uses d.size)

pub savings_join : (r : Rec) (us ts : Trees) →
    savings (cons (node r us) ts) ≡ map id_saving (def_here (node r us) ts) ++ savings us ++ savings ts
unfolding savings defs_of
savings_join r us ts =
    let ds = def_here (node r us) ts in
    map-append id_saving (ds ++ defs_in us) (defs_in ts) ∙
    ap (λ (z : List (ℕ × ℤ)). z ++ savings ts) (map-append id_saving ds (defs_in us))

here_few : (t : Tree) (ts : Trees) → length (map id_saving (def_here t ts)) ≤ 1
unfolding def_here
here_few t ts = grind arith

pub defs_few : (ts : Trees) → length (savings ts) ≤ sizes ts
unfolding sizes savings defs_of
defs_few nil = omega arith
defs_few (cons (node r us) ts) =
    let h = map id_saving (def_here (node r us) ts) in
    omega (
      arith,
      length-append (h ++ savings us) (savings ts),
      length-append h (savings us),
      ap length (savings_join r us ts),
      here_few (node r us) ts,
      defs_few us,
      defs_few ts,
    )
