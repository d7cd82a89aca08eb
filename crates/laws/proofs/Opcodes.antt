-- Tables of opcodes with their shapes, such as that of a forest's records, by which check 16 goes: of two tables in a row the
-- first that has an opcode counts (`shape_joined`).
-- Assumes nothing.
use mathlib.Core.Path.{◌≡◌, refl}
use mathlib.Core.Bool.{Bool, true, false}
use Rattle.std.specs.Prelude.{Option, None, Some}
use mathlib.Core.List.{[], ◌∷◌, ◌++◌}
use Prim.Native.Nat.{ℕ}
use lib.Dec.{eqb}
use Rattle.model.specs.Shape.{Pairs, shape_of}

abbrev pub or_else : Option ℕ → Option ℕ → Option ℕ
or_else a b = elim a as (λ z. Option ℕ) [ None ↦ b | Some s ↦ Some s ]

pub shape_joined : (ps qs : Pairs) (o : ℕ) → shape_of (ps ++ qs) o ≡ or_else (shape_of ps o) (shape_of qs o)
unfolding shape_of
shape_joined [] qs o = refl
shape_joined (p ∷ ps) qs o = go (eqb p.0 o) (shape_joined ps qs o)
  where
    go : (b : Bool) → shape_of (ps ++ qs) o ≡ or_else (shape_of ps o) (shape_of qs o) →
        ◌≡◌ {A = Option ℕ} (elim b [ true ↦ Some p.1 | false ↦ shape_of (ps ++ qs) o ])
        (or_else (elim b as (λ z. Option ℕ) [ true ↦ Some p.1 | false ↦ shape_of ps o ]) (shape_of qs o))
    go true e = refl
    go false e = e
