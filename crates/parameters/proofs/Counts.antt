-- Parameters and definitions counted. In order: one number of parameters more; records that are counted one by one.
-- Assumes nothing.
use Prim.Native.Nat.{ℕ, suc, ◌+◌, ◌<◌}
use mathlib.Core.Path.{◌≡◌, refl, sym, ap}
use mathlib.Core.Bool.{Bool, true, false}
use Rattle.std.specs.Prelude.{Option, None, Some, cond}
use Rattle.std.specs.Option.{is_some}
use Rattle.std.specs.List.{filter, range_with_len}
use mathlib.Core.List.{List, [], ◌∷◌}
use native.Mathlib.Omega.{arith}
use native.Mathlib.Numerals.{add-one}
use lib.Dec.{eqb}
use lib.ListN.{length, get_or}
use Rattle.model.specs.Tree.{Row}
use Rattle.model.specs.Opcodes.{ValDef}
use Rattle.model.specs.Forest.{record_count, rows_in}
use Rattle.model.specs.Template.{definitions}
use Rattle.model.specs.TemplateLine.{stands_at, parameters_below, parameters}
use Rattle.laws.proofs.Header.{row_count}
use Rattle.record.specs.Record.{no_row, row_at}

-- ---- parameters

pub below_none : (rs : List Row) → parameters_below 0 rs ≡ 0
unfolding parameters_below
below_none rs = refl

pub below_one : (rs : List Row) (a : ℕ) →
    parameters_below (a + 1) rs ≡ parameters_below a rs + cond (is_some (stands_at a rs)) 1 0
unfolding parameters_below
below_one rs a = rw (add-one a) (go (stands_at a rs))
  where
    go : (o : Option ℕ) →
        ◌≡◌ {A = ℕ} (elim o [ Some p ↦ suc (parameters_below a rs) | None ↦ parameters_below a rs ])
        (parameters_below a rs + cond (is_some o) 1 0)
    go None = omega arith
    go (Some p) = omega arith

-- 255 is the last
pub below_all : (rs : List Row) (a : ℕ) → a ≡ 255 →
    parameters_below a rs + cond (is_some (stands_at a rs)) 1 0 ≡ parameters rs
unfolding parameters
below_all rs a e = let f : 256 ≡ a + 1 = omega arith in rw f (sym (below_one rs a))

pub ruleset counting = (below_none, below_one, below_all)

-- ---- definitions

counted_at : (rs : List Row) (i : ℕ) (test : ℕ → Bool) →
    ((k : ℕ) → k < length rs → test (i + k) ≡ eqb (get_or rs k no_row).rec.shape ValDef) →
    length (filter test (range_with_len i (length rs))) ≡ definitions rs
unfolding definitions
counted_at [] i test h = refl
counted_at (r ∷ rs) i test h =
    let e : i + 0 ≡ i = omega arith in
    let own : test i ≡ eqb r.rec.shape ValDef = rw e at (h 0 (omega arith)) in
    let rest =
    counted_at rs (i + 1) test
    (λ k l. let f : i + 1 + k ≡ i + suc k = omega arith in rw f (h (suc k) (omega arith))) in
    rw own (go (eqb r.rec.shape ValDef) _ rest)
  where
    go : (b : Bool) (later : List ℕ) → length later ≡ definitions rs →
        ◌≡◌ {A = ℕ} (length (cond b (i ∷ later) later)) (elim b [ true ↦ suc (definitions rs) | false ↦ definitions rs ])
    go true later e = ap suc e
    go false later e = e

-- the records of a tree that are definitions, by number
pub counted : (bs : List ℕ) → length (filter (λ i. eqb (row_at bs i).rec.shape ValDef) (range_with_len 0 (record_count bs))) ≡ definitions (rows_in bs)
unfolding row_at
counted bs =
    rw (← row_count bs)
    (counted_at (rows_in bs) 0 (λ i. eqb (get_or (rows_in bs) i no_row).rec.shape ValDef)
    (λ k l. let e : 0 + k ≡ k = omega arith in rw e))
