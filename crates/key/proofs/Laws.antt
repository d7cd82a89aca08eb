-- A symbol that was stored is read back, and every other word is as it was. In order: the parts that words hold;
-- the field of a loaded symbol; reading back; other words; the words that a symbol hangs on.
-- Assumes nothing.
use Prim.Native.Nat.{ℕ, ◌+◌, ◌*◌, ◌/◌, ◌%◌, ◌<◌, ◌≤◌}
use mathlib.Core.Path.{◌≡◌, refl, ap}
use mathlib.Core.Bool.{Bool, true, false}
use mathlib.Core.List.{List}
use lib.Dec.{eqb}
use native.Mathlib.Omega.{arith}
use native.Mathlib.Nat.{add-mul-mod_self_left, mod-eq_of_lt}
use lib.ListN.{length, get_or, length-set}
use Rattle.std.proofs.lemmas.Grind.{common_steps}
use Rattle.std.specs.Prelude.{zero, suc, Option, None, Some}
use Rattle.std.specs.Option.{unwrap_or}
use Rattle.key.specs.declared.Branches.{Branches}
use Rattle.key.specs.declared.Branches.TheVariants.{Zero, One, Two}
use Rattle.key.specs.declared.Parts.{Parts}
use Rattle.key.specs.declared.Symbol.{Symbol}
use Rattle.key.specs.declared.Node.{Node}
use Rattle.key.specs.declared.Node.TheVariants.{Const, Unparsed, Arg, Lambda, Op}
use Rattle.key.specs.Key.{FitsWords, FieldFits, node_field, field_in, branches_in, how_many, first_of, second_of}
use Rattle.key.specs.Key.{parts_of, node_from, head, middle, tail, store_symbol}
use Rattle.key.specs.Key.{choose, parts_in, symbol_of, symbol_at}
use Rattle.laws.specs.Frame.{Agree}

-- ---- the parts that words hold

field_back : (f : Option ℕ) → FieldFits f → field_in (unwrap_or f 0) ≡ f
field_back None h = refl
field_back (Some zero) h = absurd (omega arith)
field_back (Some (suc f)) h = refl

field_small : (f : Option ℕ) → FieldFits f → unwrap_or f 0 < 4
field_small None h = omega arith
field_small (Some f) h = h.1

branches_back : (b : Branches) → branches_in (how_many b) (first_of b) (second_of b) ≡ b
branches_back Zero = refl
branches_back (One a) = refl
branches_back (Two a b) = refl

branches_small : (b : Branches) → how_many b < 4
branches_small Zero = omega arith
branches_small (One a) = omega arith
branches_small (Two a b) = omega arith

node_parts : (n : Node) → FieldFits (node_field n) → node_from (parts_of n) ≡ n
node_parts (Const l) h = refl
node_parts (Unparsed l) h = refl
node_parts (Arg l) h = refl
node_parts (Lambda f) h = refl
node_parts (Op o) h = rw (field_back o.field h, branches_back o.branches)

parts_small : (n : Node) → FieldFits (node_field n) →
    ((parts_of n).tag < 8) × (((parts_of n).field < 4) × ((parts_of n).branches < 4))
parts_small (Const l) h = (omega arith, (omega arith, omega arith))
parts_small (Unparsed l) h = (omega arith, (omega arith, omega arith))
parts_small (Arg l) h = (omega arith, (omega arith, omega arith))
parts_small (Lambda f) h = (omega arith, (omega arith, omega arith))
parts_small (Op o) h = (omega arith, (field_small o.field h, branches_small o.branches))

-- the lowest digit in base m
digit : (m x r k : ℕ) → x ≡ r + m * k → r < m → x % m ≡ r
digit m x r k e lt = rw (e, add-mul-mod_self_left r m k) (mod-eq_of_lt lt)

unpacked : (y : Symbol) → FitsWords y → let p = parts_of y.node in
    symbol_of (head p y.count) (middle p y.kids) (tail p y.scope) (y.levels % 4294967296) (y.levels / 4294967296) ≡ y
unpacked y fits =
    let p = parts_of y.node in
    let small = parts_small y.node fits.field in
    let a1 : head p y.count % 8 ≡ p.tag = omega arith in
    let a : head p y.count / 8 ≡ p.source + 256 * (p.field + 4 * y.count) = omega arith in
    let a2 : head p y.count / 8 % 256 ≡ p.source = digit 256 _ _ _ a fits.from in
    let a' : head p y.count / 2048 ≡ p.field + 4 * y.count = omega arith in
    let a3 : head p y.count / 2048 % 4 ≡ p.field = digit 4 _ _ _ a' small.1.0 in
    let a4 : head p y.count / 8192 ≡ y.count = omega arith in
    let b1 : middle p y.kids % 4096 ≡ y.kids = omega arith in
    let b : middle p y.kids / 4096 ≡ p.second + 4096 * p.branches = omega arith in
    let b2 : middle p y.kids / 4096 % 4096 ≡ p.second = digit 4096 _ _ _ b fits.second in
    let b3 : middle p y.kids / 16777216 ≡ p.branches = omega arith in
    let c1 : tail p y.scope % 4096 ≡ y.scope = omega arith in
    let c2 : tail p y.scope / 4096 ≡ p.first = omega arith in
    let d : y.levels % 4294967296 + 4294967296 * (y.levels / 4294967296) ≡ y.levels = omega arith in
    rw (a1, a2, a3, a4, b1, b2, b3, c1, c2, d)
    (ap (λ (n : Node). record y { node = n }) (node_parts y.node fits.field))

-- ---- the field of a loaded symbol fits

field_in_fits : (n : ℕ) → n < 4 → FieldFits (field_in n)
field_in_fits zero lt = tt
field_in_fits (suc n) lt = (omega arith, lt)

node_from_fits : (p : Parts) → p.field < 4 → FieldFits (node_field (node_from p))
node_from_fits p lt = go (eqb p.tag 0) (eqb p.tag 1) (eqb p.tag 2) (eqb p.tag 3)
  where
    go : (a b c d : Bool) → FieldFits (node_field (choose a (Const (record { source = p.source }))
        (choose b (Unparsed (record { source = p.source }))
        (choose c (Arg (record { source = p.source }))
        (choose d (Lambda (record { source = p.source; first = p.first; body = p.second }))
        (Op (record {
          source = p.source;
          field = field_in p.field;
          branches = branches_in p.branches p.first p.second;
        })))))))
    go true b c d = tt
    go false true c d = tt
    go false false true d = tt
    go false false false true = tt
    go false false false false = field_in_fits p.field lt

pub loaded_field : (ws : List ℕ) (s : ℕ) → FieldFits (node_field (symbol_at ws s).node)
unfolding symbol_at
loaded_field ws s =
    node_from_fits (parts_in (get_or ws (5 * s) 0) (get_or ws (5 * s + 1) 0) (get_or ws (5 * s + 2) 0)) (omega arith)

-- ---- reading back, and other words

module _ (ws : List ℕ) (s : ℕ) (y : Symbol) where
  -- load after store
  pub load_store : FitsWords y → 5 * s + 5 ≤ length ws → symbol_at (store_symbol ws s y) s ≡ y
  unfolding store_symbol symbol_at
  load_store fits h =
      let p = parts_of y.node in
      let ws' = store_symbol ws s y in
      let r0 : get_or ws' (5 * s) 0 ≡ head p y.count = grind (arith, common_steps) in
      let r1 : get_or ws' (5 * s + 1) 0 ≡ middle p y.kids = grind (arith, common_steps) in
      let r2 : get_or ws' (5 * s + 2) 0 ≡ tail p y.scope = grind (arith, common_steps) in
      let r3 : get_or ws' (5 * s + 3) 0 ≡ y.levels % 4294967296 = grind (arith, common_steps) in
      let r4 : get_or ws' (5 * s + 4) 0 ≡ y.levels / 4294967296 = grind (arith, common_steps) in
      rw (r0, r1, r2, r3, r4) (unpacked y fits)

  pub store_length : length (store_symbol ws s y) ≡ length ws
  unfolding store_symbol
  store_length = simp length-set

  pub store_before : (k : ℕ) → k < 5 * s → get_or (store_symbol ws s y) k 0 ≡ get_or ws k 0
  unfolding store_symbol
  store_before k h = grind (arith, common_steps)

  pub store_after : (k : ℕ) → 5 * s + 5 ≤ k → get_or (store_symbol ws s y) k 0 ≡ get_or ws k 0
  unfolding store_symbol
  store_after k h = grind (arith, common_steps)

-- ---- a symbol hangs on its five words only

pub symbol_agree : (ws ws' : List ℕ) (s : ℕ) → Agree ws ws' (5 * s) (5 * s + 5) → symbol_at ws' s ≡ symbol_at ws s
unfolding symbol_at
symbol_agree ws ws' s h =
    rw (
      h (5 * s) (omega arith) (omega arith),
      h (5 * s + 1) (omega arith) (omega arith),
      h (5 * s + 2) (omega arith) (omega arith),
      h (5 * s + 3) (omega arith) (omega arith),
      h (5 * s + 4) (omega arith) (omega arith),
    )
