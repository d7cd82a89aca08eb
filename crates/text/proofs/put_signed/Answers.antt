-- `text::put_signed` meets its contract. In order: the minus; the digits. Assumes nothing.
use mathlib.Core.Path.{◌≡◌, ap, ◌∙◌}
use mathlib.Core.List.{◌++◌}
use native.Mathlib.Omega.{arith}
use lib.IntN.{nat_abs}
use lib.ListN.{length, length-append}
use Rattle.std.proofs.lemmas.Int.{ints, to_z-of_z}
use Rattle.model.specs.Lister.{numeral, signed}
use Rattle.output.specs.Output.{Put}
use Rattle.output.proofs.Put.{put_none, put_as, put_then}
use Rattle.text.proofs.Numbers.{minus, minus_digits, minus_below, minus_above}
use Rattle.text.proofs.put_signed.Goals as goal
use Rattle.text.proofs.put_signed.Goals.{After-from, then-negative, else-negative}

pub put_byte-requires : goal.put_byte-requires
put_byte-requires c =
    let fits = c.ranges.n in
    let test = c.if-negative.true in
    let below = minus_below c.args.n (grind (arith, ints)) in
    let parts = minus_digits c.args.n in
    omega (arith, c.requires, ap length below, ap length parts, length-append (minus c.args.n) (numeral (nat_abs c.args.n)))

minus_put : (c : After-from) → Put c.args.out.now (minus c.args.n) c.if-negative.out
minus_put c =
    let fits = c.ranges.n in
    elim c.if-negative.branch [
      | then-negative w ↦
          let test = w.if-negative.true in
          rw w.out-is (put_as (minus_below c.args.n (grind (arith, ints))) w.put_byte.ensures)
      | else-negative w ↦
          let test = w.if-negative.false in
          rw w.out-is (put_as (minus_above c.args.n (grind (arith, ints))) (put_none _))
    ]

parts_are : (c : After-from) → minus c.args.n ++ numeral c.from.result ≡ signed c.args.n
parts_are c =
    let fits = c.ranges.n in
    let abs : c.from.result ≡ nat_abs c.args.n = c.from.ensures ∙ simp to_z-of_z at c.unsigned_abs.ensures.value in
    rw abs (minus_digits c.args.n)

pub put_decimal-requires : goal.put_decimal-requires
put_decimal-requires c =
    let p = minus_put (goal.at.put_decimal-requires c).After-from in
    let parts = parts_are (goal.at.put_decimal-requires c).After-from in
    omega (arith, c.requires, p.len, p.ends, ap length parts, length-append (minus c.args.n) (numeral c.from.result))

pub returns : goal.returns
returns c =
    put_as (parts_are (goal.at.returns c).After-from)
    (put_then (minus_put (goal.at.returns c).After-from) c.put_decimal.ensures)
