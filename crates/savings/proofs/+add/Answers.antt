-- The functions of the cycle `add` of `savings` meet their contracts. Assumes nothing.
use Prim.Native.Nat.{ℕ, ◌+◌, ◌≤◌}
use mathlib.Core.Path.{◌∙◌, sym, ap}
use mathlib.Core.List.{◌++◌, append-nil, append_assoc}
use native.Mathlib.Omega.{arith}
use lib.ListN.{length, length-append}
use Rattle.model.specs.Savings.{savings}
use Rattle.walk.proofs.Bridge.{records_few}
use Rattle.codec.proofs.Ends.{entry_is}
use Rattle.savings.specs.Siblings.{between, own_line}
use Rattle.savings.proofs.Siblings.{First, siblings_first, own_few, savings_few, savings_first, savings_none}
use Rattle.savings.proofs.+add.Goals as goal
use Rattle.savings.proofs.+add.Goals.{After-from-next, After-add_own}

-- the trees in a row, from their first record's end
split : {t : ℕ} (c : After-from-next t) → First c.args.forest.now.formed.laid c.args.i c.args.end c.from-next.result
split c =
    let f = c.args.forest.now in
    let h = c.requires.siblings in
    siblings_first f.formed.laid c.args.i c.args.end h (omega (arith, c.if-i-end.false, h.order)) c.from-next.result
    (c.from-next.ensures
    ∙ entry_is f.formed.laid f.ends.now f.formed.formed f.passes f.ended c.args.i (omega (arith, c.if-i-end.false, h.order, h.within)))

pub returns-then-i-end : goal.returns-then-i-end
returns-then-i-end t c =
    let bs = c.args.forest.now.formed.laid in
    sym (rw (savings_none bs c.args.i c.args.end c.if-i-end.true) (append-nil c.args.list.now.items))

pub offset_bounds-forest-i : goal.offset_bounds-forest-i
offset_bounds-forest-i t c =
    let f = c.args.forest.now.formed in
    let h = c.requires.siblings in
    omega (arith, h.order, h.within, records_few f.laid f.formed)

pub bounds-forest-i : goal.bounds-forest-i
bounds-forest-i t c =
    let f = c.args.forest.now.formed in
    let h = c.requires.siblings in
    omega (arith, c.if-i-end.false, h.order, h.within, records_few f.laid f.formed)

pub add_own-requires-clause-order : goal.add_own-requires-clause-order
add_own-requires-clause-order t c =
    let s = split (goal.at.add_own-requires-clause-order t c).After-from-next in
    (omega (arith, s.inner.order), s.later.order, s.later.within)

-- the record's own line takes one place at most
noted : {t : ℕ} (c : After-add_own t) → length c.add_own.new.list.items ≤ length c.args.list.now.items + 1
noted c =
    let own = own_line c.args.forest.now.formed.laid c.args.i c.from-next.result c.args.end in
    omega (
      arith,
      ap length c.add_own.ensures,
      length-append c.args.list.now.items own,
      own_few c.args.forest.now.formed.laid c.args.i c.from-next.result c.args.end,
    )

pub add-requires : goal.add-requires
add-requires t c =
    let s = split (goal.at.add-requires t c).After-from-next in
    let own = noted (goal.at.add-requires t c).After-add_own in (
      omega (arith, s.inner.order, s.later.order),
      (s.inner, omega (arith, c.requires.room, own, s.inner.order, s.later.order)),
    )

pub add-requires-2 : goal.add-requires-2
add-requires-2 t c =
    let s = split (goal.at.add-requires-2 t c).After-from-next in
    let own = noted (goal.at.add-requires-2 t c).After-add_own in
    let below = between c.args.forest.now.formed.laid (c.args.i + 1) c.from-next.result in (
      omega (arith, s.inner.order, s.later.order),
      (
        s.later,
        omega (
          arith,
          c.requires.room,
          own,
          s.inner.order,
          s.later.order,
          ap length c.add.ensures,
          length-append c.add_own.new.list.items (savings below),
          savings_few c.args.forest.now.formed.laid (c.args.i + 1) c.from-next.result s.inner,
        ),
      ),
    )

pub returns : goal.returns
returns t c =
    let s = split (goal.at.returns t c).After-from-next in
    let bs = c.args.forest.now.formed.laid in
    let next = c.from-next.result in
    let old = c.args.list.now.items in
    let own = own_line bs c.args.i next c.args.end in
    let us = savings (between bs (c.args.i + 1) next) in
    let ts = savings (between bs next c.args.end) in
    rw (savings_first bs c.args.i c.args.end next c.requires.siblings s)
    (rw (c.add-2.ensures, c.add.ensures, c.add_own.ensures)
    (ap (λ l. l ++ ts) (append_assoc old own us) ∙ append_assoc old (own ++ us) ts))
