-- The functions of the cycle `interning` of `intern` meet their contracts. Assumes nothing.
use native.Mathlib.Omega.{arith}
use Prim.Native.Nat.{ℕ}
use mathlib.Core.Path.{◌≡◌, refl, sym, ap, ◌∙◌}
use Rattle.walk.proofs.Bridge.{records_few}
use Rattle.std.specs.Prelude.{Ok, Err}
use Rattle.std.proofs.lemmas.Result.{err_from_is_err_and}
use Rattle.interner.specs.Step.{given, step_of}
use Rattle.intern.proofs.Gives.{Selecting, selecting_given, field_operands, field_fails, field_selects, field_input}
use Rattle.intern.proofs.Gives.{field_once, field_done, recount_asks, recount_done, again_operands, again_done}
use Rattle.intern.proofs.Gives.{children-operands, children-read, children_none, incomplete_reads, incomplete_refused}
use Rattle.intern.proofs.Thunks.{thunk_room, thunk_operands, thunk_done, child_plainly, child_thunked}
use Rattle.intern.proofs.Bodies.{Lambda, lambda_given}
use Rattle.intern.proofs.Lambdas.{lambda_unmade, lambda_operands, lambda_refused, lambda_asks, lambda_done}
use lib.ListN.{length-set}
use Rattle.model.specs.Intern.{intern_scoped, intern}
use Rattle.walk.specs.Walk.{tree_at}
use Rattle.bindings.specs.Bindings.{env_of}
use Rattle.interner.specs.State.{abs_of}
use Rattle.intern.specs.Intern.{Reads, ReadsOn}
use Rattle.intern.proofs.Reading.{reading_end, reading_there, reading_low, reading_room, reading_plain, reading_thunk}
use Rattle.intern.proofs.Reading.{reading_refused, reading_turn, loop_start}
use Rattle.intern.specs.Steps.{noted, kids_done}
use Rattle.intern.proofs.Cases.{Counts, record_full, counted_given, counted_parent, counted_opcode, counted_plain}
use Rattle.intern.proofs.Cases.{record_lambda, record_field, reads_on_met, record_other, record_use}
use Rattle.intern.proofs.Records.{Parent}
use Rattle.intern.proofs.Weight.{weight_between, weight_thunked, weight_none}
use Rattle.intern.proofs.+interning.Goals as goal
use Rattle.intern.proofs.+interning.Goals.{lambda-Start, field-Start}
use Rattle.intern.proofs.+interning.Goals.{operands-Joined-is_thunked, subtree-Joined-shape-eq-SELECT_FIELD}
use Rattle.intern.proofs.+interning.Goals.{subtree-After-count_reading, subtree-Else-shape-eq-FUNC_VALUE}
use Rattle.intern.proofs.+interning.Goals.{operands-then-is_thunked, operands-else-is_thunked}
use Rattle.intern.proofs.+interning.Goals.{subtree-then-shape-eq-SELECT_FIELD+in_ok-selected}
use Rattle.intern.proofs.+interning.Goals.{subtree-else-shape-eq-SELECT_FIELD+then-count-eq0}
use Rattle.intern.proofs.+interning.Goals.{subtree-else-shape-eq-SELECT_FIELD+else-count-eq0+in_ok-operands}

-- what was asked of `lambda` and of `field`
lambda_asked : (t : ℕ) (c : lambda-Start t) → let a = c.args in Lambda a.forest.now.formed.laid a.work.now a.t a.st.now a.i a.at
lambda_asked t c = let p = c.requires in lambda_given c.args.forest.now.formed.formed p.i_bound p.stands_at p.counted_at

field_asked : (t : ℕ) (c : field-Start t) → let a = c.args in Selecting a.forest.now.formed.laid a.work.now a.t a.st.now a.i a.at
field_asked t c = let p = c.requires in selecting_given c.args.forest.now.formed.formed p.i_bound p.i_value p.stands_at p.well_kids

-- where the reading is counted
counted : (t : ℕ) (c : subtree-After-count_reading t) →
    let a = c.args in Counts a.forest.now.formed.laid a.work.now a.t a.st.now a.i a.at c.count_reading.new.st
counted t c =
    let p = c.requires in
    counted_given p.stands_at c.if-st-eq2048.false c.count_reading.ensures c.args.forest.now.formed.formed p.i_bound p.legible_at

-- where the record is no lambda: its children may be read
parent : (t : ℕ) (c : subtree-Else-shape-eq-FUNC_VALUE t) →
    let a = c.args in Parent a.forest.now.formed.laid a.work.now a.t c.count_reading.new.st a.i a.at
parent t c =
    let p = c.requires in
    counted_parent
    (counted_given p.stands_at c.if-st-eq2048.false c.count_reading.ensures c.args.forest.now.formed.formed p.i_bound p.legible_at)
    (λ z. c.if-shape-eq-FUNC_VALUE.false (c.shape-shape.ensures ∙ z))

-- where a child in a thunk and any other meet: it is read as the definition has it
child_read : (t : ℕ) (c : operands-Joined-is_thunked t) →
    let l = c.loop-j in
    let a = c.args in
    let here = c.child_at-here.result in
    Reads a.forest.now.formed.laid l.work a.t l.st l.next here
    (intern_scoped c.is_thunked.result here.scope
    (λ sc s. intern (tree_at a.forest.now.formed.laid l.next) l.next sc (env_of l.work here.top) s)
    (abs_of a.forest.now.formed.laid l.work a.t l.st)) c.if-is_thunked.work (step_of c.if-is_thunked.st c.if-is_thunked.r)
child_read t c =
    elim c.if-is_thunked.branch [
      | operands-then-is_thunked w ↦ rw (w.work-is, w.st-is, w.r-is) (child_thunked w.if-is_thunked.true w.in_thunk-r.ensures)
      | operands-else-is_thunked w ↦ rw (w.work-is, w.st-is, w.r-is) (child_plainly w.if-is_thunked.false w.subtree-r.ensures)
    ]

-- where the scope of a thunk is noted, and where there is no thunk
thunk_noted : (t : ℕ) (c : operands-Joined-is_thunked t) →
    c.if-is_thunked.branches ≡ noted c.is_thunked.result c.loop-j.branches c.loop-j.st.scopes
thunk_noted t c =
    elim c.if-is_thunked.branch [
      | operands-then-is_thunked w ↦ rw (w.branches-is, w.if-is_thunked.true) w.one_more-branches.ensures
      | operands-else-is_thunked w ↦ rw (w.branches-is, w.if-is_thunked.false) refl
    ]

-- where a SelectField and the other records meet: the record is done, or still to be completed
reads_on : (t : ℕ) (c : subtree-Joined-shape-eq-SELECT_FIELD t) →
    let a = c.args in
    ReadsOn a.forest.now.formed.laid a.work.now a.t a.st.now a.i a.at
    (intern (tree_at a.forest.now.formed.laid a.i) a.i a.at.scope (env_of a.work.now a.at.top)
    (abs_of a.forest.now.formed.laid a.work.now a.t a.st.now)) c.if-shape-eq-SELECT_FIELD.work c.if-shape-eq-SELECT_FIELD.st
    (Ok c.if-shape-eq-SELECT_FIELD.selected)
reads_on t c =
    let h = counted_given c.requires.stands_at c.if-st-eq2048.false c.count_reading.ensures
    c.args.forest.now.formed.formed c.requires.i_bound c.requires.legible_at in
    let s = c.shape-shape.ensures in
    let parent = counted_parent h (λ z. c.if-shape-eq-FUNC_VALUE.false (s ∙ z)) in
    let is = record_other h (λ z. c.if-shape-eq-VAL_USE.false (s ∙ z)) (λ z. c.if-shape-eq-FUNC_VALUE.false (s ∙ z)) in
    elim c.if-shape-eq-SELECT_FIELD.branch [
      | subtree-then-shape-eq-SELECT_FIELD+in_ok-selected w ↦ reads_on_met _ _ _ _ _ _ _ w.work-is w.st-is w.selected-is
          (record_field h (sym s ∙ w.if-shape-eq-SELECT_FIELD.true) w.field.new.work w.field.new.st
          (Ok w.in_ok-selected.selected) (rw w.in_ok-selected.was at w.field.ensures))
      | subtree-else-shape-eq-SELECT_FIELD+then-count-eq0 w ↦ reads_on_met _ _ _ _ _ _ _ w.work-is w.st-is w.selected-is
          (is (λ z. w.if-shape-eq-SELECT_FIELD.false (s ∙ z)) _ _
          (children_none parent c.kids-count.ensures.0 (counted_plain h) w.if-count-eq0.true))
      | subtree-else-shape-eq-SELECT_FIELD+else-count-eq0+in_ok-operands w ↦ reads_on_met _ _ _ _ _ _ _ w.work-is w.st-is w.selected-is
          (is (λ z. w.if-shape-eq-SELECT_FIELD.false (s ∙ z)) _ _
          (rw w.in_ok-operands.was at (children-read parent c.kids-count.ensures.0 w.opcode-op.ensures w.operands.ensures)))
    ]

pub field-operands-requires : goal.field-operands-requires
field-operands-requires t c =
    let g = field_asked t (goal.at.field-operands-requires t c).Start in
    let h = g.parent in (
      omega (arith, c.decreases, h.there, records_few _ h.sound, weight_between c.opcode-op.result),
      field_operands g c.opcode-op.ensures,
    )

pub field-returns-in_err-b : goal.field-returns-in_err-b
field-returns-in_err-b t c =
    let p = err_from_is_err_and c.from_residual.result c.from_residual.ensures.1 in
    rw (p.1, p.2)
    (field_fails (field_asked t (goal.at.field-returns-in_err-b t c).Start) c.opcode-op.ensures
    (rw c.in_err-b.was at c.operands.ensures) refl)

pub field-reads_again-requires : goal.field-reads_again-requires
field-reads_again-requires t c =
    record {
      input = field_input (field_asked t (goal.at.field-reads_again-requires t c).Start) c.opcode-op.ensures
          (rw c.in_ok-b.was at c.operands.ensures) refl;
    }

pub field-field-requires : goal.field-field-requires
field-field-requires t c =
    let g = field_asked t (goal.at.field-field-requires t c).Start in
    let v = rw c.in_ok-b.was at c.operands.ensures in
    let selects = field_selects g c.opcode-op.ensures v refl in
    let once = field_once g c.opcode-op.ensures v refl c.reads_again.ensures c.if-not-reads_again.true in
    record { rep = v.rep; fact = v.opened; selects = selects; held_value = once }

pub field-returns-in_err-symbol : goal.field-returns-in_err-symbol
field-returns-in_err-symbol t c =
    let p = err_from_is_err_and c.from_residual-in_err-symbol.result c.from_residual-in_err-symbol.ensures.1 in
    rw (p.1, p.2)
    (rw c.in_err-symbol.was at (field_done (field_asked t (goal.at.field-returns-in_err-symbol t c).Start)
    c.opcode-op.ensures (rw c.in_ok-b.was at c.operands.ensures) refl c.reads_again.ensures
    (c.field.ensures _ _)))

pub field-returns-then-not-reads_again : goal.field-returns-then-not-reads_again
field-returns-then-not-reads_again t c =
    rw c.in_ok-symbol.was at (field_done (field_asked t (goal.at.field-returns-then-not-reads_again t c).Start)
    c.opcode-op.ensures (rw c.in_ok-b.was at c.operands.ensures) refl c.reads_again.ensures
    (c.field.ensures _ _))

pub field-count_again-requires : goal.field-count_again-requires
field-count_again-requires t c =
    let asks =
    recount_asks (field_asked t (goal.at.field-count_again-requires t c).Start) c.opcode-op.ensures
    (rw c.in_ok-b.was at c.operands.ensures) refl
    (sym c.repeats.ensures ∙ c.if-repeats.true) in record {
      readings_le_readings = omega (arith, asks);
      readings_bound = omega (arith, asks);
    }

pub field-returns-then-repeats : goal.field-returns-then-repeats
field-returns-then-repeats t c =
    recount_done (field_asked t (goal.at.field-returns-then-repeats t c).Start) c.opcode-op.ensures
    (rw c.in_ok-b.was at c.operands.ensures) refl c.reads_again.ensures c.if-not-reads_again.false
    (sym c.repeats.ensures ∙ c.if-repeats.true) (ap (λ s. kids_done s c.in_ok-b.b) c.count_again.ensures)

pub field-operands-requires-2 : goal.field-operands-requires-2
field-operands-requires-2 t c =
    let g = field_asked t (goal.at.field-operands-requires-2 t c).Start in
    let h = g.parent in (
      omega (arith, c.decreases, h.there, records_few _ h.sound, weight_between c.opcode-op.result),
      again_operands g c.opcode-op.ensures (rw c.in_ok-b.was at c.operands.ensures) refl,
    )

pub field-returns-in_err-again : goal.field-returns-in_err-again
field-returns-in_err-again t c =
    let p = err_from_is_err_and c.from_residual-in_err-again.result c.from_residual-in_err-again.ensures.1 in
    rw (p.1, p.2)
    (incomplete_refused (again_done (field_asked t (goal.at.field-returns-in_err-again t c).Start) c.opcode-op.ensures
    (rw c.in_ok-b.was at c.operands.ensures) refl c.reads_again.ensures c.if-not-reads_again.false
    (rw c.in_err-again.was at c.operands-2.ensures)) refl)

pub field-returns : goal.field-returns
field-returns t c =
    again_done (field_asked t (goal.at.field-returns t c).Start) c.opcode-op.ensures
    (rw c.in_ok-b.was at c.operands.ensures) refl c.reads_again.ensures c.if-not-reads_again.false
    (rw c.in_ok-again.was at c.operands-2.ensures)

pub in_thunk-push-inner-requires : goal.in_thunk-push-inner-requires
in_thunk-push-inner-requires t c =
    let p = c.requires in
    let room = thunk_room p.i_bound p.in_thunk in
    (room.3, room.4)

pub in_thunk-operands-r-requires : goal.in_thunk-operands-r-requires
in_thunk-operands-r-requires t c =
    let p = c.requires in (
      omega (arith, c.decreases, weight_none),
      thunk_operands p.i_bound p.in_thunk c.open_thunk.ensures c.push-inner.ensures,
    )

pub in_thunk-returns-in_err-r : goal.in_thunk-returns-in_err-r
in_thunk-returns-in_err-r t c =
    let q = c.requires in
    let p = err_from_is_err_and c.from_residual.result c.from_residual.ensures.1 in
    rw (p.1, p.2)
    (thunk_done q.i_bound q.in_thunk c.open_thunk.ensures c.push-inner.ensures
    (rw c.in_err-r.was at c.operands-r.ensures) c.close_thunk.ensures)

pub in_thunk-returns : goal.in_thunk-returns
in_thunk-returns t c =
    let p = c.requires in
    thunk_done p.i_bound p.in_thunk c.open_thunk.ensures c.push-inner.ensures
    (rw c.in_ok-r.was at c.operands-r.ensures) c.close_thunk.ensures

pub lambda-returns-in_err-inside : goal.lambda-returns-in_err-inside
lambda-returns-in_err-inside t c =
    let p = err_from_is_err_and c.from_residual.result c.from_residual.ensures.1 in
    rw (p.1, p.2)
    (lambda_unmade (lambda_asked t (goal.at.lambda-returns-in_err-inside t c).Start) c.enter_lambda.ensures
    c.in_err-inside.was)

pub lambda-operands-requires : goal.lambda-operands-requires
lambda-operands-requires t c =
    let h = lambda_asked t (goal.at.lambda-operands-requires t c).Start in (
      omega (arith, c.decreases, h.there, records_few _ h.sound, weight_between c.opcode-op.result),
      lambda_operands h c.enter_lambda.ensures c.in_ok-inside.was c.opcode-op.ensures,
    )

pub lambda-returns-in_err-operands : goal.lambda-returns-in_err-operands
lambda-returns-in_err-operands t c =
    let p = err_from_is_err_and c.from_residual-in_err-operands.result c.from_residual-in_err-operands.ensures.1 in
    rw (p.1, p.2)
    (lambda_refused (lambda_asked t (goal.at.lambda-returns-in_err-operands t c).Start) c.enter_lambda.ensures
    c.in_ok-inside.was c.opcode-op.ensures (rw c.in_err-operands.was at c.operands.ensures) refl)

pub lambda-lambda-requires : goal.lambda-lambda-requires
lambda-lambda-requires t c =
    let v = rw c.in_ok-operands.was at c.operands.ensures in
    let it =
    lambda_asks (lambda_asked t (goal.at.lambda-lambda-requires t c).Start) c.enter_lambda.ensures c.in_ok-inside.was
    c.opcode-op.ensures v refl in
    record { rep = v.rep; fact = v.opened; concludes = it.0; i_value = it.1.0; body_of = it.1.1 }

pub lambda-returns : goal.lambda-returns
lambda-returns t c =
    lambda_done (lambda_asked t (goal.at.lambda-returns t c).Start)
    c.enter_lambda.ensures c.in_ok-inside.was c.opcode-op.ensures (rw c.in_ok-operands.was at c.operands.ensures) refl
    c.lambda.ensures

pub operands-loop-j-init : goal.operands-loop-j-init
operands-loop-j-init t c =
    let p = c.requires in loop_start c.args.forest.now.formed.formed p.operands

pub operands-in_thunk-r-requires : goal.operands-in_thunk-r-requires
operands-in_thunk-r-requires t c =
    let inv = c.loop-j.invariant in
    let there = reading_there inv c.loop-j-test.true in
    let is = sym c.is_thunked.ensures ∙ c.if-is_thunked.true in (
      omega (arith, c.decreases, there, records_few _ inv.sound, inv.remains.onward, weight_thunked _ _ is),
      (there, reading_thunk inv c.loop-j-test.true is c.child_at-here.ensures),
    )

pub operands-subtree-r-requires : goal.operands-subtree-r-requires
operands-subtree-r-requires t c =
    let inv = c.loop-j.invariant in
    let there = reading_there inv c.loop-j-test.true in
    let is = sym c.is_thunked.ensures ∙ c.if-is_thunked.false in (
      omega (arith, c.decreases, there, records_few _ inv.sound, inv.remains.onward, weight_between c.args.op),
      (there, reading_plain inv c.loop-j-test.true is c.child_at-here.ensures),
    )

pub operands-returns-in_err-symbol : goal.operands-returns-in_err-symbol
operands-returns-in_err-symbol t c =
    let p = err_from_is_err_and c.from_residual.result c.from_residual.ensures.1 in
    rw (p.1, p.2)
    (reading_refused c.loop-j.invariant c.loop-j-test.true
    c.is_thunked.ensures c.child_at-here.ensures
    (rw c.in_err-symbol.was at (child_read t (goal.at.operands-returns-in_err-symbol t c).Joined-is_thunked))
    refl)

pub operands-bind_def-top-requires : goal.operands-bind_def-top-requires
operands-bind_def-top-requires t c =
    let inv = c.loop-j.invariant in record {
      i_bound = (
        reading_there inv c.loop-j-test.true,
        (reading_room inv c.loop-j-test.true).1,
        simp length-set (child_read t (goal.at.operands-bind_def-top-requires t c).Joined-is_thunked).rep.words,
      );
    }

pub operands-bounds-forest-next : goal.operands-bounds-forest-next
operands-bounds-forest-next t c =
    omega (arith, reading_low c.loop-j.invariant c.loop-j-test.true)

pub operands-offset_bounds-forest-next : goal.operands-offset_bounds-forest-next
operands-offset_bounds-forest-next t c =
    omega (arith, reading_low c.loop-j.invariant c.loop-j-test.true)

pub operands-loop-j-preserved : goal.operands-loop-j-preserved
operands-loop-j-preserved t c =
    reading_turn c.loop-j.invariant c.loop-j-test.true c.is_thunked.ensures
    c.child_at-here.ensures
    (rw c.in_ok-symbol.was at (child_read t (goal.at.operands-loop-j-preserved t c).Joined-is_thunked)) refl
    c.args.forest.now.passes c.args.forest.now.ended c.from-next.ensures
    c.bind_def-top.ensures
    (ap (kids_done c.if-is_thunked.st)
    (thunk_noted t (goal.at.operands-loop-j-preserved t c).Joined-is_thunked))

pub operands-returns : goal.operands-returns
operands-returns t c =
    (reading_end c.loop-j.invariant c.loop-j-test.false)

pub subtree-returns-then-st-eq2048 : goal.subtree-returns-then-st-eq2048
subtree-returns-then-st-eq2048 t c =
    record_full c.requires.stands_at c.if-st-eq2048.true

pub subtree-returns-then-shape-eq-VAL_USE : goal.subtree-returns-then-shape-eq-VAL_USE
subtree-returns-then-shape-eq-VAL_USE t c =
    record_use (counted t (goal.at.subtree-returns-then-shape-eq-VAL_USE t c).After-count_reading)
    (sym c.shape-shape.ensures ∙ c.if-shape-eq-VAL_USE.true)
    (ap (given c.count_reading.new.st) c.value_use.ensures)

pub subtree-returns-then-shape-eq-FUNC_VALUE : goal.subtree-returns-then-shape-eq-FUNC_VALUE
subtree-returns-then-shape-eq-FUNC_VALUE t c =
    record_lambda (counted t (goal.at.subtree-returns-then-shape-eq-FUNC_VALUE t c).After-count_reading)
    (sym c.shape-shape.ensures ∙ c.if-shape-eq-FUNC_VALUE.true) c.lambda.ensures

pub subtree-field-requires : goal.subtree-field-requires
subtree-field-requires t c =
    let h = parent t (goal.at.subtree-field-requires t c).Else-shape-eq-FUNC_VALUE in
    let e = sym c.shape-shape.ensures ∙ c.if-shape-eq-SELECT_FIELD.true in (
      omega (arith, c.decreases),
      (h.there, ((e, counted_opcode (counted t (goal.at.subtree-field-requires t c).After-count_reading) e), (h.stands, h.well))),
    )

pub subtree-returns-in_err-selected : goal.subtree-returns-in_err-selected
subtree-returns-in_err-selected t c =
    let p = err_from_is_err_and c.from_residual.result c.from_residual.ensures.1 in
    let h = counted t (goal.at.subtree-returns-in_err-selected t c).After-count_reading in
    rw (p.1, p.2)
    (record_field h (sym c.shape-shape.ensures ∙ c.if-shape-eq-SELECT_FIELD.true) c.field.new.work c.field.new.st
    (Err c.in_err-selected.field-0.0) (rw c.in_err-selected.was at c.field.ensures))

pub subtree-operands-requires : goal.subtree-operands-requires
subtree-operands-requires t c =
    let h = parent t (goal.at.subtree-operands-requires t c).Else-shape-eq-FUNC_VALUE in (
      omega (arith, c.decreases, h.there, records_few _ h.sound, weight_between c.opcode-op.result),
      children-operands h c.kids-count.ensures.0 c.opcode-op.ensures (counted_plain (counted t (goal.at.subtree-operands-requires t c).After-count_reading)),
    )

pub subtree-returns-in_err-operands : goal.subtree-returns-in_err-operands
subtree-returns-in_err-operands t c =
    let p = err_from_is_err_and c.from_residual-in_err-operands.result c.from_residual-in_err-operands.ensures.1 in
    let h = counted t (goal.at.subtree-returns-in_err-operands t c).After-count_reading in
    let g = parent t (goal.at.subtree-returns-in_err-operands t c).Else-shape-eq-FUNC_VALUE in
    let s = c.shape-shape.ensures in
    rw (p.1, p.2)
    (incomplete_refused
    (record_other h (λ z. c.if-shape-eq-VAL_USE.false (s ∙ z)) (λ z. c.if-shape-eq-FUNC_VALUE.false (s ∙ z))
    (λ z. c.if-shape-eq-SELECT_FIELD.false (s ∙ z)) _ _
    (rw c.in_err-operands.was at (children-read g c.kids-count.ensures.0 c.opcode-op.ensures c.operands.ensures))) refl)

pub subtree-conclude-requires : goal.subtree-conclude-requires
subtree-conclude-requires t c =
    let ready = (rw c.in-Children.is at (reads_on t (goal.at.subtree-conclude-requires t c).Joined-shape-eq-SELECT_FIELD)).ready in
    record { rep = ready.rep; fact = ready.opened; concluding = ready.concludes refl; branched = ready.branched }

pub subtree-returns-in-Done : goal.subtree-returns-in-Done
subtree-returns-in-Done t c =
    rw c.in-Done.is at (reads_on t (goal.at.subtree-returns-in-Done t c).Joined-shape-eq-SELECT_FIELD)

pub subtree-returns-in-Children : goal.subtree-returns-in-Children
subtree-returns-in-Children t c =
    incomplete_reads (rw c.in-Children.is at (reads_on t (goal.at.subtree-returns-in-Children t c).Joined-shape-eq-SELECT_FIELD))
    refl c.conclude.ensures
