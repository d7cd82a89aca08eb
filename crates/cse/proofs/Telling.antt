-- Answers as the definitions have them. In order: a refusal or a success told; the answers for a tree; refusals without
-- a place; a tree from its plan; the call.
-- Assumes nothing.
use Prim.Native.Nat.{ℕ, ◌≤◌, ◌<◌}
use mathlib.Core.Path.{◌≡◌, refl, sym, ap, subst, ◌∙◌}
use mathlib.Core.Bool.{Bool, true, false, ◌||◌}
use mathlib.Core.Logic.{◌⊎◌, ⊎_elim}
use Rattle.std.specs.Prelude.{Some, None, Result, Ok, Err}
use mathlib.Core.List.{List, append-nil}
use native.Mathlib.Omega.{arith}
use borrow.Author.Tests.{lt-ltb, le-ltb}
use lib.Dec.{ltb}
use lib.ListN.{length}
use Rattle.model.specs.Answer.{refused, good, ◌>>=◌, unless, checked, at0}
use Rattle.model.specs.Answer as answer
use Rattle.model.specs.Tree.{many, size, depth, rows, rows_of, forest_of, serialise}
use Rattle.model.specs.Accept.{accept}
use Rattle.model.specs.Intern.{State}
use Rattle.model.specs.Call.{Call, check1, lent_checks, interned, tree_of, bytes_of, check13, check14, tree_checks}
use Rattle.model.specs.Call.{written_of, measured, written, run, numbers_of, out_with}
use Rattle.model.specs.Call as call
use Rattle.regions.specs.Regions.{PLAN, WORDS}
use Rattle.output.specs.Output.{over}
use Rattle.output.proofs.Over.{over_front}
use Rattle.serialise.specs.Serialise.{planned_bytes}
use Rattle.planner.specs.declared.Plan.{Plan}
use Rattle.interner.specs.declared.Step.{Step}
use Rattle.tables.specs.Tables.{new_tables}
use Rattle.interner.specs.State.{abs_of}
use Rattle.interner.specs.Step.{out_of}
use Rattle.interner.proofs.Sharing.{out_good, out_refused}
use Rattle.refusal.specs.declared.Check.TheVariants.{Words, Room, Nesting}
use Rattle.refusal.specs.declared.Refusal.{Refusal}
use Rattle.refusal.specs.Refusal.{number_of}
use Rattle.cse.specs.declared.Written.{Written}
use Rattle.cse.specs.Call.{Tells, PlanOf}

-- ---- told

module _ (a : answer.Answer call.Written) (out : List ℕ) where
  pub tells_refused : (e : Refusal) → a ≡ refused (number_of e.check) e.place → Tells a out (Err e) out
  unfolding numbers_of out_with
  tells_refused e is = rw is (record { numbers = refl; output = refl })

  tells_written : (w : call.Written) (r : Written) (out' : List ℕ) → a ≡ good w → r.length ≡ length w.bytes →
      w.symbols ≡ r.symbols → w.readings ≡ r.readings → out' ≡ over out 0 w.bytes → Tells a out (Ok r) out'
  unfolding numbers_of out_with
  tells_written w r out' e l y d o = rw e (record { numbers = rw (l, y, d); output = o ∙ over_front out w.bytes })

-- ---- a tree

any_first : (a b c : Bool) → a ≡ true → at0 (a || b || c) ≡ Some 0
any_first a b c e = rw e

any_second : (a b c : Bool) → b ≡ true → at0 (a || b || c) ≡ Some 0
any_second true b c e = refl
any_second false b c e = rw e

any_third : (a b c : Bool) → c ≡ true → at0 (a || b || c) ≡ Some 0
any_third true b c e = refl
any_third false true c e = refl
any_third false false c e = rw e

module _ (room : ℕ) (o : ℕ × State) where
  abbrev large : Bool
  large = ltb 256 (size (tree_of o))

  abbrev long : Bool
  long = ltb 65535 (length (bytes_of o))

  abbrev past : Bool
  past = ltb room (length (bytes_of o))

  at_13 : check13 room o ≡ Some 0 → measured room o ≡ refused 13 0
  unfolding measured tree_checks checked unless
  at_13 e = rw e

  measured-many : 256 < size (tree_of o) → measured room o ≡ refused 13 0
  unfolding check13
  measured-many h = at_13 (any_first large long past (lt-ltb 256 (size (tree_of o)) h))

  measured_long : 65535 < length (bytes_of o) → measured room o ≡ refused 13 0
  unfolding check13
  measured_long h = at_13 (any_second large long past (lt-ltb 65535 (length (bytes_of o)) h))

  measured-over : room < length (bytes_of o) → measured room o ≡ refused 13 0
  unfolding check13
  measured-over h = at_13 (any_third large long past (lt-ltb room (length (bytes_of o)) h))

  module _ (few : size (tree_of o) ≤ 256) (short : length (bytes_of o) ≤ 65535)
      (fits : length (bytes_of o) ≤ room) where
    past_13 : check13 room o ≡ None
    unfolding check13
    past_13 = rw (
      le-ltb 256 (size (tree_of o)) few,
      le-ltb 65535 (length (bytes_of o)) short,
      le-ltb room (length (bytes_of o)) fits,
    )

    measured-deep : 64 < depth (tree_of o) → measured room o ≡ refused 14 0
    unfolding measured tree_checks checked unless check14
    measured-deep h = rw (past_13, lt-ltb 64 (depth (tree_of o)) h)

    measured_good : depth (tree_of o) ≤ 64 → measured room o ≡ good (written_of o)
    unfolding measured tree_checks checked unless check14
    measured_good h = rw (past_13, le-ltb 64 (depth (tree_of o)) h)

-- ---- the refusals that have no place of their own

abbrev pub no_words : Refusal
no_words = record { check = Words; place = 0 }

abbrev pub no_room : Refusal
no_room = record { check = Room; place = 0 }

abbrev too_deep : Refusal
too_deep = record { check = Nesting; place = 0 }

-- ---- a tree from its plan p, with `size` bytes, over the output `out`

-- too many rows
pub tells_many : (o : ℕ × State) (out : List ℕ) → 256 < size (tree_of o) → Tells (measured (length out) o) out (Err no_room) out
tells_many o out l = tells_refused _ out no_room (measured-many (length out) o l)

module _ (bs ws : List ℕ) (o : ℕ × State) (p : Plan) (h : PlanOf bs ws (tree_of o) p) (out : List ℕ) where
  module _ (size : ℕ) (few : p.rows ≤ 256) (long : size ≡ length (planned_bytes bs ws PLAN.first p.rows)) where
    bytes_are : bytes_of o ≡ planned_bytes bs ws PLAN.first p.rows
    unfolding bytes_of serialise many rows_of
    bytes_are = ap (forest_of 1) (append-nil (rows (tree_of o)) ∙ sym h.plan)

    length_is : length (bytes_of o) ≡ size
    length_is = ap length bytes_are ∙ sym long

    -- too many bytes, or more than the output has
    pub tells_long : (65535 < size) ⊎ ((size ≤ 65535) × (length out < size)) →
        Tells (measured (length out) o) out (Err no_room) out
    tells_long =
        ⊎_elim
        (λ l. tells_refused _ out no_room (measured_long (length out) o (omega (arith, length_is))))
        (λ l. tells_refused _ out no_room (measured-over (length out) o (omega (arith, length_is))))

    module _ (short : size ≤ 65535) (fits : size ≤ length out) where
      pub tells_deep : 64 < p.deepest → Tells (measured (length out) o) out (Err too_deep) out
      tells_deep l =
          tells_refused _ out too_deep
          (measured-deep (length out) o (omega (arith, h.count)) (omega (arith, length_is)) (omega (arith, length_is))
          (omega (arith, h.deepest)))

      pub tells_good : (r : Written) (out' : List ℕ) → r.length ≡ size → p.deepest ≤ 64 → length o.1.syms ≡ r.symbols →
          o.1.readings ≡ r.readings → out' ≡ over out 0 (planned_bytes bs ws PLAN.first p.rows) →
          Tells (measured (length out) o) out (Ok r) out'
      unfolding written_of
      tells_good r out' z l y d e =
          tells_written _ out (written_of o) r out'
          (measured_good (length out) o (omega (arith, h.count)) (omega (arith, length_is)) (omega (arith, length_is))
          (omega (arith, h.deepest)))
          (z ∙ sym length_is) y d (e ∙ ap (over out 0) (sym bytes_are))

-- ---- the call

module _ (c : Call) where
  pub check_tells : (out : List ℕ) (e : Refusal) → refused (number_of e.check) e.place ≡ accept c.forest →
      Tells (written c) out (Err e) out
  unfolding written interned ◌>>=◌
  check_tells out e is = tells_refused _ out e (rw (sym is))

  module _ (ws : List ℕ) (r : Step) (is : out_of c.forest ws new_tables r ≡ interned c.forest) where
    pub intern_good : (s : ℕ) → r.symbol ≡ Ok s → interned c.forest ≡ good (s, abs_of c.forest ws new_tables r.st)
    intern_good s e = sym is ∙ out_good c.forest ws new_tables r e

    pub intern_tells : (out : List ℕ) (e : Refusal) → r.symbol ≡ Err e → Tells (written c) out (Err e) out
    unfolding written ◌>>=◌
    intern_tells out e f = tells_refused _ out e (rw (sym is ∙ out_refused c.forest ws new_tables r f))

  pub written-measured : (o : ℕ × State) → interned c.forest ≡ good o → written c ≡ measured c.room o
  unfolding written ◌>>=◌
  written-measured o e = rw e

  -- what a tree's answer tells, the call's does
  pub written_tells : (o : ℕ × State) → interned c.forest ≡ good o → {out out' : List ℕ} {r : Result Written Refusal} →
      Tells (measured c.room o) out r out' → Tells (written c) out r out'
  written_tells o e {out} {out'} {r} = subst (λ (a : answer.Answer call.Written). Tells a out r out') (sym (written-measured o e))

  pub run_few : c.words < WORDS → run c ≡ refused 1 0
  unfolding run lent_checks check1 checked unless ◌>>=◌
  run_few h = rw (lt-ltb c.words WORDS h)

  pub run_enough : WORDS ≤ c.words → run c ≡ written c
  unfolding run lent_checks check1 checked unless ◌>>=◌
  run_enough h = rw (le-ltb c.words WORDS h)
