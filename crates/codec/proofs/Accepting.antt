-- Checks in their order: the first that fails is the answer.
-- In order: 16, and 7 to 10 at once; what an accepted forest has.
-- Assumes nothing.
use Prim.Native.Nat.{ℕ, ◌≤◌}
use mathlib.Core.Path.{◌≡◌, sym, ap, ◌∙◌}
use Rattle.std.specs.Prelude.{Option, None, Some}
use mathlib.Core.List.{List}
use Rattle.model.specs.Answer.{refused, good, unless, checked}
use Rattle.model.specs.Lists.{first}
use Rattle.model.specs.Tree.{Trees}
use Rattle.model.specs.Faults.{faults_in}
use Rattle.model.specs.Forest.{record_count, trees_of, check7, check16}
use Rattle.model.specs.Binding.{check8, check9, check10}
use Rattle.model.specs.Accept.{checks, accept}
use Rattle.laws.proofs.Header.{header_of}
use Rattle.laws.proofs.Frame.{frame_none, frame_then}
use Rattle.laws.proofs.Checks.{checked_good}
use Rattle.record.specs.Record.{Laid}
use Rattle.walk.specs.Walk.{WellFormed}
use Rattle.refusal.proofs.Passing.{passed, failed}
use Rattle.walk.specs.declared.Test.TheVariants.{Any, Depth, Definitions, Bindings, Uses}
use Rattle.walk.specs.Faults.{start, check_by}
use Rattle.walk.proofs.Checks.{check_7, check_8, check_9, check_10}
use Rattle.walk.proofs.Any.{any_none}
use Rattle.codec.specs.Accepted.{Passes}
use Rattle.codec.specs.Codec.{Shaped}

-- ---- 16, and all of 7 to 10 at once

module _ (bs : List ℕ) (h : Shaped bs) (e : first (faults_in (check_by Any) (trees_of bs) start) ≡ None) where
  -- one walk that tests all four finds nothing
  all_but_16 : unless 16 (check16 bs) (good (trees_of bs)) ≡ accept bs
  unfolding accept checks checked unless
  all_but_16 =
      rw (
        h.sound.laid.header,
        h.sound.laid.directory,
        h.sound.fit,
        h.agree,
        h.sound.closed,
        sym (check_7 bs) ∙ any_none Depth (trees_of bs) e,
        sym (check_8 (trees_of bs)) ∙ any_none Definitions (trees_of bs) e,
        sym (check_9 (trees_of bs)) ∙ any_none Bindings (trees_of bs) e,
        sym (check_10 (trees_of bs)) ∙ any_none Uses (trees_of bs) e,
      )

  pub all_passed : check16 bs ≡ None → good (trees_of bs) ≡ accept bs
  unfolding unless
  all_passed f = sym (ap (λ (z : Option ℕ). unless 16 z (good (trees_of bs))) f) ∙ all_but_16

  pub only_16 : (p : ℕ) → check16 bs ≡ Some p → refused 16 p ≡ accept bs
  unfolding unless
  only_16 p f = sym (ap (λ (z : Option ℕ). unless 16 z (good (trees_of bs))) f) ∙ all_but_16

-- ---- an accepted forest, for those who go on with one

pub record Passed (bs : List ℕ) (ts : Trees) : Type 0 where
  pub shaped : Shaped bs
  pub shallow : check7 bs ≡ None
  pub one_shape : check16 bs ≡ None
  pub placed : check8 (trees_of bs) ≡ None
  pub fresh : check9 (trees_of bs) ≡ None
  pub bound : check10 (trees_of bs) ≡ None
  pub trees : trees_of bs ≡ ts

pub accept-passed : (bs : List ℕ) (ts : Trees) → accept bs ≡ good ts → Passed bs ts
unfolding accept checks
accept-passed bs ts e =
    let w = checked_good (checks bs) (trees_of bs) ts e in
    let two = w.0 in
    let four = two.1.1 in
    let six = four.1.1 in
    let eight = six.1.1.1 in
    let laid : Laid bs = record { header = two.0; directory = two.1.0 } in
    record {
      shaped = record { sound = record { laid = laid; fit = four.0; closed = six.0 }; agree = four.1.0 };
      shallow = six.1.0;
      one_shape = six.1.1.0;
      placed = eight.0;
      fresh = eight.1.0;
      bound = eight.1.1.0;
      trees = w.1;
    }

-- ---- accepted forests

pub passes_accepts : (bs : List ℕ) → WellFormed bs → Passes bs → accept bs ≡ good (trees_of bs)
unfolding accept checks checked unless
passes_accepts bs h p =
    rw (
      h.laid.header,
      h.laid.directory,
      h.fit,
      p.agree,
      h.closed,
      p.shallow,
      p.one_shape,
      p.placed,
      p.fresh,
      p.bound,
    )

pub accepts_passes : (bs : List ℕ) → good (trees_of bs) ≡ accept bs → Passes bs
accepts_passes bs e =
    let w = accept-passed bs (trees_of bs) (sym e) in
    record {
      agree = w.shaped.agree;
      shallow = w.shallow;
      one_shape = w.one_shape;
      placed = w.placed;
      fresh = w.fresh;
      bound = w.bound;
    }

pub few_records : (bs : List ℕ) → WellFormed bs → record_count bs ≤ 256
few_records bs h = (header_of bs h.laid.header).records_most

-- what the functions that answer hang on
pub ruleset answers = (
  few_records,
  accepts_passes,
  passed,
  failed,
  header_of,
  check_7,
  check_8,
  check_9,
  check_10,
  all_passed,
  only_16,
  frame_none,
  frame_then,
)
