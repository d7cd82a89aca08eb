-- The definitions' answer, from the numbers that the call tells, for those that call it. In order: a refusal; a tree; its
-- bytes, and their count of records.
-- Assumes nothing.
use Prim.Native.Nat.{ℕ, ◌+◌, ◌≤◌}
use mathlib.Core.Path.{◌≡◌, refl, sym, ap, ◌∙◌, subst}
use mathlib.Core.Logic.{inl}
use mathlib.Core.List.{List}
use Rattle.std.specs.Prelude.{Result, Ok, Err}
use native.Mathlib.Omega.{arith}
use lib.ListN.{length, take, drop, replicate, length-replicate}
use lib.Seq.{take_at}
use Rattle.model.specs.Lists.{is_in}
use Rattle.model.specs.Answer.{refused, good, ◌>>=◌}
use Rattle.model.specs.Answer as answer
use Rattle.model.specs.Tree.{nil, cons, many, size, rows_of, serialise}
use Rattle.model.specs.Forest.{record_count, trees_of}
use Rattle.model.specs.Accept.{accept}
use Rattle.model.specs.Intern.{State}
use Rattle.model.specs.Call.{Call, ample, interned, tree_of, bytes_of, written_of, run, Numbers, numbers_of, numbers}
use Rattle.model.specs.Call.{out_with, out_after}
use Rattle.model.specs.Call as call
use Rattle.model.specs.Conditions.{at_2}
use Rattle.laws.proofs.Apart.{good_inj}
use Rattle.laws.proofs.Checks.{passes_checked}
use Rattle.laws.proofs.Rows.{sizes_rows}
use Rattle.theory.proofs.Acceptance.Bytes.{laid_count}
use Rattle.theory.proofs.Demand3.{demand_3}
use Rattle.theory.proofs.Demand3.Counted.{interned_exactly}
use Rattle.theory.proofs.Demand3.Order.{call_passes, accepted_exactly}
use Rattle.theory.proofs.Demand3.Exactly.{zero_passes}
use Rattle.refusal.specs.declared.Refusal.{Refusal}
use Rattle.refusal.specs.Refusal.{number_of}
use Rattle.cse.specs.declared.Written.{Written}
use Rattle.cse.specs.Call.{five, numbers_in}

-- after number 0 the forest is accepted and its symbols are made; the written bytes fit, and read again they are the
-- tree
pub record Made (c : Call) : Type 0 where
  pub out : ℕ × State
  pub accepts : accept c.forest ≡ good (trees_of c.forest)
  pub interns : interned c.forest ≡ good out
  pub runs : run c ≡ good (written_of out)
  pub fits : length (bytes_of out) ≤ c.room
  pub rereads : accept (bytes_of out) ≡ good (cons (tree_of out) nil)

module _ (c : Call) (r : Result Written Refusal) (is : numbers_in r ≡ numbers c) where
  -- ---- a refusal

  -- its numbers are not those of a tree, whose bytes are accepted and so not none
  not_written : (out : List ℕ) → length out ≡ c.room → (numbers c).number ≡ 0 → (numbers c).len ≡ 0 → ⊥
  unfolding is_in
  not_written out l zero none =
      let w = (demand_3 c out l).writes zero in
      w.accepted (ample (bytes_of w.interned)) refl 2 0 refl
      (at_2 (inl (omega (arith, ap (λ (z : Numbers). z.len) w.answers, none))))

  pub told_refused : (out : List ℕ) → length out ≡ c.room → (d : Refusal) → r ≡ Err d →
      run c ≡ refused (number_of d.check) d.place
  unfolding numbers numbers_of
  told_refused out l d e = go (run c) refl
    where
      told : five (number_of d.check) d.place 0 0 0 ≡ numbers_of (run c)
      told = ap numbers_in (sym e) ∙ is

      go : (a : answer.Answer call.Written) → run c ≡ a → run c ≡ refused (number_of d.check) d.place
      go (refused m q) f =
          let same = told ∙ ap numbers_of f in
          let x : number_of d.check ≡ m = ap (λ (z : Numbers). z.number) same in
          let y : d.place ≡ q = ap (λ (z : Numbers). z.place) same in
          rw (f, x, y)
      go (good w) f =
          absurd (not_written out l (ap (λ (a : answer.Answer call.Written). (numbers_of a).number) f)
          (sym (ap (λ (z : Numbers). z.len) told)))

  -- ---- a tree

  pub told_written : (w : Written) → r ≡ Ok w → Made c
  unfolding interned ◌>>=◌ accept
  told_written y e =
      let zero : (numbers c).number ≡ 0 = sym (ap (λ (z : Numbers). z.number) (ap numbers_in (sym e) ∙ is)) in
      let w = call_passes c (zero_passes c zero) in
      let accepts : accept c.forest ≡ good (trees_of c.forest) = passes_checked _ (trees_of c.forest) w.0 in
      let v = (demand_3 c (replicate c.room 0) (length-replicate c.room 0)).writes zero in
      let same : v.interned ≡ w.1.0 = good_inj (sym ((interned_exactly c.forest v.interned).1 v.defined) ∙ w.1.1) in
      record {
        out = w.1.0;
        accepts = accepts;
        interns = rw accepts w.1.1;
        runs = w.1.2;
        fits = subst (λ (o : ℕ × State). length (bytes_of o) ≤ c.room) same v.fits_in;
        rereads =
            subst (λ (o : ℕ × State). accept (bytes_of o) ≡ good (cons (tree_of o) nil)) same
            ((accepted_exactly (bytes_of v.interned)).1 v.accepted ∙ ap good v.reads_back);
      }

-- ---- a tree's count of records, and its bytes in the output

pub written_records : (o : ℕ × State) → record_count (bytes_of o) ≡ size (tree_of o)
unfolding bytes_of serialise many size
written_records o =
    let t = tree_of o in
    let e : size t + 0 ≡ size t = omega arith in
    laid_count 1 (rows_of (cons t nil)) ∙ sizes_rows (cons t nil) ∙ e

module _ (c : Call) (m : Made c) (w : Written) (is : numbers_in (Ok w) ≡ numbers c) where
  pub written_length : w.length ≡ length (bytes_of m.out)
  unfolding numbers numbers_of written_of
  written_length = ap (λ (z : Numbers). z.len) (is ∙ ap numbers_of m.runs)

  pub written_bytes : (out out' : List ℕ) → out' ≡ out_after c out → take w.length out' ≡ bytes_of m.out
  unfolding out_after out_with written_of
  written_bytes out out' left =
      ap (take w.length) (left ∙ ap (λ (a : answer.Answer call.Written). out_with a out) m.runs) ∙
      take_at (bytes_of m.out) (drop (length (bytes_of m.out)) out) w.length (sym written_length)
