-- A forest's line, from what the call tells, lent 65,535 bytes and 16,384 words. In order: the line of an answer; a
-- refusal; a tree that is written.
-- Assumes nothing.
use Prim.Native.Nat.{ℕ}
use mathlib.Core.Path.{◌≡◌, refl, sym, ap, ap₂, ◌∙◌, subst}
use mathlib.Core.List.{List, append-nil}
use Rattle.std.specs.Prelude.{Ok, Err}
use lib.ListN.{length, take}
use Rattle.model.specs.Answer.{refused, good}
use Rattle.model.specs.Answer as answer
use Rattle.model.specs.Tree.{nil, cons, rows, rows_of}
use Rattle.model.specs.Forest.{rows_in}
use Rattle.model.specs.Accept.{accept}
use Rattle.model.specs.Intern.{State}
use Rattle.model.specs.Call.{Call, call_of, ample, tree_of, bytes_of, written_of, run, numbers}
use Rattle.model.specs.Call.{out_after}
use Rattle.model.specs.Call as call
use Rattle.model.specs.Lister.{refusal}
use Rattle.model.specs.TemplateLine.{two_values, verdict, line_of, template_line}
use Rattle.laws.proofs.Rows.{closed_trees}
use Rattle.record.specs.Record.{Laid}
use Rattle.codec.proofs.Accepting.{accept-passed}
use Rattle.refusal.specs.declared.Refusal.{Refusal}
use Rattle.refusal.specs.Refusal.{number_of}
use Rattle.cse.specs.declared.Written.{Written}
use Rattle.cse.specs.Call.{numbers_in}
use Rattle.cse.proofs.Told.{told_refused, told_written, written_bytes}

-- ---- the written tree's bytes

rows_again : (o : ℕ × State) → accept (bytes_of o) ≡ good (cons (tree_of o) nil) →
    Laid (bytes_of o) × (rows_in (bytes_of o) ≡ rows (tree_of o))
unfolding rows
rows_again o e =
    let q = accept-passed (bytes_of o) (cons (tree_of o) nil) e in
    let sound = q.shaped.sound in (
      sound.laid,
      sym (closed_trees (bytes_of o) sound.closed).1 ∙ ap rows_of q.trees ∙ append-nil (rows (tree_of o)),
    )

-- what is read of a forest, and of its tree, for the line
pub record Read (bs tree : List ℕ) : Type 0 where
  pub forest_laid : Laid bs
  pub tree_laid : Laid tree
  pub written : call.Written
  pub tree_rows : rows_in tree ≡ rows written.tree
  pub line : template_line bs ≡ verdict bs written (two_values bs)

module _ (bs out ws : List ℕ) (room : length out ≡ 65535) (words : length ws ≡ 16384) where
  abbrev lent : Call
  lent = call_of bs out ws

  line_of_lem : (a : answer.Answer call.Written) → run lent ≡ a → template_line bs ≡ line_of bs a
  unfolding template_line
  line_of_lem a e =
      let ask = ap₂ (λ (r w : ℕ). run (record { forest = bs; room = r; words = w })) room words in
      ap (line_of bs) (sym ask ∙ e)

  -- ---- a refusal

  pub refused_line : (d : Refusal) → numbers_in (Err d) ≡ numbers lent →
      refusal (number_of d.check) d.place ≡ template_line bs
  unfolding line_of
  refused_line d is = sym (line_of_lem (refused (number_of d.check) d.place) (told_refused lent (Err d) is out refl d refl))

  -- ---- a tree

  pub read-written : (w : Written) (out' : List ℕ) → numbers_in (Ok w) ≡ numbers lent → out' ≡ out_after lent out →
      Read bs (take w.length out')
  unfolding written_of line_of
  read-written w out' is left =
      let m = told_written lent (Ok w) is w refl in
      let o = m.out in
      let again = rows_again o m.rereads in
      let bytes = written_bytes lent m w is out out' left in
      record {
        forest_laid = (accept-passed bs _ m.accepts).shaped.sound.laid;
        tree_laid = subst Laid (sym bytes) again.0;
        written = written_of o;
        tree_rows = ap rows_in bytes ∙ again.1;
        line = line_of_lem (good (written_of o)) m.runs;
      }
