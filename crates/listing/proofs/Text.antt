-- The lister's text, over the output that the pass left. In order: which text; where it stands.
-- Assumes nothing.
use Prim.Native.Nat.{ℕ, ◌≤◌}
use mathlib.Core.Path.{◌≡◌, sym, ap, ◌∙◌}
use mathlib.Core.List.{List, ◌++◌}
use native.Mathlib.Omega.{arith}
use lib.ListN.{length, take, drop}
use lib.Seq.{take_at, drop_at}
use Rattle.model.specs.Answer.{refused, good, ◌>>=◌}
use Rattle.model.specs.Answer as answer
use Rattle.model.specs.Intern.{State}
use Rattle.model.specs.Gate.{usage}
use Rattle.model.specs.Call.{Call, ample, interned, reached_of, Written, measured, written, run, out_after}
use Rattle.model.specs.Tree.{nil, cons}
use Rattle.model.specs.Savings.{savings}
use Rattle.model.specs.Rules.{rules_of}
use Rattle.model.specs.Lister.{lines_of, lister, symbol_lines, saving_lines, rule_lines, refusal}
use Rattle.regions.specs.Regions.{WORDS}
use Rattle.output.proofs.Over.{over_front}
use Rattle.output.specs.Output.{Wrote}
use Rattle.cse.proofs.Telling.{run_enough}
use Rattle.listing.specs.Listing.{Listed}

-- where a tree is written
abbrev pub text_for : Written → ℕ × State → List ℕ
text_for w o =
    symbol_lines (usage (reached_of o)) o.1.syms ++ saving_lines (savings (cons w.tree nil)) ++ rule_lines (rules_of o)

-- the call is lent 65,535 bytes and enough words
module _ (c : Call) (room : c.room ≡ 65535) (enough : WORDS ≤ c.words) where
  run_lent : run (ample c.forest) ≡ run c
  unfolding written
  run_lent =
      run_enough (ample c.forest) (omega arith) ∙ ap (λ (n : ℕ). interned c.forest >>= measured n) (sym room) ∙
      sym (run_enough c enough)

  -- ---- which text

  lister_of : (a : answer.Answer Written) → run c ≡ a → lister c.forest ≡ lines_of a (interned c.forest)
  unfolding lister
  lister_of a e = ap (λ (x : answer.Answer Written). lines_of x (interned c.forest)) (run_lent ∙ e)

  lister_refused : (n p : ℕ) → run c ≡ refused n p → lister c.forest ≡ refusal n p
  unfolding lines_of
  lister_refused n p e = lister_of (refused n p) e

  lister_good : (w : Written) (o : ℕ × State) → run c ≡ good w → interned c.forest ≡ good o →
      lister c.forest ≡ text_for w o
  unfolding lines_of
  lister_good w o e f = lister_of (good w) e ∙ ap (lines_of (good w)) f

  -- ---- where it stands

  -- over what the call left
  module _ (out mid out' : List ℕ) (r : ℕ) (left : mid ≡ out_after c out) (long : length mid ≡ length out) where
    text_stands : {text : List ℕ} → lister c.forest ≡ text → Wrote mid 0 text out' r → Listed c out out' r
    text_stands {text} is w =
        let e : r ≡ length text = omega (arith, w.ends) in
        let parts : out' ≡ text ++ drop r mid =
        w.holds ∙ over_front mid text ∙ ap (λ (k : ℕ). text ++ drop k mid) (sym e) in
        record {
          len = e ∙ ap length (sym is);
          fits = omega (arith, w.fits);
          text = ap (take r) parts ∙ take_at text (drop r mid) r (sym e) ∙ sym is;
          rest = ap (drop r) parts ∙ drop_at text (drop r mid) r (sym e) ∙ ap (drop r) left;
        }

    pub refusal-listed : (n p : ℕ) → run c ≡ refused n p → Wrote mid 0 (refusal n p) out' r → Listed c out out' r
    refusal-listed n p e = text_stands (lister_refused n p e)

    pub lines_listed : (w : Written) (o : ℕ × State) → run c ≡ good w → interned c.forest ≡ good o →
        Wrote mid 0 (text_for w o) out' r →
        Listed c out out' r
    lines_listed w o e f = text_stands (lister_good w o e f)
