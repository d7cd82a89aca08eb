-- The check by itself, as model has it. In order: what is lent; number and place; entries and words, refused or not.
-- Assumes nothing.
use Prim.Native.Nat.{ℕ, ◌<◌, ◌≤◌}
use mathlib.Core.Path.{◌≡◌, ap, sym, ◌∙◌}
use mathlib.Core.List.{List}
use native.Mathlib.Omega.{arith}
use borrow.Author.Tests.{lt-ltb, le-ltb}
use lib.ListN.{length, replicate}
use Rattle.std.specs.Prelude.{Ok, Err}
use Rattle.model.specs.Answer.{Answer, refused, good, unless}
use Rattle.model.specs.Tree.{Trees}
use Rattle.model.specs.Accept.{accept}
use Rattle.model.specs.Call.{check1, work_after}
use Rattle.model.specs.Ends.{ends_of, entries_of, entries, checking, told}
use Rattle.laws.specs.Frame.{Frame}
use Rattle.laws.proofs.Frame.{frame_drop}
use Rattle.regions.specs.Regions.{IDS, WORDS, end}
use Rattle.refusal.specs.declared.Refusal.{Refusal}
use Rattle.refusal.specs.Refusal.{number_of}
use Rattle.cse.specs.Call.{cleared}
use Rattle.cse.specs.Check.{told_in}
use Rattle.cse.proofs.Words.{after_enough, cleared_kept}

-- ---- what is lent

module _ (words : ℕ) (forest : List ℕ) where
  pub checking_few : words < WORDS → checking words forest ≡ refused 1 0
  unfolding checking check1 unless
  checking_few h = rw (lt-ltb words WORDS h)

  pub checking_enough : WORDS ≤ words → checking words forest ≡ accept forest
  unfolding checking check1 unless
  checking_enough h = rw (le-ltb words WORDS h)

-- ---- number and place

pub told_refused : (a : Answer Trees) (r : Refusal) → refused (number_of r.check) r.place ≡ a → told_in (Err r) ≡ told a
unfolding told
told_refused a r e = ap told e

pub told_good : (a : Answer Trees) (ts : Trees) → good ts ≡ a → told_in (Ok tt) ≡ told a
unfolding told
told_good a ts e = ap told e

-- ---- entries and words

pub few_entries : (words : ℕ) (bs es : List ℕ) → words < WORDS → length es ≡ 256 →
    replicate (length es) 0 ≡ entries_of (checking words bs)
unfolding entries_of ends_of
few_entries words bs es few long = rw (checking_few words bs few, long)

module _ (bs ws : List ℕ) (enough : WORDS ≤ length ws) where
  pub enough_entries : (es : List ℕ) → es ≡ entries bs → es ≡ entries_of (checking (length ws) bs)
  enough_entries es e = e ∙ ap entries_of (sym (checking_enough (length ws) bs enough))

  -- the words of IDS alone changed, and then all that are lent were cleared
  pub enough_words : (used new : List ℕ) → Frame IDS.first (end IDS) ws used → new ≡ cleared WORDS used → new ≡ work_after ws
  enough_words used new kept e =
      e
      ∙ cleared_kept ws WORDS used (frame_drop IDS.first (end IDS) WORDS ws used kept (omega arith))
      ∙ after_enough ws enough
