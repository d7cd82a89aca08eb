-- The written tree as the pass leaves it in the output, what its definitions save, and how many records it has.
-- Assumes nothing.
use Prim.Native.Nat.{ℕ, ◌≤◌}
use mathlib.Core.Path.{◌≡◌, sym, ap, ◌∙◌}
use mathlib.Core.List.{List}
use Rattle.std.specs.Prelude.{Result, Ok}
use native.Mathlib.Omega.{arith}
use lib.ListN.{length, take}
use Rattle.model.specs.Tree.{nil, cons, size}
use Rattle.model.specs.Forest.{record_count}
use Rattle.model.specs.Accept.{accept}
use Rattle.model.specs.Call.{Call, tree_of, numbers, written}
use Rattle.model.specs.Savings.{savings}
use Rattle.laws.proofs.Header.{Header, header_of}
use Rattle.regions.specs.Regions.{WORDS}
use Rattle.codec.proofs.Accepting.{accept-passed}
use Rattle.refusal.specs.declared.Refusal.{Refusal}
use Rattle.savings.specs.Saved.{saved}
use Rattle.cse.specs.declared.Written.{Written}
use Rattle.cse.specs.Call.{numbers_in, Tells}
use Rattle.cse.proofs.Told.{Made, told_written, written_length, written_records, written_bytes}
use Rattle.listing.proofs.Told.{pass_numbers, pass_output}

pub record Left (c : Call) (w : Written) (mid : List ℕ) : Type 0 where
  pub made : Made c
  pub within : w.length ≤ length mid
  pub saves : saved (accept (take w.length mid)) ≡ savings (cons (tree_of made.out) nil)
  pub header : Header (take w.length mid)
  pub records : record_count (take w.length mid) ≡ size (tree_of made.out)

pub tree_left : (c : Call) → WORDS ≤ c.words → (out mid : List ℕ) (r : Result Written Refusal) → Tells (written c) out r mid →
    length out ≡ c.room → length mid ≡ length out → (w : Written) → r ≡ Ok w → Left c w mid
unfolding saved
tree_left c enough out mid r told room long w e =
    let is = pass_numbers c enough out mid r told in
    let own : numbers_in (Ok w) ≡ numbers c = ap numbers_in (sym e) ∙ is in
    let m = told_written c r is w e in
    let bytes = written_bytes c m w own out mid (pass_output c enough out mid r told) in
    record {
      made = m;
      within = omega (arith, written_length c m w own, m.fits, room, long);
      saves = ap (λ (bs : List ℕ). saved (accept bs)) bytes ∙ ap saved m.rereads;
      header = rw bytes (header_of _ (accept-passed _ _ m.rereads).shaped.sound.laid.header);
      records = ap record_count bytes ∙ written_records m.out;
    }
