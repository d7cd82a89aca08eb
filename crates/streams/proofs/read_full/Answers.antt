-- `streams::read_full` meets its contract: each read adds what it took. Assumes nothing.
use Rattle.std.proofs.Common.{◌≡◌, ℕ, ◌+◌, ◌≤◌, List, ◌++◌, length, take, rules, sym, ap, ◌∙◌, subst, length-take-le}
use Rattle.std.proofs.Math.Seq.{take-append-add}
use Rattle.std.proofs.lemmas.List.{take-append-le}
use Rattle.std.specs.Io.KnownBytes.{Consumes}
use Rattle.std.proofs.KnownBytes.{Consumes-trans}
use borrow.Rule.Slice.PartMut.{put_mid, post_of}
use Rattle.streams.proofs.read_full.Goals as goal

-- what the first n bytes of ys add to the first a of xs
put_part : (a k n : ℕ) (xs ys : List ℕ) → a ≤ length xs → n ≤ length ys →
    take (a + n) (put_mid a k xs ys) ≡ take a xs ++ take n ys
put_part a k n xs ys within fits =
    ap (λ m. take (m + n) (put_mid a k xs ys)) (sym (length-take-le a xs within)) ∙
    take-append-add (take a xs) (ys ++ post_of a k xs) n ∙
    ap (λ l. take a xs ++ l) (take-append-le n ys (post_of a k xs) fits)

pub loop-done-preserved : goal.loop-done-preserved
loop-done-preserved g c =
    let w = c.loop-done.invariant in
    let read = c.in_ok-n.ensures in
    record {
      len = search rules;
      within = search rules;
      bytes =
          subst (Consumes _ _)
          (sym (put_part c.loop-done.done _ c.in_ok-n.n c.loop-done.buf c.read.new.buf w.within read.bound.0))
          (Consumes-trans _ _ _ _ _ w.bytes read.bytes.0);
    }
