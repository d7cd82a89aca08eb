-- `writer::put_fixed` meets its contract. Assumes nothing.
use mathlib.Core.Path.{ap, ◌∙◌}
use mathlib.Core.List.{List, [], ◌∷◌}
use Prim.Native.Nat.{ℕ}
use lib.ListN.{get_or}
use Rattle.model.specs.Bytes.{put16}
use Rattle.writer.specs.Writer.{fixed}
use Rattle.output.proofs.Numbers.{bytes_16}
use Rattle.output.proofs.Put.{put_as}
use Rattle.writer.proofs.put_fixed.Goals as goal

pub returns : goal.returns
unfolding fixed put16
returns c =
    let a = c.args in
    let e = c.to_le_bytes.ensures ∙ bytes_16 a.kids c.requires.kids_bound in
    put_as (ap (λ (b : List ℕ). a.shape ∷ a.opcode ∷ get_or b 0 0 ∷ get_or b 1 0 ∷ a.aux ∷ []) e) c.put_bytes.ensures
