-- `sheet::clip::put_spaces` meets its contract. Assumes nothing.
use mathlib.Core.Path.{refl}
use borrow.Author.Rules.{rules}
use Rattle.sheet.proofs.Clipping.{spaces_put}
use Rattle.sheet.proofs.clip.put_spaces.Goals as goal

pub returns : goal.returns
returns c =
    spaces_put _ _ _ c.min.ensures (search rules) refl refl refl
