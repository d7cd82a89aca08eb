-- `shape::parts::all_bits` meets its contract. Assumes nothing.
use Rattle.std.proofs.Common.{rules, tests, ltb, sym, ◌∙◌}
use Rattle.std.proofs.lemmas.Iterator.{YieldsList-from_slice}
use Rattle.std.proofs.lemmas.Iterator.Search.{all_from_yields_List}
use Rattle.shape.proofs.Part.{bits_is}
use Rattle.shape.proofs.parts.all_bits.Goals as goal

pub returns : goal.returns
returns c =
    all_from_yields_List (λ b. ltb b 2) _ _ _ c.all.ensures.ran (YieldsList-from_slice c.args.lit.now cc)
    (λ x b q k. search (rules, tests))
    ∙ sym (bits_is _)
