-- The line of a template by its numbers, for readers: `put_template` promises it. Assumes nothing.
use Prim.Native.Nat.{ℕ}
use mathlib.Core.Path.{◌≡◌, ap₂}
use mathlib.Core.List.{List, ◌++◌}
use Rattle.std.specs.Prelude.{None}
use Rattle.model.specs.Tree.{rows}
use Rattle.model.specs.Forest.{rows_in}
use Rattle.model.specs.Call.{Written}
use Rattle.model.specs.Text.{text}
use Rattle.model.specs.Lister.{numeral}
use Rattle.model.specs.Template.{definitions}
use Rattle.model.specs.TemplateLine.{parameters, verdict}

pub template_line_lem : (bs : List ℕ) (w : Written) (d p : ℕ) → d ≡ definitions (rows w.tree) →
    p ≡ parameters (rows_in bs) →
    text "template: " ++ numeral d ++ text " definitions, " ++ numeral p ++ text " parameters\n" ≡ verdict bs w None
unfolding verdict
template_line_lem bs w d p =
    ap₂ (λ (x y : ℕ). text "template: " ++ numeral x ++ text " definitions, " ++ numeral y ++ text " parameters\n")
