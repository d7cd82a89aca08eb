-- The line that the program `template` prints of a forest: what is to be seen once, on the template. It is
--   template: 3 definitions, 2 parameters
--   two values of mark 5 at 12
--   refused 10 at 0
-- In order: a parameter's value; the first record that has another; how many parameters; the line; what it says, which
-- `theory` (Templates/Line) proves.
-- Assumes nothing.
use Rattle.std.specs.Prelude.{◌≡◌, ◌↔◌, ◌≢◌, Bool, not, ◌&&◌, List, [], ◌++◌, map, ℕ, zero, suc, ◌<◌, ◌≤◌, eqb, length, get_or, Option, None, Some}
use Rattle.model.specs.Lists.{same, first}
use Rattle.model.specs.Answer.{Answer, refused, good}
use Rattle.model.specs.Tree.{Rec, mark, Row, rows}
use Rattle.model.specs.Forest.{rows_in}
use Rattle.model.specs.Call.{Written, ample, run}
use Rattle.model.specs.Places.{First, no_record, record_at}
use Rattle.model.specs.Conditions.{Accepted}
use Rattle.model.specs.Text.{text}
use Rattle.model.specs.Lister.{numeral, refusal}
use Rattle.model.specs.Template.{is_parameter, StandsFor, Filling, fill_forest, Template, definitions, Clause}

-- ---- a parameter's value

unfoldable pub is_of : ℕ → Row → Bool
is_of a r = is_parameter r.rec && eqb r.rec.aux a

-- where parameter a stands first
unfoldable pub stands_at : ℕ → List Row → Option ℕ
stands_at a rs = first (map (is_of a) rs)

-- its literal there
unfoldable pub value_of : ℕ → List Row → List ℕ
value_of a rs = elim (stands_at a rs) [ None ↦ [] | Some p ↦ (get_or rs p no_record).rec.lit ]

-- ---- the first record whose aux over 6 had another literal earlier

-- the condition, said of record p
abbrev pub HadAnother : List ℕ → ℕ → Type 0
HadAnother forest p =
    (a : ℕ) × (q : ℕ) × (q < p) × StandsFor forest q a × StandsFor forest p a ×
    ((record_at forest q).rec.lit ≢ (record_at forest p).rec.lit)

-- the test: a parameter with another literal than the first record of it
unfoldable pub has_another : List Row → Rec → Bool
has_another rs r = is_parameter r && not (same r.lit (value_of r.aux rs))

unfoldable pub two_values : List ℕ → Option ℕ
two_values bs = first (map (λ r. has_another (rows_in bs) r.rec) (rows_in bs))

-- ---- parameters: the different aux over 6

-- how many of them are below n
unfoldable pub parameters_below : ℕ → List Row → ℕ
parameters_below zero rs = 0
parameters_below (suc a) rs = elim (stands_at a rs) [ Some p ↦ suc (parameters_below a rs) | None ↦ parameters_below a rs ]

-- an aux is a byte
unfoldable pub parameters : List Row → ℕ
parameters rs = parameters_below 256 rs

-- ---- the line

unfoldable pub verdict : List ℕ → Written → Option ℕ → List ℕ
verdict bs w None =
    text "template: " ++ numeral (definitions (rows w.tree)) ++ text " definitions, " ++
    numeral (parameters (rows_in bs)) ++ text " parameters\n"
verdict bs w (Some p) =
    text "two values of mark " ++ numeral (mark (record_at bs p).rec.aux) ++ text " at " ++ numeral p ++ text "\n"

-- the call is lent 65,535 output bytes; its refusal comes first
unfoldable pub line_of : List ℕ → Answer Written → List ℕ
line_of bs (refused n p) = refusal n p
line_of bs (good w) = verdict bs w (two_values bs)

unfoldable pub template_line : List ℕ → List ℕ
template_line bs = line_of bs (run (ample bs))

-- ---- what it says

-- of every forest
pub record LineSays (forest : List ℕ) : Type 0 where
  -- the place is that of the condition
  pub two_values_lem : (p : ℕ) → (two_values forest ≡ Some p) ↔ First (HadAnother forest) p
  -- an accepted forest with no such place is a template
  pub template : Accepted forest → (two_values forest ≡ None) ↔ Template forest
  -- so where the line begins with `template:`, the clause holds of every filling whose bytes fit
  pub clause : (w : Written) → run (ample forest) ≡ good w → two_values forest ≡ None → (f : Filling) →
      length (fill_forest f forest) ≤ 65535 → length (fill_forest f w.bytes) ≤ 65535 → Clause forest w f
