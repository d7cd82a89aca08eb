-- The code's answers as those of the definitions. Assumes nothing.
use Rattle.std.specs.Prelude.{ℕ, ◌<◌, ◌≡◌, List}
use Rattle.model.specs.Gate.{Graph}
use Rattle.model.specs.Schedule as model
use Rattle.scopes.specs.Scopes.{scopes_of}
use Rattle.scopes.specs.declared.Rel.{Rel}
use Rattle.scopes.specs.declared.Rel.TheVariants.{Local, Deeper, Outside}

abbrev pub rel_in : Rel → model.Rel
rel_in Local = model.local
rel_in Deeper = model.deeper
rel_in Outside = model.outside

-- r says where scope `sc` lies, seen from `cur`, in a graph whose scopes are in the words
abbrev pub Classified : List ℕ → ℕ → ℕ → Rel → Type 0
Classified ws sc cur r =
    (g : Graph) (m : ℕ) → sc < m → g.scopes ≡ scopes_of ws m → rel_in r ≡ model.classify g sc cur
