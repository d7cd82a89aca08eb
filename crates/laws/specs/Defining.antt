-- A scope's definitions, counted before the first of them is made.
--
-- In order: trees, and then trees; how many definitions there are.
-- Assumes nothing.
use Rattle.std.specs.Prelude.{ℕ, suc, true, false, List, [], ◌∷◌}
use Rattle.model.specs.Tree.{Trees, nil, cons}
use Rattle.model.specs.Intern.{Env}
use Rattle.model.specs.Gate.{Graph}
use Rattle.model.specs.Materialize.{member}

-- trees, and then trees
unfoldable pub join_t : Trees → Trees → Trees
join_t nil us = us
join_t (cons t ts) us = cons t (join_t ts us)

-- how many of `order` get a definition, seen from before the first of them
unfoldable pub members_in : Graph → ℕ → Env → List ℕ → ℕ
members_in g sc env [] = 0
members_in g sc env (s ∷ order) =
    elim (member g sc env s) [ true ↦ suc (members_in g sc env order) | false ↦ members_in g sc env order ]
