-- The order of a scope's symbols (materialize.rs: `classify`, `free_vars`, `body_schedule`, `neighbours`,
-- `schedule_order`). Free lists, body order and neighbours call one another, each time on lower symbols.
-- Assumes nothing.
use Rattle.std.specs.Prelude.{ℕ, suc, Bool, true, false, not, ◌&&◌, ◌||◌, List, [], ◌∷◌, ◌++◌, eqb}
use Rattle.model.specs.Lists.{is_in, add}
use Rattle.model.specs.Down.{down}
use Rattle.model.specs.Intern.{Node, constant, unparsed, argument, func, operation, Sym, scope_at, thunked}
use Rattle.model.specs.Gate.{Graph, sym_of}

abbrev pub is_arg : Node → Bool
is_arg constant = false
is_arg unparsed = false
is_arg argument = true
is_arg (func xs sc) = false
is_arg (operation brs) = false

-- ---- where a scope lies, seen from another

pub data Rel : Type 0 where
  local deeper outside : Rel

unfoldable pub classify : Graph → ℕ → ℕ → Rel
classify g sc cur =
    elim (eqb sc cur) [
      | true ↦ local
      | false ↦ elim (is_in cur (scope_at g.scopes sc).around) [ true ↦ deeper | false ↦ outside ]
    ]

-- where a symbol's scope lies, seen from scope `cur`
unfoldable pub rel_of : Graph → ℕ → ℕ → Rel
rel_of g s cur = classify g (sym_of g s).scope cur

abbrev pub is_outside : Rel → Bool
is_outside local = false
is_outside deeper = false
is_outside outside = true

-- ---- depth first

-- a step for each of a list, from left to right
unfoldable pub each : (ℕ → List ℕ → List ℕ) → List ℕ → List ℕ → List ℕ
each f [] out = out
each f (d ∷ ds) out = each f ds (f d out)

unfoldable pub visit_step : (ℕ → List ℕ) → (ℕ → List ℕ → List ℕ) → ℕ → List ℕ → List ℕ
visit_step nb go s out = elim (is_in s out) [ true ↦ out | false ↦ each go (nb s) out ++ (s ∷ []) ]

-- post-order from a symbol: each after its neighbours, and what is in `out` is not gone into again
unfoldable pub visit : (ℕ → List ℕ) → ℕ → List ℕ → List ℕ
visit nb = down (λ out. out) (visit_step nb)

-- ---- free lists

-- those of operands j on that are thunks (b = true), or that are not
unfoldable pub operands : Bool → ℕ → ℕ → List ℕ → List ℕ
operands b op j [] = []
operands true op j (k ∷ ks) =
    elim (thunked op j) [ true ↦ k ∷ operands true op (suc j) ks | false ↦ operands true op (suc j) ks ]
operands false op j (k ∷ ks) =
    elim (thunked op j) [ true ↦ operands false op (suc j) ks | false ↦ k ∷ operands false op (suc j) ks ]

-- `local_dep_order`: the children, thunks first
unfoldable pub local_dep_order : Sym → List ℕ
local_dep_order s = operands true s.rec.opcode 0 s.kids ++ operands false s.rec.opcode 0 s.kids

-- those of a list that are no arguments and lie in scope cs or deeper
unfoldable pub body_only : Graph → ℕ → List ℕ → List ℕ
body_only g cs [] = []
body_only g cs (d ∷ ds) =
    elim (is_arg (sym_of g d).node || is_outside (rel_of g d cs)) [
      | true ↦ body_only g cs ds
      | false ↦ d ∷ body_only g cs ds
    ]

-- body order's neighbours of s in scope cs; `fv` gives the free lists of lower symbols
unfoldable pub body_neighbours : Graph → (ℕ → List ℕ) → ℕ → ℕ → List ℕ
body_neighbours g fv cs s =
    elim (rel_of g s cs) [
      | local ↦ body_only g cs (sym_of g s).kids
      | deeper ↦ body_only g cs (fv s)
      | outside ↦ []
    ]

-- those of a list that are no arguments and lie outside scope cs, put at the end of `out`, each once
unfoldable pub outsiders : Graph → ℕ → List ℕ → List ℕ → List ℕ
outsiders g cs [] out = out
outsiders g cs (d ∷ ds) out =
    elim (not (is_arg (sym_of g d).node) && is_outside (rel_of g d cs)) [
      | true ↦ outsiders g cs ds (add out d)
      | false ↦ outsiders g cs ds out
    ]

-- the outsiders of a body's symbols, in body order
unfoldable pub collect : Graph → (ℕ → List ℕ) → ℕ → List ℕ → List ℕ → List ℕ
collect g fv cs [] out = out
collect g fv cs (s ∷ ss) out =
    let ds : List ℕ = elim (rel_of g s cs) [ local ↦ local_dep_order (sym_of g s) | deeper ↦ fv s | outside ↦ [] ] in
    collect g fv cs ss (outsiders g cs ds out)

unfoldable pub free_step : Graph → (ℕ → List ℕ) → ℕ → List ℕ
free_step g fv c =
    let cs = (sym_of g c).scope in
    collect g fv cs (visit (body_neighbours g fv cs) c []) []

-- `free_vars`: what a symbol refers to outside its scope
unfoldable pub free_vars : Graph → ℕ → List ℕ
free_vars g = down [] (free_step g)

-- ---- the schedule of a scope

unfoldable pub neighbours : Graph → ℕ → ℕ → List ℕ
neighbours g sc s =
    elim (is_arg (sym_of g s).node) [
      | true ↦ []
      | false ↦ elim (rel_of g s sc) [ local ↦ (sym_of g s).kids | deeper ↦ free_vars g s | outside ↦ [] ]
    ]

unfoldable pub schedule : Graph → ℕ → ℕ → List ℕ
schedule g root sc = visit (neighbours g sc) root []
