-- A free list made from the free lists of lower symbols, without walking a body: what each child gives, in order, and
-- then what the symbol itself needs from outside.
--
-- In order: what a symbol of a body gives (`give`); a free list gathered (`gather_step`).
-- Not here: that this is the free list (proofs/Gather).
-- Assumes nothing.
use Rattle.std.specs.Prelude.{ℕ, List, []}
use Rattle.model.specs.Lists.{union}
use Rattle.model.specs.Down.{down}
use Rattle.model.specs.Gate.{Graph, sym_of}
use Rattle.model.specs.Schedule.{local, deeper, outside, rel_of, each, local_dep_order, body_only, outsiders}

-- what symbol s of a body in scope cs puts at the end of `out`, each once: a local symbol its free list; a deeper one
-- what the body's symbols in its free list give, and the outsiders of its free list. `fv` gives the free lists, `go`
-- what lower symbols give
unfoldable pub give_step : Graph → (ℕ → List ℕ) → ℕ → (ℕ → List ℕ → List ℕ) → ℕ → List ℕ → List ℕ
give_step g fv cs go s out =
    elim (rel_of g s cs) [
      | local ↦ union out (fv s)
      | deeper ↦ outsiders g cs (fv s) (each go (body_only g cs (fv s)) out)
      | outside ↦ out
    ]

unfoldable pub give : Graph → (ℕ → List ℕ) → ℕ → ℕ → List ℕ → List ℕ
give g fv cs = down (λ out. out) (give_step g fv cs)

-- the free list of c from those of lower symbols
unfoldable pub gather_step : Graph → (ℕ → List ℕ) → ℕ → List ℕ
gather_step g fv c =
    let cs = (sym_of g c).scope in
    outsiders g cs (local_dep_order (sym_of g c)) (each (give g fv cs) (body_only g cs (sym_of g c).kids) [])
