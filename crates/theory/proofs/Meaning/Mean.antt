-- What a symbol stands for, whatever tree it came from: `mean`, the bridge between the forest and the written tree.
--
-- A symbol's meaning is an unfolding, given what argument symbols stand for (`Val`) and the number d of lambdas around.
-- In order: valuations; children; a symbol by its node; `mean`. Interning is shown to keep it (Interning), and building
-- too (Building), so that both trees unfold alike; its laws are in Coincide.
-- Assumes nothing.
use Prim.Native.Nat.{ℕ, suc, ◌-◌}
use mathlib.Core.Bool.{true, false}
use mathlib.Core.List.{List, [], ◌∷◌, map}
use lib.Dec.{eqb}
use Rattle.model.specs.Down.{down}
use Rattle.model.specs.Unfold.{Unfolded, Unfoldeds, arg, lam, made, done, more}
use Rattle.model.specs.Intern.{Node, constant, unparsed, argument, func, operation, Sym, sym_at}

-- what argument symbols stand for, at the d of a use
abbrev pub Val : Type 0
Val = ℕ → ℕ → Unfolded

abbrev pub Mean : Type 0
Mean = Val → ℕ → Unfolded

-- the argument symbols of lambda e, from position p on, bound: "a use of d less e and the position"
unfoldable pub bind_syms : ℕ → ℕ → List (ℕ × List ℕ) → Val → Val
bind_syms e p [] ρ = ρ
bind_syms e p (x ∷ xs) ρ = λ s d. elim (eqb x.0 s) [ true ↦ arg (d - e) p | false ↦ bind_syms e (suc p) xs ρ s d ]

unfoldable pub mean_all : (ℕ → Mean) → List ℕ → Val → ℕ → Unfoldeds
mean_all f [] ρ d = done
mean_all f (k ∷ ks) ρ d = more (f k ρ d) (mean_all f ks ρ d)

-- symbol s, which is y, by its node; `f` gives the meaning of lower symbols
unfoldable pub mean_node : (ℕ → Mean) → Node → Sym → ℕ → Mean
mean_node f constant y s ρ d = made y.rec (mean_all f y.kids ρ d)
mean_node f unparsed y s ρ d = made y.rec (mean_all f y.kids ρ d)
mean_node f argument y s ρ d = ρ s d
mean_node f (func xs sc) y s ρ d =
    let body = mean_all f y.kids (bind_syms (suc d) 0 xs ρ) (suc d) in
    lam y.rec.shape y.rec.opcode y.rec.aux (map (λ x. x.1) xs) body
mean_node f (operation brs) y s ρ d = made y.rec (mean_all f y.kids ρ d)

unfoldable pub mean_step : List Sym → (ℕ → Mean) → ℕ → Mean
mean_step ss f s = mean_node f (sym_at ss s).node (sym_at ss s) s

-- the meaning of a symbol of the list
unfoldable pub mean : List Sym → ℕ → Mean
mean ss = down (λ ρ d. arg 0 0) (mean_step ss)
