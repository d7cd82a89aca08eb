-- A lambda's arguments, in a literal an id and an opt each, in a node a symbol and an opt each. In order: the list and
-- its parts; opts. Assumes nothing.
use Rattle.std.specs.Prelude.{◌≡◌, List, [], ◌∷◌, ◌++◌, map, ℕ, Some}
use Rattle.model.specs.Tree.{Rec}
use Rattle.model.specs.Shape.{a_opt}
use Rattle.model.specs.Binding.{args_of}

-- an id or a symbol, and an opt
abbrev pub ArgList : Type 0
ArgList = List (ℕ × List ℕ)

abbrev pub syms_in : ArgList → List ℕ
syms_in xs = map (λ x. x.0) xs

abbrev pub opts_in : ArgList → List (List ℕ)
opts_in xs = map (λ x. x.1) xs

-- those that a lambda's record binds
abbrev pub bound_by : Rec → ArgList
bound_by r = args_of r.aux r.lit

-- an opt reads as itself, whatever follows
abbrev pub IsOpt : List ℕ → Type 0
IsOpt o = (rest : List ℕ) → a_opt (o ++ rest) ≡ Some rest

abbrev pub AllOpts : List (List ℕ) → Type 0
AllOpts [] = Unit {0}
AllOpts (o ∷ os) = IsOpt o × AllOpts os
