-- "Unfolding, for demand 3": what a tree means. It takes nothing from the pass.
-- Assumes nothing.
use Rattle.std.specs.Prelude.{ℕ, suc, ◌-◌, Bool, true, false, List, [], ◌∷◌, map, eqb}
use Rattle.model.specs.Tree.{Rec, Tree, Trees, node, nil, cons, is_nil, top}
use Rattle.model.specs.Binding.{Kind, kind, val_use, val_def, block, lambda, field, other, id_of, args_of}

mutual
  pub data Unfolded : Type 0 where
    -- a use of an argument: so many lambdas out, 0 the nearest, and its position
    arg : ℕ → ℕ → Unfolded
    -- a lambda: shape, opcode, aux, the opts in order, its body
    lam : ℕ → ℕ → ℕ → List (List ℕ) → Unfoldeds → Unfolded
    -- any other record and its children
    made : Rec → Unfoldeds → Unfolded

  pub data Unfoldeds : Type 0 where
    done : Unfoldeds
    more : Unfolded → Unfoldeds → Unfoldeds

-- what is in force: an id, and what a use of it is at the d of the use
abbrev pub Meaning : Type 0
Meaning = List (ℕ × (ℕ → Unfolded))

-- a use at d; an id not in force is never met in an accepted forest
unfoldable pub meaning : Meaning → ℕ → ℕ → Unfolded
meaning [] i d = arg 0 0
meaning (m ∷ ms) i d = elim (eqb m.0 i) [ true ↦ m.1 d | false ↦ meaning ms i d ]

-- the arguments of lambda e, from position p on: "a use of d less e and the position"
unfoldable pub bind_from : ℕ → ℕ → List (ℕ × List ℕ) → Meaning → Meaning
bind_from e p [] ms = ms
bind_from e p (a ∷ xs) ms = (a.0, λ d. arg (d - e) p) ∷ bind_from e (suc p) xs ms

-- a record by its kind: `all` unfolds its children, `result` gives what a block of them gives
unfoldable pub unfold_kind : Kind → Rec → (Meaning → ℕ → Unfoldeds) → (Meaning → ℕ → Unfolded) → Meaning → ℕ → Unfolded
unfold_kind val_use r all result ms d = meaning ms (id_of r) d
unfold_kind val_def r all result ms d = result ms d
unfold_kind block r all result ms d = result ms d
unfold_kind lambda r all result ms d =
    let xs = args_of r.aux r.lit in
    lam r.shape r.opcode r.aux (map (λ a. a.1) xs) (all (bind_from (suc d) 0 xs ms) (suc d))
unfold_kind field r all result ms d = made r (all ms d)
unfold_kind other r all result ms d = made r (all ms d)

-- a block's child: the last is the result; any other binds its id to its value "and to what was in force before it"
unfoldable pub unfold_item : Bool → ℕ → (Meaning → ℕ → Unfolded) → (Meaning → ℕ → Unfolded) → Meaning → ℕ → Unfolded
unfold_item true i item rest ms d = item ms d
unfold_item false i item rest ms d = rest ((i, λ e. item ms e) ∷ ms) d

-- a tree, with what is in force and the number of lambdas around
unfoldable mutual
  pub unfold_at : Tree → Meaning → ℕ → Unfolded
  unfold_at (node r ts) ms d = unfold_kind (kind r.shape) r (λ m e. unfold_all ts m e) (λ m e. unfold_last ts m e) ms d

  pub unfold_all : Trees → Meaning → ℕ → Unfoldeds
  unfold_all nil ms d = done
  unfold_all (cons t ts) ms d = more (unfold_at t ms d) (unfold_all ts ms d)

  -- what a block of these children gives; a definition's one child gives its value
  pub unfold_last : Trees → Meaning → ℕ → Unfolded
  unfold_last nil ms d = arg 0 0
  unfold_last (cons t ts) ms d =
      unfold_item (is_nil ts) (id_of (top t)) (λ m e. unfold_at t m e) (λ m e. unfold_last ts m e) ms d

-- "0 and nothing at the root"
unfoldable pub unfolded : Tree → Unfolded
unfolded t = unfold_at t [] 0
