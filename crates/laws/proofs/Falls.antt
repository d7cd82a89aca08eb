-- Free lists, body order and neighbours go to lower symbols each time: children, free lists and neighbours of a symbol
-- are lower than it, and what a depth-first walk from a symbol holds is no higher. So the functions that call one
-- another in a cycle end.
--
-- In order: lists of lower numbers; walks; `body_falls`, `free_falls`, `neighbours_fall`, `schedule_low`.
-- Assumes nothing.
use mathlib.Core.Path.{refl, sym, subst}
use mathlib.Core.Logic.{◌⊎◌, inl, inr}
use mathlib.Core.List.{List, [], ◌∷◌}
use Prim.Native.Nat.{ℕ, zero, suc, ◌<◌}
use native.Mathlib.Omega.{arith}
use lib.ListN.{length, get_or}
use Rattle.model.specs.Down.{under}
use Rattle.model.specs.Gate.{Graph, sym_of}
use Rattle.model.specs.Schedule.{is_arg, rel_of, visit, body_only, body_neighbours, free_step, free_vars, neighbours}
use Rattle.model.specs.Schedule.{schedule}
use Rattle.laws.proofs.Induction.{strong}
use Rattle.laws.proofs.Down.{down_step}
use Rattle.laws.specs.Members.{Under}
use Rattle.laws.proofs.Walks.{under_holds, if_holds, every_none, every_rel, visit_every, body_every}
use Rattle.laws.proofs.Walks.{collect_every, order_every}

-- ---- lists of lower numbers

-- member j
pub under_at : (n : ℕ) (xs : List ℕ) → Under n xs → (j : ℕ) → j < length xs → get_or xs j 0 < n
under_at n [] h j l = absurd (omega arith)
under_at n (x ∷ xs) h zero l = h x (inl refl)
under_at n (x ∷ xs) h (suc j) l = under_at n xs (λ y m. h y (inr m)) j (omega arith)

-- what is at most d is below s
pub or-below : {A : Type 0} {x d s : ℕ} → d < s → A ⊎ (x < suc d) → A ⊎ (x < s)
or-below l (inl a) = inl a
or-below l (inr k) = inr (omega arith)

-- ---- walks

-- each symbol's neighbours are lower
abbrev pub Falls : (ℕ → List ℕ) → Type 0
Falls nb = (s : ℕ) → Under s (nb s)

-- a walk from s holds s and lower symbols
pub visit_low : (nb : ℕ → List ℕ) → Falls nb → (s : ℕ) → Under (suc s) (visit nb s [])
visit_low nb falls s =
    visit_every (λ x. x < suc s) nb (λ y l x m. omega (arith, falls y x m)) s (omega arith) [] (λ x m. absurd m)

-- ---- free lists, body order, neighbours

module _ (g : Graph) (kids_low : (s : ℕ) → Under s (sym_of g s).kids) where
  -- where free lists fall, body order's neighbours do
  pub body_falls : (fv : ℕ → List ℕ) → Falls fv → (cs : ℕ) → Falls (body_neighbours g fv cs)
  unfolding body_neighbours
  body_falls fv h cs s =
      every_rel (λ x. x < s) (rel_of g s cs) (body_only g cs (sym_of g s).kids) (body_only g cs (fv s))
      (body_every (λ x. x < s) g cs (sym_of g s).kids (kids_low s)) (body_every (λ x. x < s) g cs (fv s) (h s))

  step_falls : (fv : ℕ → List ℕ) → Falls fv → Falls (free_step g fv)
  unfolding free_step
  step_falls fv h c =
      let cs = (sym_of g c).scope in
      collect_every (λ x. x < c) g cs (λ s. s < suc c) fv
      (λ s l x m. omega (arith, order_every (λ x. x < s) (sym_of g s) (kids_low s) x m))
      (λ s l x m. omega (arith, h s x m)) (visit (body_neighbours g fv cs) c []) []
      (visit_low (body_neighbours g fv cs) (body_falls fv h cs) c) (λ x m. absurd m)

  pub free_falls : Falls (free_vars g)
  unfolding free_vars
  free_falls = strong (λ c. Under c (free_vars g c)) λ c ih.
      subst (Under c) (sym (down_step [] (free_step g) c))
      (step_falls (under [] c (free_vars g)) (λ s. under_holds (Under s) [] c (free_vars g) s (ih s) (λ x m. absurd m)) c)

  pub neighbours_fall : (sc : ℕ) → Falls (neighbours g sc)
  unfolding neighbours
  neighbours_fall sc s =
      if_holds (Under s) (is_arg (sym_of g s).node) [] _ (every_none (λ x. x < s))
      (every_rel (λ x. x < s) (rel_of g s sc) (sym_of g s).kids (free_vars g s) (kids_low s) (free_falls s))

  pub schedule_low : (root sc : ℕ) → Under (suc root) (schedule g root sc)
  unfolding schedule
  schedule_low root sc = visit_low (neighbours g sc) (neighbours_fall sc) root
