-- What a scope's schedule holds is reached from its result by children; and what a reached symbol depends on is bound
-- on the way, or the result depends on it.
--
-- In order: reached by children (`Below`); free lists and the schedule (`schedule-below`); the way up (`below_deps`).
-- Scopes uses the last two: a definition may be built in the scope where it stands.
-- Assumes nothing.
use mathlib.Core.Path.{◌≡◌, refl, sym, subst}
use mathlib.Core.Logic.{◌⊎◌, inl, inr}
use mathlib.Core.List.{List, []}
use Prim.Native.Nat.{ℕ, ◌≤◌, ◌<◌}
use native.Mathlib.Omega.{arith}
use Rattle.model.specs.Down.{under}
use Rattle.model.specs.Intern.{Node, constant, unparsed, argument, operation, func, Sym, Scope}
use Rattle.model.specs.Gate.{Graph, sym_of}
use Rattle.model.specs.Schedule.{is_arg, rel_of, visit, local_dep_order, body_only, body_neighbours, free_step, free_vars}
use Rattle.model.specs.Schedule.{neighbours, schedule}
use Rattle.laws.proofs.Induction.{strong}
use Rattle.laws.proofs.Down.{down_step}
use Rattle.laws.specs.Members.{In, Every}
use Rattle.laws.proofs.Walks.{if_holds, under_holds, every_none, every_rel, visit_every, body_every, collect_every}
use Rattle.laws.proofs.Walks.{order_every}
use Rattle.laws.specs.ArgLists.{ArgList, syms_in}
use Rattle.theory.specs.Good.{NodeOk, Goods, deps_at, sym_kids, node_at}
use Rattle.theory.proofs.Interning.Good.{lam_cover}

-- ---- reached by children

pub data Below (ss : List Sym) (r : ℕ) : ℕ → Type 0 where
  here : Below ss r r
  kid : (y k : ℕ) → Below ss r y → In k (sym_kids ss y) → Below ss r k

pub below_then : (ss : List Sym) (r y s : ℕ) → Below ss r y → Below ss y s → Below ss r s
below_then ss r y s h here = h
below_then ss r y s h (kid x k b l) = kid x k (below_then ss r y x h b) l

-- ---- free lists and the schedule

module _ (g : Graph) where
  abbrev Reached : ℕ → ℕ → Type 0
  Reached r = Below g.syms r

  kids_below : (r s : ℕ) → Reached r s → Every (Reached r) (sym_of g s).kids
  kids_below r s h k m = kid s k h m

  free_vars-below : (c : ℕ) → Every (Reached c) (free_vars g c)
  unfolding free_vars free_step body_neighbours
  free_vars-below = strong (λ c. Every (Reached c) (free_vars g c)) λ c ih.
      subst (Every (Reached c)) (sym (down_step [] (free_step g) c))
      (step c (under [] c (free_vars g)) λ s.
      under_holds (Every (Reached s)) [] c (free_vars g) s (ih s) (every_none (Reached s)))
    where
      step : (c : ℕ) (fv : ℕ → List ℕ) → ((s : ℕ) → Every (Reached s) (fv s)) → Every (Reached c) (free_step g fv c)
      step c fv h =
          collect_every (Reached c) g cs (Reached c) fv order free (visit (body_neighbours g fv cs) c []) []
          (visit_every (Reached c) (body_neighbours g fv cs) near c here [] (every_none (Reached c)))
          (every_none (Reached c))
        where
          cs : ℕ
          cs = (sym_of g c).scope

          order : (s : ℕ) → Reached c s → Every (Reached c) (local_dep_order (sym_of g s))
          order s p = order_every (Reached c) (sym_of g s) (kids_below c s p)

          free : (s : ℕ) → Reached c s → Every (Reached c) (fv s)
          free s p t m = below_then g.syms c s t p (h s t m)

          near : (s : ℕ) → Reached c s → Every (Reached c) (body_neighbours g fv cs s)
          near s p =
              every_rel (Reached c) (rel_of g s cs) (body_only g cs (sym_of g s).kids) (body_only g cs (fv s))
              (body_every (Reached c) g cs (sym_of g s).kids (kids_below c s p))
              (body_every (Reached c) g cs (fv s) (free s p))

  pub schedule-below : (r sc : ℕ) → Every (Below g.syms r) (schedule g r sc)
  unfolding schedule neighbours
  schedule-below r sc = visit_every (Reached r) (neighbours g sc) near r here [] (every_none (Reached r))
    where
      near : (s : ℕ) → Reached r s → Every (Reached r) (neighbours g sc s)
      near s p =
          if_holds (Every (Reached r)) (is_arg (sym_of g s).node) [] _ (every_none (Reached r))
          (every_rel (Reached r) (rel_of g s sc) (sym_of g s).kids (free_vars g s) (kids_below r s p)
          (λ t m. below_then g.syms r s t p (free_vars-below s t m)))

-- ---- the way up: what a symbol depends on is bound by a lambda on the way, or the top depends on it

-- a lambda up to r has a among its arguments
pub record BoundUpTo (ss : List Sym) (r a : ℕ) : Type 0 where
  pub lam : ℕ
  pub low : lam ≤ r
  pub args : ArgList
  pub scope : ℕ
  pub node_is : node_at ss lam ≡ func args scope
  pub has : In a (syms_in args)

module _ (ss : List Sym) (scs : List Scope) (n : ℕ) (good : Goods ss scs n) (r : ℕ) (low : r < n) where
  pub below_low : (s : ℕ) → Below ss r s → s ≤ r
  below_low s here = omega arith
  below_low s (kid y k b m) = let l = below_low y b in omega (arith, l, (good y (omega (arith, l, low))).low k m)

  kid_deps : (y k a : ℕ) → y ≤ r → In k (sym_kids ss y) → In a (deps_at ss k) → In a (deps_at ss y) ⊎ BoundUpTo ss r a
  kid_deps y k a l m d = go (node_at ss y) refl (good y (omega (arith, l, low))).node_is
    where
      go : (nd : Node) → node_at ss y ≡ nd → NodeOk ss scs y nd → In a (deps_at ss y) ⊎ BoundUpTo ss r a
      go constant e h = inl (h.0.cover k a m d)
      go unparsed e h = inl (h.0.cover k a m d)
      go argument e h = absurd (rw h.1 at m)
      go (func xs b) e h = turn (lam_cover ss scs y xs b h k a m d)
        where
          turn : In a (deps_at ss y) ⊎ In a (syms_in xs) → In a (deps_at ss y) ⊎ BoundUpTo ss r a
          turn (inl i) = inl i
          turn (inr i) = inr (record { lam = y; low = l; args = xs; scope = b; node_is = e; has = i })
      go (operation brs) e h = inl (h.0.cover k a m d)

  pub below_deps : (s a : ℕ) → Below ss r s → In a (deps_at ss s) → In a (deps_at ss r) ⊎ BoundUpTo ss r a
  below_deps s a here d = inl d
  below_deps s a (kid y k b m) d = go (kid_deps y k a (below_low y b) m d) (λ e. below_deps y a b e)
    where
      go : In a (deps_at ss y) ⊎ BoundUpTo ss r a → (In a (deps_at ss y) → In a (deps_at ss r) ⊎ BoundUpTo ss r a) →
          In a (deps_at ss r) ⊎ BoundUpTo ss r a
      go (inl e) rest = rest e
      go (inr e) rest = inr e
