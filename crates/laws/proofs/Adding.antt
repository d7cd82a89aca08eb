-- Lists used as sets, put together, and what is collected along a body: collecting on from a list is adding to it what
-- is collected from nothing, and a symbol that has given all it has gives nothing more.
--
-- In order: `union`; `outsiders`; `collect`.
-- Assumes nothing.
use mathlib.Core.Path.{◌≡◌, refl, sym, ap, ◌∙◌}
use mathlib.Core.Logic.{inl, inr}
use mathlib.Core.Bool.{Bool, true, false, not, ◌&&◌}
use mathlib.Core.List.{List, [], ◌∷◌, ◌++◌}
use Prim.Native.Nat.{ℕ}
use Rattle.model.specs.Lists.{is_in, add, union, without}
use Rattle.model.specs.Gate.{Graph, sym_of}
use Rattle.model.specs.Schedule.{is_arg, is_outside, rel_of, outsiders, collect}
use Rattle.laws.specs.Members.{In, Every}
use Rattle.laws.proofs.Members.{is_in_true, in_is_in, union_left, union_right}
use Rattle.laws.proofs.Orders.{needs}

-- ---- `union`

-- what is there is not added
add_there : (xs : List ℕ) (n : ℕ) → In n xs → add xs n ≡ xs
unfolding add
add_there xs n i = rw (in_is_in n xs i, add)

union_there : (xs ys : List ℕ) → Every (λ y. In y xs) ys → union xs ys ≡ xs
unfolding union
union_there xs [] h = refl
union_there xs (y ∷ ys) h = rw (add_there xs y (h y (inl refl))) (union_there xs ys (λ x i. h x (inr i)))

pub union-last : (xs ys : List ℕ) (n : ℕ) → union xs (ys ++ (n ∷ [])) ≡ add (union xs ys) n
unfolding union
union-last xs [] n = refl
union-last xs (y ∷ ys) n = union-last (add xs y) ys n

union-add : (xs ys : List ℕ) (n : ℕ) → union xs (add ys n) ≡ add (union xs ys) n
unfolding add
union-add xs ys n = go (is_in n ys) refl
  where
    go : (b : Bool) → is_in n ys ≡ b →
        union xs (elim b [ true ↦ ys | false ↦ ys ++ (n ∷ []) ]) ≡ add (union xs ys) n
    go true e = sym (add_there (union xs ys) n (union_right n xs ys (is_in_true n ys e)))
    go false e = union-last xs ys n

pub union_assoc : (xs ys zs : List ℕ) → union (union xs ys) zs ≡ union xs (union ys zs)
unfolding union
union_assoc xs ys [] = refl
union_assoc xs ys (z ∷ zs) = rw (← union-add xs ys z) (union_assoc xs (add ys z) zs)

-- ---- `outsiders`

module _ (g : Graph) (cs : ℕ) where
  pub outsiders-union : (ds xs ys : List ℕ) → outsiders g cs ds (union xs ys) ≡ union xs (outsiders g cs ds ys)
  unfolding outsiders
  outsiders-union [] xs ys = refl
  outsiders-union (d ∷ ds) xs ys =
      go (not (is_arg (sym_of g d).node) && is_outside (rel_of g d cs)) (λ zs. outsiders-union ds xs zs)
    where
      go : (b : Bool) → ((zs : List ℕ) → outsiders g cs ds (union xs zs) ≡ union xs (outsiders g cs ds zs)) →
          ◌≡◌ {A = List ℕ} (elim b [
            | true ↦ outsiders g cs ds (add (union xs ys) d)
            | false ↦ outsiders g cs ds (union xs ys)
          ]) (union xs (elim b [ true ↦ outsiders g cs ds (add ys d) | false ↦ outsiders g cs ds ys ]))
      go true rest = rw (← union-add xs ys d) (rest (add ys d))
      go false rest = rest ys

  -- from a list: added to it
  outsiders_from : (ds out : List ℕ) → outsiders g cs ds out ≡ union out (outsiders g cs ds [])
  unfolding union
  outsiders_from ds out = outsiders-union ds out []

  outsiders_old : (ds out : List ℕ) (x : ℕ) → In x out → In x (outsiders g cs ds out)
  outsiders_old ds out x i = rw (outsiders_from ds out) (union_left x out (outsiders g cs ds []) i)

  -- ---- `collect`

  module _ (fv : ℕ → List ℕ) where
    pub collect-union : (ss xs ys : List ℕ) → collect g fv cs ss (union xs ys) ≡ union xs (collect g fv cs ss ys)
    unfolding collect
    collect-union [] xs ys = refl
    collect-union (s ∷ ss) xs ys =
        ap (collect g fv cs ss) (outsiders-union (needs g cs fv s) xs ys)
        ∙ collect-union ss xs (outsiders g cs (needs g cs fv s) ys)

    collect_old : (ss out : List ℕ) (x : ℕ) → In x out → In x (collect g fv cs ss out)
    unfolding collect
    collect_old [] out x i = i
    collect_old (s ∷ ss) out x i = collect_old ss _ x (outsiders_old (needs g cs fv s) out x i)

    -- all that s needs from outside is in `out`
    abbrev pub Given : List ℕ → ℕ → Type 0
    Given out s = Every (λ x. In x out) (outsiders g cs (needs g cs fv s) [])

    pub collect-given : (ss out : List ℕ) → Every (Given (collect g fv cs ss out)) ss
    unfolding collect
    collect-given [] out t i x k = absurd i
    collect-given (s ∷ ss) out t (inl e) x k =
        collect_old ss (outsiders g cs (needs g cs fv s) out) x (rw (outsiders_from (needs g cs fv s) out)
        (union_right x out (outsiders g cs (needs g cs fv s) []) (rw e at k)))
    collect-given (s ∷ ss) out t (inr i) x k = collect-given ss (outsiders g cs (needs g cs fv s) out) t i x k

    given_none : (out : List ℕ) (s : ℕ) → Given out s → outsiders g cs (needs g cs fv s) out ≡ out
    given_none out s h =
        outsiders_from (needs g cs fv s) out ∙ union_there out (outsiders g cs (needs g cs fv s) []) h

    -- symbols that have given may be left out
    pub collect-without : (seen ss out : List ℕ) → Every (Given out) seen →
        collect g fv cs (without ss seen) out ≡ collect g fv cs ss out
    unfolding collect without
    collect-without seen [] out h = refl
    collect-without seen (s ∷ ss) out h =
        go (is_in s seen) refl (λ o k. collect-without seen ss o k)
      where
        go : (b : Bool) → is_in s seen ≡ b →
            ((o : List ℕ) → Every (Given o) seen → collect g fv cs (without ss seen) o ≡ collect g fv cs ss o) →
            collect g fv cs (elim b [ true ↦ without ss seen | false ↦ s ∷ without ss seen ]) out
            ≡ collect g fv cs ss (outsiders g cs (needs g cs fv s) out)
        go true e rest = rest out h ∙ ap (collect g fv cs ss) (sym (given_none out s (h s (is_in_true s seen e))))
        go false e rest =
            rest (outsiders g cs (needs g cs fv s) out)
            (λ t i x k. outsiders_old (needs g cs fv s) out x (h t i x k))
