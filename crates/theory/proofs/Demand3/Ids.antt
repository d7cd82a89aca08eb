-- Checks 9 and 10 fail exactly at the first record that binds an id in force or twice, and at the first that uses an id
-- not in force, where checks 4, 6 and 8 pass: `check_9`, `check_10`.
-- In order: places in lists of ids; arguments; ids in force; what a record binds; the checks.
-- Assumes nothing.
use mathlib.Core.Path.{◌≡◌, refl, ap, sym, ◌∙◌}
use mathlib.Core.Logic.{◌⊎◌, inl, inr, ◌↔◌}
use mathlib.Core.Bool.{Bool, true, false, not, ◌||◌, or-true}
use Rattle.std.specs.Prelude.{None, Some}
use mathlib.Core.List.{List, [], ◌∷◌, ◌++◌, map}
use Prim.Native.Nat.{ℕ, zero, suc, ◌<◌}
use native.Mathlib.Omega.{arith}
use lib.Dec.{eqb, ltb}
use lib.ListN.{length, get_or}
use borrow.Author.Tests.{eqb-true, eqb-false, eq-eqb, not-true, ltb-true, ltb-false}
use Rattle.model.specs.Lists.{is_in, any_in, twice}
use Rattle.model.specs.Tree.{Rec, Trees, sizes}
use Rattle.model.specs.Forest.{trees_of, check4, check6}
use Rattle.model.specs.Binding.{kind, lambda, args_of, id_of, arg_ids, inside, defined, own, ids_check, rebound_at, rebound_in}
use Rattle.model.specs.Binding.{unbound_at, unbound_in, check8, check9, check10}
use Rattle.model.specs.Places.{First}
use Rattle.model.specs.ShapeRules.{IsId, IsOpt, ◌followed◌, Many}
use Rattle.model.specs.Nesting.{rec_in, shape_in, end_of, Descends, Argument, InForce, after_definition, in_lambda, Binds}
use Rattle.model.specs.Nesting.{BindsTwice, Rebinds, Unbound}
use Rattle.laws.specs.Members.{In}
use Rattle.laws.proofs.Members.{is_in_true, in_is_in, is_in_false, not_in_is_in, and_both, both_and, clash, in_left, in_right}
use Rattle.laws.proofs.Members.{in_either}
use Rattle.laws.proofs.Apart.{false_true}
use Rattle.laws.proofs.ArgLists.{args_length}
use Rattle.theory.proofs.Demand3.Nesting.{in_range, extent_fits, below-range, nested}
use Rattle.theory.proofs.Demand3.Faulty.{Faulty, first_of, fault_there}
use Rattle.theory.proofs.Demand3.Placed.{def_stands}
use Rattle.theory.proofs.Demand3.Arguments.{argument_read}
use Rattle.theory.proofs.Demand3.Forces.{Loose, def, arg, known_ids, inside_lambda, lambda_inside, defined_def}
use Rattle.theory.proofs.Demand3.Forces.{def_defined}
use Rattle.theory.proofs.Demand3.Extents.{lambda_right}

-- ---- places in lists of ids

abbrev PlaceOf : ℕ → List ℕ → Type 0
PlaceOf i xs = (k : ℕ) × (k < length xs) × (get_or xs k 0 ≡ i)

in_place : (i : ℕ) (xs : List ℕ) → In i xs → PlaceOf i xs
in_place i [] h = absurd h
in_place i (x ∷ xs) (inl e) = (0, omega arith, sym e)
in_place i (x ∷ xs) (inr h) = let w = in_place i xs h in (suc w.0, omega (arith, w.1), w.2)

place_in : (i : ℕ) (xs : List ℕ) (k : ℕ) → k < length xs → get_or xs k 0 ≡ i → In i xs
place_in i [] k l e = absurd (omega arith)
place_in i (x ∷ xs) zero l e = inl (sym e)
place_in i (x ∷ xs) (suc k) l e = inr (place_in i xs k (omega arith) e)

abbrev Twice : List ℕ → Type 0
Twice xs =
    (j : ℕ) × (k : ℕ) × (j < k) × (k < length xs) × (get_or xs j 0 ≡ get_or xs k 0)

twice_places : (xs : List ℕ) → twice xs ≡ true → Twice xs
unfolding twice
twice_places [] e = false_true e
twice_places (x ∷ xs) e = go (is_in x xs) refl (twice_places xs) e
  where
    go : (b : Bool) → is_in x xs ≡ b → (twice xs ≡ true → Twice xs) → (b || twice xs) ≡ true → Twice (x ∷ xs)
    go true f rest e =
        let w = in_place x xs (is_in_true x xs f) in (0, suc w.0, omega arith, omega (arith, w.1), sym w.2)
    go false f rest e =
        let w = rest e in (suc w.0, suc w.1, omega (arith, w.2), omega (arith, w.3), w.4)

places_twice : (xs : List ℕ) (j k : ℕ) → j < k → k < length xs → get_or xs j 0 ≡ get_or xs k 0 → twice xs ≡ true
unfolding twice
places_twice [] j k l h e = absurd (omega arith)
places_twice (x ∷ xs) j zero l h e = absurd (omega arith)
places_twice (x ∷ xs) zero (suc k) l h e = rw (in_is_in x xs (place_in x xs k (omega arith) (sym e))) refl
places_twice (x ∷ xs) (suc j) (suc k) l h e =
    rw (places_twice xs j k (omega arith) (omega arith) e) (or-true (is_in x xs))

any_shared : (xs ys : List ℕ) → any_in xs ys ≡ true → (i : ℕ) × In i xs × In i ys
unfolding any_in
any_shared [] ys e = false_true e
any_shared (x ∷ xs) ys e = go (is_in x ys) refl (any_shared xs ys) e
  where
    go : (b : Bool) → is_in x ys ≡ b → (any_in xs ys ≡ true → (i : ℕ) × In i xs × In i ys) →
        (b || any_in xs ys) ≡ true → (i : ℕ) × In i (x ∷ xs) × In i ys
    go true f rest e = (x, inl refl, is_in_true x ys f)
    go false f rest e = let w = rest e in (w.0, inr w.1, w.2)

shared_any : (i : ℕ) (xs ys : List ℕ) → In i xs → In i ys → any_in xs ys ≡ true
unfolding any_in
shared_any i [] ys h k = absurd h
shared_any i (x ∷ xs) ys (inl e) k = rw (in_is_in x ys (rw e at k)) refl
shared_any i (x ∷ xs) ys (inr h) k = rw (shared_any i xs ys h k) (or-true (is_in x ys))

map-length : {A B : Type 0} (f : A → B) (xs : List A) → length (map f xs) ≡ length xs
map-length f [] = refl
map-length f (x ∷ xs) = ap suc (map-length f xs)

-- ---- arguments

ids_length : (r : Rec) → length (arg_ids r) ≡ r.aux
unfolding arg_ids
ids_length r = map-length (λ a. a.0) (args_of r.aux r.lit) ∙ args_length r.aux r.lit

-- the literal is as many arguments as aux says
abbrev Args : Rec → Type 0
Args r = Many r.aux (IsId followed IsOpt) r.lit

argument_of : (r : Rec) → Args r → (i : ℕ) → In i (arg_ids r) → (k : ℕ) × Argument r k i
argument_of r m i h =
    let w = in_place i (arg_ids r) h in (w.0, (argument_read r m w.0 i).0 (omega (arith, w.1, ids_length r), w.2))

of_argument : (r : Rec) → Args r → (k i : ℕ) → Argument r k i → In i (arg_ids r)
of_argument r m k i h =
    let w = (argument_read r m k i).1 h in place_in i (arg_ids r) k (omega (arith, w.0, ids_length r)) w.1

-- ---- ids in force

-- every lambda's literal is its arguments, and a definition stands in a block
module _ (ts : Trees) (args : (l : ℕ) → shape_in ts l ≡ 12 → Args (rec_in ts l)) where
  loose_force : check8 ts ≡ None → (i p : ℕ) → Loose ts i p → InForce ts i p
  loose_force eight i p (def d l s e h f) =
      let w = def_stands ts eight d l s in after_definition d w.0 s e w.1 w.2 h (f w.0 w.2.0).1
  loose_force eight i p (arg l s h b) =
      let w = argument_of (rec_in ts l) (args l s) i h in in_lambda l w.0 s w.1 b

  force_loose : (i p : ℕ) → InForce ts i p → Loose ts i p
  force_loose i p (in_lambda l k s h b) = arg l s (of_argument (rec_in ts l) (args l s) k i h) b
  force_loose i p (after_definition d b s e t h l u) = def d there s e l go
    where
      there : d < sizes ts
      there = (below-range ts b d h.0).1

      go : (c : ℕ) → Descends ts c d → Descends ts c p
      go c k = (omega (arith, k.0, (extent_fits ts d there).0), inner (ltb c b) (ltb b c) refl refl)
        where
          inner : (x y : Bool) → ltb c b ≡ x → ltb b c ≡ y → p < end_of ts c
          inner true y f g =
              let z = ltb-true c b f in
              omega (arith, nested ts c b (z, omega (arith, h.0.0, k.1)))
          inner false true f g = absurd (h.1 c (ltb-true b c g) k)
          inner false false f g =
              let z : b ≡ c = omega (arith, ltb-false c b f, ltb-false b c g) in rw (← z) u

-- ---- what a record binds

own_to : (r : Rec) → (r.shape ≡ 12 → Args r) → (i : ℕ) → In i (own r) → Binds r i
own_to r m i h = to (in_either i (defined r) (inside r) h)
  where
    to : In i (defined r) ⊎ In i (inside r) → Binds r i
    to (inl h) = inl (defined_def r i h)
    to (inr h) = let w = inside_lambda r i h in inr (w.0, argument_of r (m w.0) i w.1)

to_own : (r : Rec) → (r.shape ≡ 12 → Args r) → (i : ℕ) → Binds r i → In i (own r)
to_own r m i (inl h) = in_left i (defined r) (inside r) (def_defined r i h.0 h.1)
to_own r m i (inr h) =
    in_right i (defined r) (inside r)
    (lambda_inside r i h.0 (of_argument r (m h.0) h.1.0 i h.1.1))

empty : (xs : List ℕ) → ((i : ℕ) → In i xs → ⊥) → xs ≡ []
empty [] h = refl
empty (x ∷ xs) h = absurd (h x (inl refl))

-- what a lambda binds are its arguments; nothing else binds two ids
lambda_ids : (r : Rec) → r.shape ≡ 12 → inside r ≡ arg_ids r
unfolding inside kind
lambda_ids r e = let k : kind r.shape ≡ lambda = ap kind e in rw (inside, k) refl

own_lambda : (r : Rec) → r.shape ≡ 12 → own r ≡ arg_ids r
own_lambda r e =
    let a : defined r ≡ [] = empty _ (λ i h. omega (arith, e, (defined_def r i h).0)) in
    rw a (lambda_ids r e)

own_short : (r : Rec) → (r.shape ≡ 12 → ⊥) → twice (own r) ≡ false
unfolding twice is_in
own_short r h =
    let a : inside r ≡ [] = empty _ (λ i k. h (inside_lambda r i k).0) in
    rw a (go (eqb r.shape 10))
  where
    go : (b : Bool) → twice (elim b as (λ z. List ℕ) [ true ↦ id_of r ∷ [] | false ↦ [] ] ++ []) ≡ false
    go true = refl
    go false = refl

own-twice : (r : Rec) → (r.shape ≡ 12 → Args r) → (twice (own r) ≡ true) ↔ BindsTwice r
own-twice r m = (λ e. to (eqb r.shape 12) refl e, back)
  where
    to : (b : Bool) → eqb r.shape 12 ≡ b → twice (own r) ≡ true → BindsTwice r
    to true f e =
        let s = eqb-true r.shape 12 f in
        let w = twice_places (arg_ids r) (rw (own_lambda r s) at e) in
        let n = ids_length r in
        let i = get_or (arg_ids r) w.0 0 in (
          s,
          (
            w.0,
            w.1,
            i,
            w.2,
            (argument_read r (m s) w.0 i).0 (omega (arith, n, w.2, w.3), refl),
            (argument_read r (m s) w.1 i).0 (omega (arith, n, w.3), sym w.4),
          ),
        )
    to false f e = absurd (clash _ e (own_short r (eqb-false r.shape 12 f)))

    back : BindsTwice r → twice (own r) ≡ true
    back (s, (j, k, i, l, x, y)) =
        let a = (argument_read r (m s) j i).1 x in
        let b = (argument_read r (m s) k i).1 y in
        rw (own_lambda r s)
        (places_twice (arg_ids r) j k l (omega (arith, ids_length r, b.0)) (a.1 ∙ sym b.1))

-- ---- the checks

module _ (ts : Trees) (args : (l : ℕ) → shape_in ts l ≡ 12 → Args (rec_in ts l)) (eight : check8 ts ≡ None) (p : ℕ) where
  abbrev r : Rec
  r = rec_in ts p

  unbound_use : Faulty (unbound_in ts []) p ↔ Unbound ts p
  unbound_use = (to, back)
    where
      to : Faulty (unbound_in ts []) p → Unbound ts p
      to m =
          let w = known_ids unbound_at ts [] p (fault_there (ids_check unbound_at) ts [] p m) in
          let e = and_both (eqb r.shape 7) (not (is_in (id_of r) w.0)) (sym w.1 ∙ m) in (
            eqb-true r.shape 7 e.0,
            λ h. is_in_false (id_of r) w.0 (not-true _ e.1)
                ((w.2 (id_of r)).1 (inr (force_loose ts args (id_of r) p h))),
          )

      back : Unbound ts p → Faulty (unbound_in ts []) p
      back h =
          let w = known_ids unbound_at ts [] p (in_range ts p 6 h.0) in
          let out : In (id_of r) w.0 → ⊥ = λ k. elim ((w.2 (id_of r)).0 k) [
            | inl x ↦ x
            | inr x ↦ h.1 (loose_force ts args eight (id_of r) p x)
          ] in
          w.1 ∙ both_and (eqb r.shape 7) (not (is_in (id_of r) w.0)) (eq-eqb r.shape 7 h.0)
          (ap not (not_in_is_in (id_of r) w.0 out))

  rebinds : Faulty (rebound_in ts []) p ↔ Rebinds ts p
  rebinds = (to, back)
    where
      go : (env : List ℕ) → ((i : ℕ) → In i env ↔ (In i [] ⊎ Loose ts i p)) → (b : Bool) → any_in (own r) env ≡ b →
          (b || twice (own r)) ≡ true → Rebinds ts p
      go env w true f e =
          let k = any_shared (own r) env f in
          inl (
            k.0,
            own_to r (args p) k.0 k.1,
            elim ((w k.0).0 k.2) [ inl x ↦ absurd x | inr x ↦ loose_force ts args eight k.0 p x ],
          )
      go env w false f e = inr ((own-twice r (args p)).0 e)

      to : Faulty (rebound_in ts []) p → Rebinds ts p
      to m =
          let w = known_ids rebound_at ts [] p (fault_there (ids_check rebound_at) ts [] p m) in
          go w.0 w.2 (any_in (own r) w.0) refl (sym w.1 ∙ m)

      binds_there : (i : ℕ) → Binds r i → p < sizes ts
      binds_there i (inl h) = in_range ts p 9 h.0
      binds_there i (inr h) = in_range ts p 11 h.0

      back : Rebinds ts p → Faulty (rebound_in ts []) p
      back (inl (i, h, k)) =
          let w = known_ids rebound_at ts [] p (binds_there i h) in
          w.1 ∙ rw (shared_any i (own r) w.0 (to_own r (args p) i h)
          ((w.2 i).1 (inr (force_loose ts args i p k)))) refl
      back (inr h) =
          let w = known_ids rebound_at ts [] p (in_range ts p 11 h.0) in
          w.1 ∙ rw ((own-twice r (args p)).1 h) (or-true (any_in (own r) w.0))

module _ (forest : List ℕ) (four : check4 forest ≡ None) (six : check6 forest ≡ None)
    (eight : check8 (trees_of forest) ≡ None) where
  pub check_9 : (p : ℕ) → (check9 (trees_of forest) ≡ Some p) ↔ First (Rebinds (trees_of forest)) p
  unfolding check9
  check_9 =
      first_of (Rebinds (trees_of forest)) (rebound_in (trees_of forest) [])
      (rebinds (trees_of forest) (lambda_right forest six four) eight)

  pub check_10 : (p : ℕ) → (check10 (trees_of forest) ≡ Some p) ↔ First (Unbound (trees_of forest)) p
  unfolding check10
  check_10 =
      first_of (Unbound (trees_of forest)) (unbound_in (trees_of forest) [])
      (unbound_use (trees_of forest) (lambda_right forest six four) eight)
