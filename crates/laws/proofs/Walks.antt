-- What every member of a walk has: a property that neighbours keep holds of all that is visited, and of free lists.
--
-- In order: one of two; `under`; operands; lists put together; a visit (`visit_every`); the parts of a free list
-- (`body_every`, `collect_every`, `order_every`). That schedules hold what is reached, and that they fall, are such
-- properties.
-- Assumes nothing.
use mathlib.Core.Path.{◌≡◌, refl, sym, subst}
use mathlib.Core.Logic.{◌⊎◌, inl, inr}
use mathlib.Core.Bool.{Bool, true, false, not, ◌&&◌, ◌||◌}
use mathlib.Core.List.{List, [], ◌∷◌, ◌++◌}
use Prim.Native.Nat.{ℕ, suc, ◌<◌}
use lib.Dec.{ltb}
use borrow.Author.Tests.{ltb-true}
use Rattle.model.specs.Lists.{is_in, add}
use Rattle.model.specs.Down.{under}
use Rattle.model.specs.Intern.{Sym, thunked}
use Rattle.model.specs.Gate.{Graph, sym_of}
use Rattle.model.specs.Schedule.{is_arg, Rel, local, deeper, outside, is_outside, rel_of, each, visit_step, visit, operands}
use Rattle.model.specs.Schedule.{local_dep_order, body_only, outsiders, collect}
use Rattle.laws.proofs.Induction.{strong}
use Rattle.laws.proofs.Down.{down_step}
use Rattle.laws.specs.Members.{In, Every}
use Rattle.laws.proofs.Members.{in_either, add_cases}

-- what holds of both holds of either
pub if_holds : {A : Type 0} (P : A → Type 0) (b : Bool) (x y : A) → P x → P y → P (elim b [ true ↦ x | false ↦ y ])
if_holds P true x y h k = h
if_holds P false x y h k = k

-- what holds of f below n, and of z, holds of `under`
pub under_holds : {A : Type 0} (Q : A → Type 0) (z : A) (n : ℕ) (f : ℕ → A) (d : ℕ) →
    (d < n → Q (f d)) → Q z → Q (under z n f d)
unfolding under
under_holds Q z n f d h k = go (ltb d n) refl
  where
    go : (b : Bool) → ltb d n ≡ b → Q (elim b [ true ↦ f d | false ↦ z ])
    go true e = h (ltb-true d n e)
    go false e = k

-- whether operand j is among those that are thunks, or that are not
abbrev pub eq_b : Bool → Bool → Bool
eq_b true t = t
eq_b false t = not t

pub operands-cons : (b : Bool) (op j k : ℕ) (ks : List ℕ) → operands b op j (k ∷ ks) ≡ elim (eq_b b (thunked op j)) [
  | true ↦ k ∷ operands b op (suc j) ks
  | false ↦ operands b op (suc j) ks
]
unfolding operands
operands-cons true op j k ks = refl
operands-cons false op j k ks = go (thunked op j)
  where
    go : (t : Bool) →
        ◌≡◌ {A = List ℕ} (elim t [ true ↦ operands false op (suc j) ks | false ↦ k ∷ operands false op (suc j) ks ])
        (elim (not t) [ true ↦ k ∷ operands false op (suc j) ks | false ↦ operands false op (suc j) ks ])
    go true = refl
    go false = refl

module _ (P : ℕ → Type 0) where
  pub every_none : Every P []
  every_none s m = absurd m

  pub every_cons : (x : ℕ) (xs : List ℕ) → P x → Every P xs → Every P (x ∷ xs)
  every_cons x xs p h s (inl e) = subst P (sym e) p
  every_cons x xs p h s (inr m) = h s m

  every_head : (x : ℕ) (xs : List ℕ) → Every P (x ∷ xs) → P x
  every_head x xs h = h x (inl refl)

  every_tail : (x : ℕ) (xs : List ℕ) → Every P (x ∷ xs) → Every P xs
  every_tail x xs h s m = h s (inr m)

  pub every_join : (xs ys : List ℕ) → Every P xs → Every P ys → Every P (xs ++ ys)
  every_join xs ys h k s l = go (in_either s xs ys l)
    where
      go : In s xs ⊎ In s ys → P s
      go (inl m) = h s m
      go (inr m) = k s m

  pub every_rel : (r : Rel) (xs ys : List ℕ) → Every P xs → Every P ys →
      Every P (elim r [ local ↦ xs | deeper ↦ ys | outside ↦ [] ])
  every_rel local xs ys h k = h
  every_rel deeper xs ys h k = k
  every_rel outside xs ys h k = every_none

  add_every : (o : List ℕ) (d : ℕ) → Every P o → P d → Every P (add o d)
  add_every o d h p s m = go (add_cases s o d m)
    where
      go : In s o ⊎ (s ≡ d) → P s
      go (inl k) = h s k
      go (inr e) = subst P (sym e) p

  -- ---- what a visit holds

  each_every : (f : ℕ → List ℕ → List ℕ) → ((d : ℕ) → P d → (o : List ℕ) → Every P o → Every P (f d o)) →
      (ds o : List ℕ) → Every P ds → Every P o → Every P (each f ds o)
  unfolding each
  each_every f h [] o k l = l
  each_every f h (d ∷ ds) o k l = each_every f h ds (f d o) (every_tail d ds k) (h d (every_head d ds k) o l)

  pub visit_every : (nb : ℕ → List ℕ) → ((s : ℕ) → P s → Every P (nb s)) →
      (s : ℕ) → P s → (o : List ℕ) → Every P o → Every P (visit nb s o)
  unfolding visit visit_step
  visit_every nb h = strong (λ s. P s → (o : List ℕ) → Every P o → Every P (visit nb s o)) λ s ih p o k.
      subst (λ (f : List ℕ → List ℕ). Every P (f o)) (sym (down_step (λ o. o) (visit_step nb) s))
      (if_holds (Every P) (is_in s o) o _ k
      (every_join (each (under (λ o. o) s (visit nb)) (nb s) o) (s ∷ [])
      (each_every (under (λ o. o) s (visit nb)) (lower s ih) (nb s) o (h s p) k)
      (every_cons s [] p every_none)))
    where
      lower : (s : ℕ) → ((d : ℕ) → d < s → P d → (o : List ℕ) → Every P o → Every P (visit nb d o)) →
          (d : ℕ) → P d → (q : List ℕ) → Every P q → Every P (under (λ o. o) s (visit nb) d q)
      lower s ih d pd q kq =
          under_holds (λ (f : List ℕ → List ℕ). Every P (f q)) (λ o. o) s (visit nb) d (λ l. ih d l pd q kq) kq

  -- ---- what the steps of a free list hold

  module _ (g : Graph) (cs : ℕ) where
    pub body_every : (ds : List ℕ) → Every P ds → Every P (body_only g cs ds)
    unfolding body_only
    body_every [] h = h
    body_every (d ∷ ds) h =
        let rest = body_every ds (every_tail d ds h) in
        if_holds (Every P) (is_arg (sym_of g d).node || is_outside (rel_of g d cs)) (body_only g cs ds)
        (d ∷ body_only g cs ds) rest (every_cons d (body_only g cs ds) (every_head d ds h) rest)

    outsiders_every : (ds o : List ℕ) → Every P ds → Every P o → Every P (outsiders g cs ds o)
    unfolding outsiders
    outsiders_every [] o h k = k
    outsiders_every (d ∷ ds) o h k =
        if_holds (Every P) (not (is_arg (sym_of g d).node) && is_outside (rel_of g d cs))
        (outsiders g cs ds (add o d)) (outsiders g cs ds o)
        (outsiders_every ds (add o d) (every_tail d ds h) (add_every o d k (every_head d ds h)))
        (outsiders_every ds o (every_tail d ds h) k)

    -- of symbols that have a property Q
    pub collect_every : (Q : ℕ → Type 0) (fv : ℕ → List ℕ) → ((s : ℕ) → Q s → Every P (local_dep_order (sym_of g s))) →
        ((s : ℕ) → Q s → Every P (fv s)) → (ss o : List ℕ) → Every Q ss → Every P o → Every P (collect g fv cs ss o)
    unfolding collect
    collect_every Q fv ho hf [] o h k = k
    collect_every Q fv ho hf (s ∷ ss) o h k =
        let p = h s (inl refl) in
        collect_every Q fv ho hf ss _ (λ x m. h x (inr m))
        (outsiders_every _ o (every_rel (rel_of g s cs) (local_dep_order (sym_of g s)) (fv s) (ho s p) (hf s p)) k)

  operands_every : (b : Bool) (op j : ℕ) (ks : List ℕ) → Every P ks → Every P (operands b op j ks)
  unfolding operands
  operands_every true op j [] h = h
  operands_every false op j [] h = h
  operands_every b op j (k ∷ ks) h =
      let others = operands b op (suc j) ks in
      let rest = operands_every b op (suc j) ks (every_tail k ks h) in
      rw (operands-cons b op j k ks)
      (if_holds (Every P) (eq_b b (thunked op j)) (k ∷ others) others
      (every_cons k others (every_head k ks h) rest) rest)

  pub order_every : (y : Sym) → Every P y.kids → Every P (local_dep_order y)
  unfolding local_dep_order
  order_every y h =
      every_join (operands true y.rec.opcode 0 y.kids) (operands false y.rec.opcode 0 y.kids)
      (operands_every true y.rec.opcode 0 y.kids h) (operands_every false y.rec.opcode 0 y.kids h)
