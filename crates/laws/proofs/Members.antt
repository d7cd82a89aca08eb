-- What the tests on lists of numbers say: `In` is the proposition behind `is_in`; the laws of lists used as sets.
--
-- In order: `&&` and `||`; `In` and `is_in`; `◌++◌`; `add`; `union`; `without`; `any_in`; equal lists and
-- records (`same`, `same_rec`). Every later file speaks of members by `In`; a test is turned into a fact here and
-- nowhere else.
--
-- Not here: tests of numbers, such as `eqb-true` and `ltb-true` (borrow.Author.Tests).
-- Assumes nothing.
use mathlib.Core.Path.{◌≡◌, refl, sym, ◌∙◌, ap₂}
use mathlib.Core.Logic.{◌⊎◌, inl, inr}
use mathlib.Core.Bool.{Bool, true, false, ◌&&◌, ◌||◌, or-true, or_assoc, true≢false}
use mathlib.Core.List.{List, [], ◌∷◌, ◌++◌}
use Prim.Native.Nat.{ℕ}
use lib.Dec.{eqb}
use borrow.Author.Tests.{eqb-true, eq-eqb, ne_eqb}
use Rattle.model.specs.Lists.{is_in, add, union, without, same, any_in}
use Rattle.model.specs.Tree.{Rec, same_rec}
use Rattle.laws.specs.Members.{In}
use Rattle.laws.proofs.Apart.{false_true}

-- ---- `&&` and `||`

pub and_both : (a b : Bool) → (a && b) ≡ true → (a ≡ true) × (b ≡ true)
and_both true b e = (refl, e)
and_both false b e = (e, cc)

pub both_and : (a b : Bool) → a ≡ true → b ≡ true → (a && b) ≡ true
both_and true b e f = f
both_and false b e f = e

pub or_neither : (a b : Bool) → (a || b) ≡ false → (a ≡ false) × (b ≡ false)
or_neither true b e = (e, cc)
or_neither false b e = (refl, e)

pub neither_or : (a b : Bool) → a ≡ false → b ≡ false → (a || b) ≡ false
neither_or true b e f = e
neither_or false b e f = f

-- no test is both true and false
pub clash : (b : Bool) → b ≡ true → b ≡ false → ⊥
clash b e f = true≢false (sym e ∙ f)

-- ---- members

pub is_in_true : (a : ℕ) (xs : List ℕ) → is_in a xs ≡ true → In a xs
unfolding is_in
is_in_true a [] e = false_true e
is_in_true a (x ∷ xs) e = go (eqb a x) refl (is_in_true a xs) e
  where
    go : (b : Bool) → eqb a x ≡ b → (is_in a xs ≡ true → In a xs) → (b || is_in a xs) ≡ true → In a (x ∷ xs)
    go true f k e = inl (eqb-true a x f)
    go false f k e = inr (k e)

pub in_is_in : (a : ℕ) (xs : List ℕ) → In a xs → is_in a xs ≡ true
unfolding is_in
in_is_in a [] h = absurd h
in_is_in a (x ∷ xs) (inl e) = rw (eq-eqb a x e)
in_is_in a (x ∷ xs) (inr h) = rw (in_is_in a xs h) (or-true (eqb a x))

pub is_in_false : (a : ℕ) (xs : List ℕ) → is_in a xs ≡ false → In a xs → ⊥
is_in_false a xs e h = clash (is_in a xs) (in_is_in a xs h) e

pub in_or-not : (a : ℕ) (xs : List ℕ) → In a xs ⊎ (In a xs → ⊥)
in_or-not a xs = go (is_in a xs) refl
  where
    go : (b : Bool) → is_in a xs ≡ b → In a xs ⊎ (In a xs → ⊥)
    go true e = inl (is_in_true a xs e)
    go false e = inr (is_in_false a xs e)

pub not_in_is_in : (a : ℕ) (xs : List ℕ) → (In a xs → ⊥) → is_in a xs ≡ false
not_in_is_in a xs h = go (is_in a xs) refl
  where
    go : (b : Bool) → is_in a xs ≡ b → b ≡ false
    go true e = absurd (h (is_in_true a xs e))
    go false e = refl

-- the member of a list of one
pub in_one : {a x : ℕ} → In a (x ∷ []) → a ≡ x
in_one (inl e) = e
in_one (inr h) = absurd h

-- ---- members of two lists joined

pub is_in-append : (a : ℕ) (xs ys : List ℕ) → is_in a (xs ++ ys) ≡ (is_in a xs || is_in a ys)
unfolding is_in
is_in-append a [] ys = refl
is_in-append a (x ∷ xs) ys = rw (is_in-append a xs ys) (sym (or_assoc (eqb a x) (is_in a xs) (is_in a ys)))

pub in_left : (a : ℕ) (xs ys : List ℕ) → In a xs → In a (xs ++ ys)
in_left a [] ys h = absurd h
in_left a (x ∷ xs) ys (inl e) = inl e
in_left a (x ∷ xs) ys (inr h) = inr (in_left a xs ys h)

pub in_right : (a : ℕ) (xs ys : List ℕ) → In a ys → In a (xs ++ ys)
in_right a [] ys h = h
in_right a (x ∷ xs) ys h = inr (in_right a xs ys h)

pub in_either : (a : ℕ) (xs ys : List ℕ) → In a (xs ++ ys) → In a xs ⊎ In a ys
in_either a [] ys h = inr h
in_either a (x ∷ xs) ys (inl e) = inl (inl e)
in_either a (x ∷ xs) ys (inr h) = elim (in_either a xs ys h) [ inl k ↦ inl (inr k) | inr k ↦ inr k ]

-- one more that is another
pub is_in-last : (xs : List ℕ) (k s : ℕ) → (s ≡ k → ⊥) → is_in s (xs ++ (k ∷ [])) ≡ is_in s xs
unfolding is_in
is_in-last [] k s n = rw (ne_eqb s k n)
is_in-last (x ∷ xs) k s n = rw (is_in-last xs k s n)

-- ---- `add`: one more member

add_old : (a : ℕ) (xs : List ℕ) (n : ℕ) → In a xs → In a (add xs n)
unfolding add
add_old a xs n h = go (is_in n xs)
  where
    go : (b : Bool) → In a (elim b [ true ↦ xs | false ↦ xs ++ (n ∷ []) ])
    go true = h
    go false = in_left a xs (n ∷ []) h

add_new : (xs : List ℕ) (n : ℕ) → In n (add xs n)
unfolding add
add_new xs n = go (is_in n xs) refl
  where
    go : (b : Bool) → is_in n xs ≡ b → In n (elim b [ true ↦ xs | false ↦ xs ++ (n ∷ []) ])
    go true e = is_in_true n xs e
    go false e = in_right n xs (n ∷ []) (inl refl)

pub add_cases : (a : ℕ) (xs : List ℕ) (n : ℕ) → In a (add xs n) → In a xs ⊎ (a ≡ n)
unfolding add
add_cases a xs n = go (is_in n xs)
  where
    end : In a xs ⊎ In a (n ∷ []) → In a xs ⊎ (a ≡ n)
    end (inl h) = inl h
    end (inr (inl e)) = inr e
    end (inr (inr h)) = absurd h

    go : (b : Bool) → In a (elim b [ true ↦ xs | false ↦ xs ++ (n ∷ []) ]) → In a xs ⊎ (a ≡ n)
    go true h = inl h
    go false h = end (in_either a xs (n ∷ []) h)

-- ---- `union`

pub union_left : (a : ℕ) (xs ys : List ℕ) → In a xs → In a (union xs ys)
unfolding union
union_left a xs [] h = h
union_left a xs (y ∷ ys) h = union_left a (add xs y) ys (add_old a xs y h)

pub union_right : (a : ℕ) (xs ys : List ℕ) → In a ys → In a (union xs ys)
unfolding union
union_right a xs [] h = absurd h
union_right a xs (y ∷ ys) (inl e) = union_left a (add xs y) ys (rw e (add_new xs y))
union_right a xs (y ∷ ys) (inr h) = union_right a (add xs y) ys h

pub union_cases : (a : ℕ) (xs ys : List ℕ) → In a (union xs ys) → In a xs ⊎ In a ys
unfolding union
union_cases a xs [] h = inl h
union_cases a xs (y ∷ ys) h = go (union_cases a (add xs y) ys h)
  where
    front : In a xs ⊎ (a ≡ y) → In a xs ⊎ In a (y ∷ ys)
    front (inl h) = inl h
    front (inr e) = inr (inl e)

    go : In a (add xs y) ⊎ In a ys → In a xs ⊎ In a (y ∷ ys)
    go (inl h) = front (add_cases a xs y h)
    go (inr h) = inr (inr h)

-- ---- `without`

pub without_keeps : (a : ℕ) (xs ys : List ℕ) → In a xs → (In a ys → ⊥) → In a (without xs ys)
unfolding without
without_keeps a [] ys h out = absurd h
without_keeps a (x ∷ xs) ys h out = go (is_in x ys) refl (λ k. without_keeps a xs ys k out) h
  where
    go : (b : Bool) → is_in x ys ≡ b → (In a xs → In a (without xs ys)) → In a (x ∷ xs) →
        In a (elim b [ true ↦ without xs ys | false ↦ x ∷ without xs ys ])
    go true e rest (inl p) = absurd (out (rw p (is_in_true x ys e)))
    go true e rest (inr h) = rest h
    go false e rest (inl p) = inl p
    go false e rest (inr h) = inr (rest h)

pub without_cases : (a : ℕ) (xs ys : List ℕ) → In a (without xs ys) → In a xs × (In a ys → ⊥)
unfolding without
without_cases a [] ys h = absurd h
without_cases a (x ∷ xs) ys h = go (is_in x ys) refl (without_cases a xs ys) h
  where
    go : (b : Bool) → is_in x ys ≡ b → (In a (without xs ys) → In a xs × (In a ys → ⊥)) →
        In a (elim b [ true ↦ without xs ys | false ↦ x ∷ without xs ys ]) → In a (x ∷ xs) × (In a ys → ⊥)
    go true e rest h = (inr (rest h).0, (rest h).1)
    go false e rest (inl p) = (inl p, λ k. is_in_false x ys e (rw p at k))
    go false e rest (inr h) = (inr (rest h).0, (rest h).1)

-- ---- `any_in`: a member that two lists share

shared-any_in : (a : ℕ) (xs ys : List ℕ) → In a xs → In a ys → any_in xs ys ≡ true
unfolding any_in
shared-any_in a [] ys h k = absurd h
shared-any_in a (x ∷ xs) ys (inl e) k = rw (in_is_in x ys (rw e at k))
shared-any_in a (x ∷ xs) ys (inr h) k = rw (shared-any_in a xs ys h k) (or-true (is_in x ys))

pub any_in_false : (a : ℕ) (xs ys : List ℕ) → any_in xs ys ≡ false → In a xs → In a ys → ⊥
any_in_false a xs ys e h k = clash (any_in xs ys) (shared-any_in a xs ys h k) e

pub apart_any_in : (xs ys : List ℕ) → ((a : ℕ) → In a xs → In a ys → ⊥) → any_in xs ys ≡ false
unfolding any_in
apart_any_in [] ys h = refl
apart_any_in (x ∷ xs) ys h =
    neither_or (is_in x ys) (any_in xs ys) (not_in_is_in x ys (h x (inl refl))) (apart_any_in xs ys λ a m. h a (inr m))

-- ---- lists and records that are the same

pub same_refl : (xs : List ℕ) → same xs xs ≡ true
unfolding same
same_refl [] = refl
same_refl (x ∷ xs) = rw (eq-eqb x x refl) (same_refl xs)

pub same_true : (xs ys : List ℕ) → same xs ys ≡ true → xs ≡ ys
unfolding same
same_true [] [] e = refl
same_true [] (y ∷ ys) e = false_true e
same_true (x ∷ xs) [] e = false_true e
same_true (x ∷ xs) (y ∷ ys) e =
    let p = and_both (eqb x y) (same xs ys) e in
    ap₂ ◌∷◌ (eqb-true x y p.0) (same_true xs ys p.1)

pub same_rec_true : (a b : Rec) → same_rec a b ≡ true → a ≡ b
unfolding same_rec
same_rec_true a b e =
    let s = eqb a.shape b.shape in
    let o = eqb a.opcode b.opcode in
    let x = eqb a.aux b.aux in
    let p = and_both (s && o && x) (same a.lit b.lit) e in
    let q = and_both (s && o) x p.0 in
    let r = and_both s o q.0 in
    let shapes = eqb-true a.shape b.shape r.0 in
    let opcodes = eqb-true a.opcode b.opcode r.1 in
    let auxes = eqb-true a.aux b.aux q.1 in
    let lits = same_true a.lit b.lit p.1 in
    λ i. record { shape = shapes i; opcode = opcodes i; aux = auxes i; lit = lits i }
