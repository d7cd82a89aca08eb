-- A scope's definitions along its order, and how many there are, which is known before the first of them is made.
--
-- In order: one symbol of the order, a member or not; induction along an order (`along`); an order in two parts; how
-- many (`members_fixed`).
-- Assumes nothing.
use mathlib.Core.Path.{◌≡◌, refl, ap, ap₂, ◌∙◌}
use mathlib.Core.Logic.{inl, inr}
use mathlib.Core.Bool.{Bool, true, false}
use mathlib.Core.List.{List, [], ◌∷◌, ◌++◌}
use Prim.Native.Nat.{ℕ, suc, ◌+◌}
use native.Mathlib.Omega.{arith}
use borrow.Author.Tests.{ne_eqb}
use Rattle.model.specs.Tree.{Tree, nil, cons, many}
use Rattle.model.specs.Intern.{Env}
use Rattle.model.specs.Gate.{Graph}
use Rattle.model.specs.Materialize.{Builder, Defined, val_def_of, id_given, member, define}
use Rattle.laws.specs.Defining.{join_t, members_in}
use Rattle.laws.specs.Members.{In, Once}

-- ---- one symbol of the order

-- a definition, and then definitions
abbrev pub defined_first : Tree → Defined → Defined
defined_first t d = record { defs = cons t d.defs; env = d.env; last = d.last }

-- definitions, and then definitions
abbrev defined_then : Defined → Defined → Defined
defined_then d e = record { defs = join_t d.defs e.defs; env = e.env; last = e.last }

module _ (g : Graph) (sc s : ℕ) (order : List ℕ) (env : Env) where
  module _ (is : member g sc env s ≡ true) where
    pub define-member : (build : Builder) (last : ℕ) →
        define g build sc (s ∷ order) env last ≡
        defined_first (val_def_of (suc last) (build s sc env last))
        (define g build sc order ((s, suc last) ∷ env) (suc last))
    unfolding define
    define-member build last = rw (is, define)

    pub members_member : members_in g sc env (s ∷ order) ≡ suc (members_in g sc env order)
    unfolding members_in
    members_member = rw (is, members_in)

  module _ (isnt : member g sc env s ≡ false) where
    pub define_other : (build : Builder) (last : ℕ) →
        define g build sc (s ∷ order) env last ≡ define g build sc order env last
    unfolding define
    define_other build last = rw (isnt, define)

    pub members_other : members_in g sc env (s ∷ order) ≡ members_in g sc env order
    unfolding members_in
    members_other = rw (isnt, members_in)

-- ---- induction along an order, of what is defined

module _ (g : Graph) (build : Builder) (sc : ℕ) where
  module _ (P : List ℕ → Env → ℕ → Defined → Type 0)
      (end : (env : Env) (last : ℕ) → P [] env last (record { defs = nil; env = env; last = last }))
      (defined : (s : ℕ) (order : List ℕ) (env : Env) (last : ℕ) → member g sc env s ≡ true →
      (d : Defined) → P order ((s, suc last) ∷ env) (suc last) d →
      P (s ∷ order) env last (defined_first (val_def_of (suc last) (build s sc env last)) d))
      (passed : (s : ℕ) (order : List ℕ) (env : Env) (last : ℕ) → member g sc env s ≡ false →
      (d : Defined) → P order env last d → P (s ∷ order) env last d) where
    pub along : (order : List ℕ) (env : Env) (last : ℕ) → P order env last (define g build sc order env last)
    unfolding define
    along [] env last = end env last
    along (s ∷ order) env last =
        go (member g sc env s) refl (along order ((s, suc last) ∷ env) (suc last)) (along order env last)
      where
        d : Defined
        d = define g build sc order ((s, suc last) ∷ env) (suc last)

        go : (b : Bool) → member g sc env s ≡ b → P order ((s, suc last) ∷ env) (suc last) d →
            P order env last (define g build sc order env last) → P (s ∷ order) env last (elim b [
              | true ↦ defined_first (val_def_of (suc last) (build s sc env last)) d
              | false ↦ define g build sc order env last
            ])
        go true e h k = defined s order env last e d h
        go false e h k = passed s order env last e (define g build sc order env last) k

  -- an order in two parts
  pub define-append : (ys xs : List ℕ) (env : Env) (last : ℕ) →
      let d = define g build sc xs env last in
      define g build sc (xs ++ ys) env last ≡ defined_then d (define g build sc ys d.env d.last)
  unfolding join_t
  define-append ys =
      along
      (λ xs env last d.
      define g build sc (xs ++ ys) env last ≡ defined_then d (define g build sc ys d.env d.last))
      (λ env last. refl)
      (λ s xs env last e d h.
      define-member g sc s (xs ++ ys) env e build last
      ∙ ap (defined_first (val_def_of (suc last) (build s sc env last))) h)
      (λ s xs env last e d h. define_other g sc s (xs ++ ys) env e build last ∙ h)

-- ---- how many

pub members_append : (g : Graph) (sc : ℕ) (env : Env) (xs ys : List ℕ) →
    members_in g sc env (xs ++ ys) ≡ members_in g sc env xs + members_in g sc env ys
unfolding members_in
members_append g sc env [] ys = omega arith
members_append g sc env (s ∷ xs) ys = go (member g sc env s) refl (members_append g sc env xs ys)
  where
    go : (b : Bool) → member g sc env s ≡ b →
        members_in g sc env (xs ++ ys) ≡ members_in g sc env xs + members_in g sc env ys →
        members_in g sc env (s ∷ (xs ++ ys)) ≡ members_in g sc env (s ∷ xs) + members_in g sc env ys
    go true e h = rw (members_member g sc s (xs ++ ys) env e, members_member g sc s xs env e) (omega arith)
    go false e h = rw (members_other g sc s (xs ++ ys) env e, members_other g sc s xs env e) h

module _ (g : Graph) (sc : ℕ) (env : Env) (s i : ℕ) where
  -- an id given to another symbol changes nothing
  member-same : (t : ℕ) → (s ≡ t → ⊥) → member g sc ((s, i) ∷ env) t ≡ member g sc env t
  unfolding member id_given
  member-same t n = rw (ne_eqb s t n, id_given)

  members_same : (order : List ℕ) → (In s order → ⊥) → members_in g sc ((s, i) ∷ env) order ≡ members_in g sc env order
  unfolding members_in
  members_same [] n = refl
  members_same (t ∷ order) n =
      ap₂ (λ (b : Bool) (k : ℕ). elim b as (λ z. ℕ) [ true ↦ suc k | false ↦ k ])
      (member-same t (λ e. n (inl e))) (members_same order (λ m. n (inr m)))

-- each symbol stands once in the order, so ids given on the way are those of others
pub members_fixed : (g : Graph) (build : Builder) (sc : ℕ) (order : List ℕ) (env : Env) (last : ℕ) → Once order →
    many (define g build sc order env last).defs ≡ members_in g sc env order
unfolding members_in many
members_fixed g build sc =
    along g build sc (λ order env last d. Once order → many d.defs ≡ members_in g sc env order)
    (λ env last once. refl)
    (λ s order env last e d h once.
    rw (members_member g sc s order env e) (ap suc (h once.1 ∙ members_same g sc env s _ order once.0)))
    (λ s order env last e d h once. rw (members_other g sc s order env e) (h once.1))
