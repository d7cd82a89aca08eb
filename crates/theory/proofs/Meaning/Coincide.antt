-- Laws of `mean`: what a symbol stands for by its node, and that only its deps matter.
--
-- In order: the equations of an argument, a lambda and a plain symbol (`mean_arg`, `mean_lam`, `mean_plain`); binding
-- arguments; valuations that agree on a symbol's deps give it the same meaning (`coincide`).
--
-- Interning takes the equations to match a symbol with the tree it was read from, and building to match it with the
-- tree it is written as. Both take `coincide` at lambdas, where an argument is bound that nothing outside depends on.
-- Assumes nothing.
use mathlib.Core.Path.{◌≡◌, refl, ap, ap₂, sym, ◌∙◌}
use mathlib.Core.Logic.{◌⊎◌, inl, inr}
use mathlib.Core.Bool.{Bool, true, false}
use mathlib.Core.List.{List, [], ◌∷◌}
use Prim.Native.Nat.{ℕ, suc, ◌-◌, ◌<◌}
use native.Mathlib.Omega.{arith}
use lib.Dec.{eqb}
use borrow.Author.Tests.{eqb-false, ne_eqb, lt-ltb}
use Rattle.model.specs.Down.{under}
use Rattle.model.specs.Tree.{Rec}
use Rattle.model.specs.Binding.{kind}
use Rattle.model.specs.Unfold.{Unfolded, Unfoldeds, arg, lam, made, more}
use Rattle.model.specs.Intern.{Node, constant, unparsed, argument, func, operation, Sym, Scope, sym_at}
use Rattle.laws.proofs.Apart.{false_true}
use Rattle.laws.proofs.Induction.{strong}
use Rattle.laws.proofs.Down.{down_step, under_low}
use Rattle.laws.specs.Members.{In}
use Rattle.laws.proofs.Members.{clash}
use Rattle.laws.specs.ArgLists.{ArgList, syms_in, opts_in}
use Rattle.theory.proofs.Meaning.Mean.{Val, Mean, bind_syms, mean_all, mean_node, mean_step, mean}
use Rattle.theory.specs.Good.{rec_at, sym_kids, deps_at, node_at, is_plain, no_arg, Plain, NodeOk, SymOk, Goods}
use Rattle.theory.proofs.Interning.Good.{lam_cover, lambda_not-plain}

-- ---- a symbol by its node

-- what a symbol not below is given; it is never asked for
abbrev none : Mean
none = λ ρ d. arg 0 0

all_low : (f : ℕ → Mean) (s : ℕ) (ks : List ℕ) → ((k : ℕ) → In k ks → k < s) → (ρ : Val) (d : ℕ) →
    mean_all (under none s f) ks ρ d ≡ mean_all f ks ρ d
unfolding mean_all
all_low f s [] h ρ d = refl
all_low f s (k ∷ ks) h ρ d =
    let seen = under_low none (λ g n. g n) s f k (lt-ltb k s (h k (inl refl))) in
    ap₂ more (ap (λ (m : Mean). m ρ d) seen) (all_low f s ks (λ j l. h j (inr l)) ρ d)

-- a lambda of a record, with its arguments' opts and its body
abbrev lam_of : Rec → ArgList → Unfoldeds → Unfolded
lam_of r xs body = lam r.shape r.opcode r.aux (opts_in xs) body

module _ (fin : List Sym) (scs : List Scope) where
  mean_node_lem : (s : ℕ) (nd : Node) → node_at fin s ≡ nd → (ρ : Val) (d : ℕ) →
      mean fin s ρ d ≡ mean_node (under none s (mean fin)) nd (sym_at fin s) s ρ d
  unfolding mean mean_step
  mean_node_lem s nd e ρ d =
      ap (λ (m : Mean). m ρ d) (down_step none (mean_step fin) s)
      ∙ ap (λ (n : Node). mean_node (under none s (mean fin)) n (sym_at fin s) s ρ d) e

  pub mean_arg : (s : ℕ) → node_at fin s ≡ argument → (ρ : Val) (d : ℕ) → mean fin s ρ d ≡ ρ s d
  unfolding mean_node
  mean_arg s e ρ d = mean_node_lem s argument e ρ d

  pub mean_lam : (s : ℕ) (xs : ArgList) (b : ℕ) → SymOk fin scs s → node_at fin s ≡ func xs b → (ρ : Val) (d : ℕ) →
      mean fin s ρ d
      ≡ lam_of (rec_at fin s) xs (mean_all (mean fin) (sym_kids fin s) (bind_syms (suc d) 0 xs ρ) (suc d))
  unfolding mean_node
  mean_lam s xs b ok e ρ d =
      mean_node_lem s (func xs b) e ρ d
      ∙ ap (lam_of (rec_at fin s) xs) (all_low (mean fin) s (sym_kids fin s) ok.low _ (suc d))

  pub mean_plain : (s : ℕ) → SymOk fin scs s → is_plain (kind (rec_at fin s).shape) ≡ true →
      no_arg (node_at fin s) ≡ true → (ρ : Val) (d : ℕ) →
      mean fin s ρ d ≡ made (rec_at fin s) (mean_all (mean fin) (sym_kids fin s) ρ d)
  unfolding mean_node
  mean_plain s ok p q ρ d = go (node_at fin s) refl ok.node_is q
    where
      low : made (rec_at fin s) (mean_all (under none s (mean fin)) (sym_kids fin s) ρ d)
          ≡ made (rec_at fin s) (mean_all (mean fin) (sym_kids fin s) ρ d)
      low = ap (made (rec_at fin s)) (all_low (mean fin) s (sym_kids fin s) ok.low ρ d)

      go : (nd : Node) → node_at fin s ≡ nd → NodeOk fin scs s nd → no_arg nd ≡ true →
          mean fin s ρ d ≡ made (rec_at fin s) (mean_all (mean fin) (sym_kids fin s) ρ d)
      go constant e h a = mean_node_lem s constant e ρ d ∙ low
      go unparsed e h a = mean_node_lem s unparsed e ρ d ∙ low
      go argument e h a = false_true a
      go (func xs b) e h a = absurd (clash _ p (lambda_not-plain (rec_at fin s).shape h.shape_is))
      go (operation brs) e h a = mean_node_lem s (operation brs) e ρ d ∙ low

-- ---- binding arguments

-- two valuations agree at an argument symbol, and at each of some
abbrev AgreeAt : ℕ → Val → Val → Type 0
AgreeAt a ρ σ = (d : ℕ) → ρ a d ≡ σ a d

abbrev pub AgreeOn : List ℕ → Val → Val → Type 0
AgreeOn deps ρ σ = (a : ℕ) → In a deps → AgreeAt a ρ σ

-- bound alike, they agree on those that are bound too
bind_syms_agree : (e p : ℕ) (xs : ArgList) (ρ σ : Val) (a : ℕ) → In a (syms_in xs) ⊎ AgreeAt a ρ σ →
    AgreeAt a (bind_syms e p xs ρ) (bind_syms e p xs σ)
unfolding bind_syms
bind_syms_agree e p [] ρ σ a (inl h) d = absurd h
bind_syms_agree e p [] ρ σ a (inr h) d = h d
bind_syms_agree e p (x ∷ xs) ρ σ a h d = go (eqb x.0 a) refl h (λ k. bind_syms_agree e (suc p) xs ρ σ a k d)
  where
    rest : Val → Unfolded
    rest τ = bind_syms e (suc p) xs τ a d

    first : Bool → Val → Unfolded
    first b τ = elim b [ true ↦ arg (d - e) p | false ↦ rest τ ]

    go : (b : Bool) → eqb x.0 a ≡ b → In a (syms_in (x ∷ xs)) ⊎ AgreeAt a ρ σ →
        (In a (syms_in xs) ⊎ AgreeAt a ρ σ → rest ρ ≡ rest σ) → first b ρ ≡ first b σ
    go true t h ih = refl
    go false t (inl (inl k)) ih = absurd (eqb-false x.0 a t (sym k))
    go false t (inl (inr k)) ih = ih (inl k)
    go false t (inr k) ih = ih (inr k)

-- what is not bound keeps its value
pub bind_syms_other : (e p : ℕ) (xs : ArgList) (ρ : Val) (a : ℕ) → (In a (syms_in xs) → ⊥) → (d : ℕ) →
    bind_syms e p xs ρ a d ≡ ρ a d
unfolding bind_syms
bind_syms_other e p [] ρ a h d = refl
bind_syms_other e p (x ∷ xs) ρ a h d =
    rw (ne_eqb x.0 a (λ k. h (inl (sym k))), bind_syms) (bind_syms_other e (suc p) xs ρ a (λ k. h (inr k)) d)

-- ---- coincidence

-- valuations that agree on the deps of s give it the same meaning
abbrev Coincides : List Sym → ℕ → Type 0
Coincides fin s = (ρ σ : Val) → AgreeOn (deps_at fin s) ρ σ → (d : ℕ) → mean fin s ρ d ≡ mean fin s σ d

all_agree : (fin : List Sym) (ks : List ℕ) (ρ σ : Val) (d : ℕ) →
    ((k : ℕ) → In k ks → mean fin k ρ d ≡ mean fin k σ d) → mean_all (mean fin) ks ρ d ≡ mean_all (mean fin) ks σ d
unfolding mean_all
all_agree fin [] ρ σ d h = refl
all_agree fin (k ∷ ks) ρ σ d h = ap₂ more (h k (inl refl)) (all_agree fin ks ρ σ d (λ j l. h j (inr l)))

module _ (fin : List Sym) (scs : List Scope) (n : ℕ) (good : Goods fin scs n) where
  coincide_step : (s : ℕ) → s < n → ((k : ℕ) → k < s → Coincides fin k) → Coincides fin s
  coincide_step s l ih ρ σ g d = go (node_at fin s) refl ok.node_is
    where
      ok : SymOk fin scs s
      ok = good s l

      plain : Plain fin s → no_arg (node_at fin s) ≡ true → mean fin s ρ d ≡ mean fin s σ d
      plain p q =
          mean_plain fin scs s ok p.kind_is q ρ d
          ∙ (ap (made (rec_at fin s)) kids ∙ sym (mean_plain fin scs s ok p.kind_is q σ d))
        where
          kids : mean_all (mean fin) (sym_kids fin s) ρ d ≡ mean_all (mean fin) (sym_kids fin s) σ d
          kids = all_agree fin (sym_kids fin s) ρ σ d λ k lk.
              ih k (ok.low k lk) ρ σ (λ a la. g a (p.cover k a lk la)) d

      go : (nd : Node) → node_at fin s ≡ nd → NodeOk fin scs s nd → mean fin s ρ d ≡ mean fin s σ d
      go constant e h = plain h.0 (ap no_arg e)
      go unparsed e h = plain h.0 (ap no_arg e)
      go argument e h = mean_arg fin scs s e ρ d ∙ (g s (rw h.0 (inl refl)) d ∙ sym (mean_arg fin scs s e σ d))
      go (func xs b) e h =
          mean_lam fin scs s xs b ok e ρ d ∙ (ap (lam_of (rec_at fin s) xs) body ∙ sym (mean_lam fin scs s xs b ok e σ d))
        where
          bound : Val → Val
          bound τ = bind_syms (suc d) 0 xs τ

          agree : (a : ℕ) → In a (deps_at fin s) ⊎ In a (syms_in xs) → AgreeAt a (bound ρ) (bound σ)
          agree a (inl k) = bind_syms_agree (suc d) 0 xs ρ σ a (inr (g a k))
          agree a (inr k) = bind_syms_agree (suc d) 0 xs ρ σ a (inl k)

          body : mean_all (mean fin) (sym_kids fin s) (bound ρ) (suc d)
              ≡ mean_all (mean fin) (sym_kids fin s) (bound σ) (suc d)
          body = all_agree fin (sym_kids fin s) (bound ρ) (bound σ) (suc d) λ k lk.
              ih k (ok.low k lk) (bound ρ) (bound σ) (λ a la. agree a (lam_cover fin scs s xs b h k a lk la)) (suc d)
      go (operation brs) e h = plain h.0 (ap no_arg e)

  pub coincide : (s : ℕ) → s < n → (ρ σ : Val) → AgreeOn (deps_at fin s) ρ σ → (d : ℕ) → mean fin s ρ d ≡ mean fin s σ d
  coincide =
      strong (λ s. s < n → Coincides fin s) λ s ih l. coincide_step s l λ k lk. ih k lk (omega arith)
