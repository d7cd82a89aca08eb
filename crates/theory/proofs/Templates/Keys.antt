-- Keys among filled symbols: what is sought is found at the same place.
-- In order: symbols by number; tables that hold symbols whose records have a template's values; searches.
-- Assumes nothing.
use mathlib.Core.Path.{◌≡◌, refl, ap, ap₂, sym, ◌∙◌, subst}
use mathlib.Core.Bool.{Bool, true, false, ◌&&◌}
use Rattle.std.specs.Prelude.{Option, None, Some}
use mathlib.Core.List.{List, [], ◌∷◌, ◌++◌, map}
use Prim.Native.Nat.{ℕ, zero, suc, ◌<◌}
use native.Mathlib.Omega.{arith}
use lib.ListN.{length, length-append, get_or-append}
use lib.Seq.{get_or-append_seam}
use Rattle.model.specs.Lists.{same, union}
use Rattle.model.specs.Tree.{Rec, same_rec}
use Rattle.model.specs.Intern.{Sym, sym_at, no_sym, is_key, lookup_in, lookup, union_deps, enter}
use Rattle.model.specs.Template.{Filling, fill_rec, fill_sym}
use Rattle.theory.proofs.Templates.Records.{Valued, same_kept}

-- ---- symbols by number

module _ (f : Filling) where
  -- what holds of each symbol and its filling holds at each number, past the last too
  pub at_related : (R : Sym → Sym → Type 0) → ((y : Sym) → R (fill_sym f y) y) → R no_sym no_sym →
      (ss : List Sym) (i : ℕ) → R (sym_at (map (fill_sym f) ss) i) (sym_at ss i)
  at_related R h z [] i = z
  at_related R h z (y ∷ ss) zero = h y
  at_related R h z (y ∷ ss) (suc i) = at_related R h z ss i

  -- in particular what a filling does not change
  pub at_kept : {A : Type 0} (g : Sym → A) → ((y : Sym) → g (fill_sym f y) ≡ g y) → (ss : List Sym) (i : ℕ) →
      g (sym_at (map (fill_sym f) ss) i) ≡ g (sym_at ss i)
  at_kept g h = at_related (λ y' y. g y' ≡ g y) h refl

  pub at_filled : (ss : List Sym) (i : ℕ) → i < length ss → sym_at (map (fill_sym f) ss) i ≡ fill_sym f (sym_at ss i)
  at_filled [] i l = absurd (omega arith)
  at_filled (y ∷ ss) zero l = refl
  at_filled (y ∷ ss) (suc i) l = at_filled ss i (omega arith)

  pub union_deps_kept : (ss : List Sym) (ks : List ℕ) → union_deps (map (fill_sym f) ss) ks ≡ union_deps ss ks
  unfolding union_deps
  union_deps_kept ss [] = refl
  union_deps_kept ss (k ∷ ks) = ap₂ union (at_kept (λ y. y.deps) (λ y. refl) ss k) (union_deps_kept ss ks)

-- ---- tables

module _ (f : Filling) (v : ℕ → List ℕ) where
  -- i is a symbol, and its record has its value
  pub record ValuedAt (ss : List Sym) (i : ℕ) : Type 0 where
    pub low : i < length ss
    pub valued : Valued v (sym_at ss i).rec

  abbrev pub ValuedIn : List Sym → List ℕ → Type 0
  ValuedIn ss [] = Unit {0}
  ValuedIn ss (i ∷ is) = ValuedAt ss i × ValuedIn ss is

  -- the tables hold such symbols
  abbrev pub Sound : List Sym → List (List ℕ) → Type 0
  Sound ss [] = Unit {0}
  Sound ss (t ∷ ts) = ValuedIn ss t × Sound ss ts

  module _ (ss : List Sym) (y : Sym) where
    at_more : (i : ℕ) → ValuedAt ss i → ValuedAt (ss ++ (y ∷ [])) i
    at_more i h = record {
      low = omega (arith, h.low, length-append ss (y ∷ []));
      valued = subst (λ (z : Sym). Valued v z.rec) (sym (get_or-append ss (y ∷ []) no_sym i h.low))
          h.valued;
    }

    in_more : (is : List ℕ) → ValuedIn ss is → ValuedIn (ss ++ (y ∷ [])) is
    in_more [] h = tt
    in_more (i ∷ is) h = (at_more i h.0, in_more is h.1)

    pub sound_more : (ts : List (List ℕ)) → Sound ss ts → Sound (ss ++ (y ∷ [])) ts
    sound_more [] h = tt
    sound_more (t ∷ ts) h = (in_more t h.0, sound_more ts h.1)

    pub sound_enter : (ts : List (List ℕ)) → Valued v y.rec → Sound ss ts →
        Sound (ss ++ (y ∷ [])) (enter (length ss) ts)
    sound_enter [] k h = tt
    sound_enter (t ∷ ts) k h = ((new, in_more t h.0), sound_more ts h.1)
      where
        new : ValuedAt (ss ++ (y ∷ [])) (length ss)
        new = record {
          low = omega (arith, length-append ss (y ∷ []));
          valued = subst (λ (z : Sym). Valued v z.rec) (sym (get_or-append_seam ss y [] no_sym)) k;
        }

  -- ---- searches

  module _ (ss : List Sym) (r : Rec) (valued : Valued v r) (ks : List ℕ) where
    is_key_kept : (i : ℕ) → ValuedAt ss i → is_key (map (fill_sym f) ss) (fill_rec f r) ks i ≡ is_key ss r ks i
    unfolding is_key
    is_key_kept i h =
        ap (λ (z : Sym). same_rec z.rec (fill_rec f r) && same z.kids ks) (at_filled f ss i h.low)
        ∙ ap (λ (b : Bool). b && same (sym_at ss i).kids ks)
        (same_kept f v (sym_at ss i).rec r h.valued valued)

    lookup_in_kept : (t : List ℕ) → ValuedIn ss t → lookup_in (map (fill_sym f) ss) (fill_rec f r) ks t ≡ lookup_in ss r ks t
    unfolding lookup_in
    lookup_in_kept [] h = refl
    lookup_in_kept (i ∷ t) h =
        ap₂ (λ (b : Bool) (o : Option ℕ). elim b as (λ z. Option ℕ) [ true ↦ Some i | false ↦ o ])
        (is_key_kept i h.0) (lookup_in_kept t h.1)

    pub lookup_kept : (ts : List (List ℕ)) → Sound ss ts →
        lookup (map (fill_sym f) ss) (fill_rec f r) ks ts ≡ lookup ss r ks ts
    unfolding lookup
    lookup_kept [] h = refl
    lookup_kept (t ∷ ts) h =
        ap₂ (λ (o rest : Option ℕ). elim o as (λ z. Option ℕ) [ Some i ↦ Some i | None ↦ rest ])
        (lookup_in_kept t h.0) (lookup_kept ts h.1)
