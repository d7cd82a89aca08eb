-- What check 4 reads of a literal are the paper's parts: each reader takes a part off a list exactly where the list begins
-- with one, and `whole` says that a literal is the part: `whole_exact`.
-- In order: readers and what they read; each part.
-- Assumes nothing.
use mathlib.Core.Path.{◌≡◌, refl, ap, sym, ◌∙◌, subst}
use mathlib.Core.Logic.{inl, inr, ◌↔◌}
use mathlib.Core.Bool.{Bool, true, false, ◌&&◌}
use Rattle.std.specs.Prelude.{Option, None, Some}
use mathlib.Core.List.{List, [], ◌∷◌, ◌++◌, append-nil, append_assoc}
use Prim.Native.Nat.{ℕ, zero, suc, ◌≤◌, ◌<◌}
use native.Mathlib.Omega.{arith}
use lib.Dec.{eqb, leb, ltb}
use lib.ListN.{length, take, drop, length-append, length-take, take-append-drop, drop_of_length-le}
use lib.Seq.{drop_at}
use borrow.Author.Tests.{eqb-true, leb-true, le-leb, ltb-true, lt-ltb}
use Rattle.model.specs.Shape.{Reader, a_end, a_byte, a_id, a_type, a_opt, ◌then◌, a_arg, times, a_counted, whole, bits}
use Rattle.model.specs.ShapeRules.{Part, IsByte, IsId, IsType, IsOpt, ◌followed◌, Many, Counted, Bits}
use Rattle.laws.proofs.Apart.{none_some, false_true}
use Rattle.laws.proofs.Members.{and_both, both_and}

-- ---- readers and what they read

-- a reader takes a part off a list exactly where the list begins with one
pub record Exact (f : Reader) (P : Part) : Type 0 where
  pub takes : (bs rest : List ℕ) → f bs ≡ Some rest → (a : List ℕ) × (bs ≡ a ++ rest) × P a
  pub finds : (a rest : List ℕ) → P a → f (a ++ rest) ≡ Some rest

pub whole_exact : (f : Reader) (P : Part) → Exact f P → (bs : List ℕ) → (whole f bs ≡ true) ↔ P bs
unfolding whole
whole_exact f P x bs = (λ e. go (f bs) refl e, λ h. rw (sym (ap f (append-nil bs)) ∙ x.finds bs [] h, whole) refl)
  where
    go : (o : Option (List ℕ)) → f bs ≡ o →
        elim o as (λ z. Bool) [ None ↦ false | Some rest ↦ eqb (length rest) 0 ] ≡ true → P bs
    go None e t = false_true t
    go (Some rest) e t =
        let w = x.takes bs rest e in
        let z : rest ≡ [] = drop_of_length-le rest {i = 0} (omega (arith, eqb-true (length rest) 0 t)) in
        let y : w.0 ≡ bs = sym (w.1 ∙ ap (w.0 ++◌) z ∙ append-nil w.0) in
        subst P y w.2

-- ---- each part

pub end_exact : Exact a_end (λ bs. bs ≡ [])
end_exact = record {
  takes = λ bs rest e. ([], (cc), refl);
  finds = λ a rest e. rw e refl;
}

pub byte_exact : Exact a_byte IsByte
unfolding a_byte
byte_exact = record { takes = takes; finds = finds }
  where
    takes : (bs rest : List ℕ) → a_byte bs ≡ Some rest → (a : List ℕ) × (bs ≡ a ++ rest) × IsByte a
    takes [] rest e = none_some e
    takes (b ∷ bs) rest e = let z : bs ≡ rest = cc in (b ∷ [], ap (b ∷◌) z, refl)

    finds : (a rest : List ℕ) → IsByte a → a_byte (a ++ rest) ≡ Some rest
    finds [] rest e = absurd (omega arith)
    finds (b ∷ []) rest e = refl
    finds (b ∷ c ∷ bs) rest e = absurd (omega arith)

pub id_exact : Exact a_id IsId
unfolding a_id
id_exact = record { takes = takes; finds = finds }
  where
    takes : (bs rest : List ℕ) → a_id bs ≡ Some rest → (a : List ℕ) × (bs ≡ a ++ rest) × IsId a
    takes bs rest e = go (leb 4 (length bs)) refl e
      where
        go : (b : Bool) → leb 4 (length bs) ≡ b →
            elim b as (λ z. Option (List ℕ)) [ true ↦ Some (drop 4 bs) | false ↦ None ] ≡ Some rest →
            (a : List ℕ) × (bs ≡ a ++ rest) × IsId a
        go true t e =
            let d : drop 4 bs ≡ rest = cc in
            let l : 4 ≤ length bs = leb-true 4 (length bs) t in
            (take 4 bs, sym (take-append-drop 4 bs) ∙ ap (take 4 bs ++◌) d, length-take 4 bs ∙ omega arith)
        go false t e = none_some e

    finds : (a rest : List ℕ) → IsId a → a_id (a ++ rest) ≡ Some rest
    finds a rest h =
        rw (le-leb 4 (length (a ++ rest)) (simp length-append (omega arith)), a_id)
        (ap (λ (z : List ℕ). Some z) (drop_at a rest 4 h))

pub type_exact : Exact a_type IsType
unfolding a_type
type_exact = record { takes = takes; finds = λ a rest h. rw h.2 (finds h.0 h.1 rest h.3 h.4) }
  where
    takes : (bs rest : List ℕ) → a_type bs ≡ Some rest → (a : List ℕ) × (bs ≡ a ++ rest) × IsType a
    takes [] rest e = none_some e
    takes (n ∷ bs) rest e = go (ltb 0 n && leb n (length bs)) refl e
      where
        go : (b : Bool) → (ltb 0 n && leb n (length bs)) ≡ b →
            elim b as (λ z. Option (List ℕ)) [ true ↦ Some (drop n bs) | false ↦ None ] ≡ Some rest →
            (a : List ℕ) × (n ∷ bs ≡ a ++ rest) × IsType a
        go true t e =
            let d : drop n bs ≡ rest = cc in
            let w = and_both (ltb 0 n) (leb n (length bs)) t in
            let l : n ≤ length bs = leb-true n (length bs) w.1 in (
              n ∷ take n bs,
              ap (n ∷◌) (sym (take-append-drop n bs) ∙ ap (take n bs ++◌) d),
              (n, take n bs, refl, ltb-true 0 n w.0, length-take n bs ∙ omega arith),
            )
        go false t e = none_some e

    finds : (n : ℕ) (body rest : List ℕ) → 1 ≤ n → length body ≡ n → a_type ((n ∷ body) ++ rest) ≡ Some rest
    finds n body rest l e =
        rw (lt-ltb 0 n l, le-leb n (length (body ++ rest)) (simp length-append (omega arith)), a_type)
        (ap (λ (z : List ℕ). Some z) (drop_at body rest n e))

pub opt_exact : Exact a_opt IsOpt
unfolding a_opt
opt_exact = record { takes = takes; finds = finds }
  where
    takes : (bs rest : List ℕ) → a_opt bs ≡ Some rest → (a : List ℕ) × (bs ≡ a ++ rest) × IsOpt a
    takes [] rest e = none_some e
    takes (zero ∷ bs) rest e = let d : bs ≡ rest = cc in (0 ∷ [], ap (0 ∷◌) d, inl refl)
    takes (suc zero ∷ bs) rest e =
        let w = type_exact.takes bs rest e in (1 ∷ w.0, ap (1 ∷◌) w.1, inr (w.0, refl, w.2))
    takes (suc (suc n) ∷ bs) rest e = none_some e

    finds : (a rest : List ℕ) → IsOpt a → a_opt (a ++ rest) ≡ Some rest
    finds a rest (inl e) = rw e refl
    finds a rest (inr (t, e, h)) = rw e (type_exact.finds t rest h)

then_exact : (f g : Reader) (P Q : Part) → Exact f P → Exact g Q → Exact (f then g) (P followed Q)
unfolding ◌then◌
then_exact f g P Q x y = record { takes = takes; finds = finds }
  where
    takes : (bs rest : List ℕ) → (f then g) bs ≡ Some rest → (a : List ℕ) × (bs ≡ a ++ rest) × (P followed Q) a
    takes bs rest e = go (f bs) refl e
      where
        go : (o : Option (List ℕ)) → f bs ≡ o →
            elim o as (λ z. Option (List ℕ)) [ None ↦ None | Some r ↦ g r ] ≡ Some rest →
            (a : List ℕ) × (bs ≡ a ++ rest) × (P followed Q) a
        go None t e = none_some e
        go (Some r) t e =
            let w = x.takes bs r t in
            let v = y.takes r rest e in (
              w.0 ++ v.0,
              w.1 ∙ ap (w.0 ++◌) v.1 ∙ sym (append_assoc w.0 v.0 rest),
              (w.0, v.0, refl, w.2, v.2),
            )

    finds : (c rest : List ℕ) → (P followed Q) c → (f then g) (c ++ rest) ≡ Some rest
    finds c rest (a, b, e, h, k) =
        rw (e, append_assoc a b rest) (rw (x.finds a (b ++ rest) h, ◌then◌) (y.finds b rest k))

pub many_exact : (f : Reader) (P : Part) → Exact f P → (n : ℕ) → Exact (times n f) (Many n P)
unfolding times
many_exact f P x zero = end_exact
many_exact f P x (suc n) = then_exact f (times n f) P (Many n P) x (many_exact f P x n)

pub counted_exact : Exact (a_counted a_type) Counted
unfolding a_counted
counted_exact = record { takes = takes; finds = finds }
  where
    takes : (bs rest : List ℕ) → a_counted a_type bs ≡ Some rest → (a : List ℕ) × (bs ≡ a ++ rest) × Counted a
    takes [] rest e = none_some e
    takes (n ∷ bs) rest e =
        let w = (many_exact a_type IsType type_exact n).takes bs rest e in
        (n ∷ w.0, ap (n ∷◌) w.1, (n, w.0, refl, w.2))

    finds : (a rest : List ℕ) → Counted a → a_counted a_type (a ++ rest) ≡ Some rest
    finds a rest (n, b, e, h) = rw e ((many_exact a_type IsType type_exact n).finds b rest h)

pub bits_exact : (bs : List ℕ) → (bits bs ≡ true) ↔ Bits bs
unfolding bits
bits_exact [] = (λ e i l. absurd (omega arith), λ h. refl)
bits_exact (b ∷ bs) = (
  λ e. let w = and_both (ltb b 2) (bits bs) e in to (ltb-true b 2 w.0) ((bits_exact bs).0 w.1),
  λ h. both_and (ltb b 2) (bits bs) (lt-ltb b 2 (h 0 (omega arith))) ((bits_exact bs).1 (λ i l. h (suc i) (omega arith))),
)
  where
    to : b < 2 → Bits bs → Bits (b ∷ bs)
    to h k zero l = h
    to h k (suc i) l = k i (omega arith)

pub arg_exact : Exact a_arg (IsId followed IsOpt)
arg_exact = then_exact a_id a_opt IsId IsOpt id_exact opt_exact

pub byte_type_exact : Exact (a_byte then a_type) (IsByte followed IsType)
byte_type_exact = then_exact a_byte a_type IsByte IsType byte_exact type_exact

pub method_exact : Exact (a_byte then a_byte then a_counted a_type) (IsByte followed IsByte followed Counted)
method_exact =
    then_exact a_byte (a_byte then a_counted a_type) IsByte (IsByte followed Counted) byte_exact
    (then_exact a_byte (a_counted a_type) IsByte Counted byte_exact counted_exact)
