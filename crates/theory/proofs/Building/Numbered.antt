-- A written lambda's arguments: numbered on from the last id, with the opts of the symbol's.
--
-- In order: the numbered list; its literal, which reads back as the list (`args_read`) and fits its shape
-- (`lam_fits`); an argument with its id and position (`ArgAt`); what the id and the symbol stand for in the body,
-- which is the same (`meaning_at`, `value_at`).
-- Given uses what they stand for, Built the literal.
-- Assumes nothing.
use mathlib.Core.Path.{◌≡◌, refl, ap, sym, ◌∙◌}
use mathlib.Core.Logic.{◌⊎◌, inl, inr}
use mathlib.Core.Bool.{true, false}
use Rattle.std.specs.Prelude.{Some}
use mathlib.Core.List.{List, [], ◌∷◌, ◌++◌}
use Prim.Native.Nat.{ℕ, suc, ◌+◌, ◌-◌, ◌≤◌, ◌<◌}
use native.Mathlib.Omega.{arith}
use lib.Dec.{leb}
use lib.ListN.{length, drop}
use borrow.Author.Tests.{eq-eqb, ne_eqb, le-leb}
use Rattle.model.specs.Lists.{is_in, twice}
use Rattle.model.specs.Bytes.{put32}
use Rattle.model.specs.Tree.{rec}
use Rattle.model.specs.Shape.{Reader, fits, agrees, shapes, shape_of, both_ways, one_way, a_id, a_opt, ◌then◌, times, whole}
use Rattle.model.specs.Binding.{args_of}
use Rattle.model.specs.Unfold.{arg, Meaning, meaning, bind_from}
use Rattle.model.specs.Materialize.{arg_lit}
use Rattle.laws.specs.Members.{In, Once}
use Rattle.laws.proofs.Members.{not_in_is_in, neither_or, both_and}
use Rattle.laws.specs.ArgLists.{ArgList, syms_in, opts_in, AllOpts}
use Rattle.laws.proofs.ArgLists.{next_arg_lem}
use Rattle.theory.proofs.Meaning.Mean.{Val, bind_syms}
use Rattle.theory.specs.Checked.{FitsWith}
use Rattle.theory.proofs.Building.Written.{read_id}

-- ---- the numbered list

abbrev pub numbered : ℕ → ArgList → ArgList
numbered last [] = []
numbered last (x ∷ xs) = (suc last, x.1) ∷ numbered (suc last) xs

pub numbered_opts : (last : ℕ) (xs : ArgList) → opts_in (numbered last xs) ≡ opts_in xs
numbered_opts last [] = refl
numbered_opts last (x ∷ xs) = ap (λ (l : List (List ℕ)). x.1 ∷ l) (numbered_opts (suc last) xs)

-- its ids are above the last, and each stands once
pub numbered_high : (last : ℕ) (xs : ArgList) (i : ℕ) → In i (syms_in (numbered last xs)) →
    (last < i) × (i ≤ last + length xs)
numbered_high last [] i h = absurd h
numbered_high last (x ∷ xs) i (inl e) = (omega arith, omega arith)
numbered_high last (x ∷ xs) i (inr h) =
    let w = numbered_high (suc last) xs i h in
    (omega (arith, w.0), omega (arith, w.1))

pub numbered_once : (last : ℕ) (xs : ArgList) → twice (syms_in (numbered last xs)) ≡ false
unfolding twice
numbered_once last [] = refl
numbered_once last (x ∷ xs) =
    let ids = syms_in (numbered (suc last) xs) in
    neither_or (is_in (suc last) ids) (twice ids)
    (not_in_is_in (suc last) ids (λ h. absurd (omega (arith, (numbered_high (suc last) xs (suc last) h).0))))
    (numbered_once (suc last) xs)

-- ---- the literal

past_id : (n : ℕ) (rest : List ℕ) → drop 4 (put32 n ++ rest) ≡ rest
unfolding put32
past_id n rest = refl

-- reading the arguments off the literal gives the numbered list
pub args_read : (last : ℕ) (xs : ArgList) → AllOpts (opts_in xs) → args_of (length xs) (arg_lit last xs) ≡ numbered last xs
unfolding args_of arg_lit
args_read last [] h = refl
args_read last (x ∷ xs) h =
    let rest = x.1 ++ arg_lit (suc last) xs in
    let w = next_arg_lem (put32 (suc last) ++ rest) x.1 (arg_lit (suc last) xs) (past_id (suc last) rest) h.0 in
    cc (read_id (suc last) rest, w.0, w.1, args_read (suc last) xs h.1)

then_reads : (f g : Reader) (bs rest : List ℕ) → f bs ≡ Some rest → (f then g) bs ≡ g rest
unfolding ◌then◌
then_reads f g bs rest e = rw (e, ◌then◌)

id_reads : (n : ℕ) (rest : List ℕ) → a_id (put32 n ++ rest) ≡ Some rest
unfolding a_id put32
id_reads n rest = rw (le-leb 4 (length (put32 n ++ rest)) (omega arith), a_id)

-- check 4 reads the literal to its end
lit_reads : (last : ℕ) (xs : ArgList) → AllOpts (opts_in xs) →
    times (length xs) (a_id then a_opt) (arg_lit last xs) ≡ Some []
unfolding times arg_lit
lit_reads last [] h = refl
lit_reads last (x ∷ xs) h =
    let rest = x.1 ++ arg_lit (suc last) xs in
    let lit = put32 (suc last) ++ rest in
    let one = then_reads a_id a_opt lit rest (id_reads (suc last) rest) ∙ h.0 (arg_lit (suc last) xs) in
    then_reads (a_id then a_opt) (times (length xs) (a_id then a_opt)) lit (arg_lit (suc last) xs) one
    ∙ lit_reads (suc last) xs h.1

lit_whole : (last : ℕ) (xs : ArgList) → AllOpts (opts_in xs) →
    whole (times (length xs) (a_id then a_opt)) (arg_lit last xs) ≡ true
unfolding whole
lit_whole last xs h = rw (lit_reads last xs h, whole)

pub lam_fits : (last : ℕ) (xs : ArgList) → length xs ≤ 15 → AllOpts (opts_in xs) →
    FitsWith (rec 12 0xD9 (length xs) (arg_lit last xs)) 1
unfolding fits shapes
lam_fits last xs l h = both_and (leb (length xs) 15) _ (le-leb (length xs) 15 l) (lit_whole last xs h)

pub lam_agrees : (n : ℕ) (l : List ℕ) → agrees (rec 12 0xD9 n l) ≡ true
unfolding agrees shape_of both_ways one_way is_in
lam_agrees n l = refl

-- ---- an argument: symbol t has id i and position q, where the list begins at position p

abbrev pub ArgAt : ℕ → ℕ → ArgList → ℕ → ℕ → ℕ → Type 0
ArgAt last p [] t i q = ⊥
ArgAt last p (x ∷ xs) t i q = ((t ≡ x.0) × (i ≡ suc last) × (q ≡ p)) ⊎ ArgAt (suc last) (suc p) xs t i q

pub arg_sym : (last p : ℕ) (xs : ArgList) (t i q : ℕ) → ArgAt last p xs t i q → In t (syms_in xs)
arg_sym last p [] t i q h = h
arg_sym last p (x ∷ xs) t i q (inl h) = inl h.0
arg_sym last p (x ∷ xs) t i q (inr h) = inr (arg_sym (suc last) (suc p) xs t i q h)

pub arg_id : (last p : ℕ) (xs : ArgList) (t i q : ℕ) → ArgAt last p xs t i q → In i (syms_in (numbered last xs))
arg_id last p [] t i q h = h
arg_id last p (x ∷ xs) t i q (inl h) = inl h.1
arg_id last p (x ∷ xs) t i q (inr h) = inr (arg_id (suc last) (suc p) xs t i q h)

-- ---- what ids and symbols stand for in the lambda's body, e its number

pub meaning_at : (e last p : ℕ) (xs : ArgList) (ms : Meaning) (t i q : ℕ) → ArgAt last p xs t i q →
    (d : ℕ) → meaning (bind_from e p (numbered last xs) ms) i d ≡ arg (d - e) q
unfolding meaning bind_from
meaning_at e last p [] ms t i q h d = absurd h
meaning_at e last p (x ∷ xs) ms t i q (inl h) d =
    rw (eq-eqb (suc last) i (sym h.1), meaning) (ap (arg (d - e)) (sym h.2))
meaning_at e last p (x ∷ xs) ms t i q (inr h) d =
    let high = numbered_high (suc last) xs i (arg_id (suc last) (suc p) xs t i q h) in
    rw (ne_eqb (suc last) i (λ k. absurd (omega (arith, high.0))), meaning)
    (meaning_at e (suc last) (suc p) xs ms t i q h d)

pub meaning_old : (e last p : ℕ) (xs : ArgList) (ms : Meaning) (i : ℕ) → i ≤ last →
    (d : ℕ) → meaning (bind_from e p (numbered last xs) ms) i d ≡ meaning ms i d
unfolding meaning bind_from
meaning_old e last p [] ms i l d = refl
meaning_old e last p (x ∷ xs) ms i l d =
    rw (ne_eqb (suc last) i (λ k. absurd (omega arith)), meaning)
    (meaning_old e (suc last) (suc p) xs ms i (omega arith) d)

pub value_at : (e last p : ℕ) (xs : ArgList) (ρ : Val) (t i q : ℕ) → Once (syms_in xs) → ArgAt last p xs t i q →
    (d : ℕ) → bind_syms e p xs ρ t d ≡ arg (d - e) q
unfolding bind_syms
value_at e last p [] ρ t i q o h d = absurd h
value_at e last p (x ∷ xs) ρ t i q o (inl h) d =
    rw (eq-eqb x.0 t (sym h.0), bind_syms) (ap (arg (d - e)) (sym h.2))
value_at e last p (x ∷ xs) ρ t i q o (inr h) d =
    let other : x.0 ≡ t → ⊥ = λ k. o.0 (rw k (arg_sym (suc last) (suc p) xs t i q h)) in
    rw (ne_eqb x.0 t other, bind_syms) (value_at e (suc last) (suc p) xs ρ t i q o.1 h d)
