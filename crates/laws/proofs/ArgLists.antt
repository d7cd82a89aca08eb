-- A lambda's arguments, in a literal an id and an opt each, in a node a symbol and an opt each; and how a literal's
-- are read.
--
-- In order: the list and its parts; arguments with other symbols (`with_opts`); what an opt is (`IsOpt`: it reads as
-- itself, whatever follows), and an opt that is read off a list; the next argument of a literal (`next_arg_lem`), and all
-- of them (`args_opts`).
-- Acceptance uses `args_opts`: a lambda's opts read back. Building uses `next_arg_lem` to read a written lambda's literal.
-- Assumes nothing.
use mathlib.Core.Path.{◌≡◌, refl, ap, sym, ◌∙◌}
use mathlib.Core.Bool.{Bool, true, false, ◌&&◌}
use Rattle.std.specs.Prelude.{Option, None, Some}
use mathlib.Core.List.{List, [], ◌∷◌, ◌++◌}
use Prim.Native.Nat.{ℕ, zero, suc, ◌+◌, ◌-◌, ◌≤◌}
use native.Mathlib.Omega.{arith}
use lib.Dec.{eqb, leb, ltb}
use lib.ListN.{length, drop, take, length-append, length-take, length-map, take-append-drop}
use lib.Seq.{drop_at, take-append_seam, drop-append_seam, drop-drop}
use borrow.Author.Tests.{leb-true, le-leb}
use Rattle.model.specs.Shape.{Reader, a_id, a_type, a_opt, ◌then◌, times, whole}
use Rattle.model.specs.Binding.{opt_of, args_of}
use Rattle.model.specs.Intern.{with_opts}
use Rattle.laws.specs.ArgLists.{ArgList, syms_in, opts_in, IsOpt, AllOpts}
use Rattle.laws.proofs.Apart.{none_some, false_true}
use Rattle.laws.proofs.Members.{and_both}

-- ---- the list and its parts

pub args_length : (n : ℕ) (bs : List ℕ) → length (args_of n bs) ≡ n
unfolding args_of
args_length zero bs = refl
args_length (suc n) bs = ap suc (args_length n _)

-- ---- arguments with other symbols

pub with_opts_syms : (xs : ArgList) (ss : List ℕ) → length ss ≡ length xs → syms_in (with_opts xs ss) ≡ ss
with_opts_syms [] [] e = refl
with_opts_syms [] (a ∷ ss) e = absurd (omega arith)
with_opts_syms (x ∷ xs) [] e = absurd (omega arith)
with_opts_syms (x ∷ xs) (a ∷ ss) e = ap (λ (l : List ℕ). a ∷ l) (with_opts_syms xs ss (omega arith))

pub with_opts_opts : (xs : ArgList) (ss : List ℕ) → length ss ≡ length xs → opts_in (with_opts xs ss) ≡ opts_in xs
with_opts_opts [] [] e = refl
with_opts_opts [] (a ∷ ss) e = absurd (omega arith)
with_opts_opts (x ∷ xs) [] e = absurd (omega arith)
with_opts_opts (x ∷ xs) (a ∷ ss) e = ap (λ (l : List (List ℕ)). x.1 ∷ l) (with_opts_opts xs ss (omega arith))

pub with_opts-length : (xs : ArgList) (ss : List ℕ) → length ss ≡ length xs → length (with_opts xs ss) ≡ length xs
with_opts-length xs ss e = sym (length-map (with_opts xs ss) (λ x. x.0)) ∙ (ap length (with_opts_syms xs ss e) ∙ e)

-- ---- opts

-- what a reader took off a list: a part that it reads as itself, whatever follows
abbrev Taken : Reader → List ℕ → List ℕ → Type 0
Taken f bs rest = (o : List ℕ) × (bs ≡ o ++ rest) × ((more : List ℕ) → f (o ++ more) ≡ Some more)

type_split : (bs rest : List ℕ) → a_type bs ≡ Some rest → Taken a_type bs rest
unfolding a_type
type_split [] rest e = none_some e
type_split (n ∷ bs) rest e = go (ltb 0 n && leb n (length bs)) refl e
  where
    back : (ltb 0 n && leb n (length bs)) ≡ true → (more : List ℕ) → a_type ((n ∷ take n bs) ++ more) ≡ Some more
    back t more =
        let w = and_both (ltb 0 n) (leb n (length bs)) t in
        let l : n ≤ length bs = leb-true n (length bs) w.1 in
        let k : length (take n bs) ≡ n = length-take n bs ∙ omega arith in
        rw (w.0, le-leb n (length (take n bs ++ more)) (simp length-append (omega arith)), a_type)
        (ap (λ (z : List ℕ). Some z) (drop_at (take n bs) more n k))

    go : (b : Bool) → (ltb 0 n && leb n (length bs)) ≡ b →
        elim b [ true ↦ Some (drop n bs) | false ↦ None ] ≡ Some rest → Taken a_type (n ∷ bs) rest
    go true t e = let d : drop n bs ≡ rest = cc in (n ∷ take n bs, cc (take-append-drop n bs), back t)
    go false t e = none_some e

opt_split : (bs rest : List ℕ) → a_opt bs ≡ Some rest → Taken a_opt bs rest
unfolding a_opt
opt_split [] rest e = none_some e
opt_split (zero ∷ bs) rest e = let d : bs ≡ rest = cc in (0 ∷ [], cc, λ more. refl)
opt_split (suc zero ∷ bs) rest e = let w = type_split bs rest e in (1 ∷ w.0, cc w.1, λ more. w.2 more)
opt_split (suc (suc n) ∷ bs) rest e = none_some e

opt_read : (o rest : List ℕ) → IsOpt o → opt_of (o ++ rest) ≡ o
unfolding opt_of
opt_read o rest h = rw (h rest, opt_of) (ap (λ (z : ℕ). take z (o ++ rest)) (len o rest) ∙ take-append_seam o rest)
  where
    len : (o rest : List ℕ) → length (o ++ rest) - length rest ≡ length o
    len o rest = simp length-append (omega arith)

-- ---- the arguments of a literal

-- past an id and an opt
pub next_arg_lem : (bs o rest : List ℕ) → drop 4 bs ≡ o ++ rest → IsOpt o →
    (opt_of (drop 4 bs) ≡ o) × (drop (4 + length (opt_of (drop 4 bs))) bs ≡ rest)
next_arg_lem bs o rest p h =
    let q : opt_of (drop 4 bs) ≡ o = ap opt_of p ∙ opt_read o rest h in
    let d : drop (length o) (drop 4 bs) ≡ rest = ap (drop (length o)) p ∙ drop-append_seam o rest in
    (q, rw q (sym (drop-drop (length o) 4 bs) ∙ d))

-- check 4 reads n ids and opts off a lambda's literal, so the opts read back
pub args_opts : (n : ℕ) (bs : List ℕ) → whole (times n (a_id then a_opt)) bs ≡ true → AllOpts (opts_in (args_of n bs))
unfolding args_of whole times ◌then◌ a_id
args_opts zero bs e = tt
args_opts (suc n) bs e = start (λ rest g. args_opts n rest g) (leb 4 (length bs)) e
  where
    Rest : Type 0
    Rest = (rest : List ℕ) → whole (times n (a_id then a_opt)) rest ≡ true → AllOpts (opts_in (args_of n rest))

    after : Option (List ℕ) → Bool
    after o = elim (elim o as (λ z. Option (List ℕ)) [ None ↦ None | Some rest ↦ times n (a_id then a_opt) rest ]) [
      | None ↦ false
      | Some rest ↦ eqb (length rest) 0
    ]

    cases : Rest → (o : Option (List ℕ)) → a_opt (drop 4 bs) ≡ o → after o ≡ true → AllOpts (opts_in (args_of (suc n) bs))
    cases ih None f g = false_true g
    cases ih (Some rest) f g =
        let w = opt_split (drop 4 bs) rest f in
        let v = next_arg_lem bs w.0 rest w.1 w.2 in
        (rw v.0 w.2, rw v.1 (ih rest g))

    opt : Option (List ℕ) → Option (List ℕ)
    opt o = elim o [ None ↦ None | Some rest ↦ a_opt rest ]

    start : Rest → (b : Bool) → after (opt (elim b [ true ↦ Some (drop 4 bs) | false ↦ None ])) ≡ true →
        AllOpts (opts_in (args_of (suc n) bs))
    start ih true g = cases ih (a_opt (drop 4 bs)) refl g
    start ih false g = false_true g
