-- The arguments in a lambda's literal, one by one.
-- In order: an id's bytes; the argument that a list begins with; the first few; a literal of arguments, from the first on.
-- Assumes nothing.
use Prim.Native.Nat.{ℕ, zero, suc, ◌+◌, ◌-◌, ◌*◌, ◌<◌, ◌≤◌}
use mathlib.Core.Path.{◌≡◌, refl, sym, ap, ◌∙◌}
use Rattle.std.specs.Prelude.{Option, None, Some}
use mathlib.Core.List.{List, [], ◌∷◌}
use native.Mathlib.Omega.{arith}
use native.Mathlib.Decide.{dec_le}
use borrow.Author.Tests.{eqb-true}
use lib.ListN.{length, get_or, take, drop, length-take, length-drop}
use lib.Seq.{drop-drop}
use Rattle.model.specs.Bytes.{u32}
use Rattle.model.specs.Shape.{a_id, a_opt, a_arg, times, whole}
use Rattle.model.specs.Binding.{opt_of, args_of}
use Rattle.shape.specs.Reading.{AllArgs, first_arg, first_args}
use Rattle.shape.proofs.Part.{then_is, id_some, id_none, Ends, opt_ends, whole_stands}

-- ---- an id's bytes

pub u32_at : (lit : List ℕ) → u32 lit ≡ get_or lit 0 0 + 256 * (get_or lit 1 0 + 256 * (get_or lit 2 0 + 256 * get_or lit 3 0))
unfolding u32
u32_at lit = refl

-- ---- the argument that a list begins with

-- an argument is an id and an opt
arg_is : (bs rest : List ℕ) → a_arg bs ≡ Some rest → (4 ≤ length bs) × (a_opt (drop 4 bs) ≡ Some rest)
arg_is bs rest e = elim (dec_le 4 (length bs)) [
  | yes h ↦ (h, rw (then_is a_id a_opt bs, id_some bs h) at e)
  | no g ↦
      let none : length bs < 4 = omega arith in
      let gone : None ≡ Some rest = rw (then_is a_id a_opt bs, id_none bs none) at e in
      cc
]

module _ (bs rest : List ℕ) (e : a_arg bs ≡ Some rest) where
  pub arg_id : 4 ≤ length bs
  arg_id = (arg_is bs rest e).0

  left : Ends (drop 4 bs) rest
  left = opt_ends (drop 4 bs) rest (arg_is bs rest e).1

  pub arg_size : 4 + length rest ≤ length bs
  arg_size = omega (arith, arg_id, rw length-drop at left.short)

  -- its opt stands between its id and what is left
  arg_opt : opt_of (drop 4 bs) ≡ take (length bs - length rest - 4) (drop 4 bs)
  unfolding opt_of
  arg_opt =
      let n : length bs - 4 - length rest ≡ length bs - length rest - 4 = omega arith in
      rw ((arg_is bs rest e).1, opt_of, length-drop, n)

  arg_length : length (opt_of (drop 4 bs)) ≡ length bs - length rest - 4
  arg_length = ap length arg_opt ∙ rw (length-take, length-drop) (omega (arith, arg_size))

  arg_rest : rest ≡ drop (4 + length (opt_of (drop 4 bs))) bs
  arg_rest =
      let n : length bs - 4 - length rest ≡ length (opt_of (drop 4 bs)) = omega (arith, arg_length) in
      left.is ∙ rw (length-drop, n, drop-drop)

  pub first_some : first_arg bs ≡ Some ((u32 bs, take (length bs - length rest - 4) (drop 4 bs)), rest)
  unfolding first_arg
  first_some = rw (e, first_arg, arg_opt)

pub first_none : (bs : List ℕ) → a_arg bs ≡ None → first_arg bs ≡ None
unfolding first_arg
first_none bs e = rw (e, first_arg)

pub arg_there : (bs : List ℕ) → (a_arg bs ≡ None → ⊥) → 4 ≤ length bs
arg_there bs s = go (a_arg bs) refl
  where
    go : (r : Option (List ℕ)) → a_arg bs ≡ r → 4 ≤ length bs
    go None e = absurd (s e)
    go (Some rest) e = arg_id bs rest e

pub ruleset splitting = (arg_id, arg_size, first_some, first_none)

-- ---- the first few

pub args_zero : (n : ℕ) (bs : List ℕ) → n ≡ 0 → first_args n bs ≡ []
unfolding first_args
args_zero n bs e = rw (e, first_args)

pub args_none : (n : ℕ) (bs : List ℕ) → first_arg bs ≡ None → first_args n bs ≡ []
unfolding first_args
args_none zero bs e = refl
args_none (suc n) bs e = rw (e, first_args)

args_more : (n : ℕ) (bs : List ℕ) (a : ℕ × List ℕ) (rest : List ℕ) → first_arg bs ≡ Some (a, rest)
    → first_args (suc n) bs ≡ a ∷ first_args n rest
unfolding first_args
args_more n bs a rest e = rw (e, first_args)

pub args_some : (n : ℕ) (bs : List ℕ) (a : ℕ × List ℕ) (rest : List ℕ) → 0 < n → first_arg bs ≡ Some (a, rest)
    → first_args n bs ≡ a ∷ first_args (n - 1) rest
args_some n bs a rest l e =
    let m : n ≡ suc (n - 1) = omega arith in
    ap (λ (k : ℕ). first_args k bs) m ∙ args_more (n - 1) bs a rest e

pub ruleset taking = (args_zero, args_none, args_some)

-- a literal of n arguments begins with n of them
pub all_stand : (n : ℕ) (lit : List ℕ) → AllArgs n lit → times n a_arg lit ≡ None → ⊥
all_stand n lit a = whole_stands (times n a_arg) lit a

-- where n of them stand, they are the model's
pub first_is : (n : ℕ) (bs : List ℕ) → (times n a_arg bs ≡ None → ⊥) → first_args n bs ≡ args_of n bs
unfolding first_args args_of times
first_is zero bs s = refl
first_is (suc n) bs s = go (a_arg bs) refl (λ rest t. first_is n rest t)
  where
    go : (r : Option (List ℕ)) → a_arg bs ≡ r
        → ((rest : List ℕ) → (times n a_arg rest ≡ None → ⊥) → first_args n rest ≡ args_of n rest)
        → first_args (suc n) bs ≡ args_of (suc n) bs
    go None e more = absurd (s (rw (then_is a_arg (times n a_arg) bs, e)))
    go (Some rest) e more =
        args_more n bs _ rest (first_some bs rest e)
        ∙ rw (sym (arg_opt bs rest e))
        (ap (λ (xs : List (ℕ × List ℕ)). (u32 bs, opt_of (drop 4 bs)) ∷ xs)
        (more rest (λ z. s (rw (then_is a_arg (times n a_arg) bs, e) z)) ∙ ap (args_of n) (arg_rest bs rest e)))

-- ---- a literal of arguments, from the first on

pub all_none : (lit : List ℕ) → AllArgs 0 lit → length lit ≡ 0
unfolding whole times
all_none lit a = eqb-true (length lit) 0 a

-- a literal of n + 1 arguments: the first, and n in what is left
pub record Further (n : ℕ) (lit : List ℕ) : Type 0 where
  pub rest : List ℕ
  pub all : AllArgs n rest
  pub args : args_of (suc n) lit ≡ (u32 lit, opt_of (drop 4 lit)) ∷ args_of n rest
  pub size : 4 + length (opt_of (drop 4 lit)) + length rest ≡ length lit

pub further : (n : ℕ) (lit : List ℕ) → AllArgs (suc n) lit → Further n lit
unfolding whole times args_of
further n lit a = go (a_arg lit) refl
  where
    go : (r : Option (List ℕ)) → a_arg lit ≡ r → Further n lit
    go None e = absurd (all_stand (suc n) lit a (rw (then_is a_arg (times n a_arg) lit, e)))
    go (Some rest) e = record {
      rest = rest;
      all = rw (then_is a_arg (times n a_arg) lit, e, whole) at a;
      args = ap (λ (xs : List ℕ). (u32 lit, opt_of (drop 4 lit)) ∷ args_of n xs) (sym (arg_rest lit rest e));
      size = omega (arith, arg_length lit rest e, arg_size lit rest e);
    }
