-- A lambda's arguments written one by one. In order: how long the renumbered literal is; what is left to be written; the
-- loop's start, a turn, its end.
-- Assumes nothing.
use Prim.Native.Nat.{ℕ, zero, suc, ◌+◌, ◌≤◌}
use mathlib.Core.Path.{◌≡◌, refl, sym, ap, ◌∙◌}
use mathlib.Core.List.{List, [], ◌∷◌, ◌++◌, append_assoc}
use native.Mathlib.Omega.{arith}
use lib.ListN.{length, drop, length-append}
use Rattle.model.specs.Bytes.{u32, put32}
use Rattle.model.specs.Binding.{opt_of, args_of}
use Rattle.model.specs.Materialize.{arg_lit}
use Rattle.laws.proofs.ArgLists.{args_length}
use Rattle.shape.specs.Reading.{AllArgs}
use Rattle.shape.proofs.Reading.{further, all_none, all_stand}
use Rattle.output.specs.declared.Output.{Output}
use Rattle.output.specs.Output.{Room, Put}
use Rattle.output.proofs.Put.{put_none, put_as, put_then}

pub put32-length : (n : ℕ) → length (put32 n) ≡ 4
unfolding put32
put32-length n = refl

-- ---- renumbered arguments take as many bytes as they took

-- one argument more
more_length : (last : ℕ) (a : ℕ × List ℕ) (xs : List (ℕ × List ℕ))
    → length (arg_lit last (a ∷ xs)) ≡ 4 + length a.1 + length (arg_lit (suc last) xs)
unfolding arg_lit
more_length last a xs =
    length-append (put32 (suc last)) (a.1 ++ arg_lit (suc last) xs)
    ∙ omega (arith, put32-length (suc last), length-append a.1 (arg_lit (suc last) xs))

pub lit_length : (n : ℕ) (lit : List ℕ) (last : ℕ) → AllArgs n lit → length (arg_lit last (args_of n lit)) ≡ length lit
unfolding arg_lit args_of
lit_length zero lit last h = sym (all_none lit h)
lit_length (suc n) lit last h =
    let f = further n lit h in
    ap (λ (xs : List (ℕ × List ℕ)). length (arg_lit last xs)) f.args
    ∙ more_length last (u32 lit, opt_of (drop 4 lit)) (args_of n f.rest)
    ∙ omega (arith, lit_length n f.rest (suc last) f.all, f.size)

-- ---- the loop

-- xs are left, to be numbered after id; once they are written, so is the whole literal, numbered after last
pub record Writing (lit : List ℕ) (n last : ℕ) (o₀ o : Output) (xs : List (ℕ × List ℕ)) (id : ℕ) : Type 0 where
  pub count : id + length xs ≡ last + n
  pub room : Room o (length (arg_lit id xs))
  pub rest : (o' : Output) → Put o (arg_lit id xs) o' → Put o₀ (arg_lit last (args_of n lit)) o'

module _ (lit : List ℕ) (n last : ℕ) (o₀ : Output) where
  pub lit_start : (xs : List (ℕ × List ℕ)) → xs ≡ args_of n lit → AllArgs n lit → Room o₀ (length lit) →
      Writing lit n last o₀ o₀ xs last
  lit_start xs e all room = record {
    count = omega (arith, ap length e, args_length n lit);
    room = omega (arith, ap (λ (ys : List (ℕ × List ℕ)). length (arg_lit last ys)) e, lit_length n lit last all);
    rest = λ o' p. put_as (ap (arg_lit last) e) p;
  }

  module _ (o : Output) (xs : List (ℕ × List ℕ)) (id : ℕ) (w : Writing lit n last o₀ o xs id) where
    module _ (a : ℕ × List ℕ) (more : List (ℕ × List ℕ)) (e : xs ≡ a ∷ more) where
      next : arg_lit id xs ≡ put32 (id + 1) ++ a.1 ++ arg_lit (id + 1) more
      unfolding arg_lit
      next =
          let f : id + 1 ≡ suc id = omega arith in
          rw (e, f) (sym (append_assoc (put32 (suc id)) a.1 (arg_lit (suc id) more)))

      lengths : length (arg_lit id xs) ≡ 4 + length a.1 + length (arg_lit (id + 1) more)
      lengths =
          ap length next
          ∙ omega (
            arith,
            put32-length (id + 1),
            length-append (put32 (id + 1) ++ a.1) (arg_lit (id + 1) more),
            length-append (put32 (id + 1)) a.1,
          )

      pub lit_id : id + 1 ≤ last + n
      lit_id = omega (arith, w.count, ap length e)

      pub lit_room : Room o (4 + length a.1)
      lit_room = omega (arith, w.room, lengths)

      pub lit_turn : {o₁ o₂ : Output} → Put o (put32 (id + 1)) o₁ → Put o₁ a.1 o₂ → Writing lit n last o₀ o₂ more (id + 1)
      lit_turn p q =
          let both = put_then p q in
          record {
            count = omega (arith, w.count, ap length e);
            room = omega (arith, w.room, lengths, both.ends, both.len, put32-length (id + 1), length-append (put32 (id + 1)) a.1);
            rest = λ o' r. w.rest o' (put_as (sym next) (put_then both r));
          }

    pub lit_end : xs ≡ [] → Put o₀ (arg_lit last (args_of n lit)) o
    unfolding arg_lit
    lit_end e = w.rest o (put_as (sym (ap (arg_lit id) e)) (put_none o))

pub ruleset writing = (all_stand, lit_start, lit_id, lit_room, lit_turn, lit_end)
