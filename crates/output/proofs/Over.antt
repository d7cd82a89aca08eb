-- Laws of `over`. In order: from the start on; its length; a store; a copy; one part after another; a copy one by one.
-- Assumes nothing.
use Prim.Native.Nat.{ℕ, suc, ◌+◌, ◌<◌, ◌≤◌}
use mathlib.Core.Path.{◌≡◌, sym, ap, ap₂, ◌∙◌, subst}
use mathlib.Core.List.{List, [], ◌∷◌, ◌++◌, append_assoc, append-nil}
use native.Mathlib.Omega.{arith}
use native.Mathlib.Numerals.{add-one}
use lib.ListN.{length, take, drop, set, get_or, length-append, take-append-drop, length-drop}
use lib.Seq.{length-take-le, sets-eq, take-length, paste, paste-suc, take_at, drop_at, drop-drop}
use Rattle.std.proofs.lemmas.List.{drop_all}
use Rattle.output.specs.Output.{over}

-- from the start on: the bytes, and what stood past them
pub over_front : (out bytes : List ℕ) → over out 0 bytes ≡ bytes ++ drop (length bytes) out
unfolding over
over_front out bytes = let e : 0 + length bytes ≡ length bytes = omega arith in rw e

module _ (out : List ℕ) (at : ℕ) where
  pub over-length : (bytes : List ℕ) → at + length bytes ≤ length out → length (over out at bytes) ≡ length out
  unfolding over
  over-length bytes h =
      let t : length (take at out) ≡ at = length-take-le at out (omega arith) in
      omega (
        arith,
        length-append (take at out ++ bytes) (drop (at + length bytes) out),
        length-append (take at out) bytes,
        length-drop (at + length bytes) out,
      )

  -- ---- a store

  pub set-over : (a : ℕ) → at + 1 ≤ length out → set out at a ≡ over out at (a ∷ [])
  unfolding over
  set-over a h = sets-eq (a ∷ []) out at h

  -- ---- a copy

  pub paste_over : (part : List ℕ) → paste out at part (length part) ≡ over out at part
  unfolding over
  paste_over part = ap (λ (l : List ℕ). take at out ++ l ++ drop (at + length part) out) (take-length part)

  -- ---- one part after another

  pub over-nil : over out at [] ≡ out
  unfolding over
  over-nil =
      let e : at + 0 ≡ at = omega arith in
      rw (e, append-nil) (take-append-drop at out)

  pub over-over : (a b : List ℕ) → at + length a + length b ≤ length out →
      over (over out at a) (at + length a) b ≡ over out at (a ++ b)
  unfolding over
  over-over a b h =
      ap₂ (λ (x y : List ℕ). x ++ b ++ y)
      (take_at (take at out ++ a) (drop (at + length a) out) (at + length a) front)
      (sym (drop-drop (length b) (at + length a) w)
      ∙ ap (drop (length b)) (drop_at (take at out ++ a) (drop (at + length a) out) (at + length a) front)
      ∙ drop-drop (length b) (at + length a) out)
      ∙ (ap (λ (x : List ℕ). x ++ drop (at + length a + length b) out) (append_assoc (take at out) a b)
      ∙ ap (λ (n : ℕ). take at out ++ (a ++ b) ++ drop n out) lengths)
    where
      w : List ℕ
      w = take at out ++ a ++ drop (at + length a) out

      front : length (take at out ++ a) ≡ at + length a
      front = length-append (take at out) a ∙ ap (λ (n : ℕ). n + length a) (length-take-le at out (omega arith))

      lengths : at + length a + length b ≡ at + length (a ++ b)
      lengths = omega (arith, length-append a b)

-- ---- a copy, one by one, over as many as there are

pub copied_one : (d s : List ℕ) (k : ℕ) (p : List ℕ) → k < length d → k < length s → p ≡ paste d 0 s k →
    set p k (get_or s k 0) ≡ paste d 0 s (k + 1)
copied_one d s k p h l e =
    let z : 0 + k ≡ k = omega arith in
    ap (λ (o : List ℕ). set o k (get_or s k 0)) e
    ∙ subst (λ (n : ℕ). set (paste d 0 s k) n (get_or s k 0) ≡ paste d 0 s (suc k)) z (paste-suc d 0 s k 0 (omega arith) l)
    ∙ ap (paste d 0 s) (sym (add-one k))

pub copied_all : (d s : List ℕ) (k : ℕ) (p : List ℕ) → length d ≡ length s → k ≡ length s → p ≡ paste d 0 s k → p ≡ s
copied_all d s k p long all e =
    e ∙ ap (paste d 0 s) all ∙ paste_over d 0 s ∙ over_front d s
    ∙ ap (λ (l : List ℕ). s ++ l) (drop_all (length s) d (omega arith)) ∙ append-nil s

-- the second of two parts goes where the first ends
pub over_then : (o₀ o₁ o₂ : List ℕ) (at at₁ : ℕ) (a b : List ℕ) → o₁ ≡ over o₀ at a → o₂ ≡ over o₁ at₁ b
    → at₁ ≡ at + length a → at + length a + length b ≤ length o₀ → o₂ ≡ over o₀ at (a ++ b)
over_then o₀ o₁ o₂ at at₁ a b p q e h =
    q ∙ (ap₂ (λ (o : List ℕ) (n : ℕ). over o n b) p e ∙ over-over o₀ at a b h)
