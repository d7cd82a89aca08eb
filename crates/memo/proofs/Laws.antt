-- Projections remembered in words. In order: the search; which words they hang on; one more pair. Assumes nothing.
use Prim.Native.Nat.{ℕ, zero, suc, ◌+◌, ◌*◌, ◌/◌, ◌%◌, ◌<◌, ◌≤◌, ◌-◌}
use mathlib.Core.Path.{◌≡◌, refl, ap, ◌∙◌}
use mathlib.Core.Bool.{Bool, true, false, cond}
use mathlib.Core.List.{List, ◌∷◌, reverse}
use native.Mathlib.Omega.{arith}
use native.Mathlib.Numerals.{add-one}
use lib.Dec.{eqb}
use lib.ListN.{length, get_or, take, drop}
use lib.Seq.{get_or-set_same, take-suc}
use Rattle.std.specs.Prelude.{Option, Some, option_map}
use Rattle.std.specs.List.{find, slice_range}
use Rattle.std.proofs.lemmas.List.{reverse-append, get_or-drop, length-drop}
use Rattle.model.specs.Intern.{recall}
use Rattle.laws.specs.Frame.{Agree}
use Rattle.laws.specs.Stack.{stack_of}
use Rattle.laws.proofs.Frame.{agree_store}
use Rattle.laws.proofs.Stack.{stack_kept}
use Rattle.regions.specs.Regions.{WORDS, MEMO}
use Rattle.memo.specs.Memo.{triple_of, triple_at, memo_of, remembered}

-- ---- the search, through the words of n pairs from the newest on

abbrev word : List ℕ → ℕ → ℕ
word ws k = get_or ws (MEMO.first + k) 0

pairs_reversed : (ws : List ℕ) (n : ℕ) → MEMO.first + n ≤ length ws →
    reverse (slice_range ws MEMO.first (MEMO.first + n)) ≡ stack_of (word ws) n
unfolding stack_of
pairs_reversed ws n long = rw e (go n long)
  where
    e : MEMO.first + n - MEMO.first ≡ n
    e = omega arith

    go : (k : ℕ) → MEMO.first + k ≤ length ws → reverse (take k (drop MEMO.first ws)) ≡ stack_of (word ws) k
    go zero le = refl
    go (suc k) le =
        let l : k < length (drop MEMO.first ws) = omega (arith, length-drop MEMO.first ws) in
        rw (take-suc (drop MEMO.first ws) k 0 l, reverse-append, get_or-drop, go k (omega arith))

module _ (ws : List ℕ) (p : ℕ) where
  abbrev fields : ℕ → ℕ × ℕ
  fields w = (w / 512 % 512, w / 262144)

  abbrev asked : ℕ → Bool
  asked w = eqb (w % 512) p

  found_is : (n : ℕ) → option_map fields (find asked (stack_of (word ws) n)) ≡ recall (memo_of ws n) p
  unfolding recall memo_of stack_of
  found_is zero = refl
  found_is (suc n) = go (eqb (word ws n % 512) p) (found_is n)
    where
      sought : Option ℕ
      sought = find asked (stack_of (word ws) n)

      go : (t : Bool) → option_map fields sought ≡ recall (memo_of ws n) p →
          option_map fields (cond t (Some (word ws n)) sought)
          ≡ elim t [ true ↦ Some (fields (word ws n)) | false ↦ recall (memo_of ws n) p ]
      go true rest = refl
      go false rest = rest

  pub recall_found : (n : ℕ) → MEMO.first + n ≤ length ws →
      option_map fields (find asked (reverse (slice_range ws MEMO.first (MEMO.first + n)))) ≡ recall (memo_of ws n) p
  recall_found n long = rw (pairs_reversed ws n long) (found_is n)

-- ---- which words

pub memo_agree : (ws us : List ℕ) (n : ℕ) → Agree ws us MEMO.first (MEMO.first + n) → memo_of us n ≡ memo_of ws n
unfolding memo_of
memo_agree ws us n h =
    stack_kept (triple_at us) (triple_at ws) n (λ k lt. ap triple_of (h (MEMO.first + k) (omega arith) (omega arith)))

-- ---- one more pair

triple_back : (p a b : ℕ) → p < 512 → a < 512 → triple_of (p + 512 * a + 262144 * b) ≡ (p, a, b)
triple_back p a b q r =
    let e : (p + 512 * a + 262144 * b) % 512 ≡ p = omega arith in
    let d : (p + 512 * a + 262144 * b) / 512 ≡ a + 512 * b = omega arith in
    let f : (p + 512 * a + 262144 * b) / 512 % 512 ≡ a = rw d (omega arith) in
    let g : (p + 512 * a + 262144 * b) / 262144 ≡ b = omega arith in
    rw (e, f, g)

pub memo_remembered : (ws : List ℕ) (n p a b : ℕ) → n < MEMO.size → WORDS ≤ length ws → p < 512 → a < 512
    → memo_of (remembered ws n p a b) (n + 1) ≡ (p, a, b) ∷ memo_of ws n
unfolding memo_of stack_of
memo_remembered ws n p a b few long q r =
    rw (add-one n, memo_agree ws (remembered ws n p a b) n (agree_store ws (MEMO.first + n) _ _ _ (omega arith)))
    (ap (λ (w : ℕ). triple_of w ∷ memo_of ws n) (get_or-set_same ws (MEMO.first + n) _ 0 (omega arith))
    ∙ ap (λ (t : ℕ × ℕ × ℕ). t ∷ memo_of ws n) (triple_back p a b q r))
