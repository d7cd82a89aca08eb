-- Laws of ids in work words. In order: a search for an id; a search for a clash; the words that they hang on; ids that
-- were put on top.
-- Assumes nothing.
use Prim.Native.Nat.{ℕ, zero, suc, ◌+◌, ◌-◌, ◌<◌, ◌≤◌}
use mathlib.Core.Path.{◌≡◌, refl, sym, ap, ap₂, ◌∙◌}
use mathlib.Core.Bool.{Bool, true, false, ◌||◌}
use mathlib.Core.List.{List, ◌∷◌, ◌++◌, append_assoc, [], reverse}
use native.Mathlib.Omega.{arith}
use Rattle.std.specs.List.{list_any, range_with_len}
use Rattle.std.proofs.lemmas.Bool.Decides.{nat_tests}
use Rattle.std.proofs.lemmas.List.Folds.{list_any_more}
use Rattle.std.proofs.lemmas.List.Sorted.{list_any-IsPermutation, IsPermutation-reverse}
use Rattle.std.proofs.Math.Bool.{or_comm}
use lib.Dec.{eqb}
use lib.ListN.{length, get_or, set, take}
use lib.Seq.{get_or-set_same, get_or-set_other}
use Rattle.model.specs.Lists.{is_in}
use Rattle.laws.specs.Stack.{stack_of}
use Rattle.laws.specs.Frame.{Frame}
use Rattle.laws.proofs.Stack.{stack_kept, stack_split}
use Rattle.laws.proofs.Frame.{frame_none, frame_store}
use Rattle.regions.specs.Regions.{IDS, end}
use Rattle.walk.specs.Words.{ids_of, ids_in, clash, Bound}

-- ---- a search for an id

turned : (a b : ℕ) → eqb a b ≡ eqb b a
turned a b = grind (arith, nat_tests)

pub ids_found : (id : ℕ) (ws : List ℕ) (k : ℕ) → k ≤ length ws →
    list_any (λ y. eqb y id) (take k ws) ≡ is_in id (ids_of ws k)
unfolding ids_of stack_of is_in
ids_found id ws zero l = refl
ids_found id ws (suc k) l =
    let e : suc k ≡ k + 1 = omega arith in
    ap (λ (n : ℕ). list_any (λ y. eqb y id) (take n ws)) e
    ∙ list_any_more (λ y. eqb y id) ws k 0 (omega arith)
    ∙ or_comm (list_any (λ y. eqb y id) (take k ws)) (eqb (get_or ws k 0) id)
    ∙ ap₂ ◌||◌ (turned (get_or ws k 0) id) (ids_found id ws k (omega arith))

-- the search from the newest on
pub ids_found_back : (id : ℕ) (ws : List ℕ) (k : ℕ) → k ≤ length ws →
    list_any (λ y. eqb y id) (reverse (take k ws)) ≡ is_in id (ids_of ws k)
ids_found_back id ws k l =
    sym (list_any-IsPermutation (λ y. eqb y id) (take k ws) (reverse (take k ws)) (IsPermutation-reverse (take k ws)))
    ∙ ids_found id ws k l

-- ---- a search for a clash

swapped : (a b c : Bool) → (a || (b || c)) ≡ (b || (a || c))
swapped true true c = refl
swapped true false c = refl
swapped false true c = refl
swapped false false c = refl

any_last : (p : ℕ → Bool) (a n : ℕ) → list_any p (range_with_len a (suc n)) ≡ (p (a + n) || list_any p (range_with_len a n))
any_last p a zero = let e : a + 0 ≡ a = omega arith in rw e
any_last p a (suc n) =
    let e : a + 1 + n ≡ a + suc n = omega arith in
    let more = list_any p (range_with_len (a + 1) n) in
    ap (λ (b : Bool). p a || b) (any_last p (a + 1) n)
    ∙ ap (λ (k : ℕ). p a || (p k || more)) e
    ∙ swapped (p a) (p (a + suc n)) more

-- whether the id in word k stands before it
abbrev pub clashes_at : List ℕ → ℕ → Bool
clashes_at ws k = is_in (get_or ws k 0) (ids_of ws k)

pub clash_found : (ws : List ℕ) (top m : ℕ) → list_any (clashes_at ws) (range_with_len top m) ≡ clash ws top m
unfolding clash
clash_found ws top zero = refl
clash_found ws top (suc m) =
    any_last (clashes_at ws) top m ∙ ap (λ (b : Bool). clashes_at ws (top + m) || b) (clash_found ws top m)

-- ---- the words that they hang on

pub ids_kept : (top hi : ℕ) (a b : List ℕ) → Frame top hi a b → ids_of b top ≡ ids_of a top
unfolding ids_of
ids_kept top hi a b h = stack_kept (λ j. get_or b j 0) (λ j. get_or a j 0) top h.before

-- ---- ids that were put on top, from the newest down

-- one more, below those from at + 1 on
ids_one : (ws : List ℕ) (at v m : ℕ) → at < length ws →
    ids_in (set ws at v) at (suc m) ≡ ids_in ws (at + 1) m ++ (v ∷ [])
unfolding ids_in stack_of
ids_one ws at v m room =
    let us = set ws at v in
    let e : suc m ≡ 1 + m = omega arith in
    let z : at + 0 ≡ at = omega arith in
    ap (stack_of (λ j. get_or us (at + j) 0)) e
    ∙ stack_split (λ j. get_or us (at + j) 0) 1 m
    ∙ rw (z, get_or-set_same ws at v 0 room)
    (ap (λ (xs : List ℕ). xs ++ (v ∷ []))
    (stack_kept (λ j. get_or us (at + (1 + j)) 0) (λ j. get_or ws (at + 1 + j) 0) m
    (λ j lt. let f : at + (1 + j) ≡ at + 1 + j = omega arith in
    rw f (get_or-set_other ws at (at + 1 + j) v 0 (λ e. omega arith)))))

module _ (ws : List ℕ) (top n k v : ℕ) (some_left : 0 < k) (few : k ≤ n) (room : top + n ≤ length ws) where
  pub push_one : (rest all : List ℕ) → ids_in ws (top + k) (n - k) ++ (v ∷ rest) ≡ all →
      ids_in (set ws (top + (k - 1)) v) (top + (k - 1)) (n - (k - 1)) ++ rest ≡ all
  push_one rest all h =
      let e : n - (k - 1) ≡ suc (n - k) = omega arith in
      let f : top + (k - 1) + 1 ≡ top + k = omega arith in
      rw (e, ids_one ws (top + (k - 1)) v (n - k) (omega arith), f, append_assoc) h

pub pushed : (ws ws' : List ℕ) (top n : ℕ) (more : List ℕ) → ids_in ws' top n ≡ more →
    Frame top (end IDS) ws ws' → ids_of ws' (top + n) ≡ more ++ ids_of ws top
unfolding ids_of ids_in
pushed ws ws' top n more e h =
    stack_split (λ j. get_or ws' j 0) top n
    ∙ ap (λ (xs : List ℕ). xs ++ ids_of ws' top) e
    ∙ ap (λ (xs : List ℕ). more ++ xs) (ids_kept top (end IDS) ws ws' h)

pub bound_none : (ws : List ℕ) (top : ℕ) (more : List ℕ) → more ≡ [] → Bound ws top more ws top
bound_none ws top more e = record {
  ids = rw e;
  least = omega arith;
  most = omega arith;
  kept = frame_none top (end IDS) ws;
}

pub bound_one : (ws : List ℕ) (top id : ℕ) (more : List ℕ) → more ≡ id ∷ [] → top < IDS.size → end IDS ≤ length ws →
    Bound ws top more (set ws top id) (top + 1)
unfolding ids_of stack_of
bound_one ws top id more e l m = record {
  ids =
      let z : top + 1 ≡ suc top = omega arith in
      rw (e, z, get_or-set_same ws top id 0 (omega arith), ids_kept top (end IDS) ws (set ws top id) kept);
  least = omega arith;
  most = omega arith;
  kept = kept;
}
  where
    kept : Frame top (end IDS) ws (set ws top id)
    kept = frame_store top (end IDS) top id ws (omega arith) l

-- what was put on top stands before what was there
pub bound_own : (ws : List ℕ) (top : ℕ) (more ws' : List ℕ) (r : ℕ) → Bound ws top more ws' r →
    ids_of ws' r ≡ more ++ ids_of ws' top
bound_own ws top more ws' r h = h.ids ∙ ap (λ (z : List ℕ). more ++ z) (sym (ids_kept top (end IDS) ws ws' h.kept))
