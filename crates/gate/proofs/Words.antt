-- What the words hold after each step. In order: members and counts of lists; what changes of symbols below n only;
-- two words stored; words cleared; uses noted, of one symbol and of a list: the counts, what is reached, and all other
-- words.
-- Assumes nothing.
use Prim.Native.Nat.{ℕ, suc, ◌+◌, ◌-◌, ◌<◌, ◌≤◌}
use mathlib.Core.Path.{◌≡◌, refl, sym, ap, ◌∙◌}
use mathlib.Core.Bool.{Bool, true, false}
use mathlib.Core.Logic.{inl, inr}
use mathlib.Core.List.{List, [], ◌∷◌, ◌++◌}
use native.Mathlib.Omega.{arith}
use lib.Dec.{eqb}
use borrow.Rule.Slice.PartMut.{put_mid}
use lib.ListN.{length, get_or, set, drop, replicate, length-set}
use Rattle.std.specs.List.{slice_range}
use lib.Seq.{sets, sets-eq, length-sets, get_or-set_same, get_or-set_other}
use Rattle.std.proofs.lemmas.List.{append_assoc, get_or-replicate, length-replicate, length-take-le, length-drop}
use Rattle.std.proofs.lemmas.List.Edits.{paste_all}
use Rattle.std.proofs.lemmas.Slice.{put_mid-paste}
use borrow.Author.Tests.{eqb-true, eqb-false}
use Rattle.model.specs.Lists.{is_in, count, add, union}
use Rattle.laws.proofs.Frame.{frame_none, frame_then, frame_wider, frame_store}
use Rattle.laws.specs.Frame.{Frame}
use Rattle.laws.proofs.Runs.{sets_run, sets_before, sets_after}
use Rattle.regions.specs.Regions.{USES, REACHED, WORDS}
use Rattle.laws.proofs.Members.{in_is_in, in_right, is_in-last}
use Rattle.laws.specs.Members.{Under}
use Rattle.gate.specs.Gate.{uses_at, reached_at, cleared, noted, all_noted, CountsOnly, OthersKept, bit}

-- ---- members of a list with one more, and counts

is_in_added : (xs : List ℕ) (k : ℕ) → is_in k (add xs k) ≡ true
unfolding add
is_in_added xs k = go (is_in k xs) refl
  where
    go : (t : Bool) → is_in k xs ≡ t → is_in k (elim t [ true ↦ xs | false ↦ xs ++ (k ∷ []) ]) ≡ true
    go true e = e
    go false e = in_is_in k (xs ++ (k ∷ [])) (in_right k xs (k ∷ []) (inl refl))

is_in_other : (xs : List ℕ) (k s : ℕ) → eqb s k ≡ false → is_in s (add xs k) ≡ is_in s xs
unfolding add
is_in_other xs k s e = go (is_in k xs)
  where
    go : (t : Bool) → is_in s (elim t [ true ↦ xs | false ↦ xs ++ (k ∷ []) ]) ≡ is_in s xs
    go true = refl
    go false = is_in-last xs k s (eqb-false s k e)

count-nil : (s n : ℕ) → n ≡ n + count s []
unfolding count
count-nil s n = omega arith

-- ---- no word changed but those of the counts of symbols below n

pub record OnlyBelow (n : ℕ) (ws ws' : List ℕ) : Type 0 where
  pub kept : CountsOnly ws ws'
  pub others : OthersKept n ws ws'

module _ (n : ℕ) (ws : List ℕ) where
  pub below_none : OnlyBelow n ws ws
  below_none = record { kept = frame_none _ _ ws; others = λ s ge l. (refl, refl) }

  pub below_then : (us vs : List ℕ) → OnlyBelow n ws us → OnlyBelow n us vs → OnlyBelow n ws vs
  below_then us vs f g = record {
    kept = frame_then _ _ ws us vs f.kept g.kept;
    others = λ s ge l. ((g.others s ge l).0 ∙ (f.others s ge l).0, (g.others s ge l).1 ∙ (f.others s ge l).1);
  }

-- ---- two words stored, at symbol s

module _ (ws : List ℕ) (s u m : ℕ) where
  abbrev two : List ℕ
  two = set (set ws (USES.first + s) u) (REACHED.first + s) m

  module _ (few : s < 512) where
    two_other : (j : ℕ) → j < 512 → (j ≡ s → ⊥) → (uses_at two j ≡ uses_at ws j) × (reached_at two j ≡ reached_at ws j)
    two_other j l h = (
      get_or-set_other (set ws (USES.first + s) u) (REACHED.first + s) (USES.first + j) m 0 (λ e. omega arith)
          ∙ get_or-set_other ws (USES.first + s) (USES.first + j) u 0 (λ e. h (omega arith)),
      get_or-set_other (set ws (USES.first + s) u) (REACHED.first + s) (REACHED.first + j) m 0 (λ e. h (omega arith))
          ∙ get_or-set_other ws (USES.first + s) (REACHED.first + j) u 0 (λ e. omega arith),
    )

    two-below : (n : ℕ) → s < n → OnlyBelow n ws two
    two-below n lt = record {
      kept = frame_then _ _ ws (set ws (USES.first + s) u) two
          (frame_store _ _ (USES.first + s) u ws (omega arith) (omega arith))
          (frame_store _ _ (REACHED.first + s) m (set ws (USES.first + s) u) (omega arith) (omega arith));
      others = λ j ge l. two_other j l (λ e. omega arith);
    }

    two-same : WORDS ≤ length ws → (uses_at two s ≡ u) × (reached_at two s ≡ m)
    two-same h = (
      get_or-set_other (set ws (USES.first + s) u) (REACHED.first + s) (USES.first + s) m 0 (λ e. omega arith)
          ∙ get_or-set_same ws (USES.first + s) u 0 (omega arith),
      get_or-set_same (set ws (USES.first + s) u) (REACHED.first + s) m 0 (omega (arith, length-set ws (USES.first + s) u)),
    )

-- ---- cleared words

abbrev pub Zero : List ℕ → ℕ → Type 0
Zero ws s = (uses_at ws s ≡ 0) × (reached_at ws s ≡ 0)

-- n words from `at` on filled with 0
abbrev zeros : ℕ → List ℕ
zeros n = replicate n 0

module _ (ws : List ℕ) (at n : ℕ) where
  long : length (zeros n) ≡ n
  long = length-replicate n 0

  -- by what `fill` says of the slice of these words
  abbrev Fills : List ℕ → Type 0
  Fills ys = ((y : ℕ) → y ≡ 0 → y ≡ 0) → ys ≡ zeros (length (slice_range ws at (at + n)))

  abbrev put : List ℕ → List ℕ
  put ys = put_mid at (at + n - at) ws ys

  filled : (ys : List ℕ) → at + n ≤ length ws → Fills ys → put ys ≡ sets ws at (zeros n)
  filled ys h fills =
      let e : n ≡ at + n - at = omega arith in
      let run : length (slice_range ws at (at + n)) ≡ n =
      rw (← e) (length-take-le n (drop at ws) (omega (arith, length-drop at ws))) in
      put_mid-paste at (at + n - at) ws ys (zeros n) n (fills (λ y q. q) ∙ ap zeros run) e (sym long)
      ∙ paste_all ws at (zeros n) n (sym long)
      ∙ sym (sets-eq (zeros n) ws at (omega (arith, long)) ∙ rw (long, append_assoc))

  filled_frame : Frame at (at + n) ws (sets ws at (zeros n))
  filled_frame = record {
    long = length-sets ws at (zeros n);
    before = λ k l. sets_before (zeros n) ws at k l;
    after = λ k r. sets_after (zeros n) ws at k (omega (arith, long));
  }

  filled_zero : (s : ℕ) → s < n → at + n ≤ length ws → get_or (sets ws at (zeros n)) (at + s) 0 ≡ 0
  filled_zero s lt h =
      sets_run (zeros n) ws at s (omega (arith, long)) (omega (arith, long)) ∙ get_or-replicate n s 0 0 lt

module _ (ws : List ℕ) (n : ℕ) (few : n ≤ 512) where
  -- the counts cleared, and then whether symbols are reached
  abbrev counts : List ℕ
  counts = sets ws USES.first (zeros n)

  abbrev both : List ℕ
  both = sets counts REACHED.first (zeros n)

  first : Frame USES.first (USES.first + n) ws counts
  first = filled_frame ws USES.first n

  then : Frame REACHED.first (REACHED.first + n) counts both
  then = filled_frame counts REACHED.first n

  -- as the code clears them
  pub cleared_by : (ys zs : List ℕ) → WORDS ≤ length ws → Fills ws USES.first n ys →
      Fills (put ws USES.first n ys) REACHED.first n zs →
      put (put ws USES.first n ys) REACHED.first n zs ≡ cleared ws n
  unfolding cleared
  cleared_by ys zs words f g =
      let e = filled ws USES.first n ys (omega arith) f in
      let l : length (put ws USES.first n ys) ≡ length ws = ap length e ∙ first.long in
      filled (put ws USES.first n ys) REACHED.first n zs (omega arith) g
      ∙ ap (λ (us : List ℕ). sets us REACHED.first (zeros n)) e

  pub cleared-below : OnlyBelow n ws (cleared ws n)
  unfolding cleared
  cleared-below = record {
    kept = frame_then _ _ ws counts both (frame_wider _ _ _ _ ws counts first (omega arith) (omega arith))
        (frame_wider _ _ _ _ counts both then (omega arith) (omega arith));
    others = λ s ge l. (
      then.before (USES.first + s) (omega arith) ∙ first.after (USES.first + s) (omega arith),
      then.after (REACHED.first + s) (omega arith) ∙ first.after (REACHED.first + s) (omega arith),
    );
  }

  pub cleared-zero : (s : ℕ) → WORDS ≤ length ws → s < n → Zero (cleared ws n) s
  unfolding cleared
  cleared-zero s h lt = (
    then.before (USES.first + s) (omega arith) ∙ filled_zero ws USES.first n s lt (omega arith),
    filled_zero counts REACHED.first n s lt (omega (arith, first.long)),
  )

-- ---- uses noted

module _ (ws : List ℕ) (k : ℕ) where
  module _ (few : k < 512) where
    noted-below : (n : ℕ) → k < n → OnlyBelow n ws (noted ws k)
    unfolding noted
    noted-below = two-below ws k (uses_at ws k + 1) 1 few

    noted_long : length (noted ws k) ≡ length ws
    noted_long = (noted-below 512 few).kept.long

    module _ (long : WORDS ≤ length ws) (s : ℕ) (lt : s < 512) where
      -- a count, before the rest of a list
      noted_uses : (ks : List ℕ) → uses_at (noted ws k) s + count s ks ≡ uses_at ws s + count s (k ∷ ks)
      unfolding noted count
      noted_uses ks = go (eqb s k) refl
        where
          go : (t : Bool) → eqb s k ≡ t → uses_at (noted ws k) s + count s ks
              ≡ uses_at ws s + elim t [ true ↦ suc (count s ks) | false ↦ count s ks ]
          go true e =
              let q : s ≡ k = eqb-true s k e in
              let u : uses_at (noted ws k) k ≡ uses_at ws k + 1 = (two-same ws k (uses_at ws k + 1) 1 few long).0 in
              rw q (omega arith)
          go false e =
              let u : uses_at (noted ws k) s ≡ uses_at ws s =
              (two_other ws k (uses_at ws k + 1) 1 few s lt (eqb-false s k e)).0 in
              omega arith

      noted_reached : (seen : List ℕ) → reached_at ws s ≡ bit (is_in s seen) →
          reached_at (noted ws k) s ≡ bit (is_in s (add seen k))
      unfolding noted
      noted_reached seen h = go (eqb s k) refl
        where
          go : (t : Bool) → eqb s k ≡ t → reached_at (noted ws k) s ≡ bit (is_in s (add seen k))
          go true e =
              let q : s ≡ k = eqb-true s k e in
              let u : reached_at (noted ws k) k ≡ 1 = (two-same ws k (uses_at ws k + 1) 1 few long).1 in
              rw q (u ∙ ap bit (sym (is_in_added seen k)))
          go false e =
              let u : reached_at (noted ws k) s ≡ reached_at ws s =
              (two_other ws k (uses_at ws k + 1) 1 few s lt (eqb-false s k e)).1 in
              u ∙ (h ∙ ap bit (sym (is_in_other seen k s e)))

pub all_noted-more : (ws ks : List ℕ) (k : ℕ) → all_noted ws (ks ++ (k ∷ [])) ≡ noted (all_noted ws ks) k
unfolding all_noted
all_noted-more ws [] k = refl
all_noted-more ws (x ∷ ks) k = all_noted-more (noted ws x) ks k

pub all_noted-below : (n : ℕ) → n ≤ 512 → (ws ks : List ℕ) → Under n ks → OnlyBelow n ws (all_noted ws ks)
unfolding all_noted
all_noted-below n few ws [] h = below_none n ws
all_noted-below n few ws (k ∷ ks) h =
    let lt = h k (inl refl) in
    below_then n ws (noted ws k) (all_noted (noted ws k) ks) (noted-below ws k (omega arith) n lt)
    (all_noted-below n few (noted ws k) ks (λ a i. h a (inr i)))

pub all_noted_frame : (ws ks : List ℕ) → Under 512 ks → CountsOnly ws (all_noted ws ks)
all_noted_frame ws ks h = (all_noted-below 512 (omega arith) ws ks h).kept

-- a count goes up by how often the symbol is in the list
pub all_noted_uses : (ws ks : List ℕ) → Under 512 ks → WORDS ≤ length ws → (s : ℕ) → s < 512 →
    uses_at (all_noted ws ks) s ≡ uses_at ws s + count s ks
unfolding all_noted
all_noted_uses ws [] h long s lt = count-nil s (uses_at ws s)
all_noted_uses ws (k ∷ ks) h long s lt =
    all_noted_uses (noted ws k) ks (λ a i. h a (inr i)) (omega (arith, noted_long ws k (h k (inl refl)))) s lt
    ∙ noted_uses ws k (h k (inl refl)) long s lt ks

-- what is reached is a union
pub all_noted_reached : (ws ks : List ℕ) → Under 512 ks → WORDS ≤ length ws → (s : ℕ) → s < 512 → (seen : List ℕ) →
    reached_at ws s ≡ bit (is_in s seen) → reached_at (all_noted ws ks) s ≡ bit (is_in s (union seen ks))
unfolding all_noted union
all_noted_reached ws [] h long s lt seen e = e
all_noted_reached ws (k ∷ ks) h long s lt seen e =
    all_noted_reached (noted ws k) ks (λ a i. h a (inr i)) (omega (arith, noted_long ws k (h k (inl refl)))) s lt (add seen k)
    (noted_reached ws k (h k (inl refl)) long s lt seen e)
