-- Lists of the first symbols in the words. In order: none; the words that lists hang on; the graph that they hang on;
-- one list more, and what it leaves alone.
-- Assumes nothing.
use Prim.Native.Nat.{ℕ, zero, suc, ◌+◌, ◌-◌, ◌<◌, ◌≤◌}
use mathlib.Core.Path.{◌≡◌, refl, sym, ap, ap₂, subst, ◌∙◌}
use mathlib.Core.List.{List}
use mathlib.Core.Logic.{⊎_elim}
use native.Mathlib.Omega.{arith}
use native.Mathlib.Decide.{dec_lt}
use native.Mathlib.Nat.{eq-or-lt_of_le}
use borrow.Author.Tests.{lt-ltb, le-ltb}
use lib.ListN.{length, get_or, set, take}
use lib.Seq.{sets, length-sets, length-take-le, take_all, get_or-set_same, get_or-set_other}
use Rattle.std.proofs.lemmas.List.{take_more}
use Rattle.model.specs.Gate.{Graph}
use Rattle.model.specs.Schedule.{free_vars}
use Rattle.laws.specs.Frame.{Agree, Frame}
use Rattle.laws.proofs.Frame.{frame_store, frame_then}
use Rattle.laws.proofs.Runs.{sets_before, sets_after, sets_more}
use Rattle.regions.specs.Regions.{FREE_ENDS, FREE_LISTS, end}
use Rattle.symbols.specs.Words.{words_from}
use Rattle.symbols.proofs.Words.{words_agree, words_stored}
use Rattle.free_lists.specs.FreeLists.{entries_to, end_at, list_at, Lists, with_list}
use Rattle.free_lists.proofs.Filed.{entries_next, entries_rise}

-- ---- no list

pub lists_start : (g : Graph) (ws : List ℕ) → get_or ws (FREE_ENDS).first 0 ≡ 0 → Lists g ws 0
unfolding entries_to
lists_start g ws e = record {
  ends = λ s le h. let z : s ≡ 0 = omega arith in rw z e;
  past = λ s le h. let z : s ≡ 0 = omega arith in absurd (no (rw z at h));
  lists = λ s lt h. absurd (omega arith);
}
  where
    no : (FREE_LISTS).size < 0 → ⊥
    no h = omega arith

-- ---- the words that lists hang on

-- the ends of n lists, and their entries
module _ (g : Graph) (ws ws' : List ℕ) (n : ℕ) (ends : (s : ℕ) → s ≤ n → end_at ws' s ≡ end_at ws s)
    (entries : (k : ℕ) → (FREE_LISTS).first ≤ k → k < (FREE_LISTS).first + end_at ws n → k < end FREE_LISTS →
    get_or ws' k 0 ≡ get_or ws k 0) where
  pub lists_same : Lists g ws n → Lists g ws' n
  lists_same h = record {
    ends = λ s le few. ends s le ∙ h.ends s le few;
    past = λ s le p. ends s le ∙ h.past s le p;
    lists = λ s lt few. same s lt few ∙ h.lists s lt few;
  }
    where
      last : (s : ℕ) → s < n → entries_to g (suc s) ≤ (FREE_LISTS).size → end_at ws (suc s) ≤ end_at ws n
      last s lt few =
          let e = h.ends (suc s) (omega arith) few in
          let r = entries_rise g (suc s) n (omega arith) in
          elim (dec_lt (FREE_LISTS).size (entries_to g n)) [
            | yes p ↦ omega (arith, h.past n (omega arith) p)
            | no p ↦ omega (arith, h.ends n (omega arith) (omega arith))
          ]

      same : (s : ℕ) → s < n → entries_to g (suc s) ≤ (FREE_LISTS).size → list_at ws' s ≡ list_at ws s
      same s lt few =
          let a = end_at ws s in
          let b = end_at ws (suc s) in
          let l = last s lt few in
          let r = entries_next g s in
          let eb = h.ends (suc s) (omega arith) few in
          let ea = h.ends s (omega arith) (omega arith) in
          ap₂ (λ (x y : ℕ). words_from ws' ((FREE_LISTS).first + x) (y - x)) (ends s (omega arith))
          (ends (suc s) (omega arith))
          ∙ words_agree ws ws' ((FREE_LISTS).first + a) (b - a)
          (λ k lo hi. entries k (omega arith) (omega arith) (omega arith))

pub lists_agree : (g : Graph) (ws ws' : List ℕ) (n : ℕ) → n ≤ 512 → Agree ws ws' (FREE_ENDS).first (end FREE_LISTS) →
    Lists g ws n → Lists g ws' n
lists_agree g ws ws' n few e =
    lists_same g ws ws' n (λ s le. e ((FREE_ENDS).first + s) (omega arith) (omega arith))
    (λ k lo hi top. e k (omega arith) top)

-- ---- the graph that lists hang on

entries-same : (g h : Graph) (n : ℕ) → ((s : ℕ) → s < n → free_vars g s ≡ free_vars h s) →
    entries_to g n ≡ entries_to h n
unfolding entries_to
entries-same g h zero e = refl
entries-same g h (suc n) e =
    ap₂ (λ (x : ℕ) (l : List ℕ). x + length l) (entries-same g h n (λ s lt. e s (omega arith))) (e n (omega arith))

pub lists_graph : (g h : Graph) (ws : List ℕ) (n : ℕ) → ((s : ℕ) → s < n → free_vars g s ≡ free_vars h s) →
    Lists g ws n → Lists h ws n
lists_graph g h ws n e l = record {
  ends = λ s le few. l.ends s le (omega (arith, same s le)) ∙ same s le;
  past = λ s le p. l.past s le (omega (arith, same s le));
  lists = λ s lt few. l.lists s lt (omega (arith, same (suc s) (omega arith))) ∙ e s lt;
}
  where
    same : (s : ℕ) → s ≤ n → entries_to g s ≡ entries_to h s
    same s le = entries-same g h s (λ t lt. e t (omega arith))

-- ---- one list more

module _ (ws : List ℕ) (c : ℕ) (xs : List ℕ) where
  -- there is no room for it, or there is
  abbrev ended : ℕ → List ℕ → List ℕ
  ended v us = set us ((FREE_ENDS).first + suc c) v

  abbrev filled : List ℕ
  filled = sets ws ((FREE_LISTS).first + end_at ws c) xs

  pub with_past : (FREE_LISTS).size < end_at ws c + length xs → with_list ws c xs ≡ ended (suc (FREE_LISTS).size) ws
  unfolding with_list
  with_past p = rw (lt-ltb (FREE_LISTS).size (end_at ws c + length xs) p, with_list)

  pub with_room : end_at ws c + length xs ≤ (FREE_LISTS).size →
      with_list ws c xs ≡ ended (end_at ws c + length xs) filled
  unfolding with_list
  with_room p = rw (le-ltb (FREE_LISTS).size (end_at ws c + length xs) p, with_list)

  -- what holds of both
  either : (P : List ℕ → Type 0) →
      ((FREE_LISTS).size < end_at ws c + length xs → P (ended (suc (FREE_LISTS).size) ws)) →
      (end_at ws c + length xs ≤ (FREE_LISTS).size → P (ended (end_at ws c + length xs) filled)) → P (with_list ws c xs)
  either P past room = elim (dec_lt (FREE_LISTS).size (end_at ws c + length xs)) [
    | yes p ↦ subst P (sym (with_past p)) (past p)
    | no p ↦
        let le : end_at ws c + length xs ≤ (FREE_LISTS).size = omega arith in
        subst P (sym (with_room le)) (room le)
  ]

  module _ (few : c < 512) where
    pub with_frame : Frame (FREE_ENDS).first (end FREE_LISTS) ws (with_list ws c xs)
    with_frame =
        either (Frame (FREE_ENDS).first (end FREE_LISTS) ws)
        (λ p. frame_store (FREE_ENDS).first (end FREE_LISTS) ((FREE_ENDS).first + suc c) (suc (FREE_LISTS).size) ws
        (omega arith) (omega arith))
        (λ le. frame_then (FREE_ENDS).first (end FREE_LISTS) ws filled (ended (end_at ws c + length xs) filled)
        (record {
          long = length-sets ws ((FREE_LISTS).first + end_at ws c) xs;
          before = λ k lt. sets_before xs ws ((FREE_LISTS).first + end_at ws c) k (omega arith);
          after = λ k ge. sets_after xs ws ((FREE_LISTS).first + end_at ws c) k (omega arith);
        })
        (frame_store (FREE_ENDS).first (end FREE_LISTS) ((FREE_ENDS).first + suc c) (end_at ws c + length xs) filled
        (omega arith) (omega arith)))

    -- a word that is not the new end, and stands before the new entries
    with_other : (k : ℕ) → (k ≡ (FREE_ENDS).first + suc c → ⊥) → k < (FREE_LISTS).first + end_at ws c →
        get_or (with_list ws c xs) k 0 ≡ get_or ws k 0
    with_other k other lt =
        either (λ us. get_or us k 0 ≡ get_or ws k 0)
        (λ p. get_or-set_other ws ((FREE_ENDS).first + suc c) k (suc (FREE_LISTS).size) 0 other)
        (λ le. get_or-set_other filled ((FREE_ENDS).first + suc c) k (end_at ws c + length xs) 0 other
        ∙ sets_before xs ws ((FREE_LISTS).first + end_at ws c) k lt)

    with_ends : (s : ℕ) → s ≤ c → end_at (with_list ws c xs) s ≡ end_at ws s
    with_ends s le = with_other ((FREE_ENDS).first + s) (λ e. omega arith) (omega arith)

    module _ (long : end FREE_LISTS ≤ length ws) where
      -- its end
      with_end_past : (FREE_LISTS).size < end_at ws c + length xs →
          end_at (with_list ws c xs) (suc c) ≡ suc (FREE_LISTS).size
      with_end_past p =
          ap (λ (us : List ℕ). end_at us (suc c)) (with_past p)
          ∙ get_or-set_same ws ((FREE_ENDS).first + suc c) (suc (FREE_LISTS).size) 0 (omega arith)

      module _ (le : end_at ws c + length xs ≤ (FREE_LISTS).size) where
        with_end_room : end_at (with_list ws c xs) (suc c) ≡ end_at ws c + length xs
        with_end_room =
            let l = length-sets ws ((FREE_LISTS).first + end_at ws c) xs in
            ap (λ (us : List ℕ). end_at us (suc c)) (with_room le)
            ∙ get_or-set_same filled ((FREE_ENDS).first + suc c) (end_at ws c + length xs) 0 (omega arith)

        -- it stands there
        with_list_lem : list_at (with_list ws c xs) c ≡ xs
        with_list_lem =
            let at = (FREE_LISTS).first + end_at ws c in
            let v = end_at ws c + length xs in
            let d : end_at (with_list ws c xs) (suc c) - end_at (with_list ws c xs) c ≡ length xs =
            omega (arith, with_end_room, with_ends c (omega arith)) in
            ap₂ (λ (x y : ℕ). words_from (with_list ws c xs) ((FREE_LISTS).first + x) y) (with_ends c (omega arith)) d
            ∙ (ap (λ (us : List ℕ). words_from us at (length xs)) (with_room le)
            ∙ (words_agree filled (ended v filled) at (length xs)
            (λ k lo hi. get_or-set_other filled ((FREE_ENDS).first + suc c) k v 0 (λ e. omega arith))
            ∙ words_stored ws at xs (omega arith)))

-- how `store` stores a list l
module _ (ws l : List ℕ) (c first : ℕ) (e : first ≡ end_at ws c) where
  place : (FREE_ENDS).first + c + 1 ≡ (FREE_ENDS).first + suc c
  place = omega arith

  pub store_past : (FREE_LISTS).size < first + length l →
      set ws ((FREE_ENDS).first + c + 1) (suc (FREE_LISTS).size) ≡ with_list ws c l
  store_past p = rw place (sym (with_past ws c l (omega arith)))

  pub store_next : (ws' : List ℕ) (k : ℕ) → ws' ≡ sets ws ((FREE_LISTS).first + first) (take k l) → k < length l →
      set ws' ((FREE_LISTS).first + first + k) (get_or l k 0) ≡ sets ws ((FREE_LISTS).first + first) (take (k + 1) l)
  store_next ws' k f lt =
      let at = (FREE_LISTS).first + first in
      let long : length (take k l) ≡ k = length-take-le k l (omega arith) in
      rw (f, take_more l k 0 lt, sets_more (take k l) ws at (get_or l k 0), long)

  pub store_room : (ws' : List ℕ) (k : ℕ) → ws' ≡ sets ws ((FREE_LISTS).first + first) (take k l) → length l ≤ k →
      first + length l ≤ (FREE_LISTS).size → set ws' ((FREE_ENDS).first + c + 1) (first + length l) ≡ with_list ws c l
  store_room ws' k f q few = rw (place, f, take_all k l q, e) (sym (with_room ws c l (omega arith)))

-- the lists before it stay
pub lists_kept : (g : Graph) (ws : List ℕ) (c : ℕ) (xs : List ℕ) → c < 512 → end FREE_LISTS ≤ length ws → Lists g ws c →
    Lists g (with_list ws c xs) c
lists_kept g ws c xs few long =
    lists_same g ws (with_list ws c xs) c (with_ends ws c xs few)
    (λ k lo hi top. with_other ws c xs few k (λ e. omega arith) hi)

pub lists_with : (g : Graph) (ws : List ℕ) (c : ℕ) → c < 512 → end FREE_LISTS ≤ length ws → Lists g ws c →
    Lists g (with_list ws c (free_vars g c)) (suc c)
unfolding entries_to
lists_with g ws c few long h = record {
  ends = λ s le f. ⊎_elim (λ e. rw e (ends (rw e at f))) (λ l. old.ends s (omega arith) f) (eq-or-lt_of_le le);
  past = λ s le p. ⊎_elim (λ e. rw e (past (rw e at p))) (λ l. old.past s (omega arith) p) (eq-or-lt_of_le le);
  lists = λ s lt f.
      let le : s ≤ c = omega arith in
      ⊎_elim (λ e. rw e (lists (rw e at f))) (λ l. old.lists s l f) (eq-or-lt_of_le le);
}
  where
    xs : List ℕ
    xs = free_vars g c

    us : List ℕ
    us = with_list ws c xs

    old : Lists g us c
    old = lists_kept g ws c xs few long h

    at : entries_to g (suc c) ≤ (FREE_LISTS).size → end_at ws c ≡ entries_to g c
    at f = h.ends c (omega arith) (omega (arith, entries_next g c))

    ends : entries_to g (suc c) ≤ (FREE_LISTS).size → end_at us (suc c) ≡ entries_to g (suc c)
    ends f = omega (arith, with_end_room ws c xs few long (omega (arith, at f)), at f)

    lists : entries_to g (suc c) ≤ (FREE_LISTS).size → list_at us c ≡ xs
    lists f = with_list_lem ws c xs few long (omega (arith, at f))

    past : (FREE_LISTS).size < entries_to g (suc c) → end_at us (suc c) ≡ suc (FREE_LISTS).size
    past p = elim (dec_lt (FREE_LISTS).size (entries_to g c)) [
      | yes q ↦ with_end_past ws c xs few long (omega (arith, h.past c (omega arith) q))
      | no q ↦ with_end_past ws c xs few long (omega (arith, h.ends c (omega arith) (omega arith)))
    ]
