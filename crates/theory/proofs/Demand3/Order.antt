-- The call tests the conditions in the order that Conditions gives: its checks, with what interning and the tree's
-- size add, as one list; a check of the list fails at a place exactly where the condition of its number holds; the
-- call's answer is the first that fails, or the written tree if none does.
-- In order: the list; conditions and failing checks; the call's answer; acceptance.
-- Assumes nothing.
use mathlib.Core.Path.{◌≡◌, refl, ap, sym, ◌∙◌}
use mathlib.Core.Logic.{◌⊎◌, inl, inr, ◌↔◌}
use mathlib.Core.Bool.{Bool, true, false, ◌||◌}
use Rattle.std.specs.Prelude.{Option, None, Some}
use Rattle.std.proofs.lemmas.Option.{same_Some}
use mathlib.Core.List.{List, [], ◌∷◌, ◌++◌, map}
use Prim.Native.Nat.{ℕ, ◌<◌}
use lib.Dec.{eqb, ltb}
use lib.ListN.{length}
use borrow.Author.Tests.{eqb-true, eq-eqb}
use Rattle.model.specs.Lists.{is_in, twice}
use Rattle.model.specs.Answer.{Answer, refused, good, ◌>>=◌}
use Rattle.model.specs.Tree.{Trees, size, sizes, depth}
use Rattle.model.specs.Forest.{trees_of}
use Rattle.model.specs.Accept.{checks, accept}
use Rattle.model.specs.Intern.{State, Out, Outs, intern_forest, intern_last}
use Rattle.model.specs.Call.{Call, ample, check1, lent_checks, interned, tree_of, bytes_of, check13, check14, tree_checks}
use Rattle.model.specs.Call.{Written, written_of, measured, written, run}
use Rattle.model.specs.Places.{First}
use Rattle.model.specs.ShapeRules.{ShapeOffends}
use Rattle.model.specs.OpcodeRules.{OpcodeOffends}
use Rattle.model.specs.Trace.{TooManyReadings, TooManySymbols, Interned}
use Rattle.model.specs.Nesting.{Deeper, OutOfPlace, Rebinds, Unbound}
use Rattle.model.specs.Conditions.{HeaderOffends, DirectoryOffends, HadOtherShape}
use Rattle.model.specs.Conditions.{TreesOffend, TooLarge, Applies, at_1, at_2, at_3, at_4, at_5}
use Rattle.model.specs.Conditions.{at_6, at_7, at_16, at_8, at_9, at_10, at_11, at_12, at_13, at_14, acceptance, order}
use Rattle.model.specs.Conditions.{Accepted}
use Rattle.laws.proofs.Apart.{none_some, refused_good, good_inj, refused_parts}
use Rattle.laws.specs.Members.{In}
use Rattle.laws.proofs.Members.{is_in_true, in_is_in}
use Rattle.laws.proofs.Checks.{Check, Passes, FirstAt, passes_or-first, passes_split, first_split, numbering, Exact}
use Rattle.laws.proofs.Checks.{◌next◌, exact_append, passes_none, first_in, first_says, exact_says, passes_checked, checked_good}
use Rattle.laws.proofs.Checks.{first-checked}
use Rattle.theory.proofs.Promise.Refusals.{Limited, forest_limited}
use Rattle.theory.proofs.Demand3.Trace.{interning}
use Rattle.theory.proofs.Demand3.Counted.{reading_exactly, symbol_exactly, interned_exactly}
use Rattle.theory.proofs.Demand3.Places.{or-true, less, at_0, check_2, check_3, check_4, check_5}
use Rattle.theory.proofs.Demand3.Places.{check_6}
use Rattle.theory.proofs.Demand3.Depths.{check_7}
use Rattle.theory.proofs.Demand3.OneShape.{check_16}
use Rattle.theory.proofs.Demand3.Placed.{check_8}
use Rattle.theory.proofs.Demand3.Ids.{check_9, check_10}

-- ---- the list

-- where interning refuses with number n
abbrev refused_at : ℕ → Out → Option ℕ
refused_at n (refused m p) = elim (eqb m n) [ true ↦ Some p | false ↦ None ]
refused_at n (good o) = None

-- where a check of the defined tree fails, if a tree is defined
abbrev of_tree : (ℕ × State → Option ℕ) → Out → Option ℕ
of_tree check (refused m p) = None
of_tree check (good o) = check o

-- the checks from interning on
abbrev late : ℕ → Out → List Check
late room m = (11, refused_at 11 m) ∷ (12, refused_at 12 m) ∷ map (λ c. (c.0, of_tree c.1 m)) (tree_checks room)

abbrev pub call_checks : Call → List Check
call_checks c = lent_checks c ++ (checks c.forest ++ late c.room (interning c.forest))

-- the numbers stand in the order that the statement gives them, each once
pub in_order : (c : Call) → numbering (call_checks c) ≡ order
unfolding lent_checks checks tree_checks
in_order c = refl

pub each_once : twice order ≡ false
unfolding twice is_in
each_once = refl

accepting : (forest : List ℕ) → numbering (checks forest) ≡ acceptance
unfolding checks
accepting forest = refl

-- ---- conditions and failing checks

refused_at_lem : (n : ℕ) (m : Out) (p : ℕ) → (refused_at n m ≡ Some p) ↔ (m ≡ refused n p)
refused_at_lem n (good o) p = (λ e. none_some e, λ e. refused_good (sym e))
refused_at_lem n (refused m q) p = (to (eqb m n) refl, back)
  where
    to : (b : Bool) → eqb m n ≡ b → elim b [ true ↦ Some q | false ↦ None ] ≡ Some p →
        ◌≡◌ {A = Out} (refused m q) (refused n p)
    to true f e = let z : m ≡ n = eqb-true m n f in let y : q ≡ p = same_Some _ _ e in cc
    to false f e = none_some e

    back : ◌≡◌ {A = Out} (refused m q) (refused n p) → elim (eqb m n) [ true ↦ Some q | false ↦ None ] ≡ Some p
    back e = let z : m ≡ n = cc in let y : q ≡ p = cc in rw (eq-eqb m n z) (ap Some y)

of_tree_lem : (check : ℕ × State → Option ℕ) (m : Out) (p : ℕ) →
    (of_tree check m ≡ Some p) ↔ ((o : ℕ × State) × (m ≡ good o) × (check o ≡ Some p))
of_tree_lem check (refused n q) p = (λ e. none_some e, λ h. refused_good h.1)
of_tree_lem check (good o) p = (λ e. (o, refl, e), λ h. let z : o ≡ h.0 = good_inj h.1 in rw z h.2)

pub check_13 : (room : ℕ) (o : ℕ × State) (p : ℕ) → (check13 room o ≡ Some p) ↔ ((p ≡ 0) × TooLarge room o)
unfolding check13
check_13 room o p =
    (λ e. let w = (at_0 _ p).0 e in (w.0, to ((or-true _ _).0 w.1)), λ h. (at_0 _ p).1 (h.0, back h.1))
  where
    to2 : (ltb 256 (size (tree_of o)) ≡ true) ⊎ (ltb 65535 (length (bytes_of o)) ≡ true) → TooLarge room o
    to2 (inl e) = inl ((less _ _).0 e)
    to2 (inr e) = inr (inl ((less _ _).0 e))

    n : ℕ
    n = length (bytes_of o)

    to : ((ltb 256 (size (tree_of o)) || ltb 65535 n) ≡ true) ⊎ (ltb room n ≡ true) → TooLarge room o
    to (inl e) = to2 ((or-true _ _).0 e)
    to (inr e) = inr (inr ((less _ _).0 e))

    back : TooLarge room o →
        (ltb 256 (size (tree_of o)) || ltb 65535 (length (bytes_of o)) || ltb room (length (bytes_of o))) ≡ true
    back (inl h) = (or-true _ _).1 (inl ((or-true _ _).1 (inl ((less _ _).1 h))))
    back (inr (inl h)) = (or-true _ _).1 (inl ((or-true (ltb 256 (size (tree_of o))) _).1 (inr ((less _ _).1 h))))
    back (inr (inr h)) =
        (or-true (ltb 256 (size (tree_of o)) || ltb 65535 (length (bytes_of o))) _).1 (inr ((less _ _).1 h))

pub check_14 : (o : ℕ × State) (p : ℕ) → (check14 o ≡ Some p) ↔ ((p ≡ 0) × (64 < depth (tree_of o)))
unfolding check14
check_14 o p = (
  λ e. let w = (at_0 _ p).0 e in (w.0, (less _ _).0 w.1),
  λ h. (at_0 _ p).1 (h.0, (less _ _).1 h.1),
)

module _ (c : Call) where
  abbrev forest : List ℕ
  forest = c.forest

  abbrev ts : Trees
  ts = trees_of forest

  -- what a number says: each has one condition
  only_1 : (p : ℕ) → Applies c 1 p → (p ≡ 0) × (c.words < 16384)
  only_1 p (at_1 h) = (refl, h)

  only_2 : (p : ℕ) → Applies c 2 p → (p ≡ 0) × HeaderOffends forest
  only_2 p (at_2 h) = (refl, h)

  only_3 : (p : ℕ) → Applies c 3 p → DirectoryOffends forest p
  only_3 p (at_3 q h) = h

  only_4 : (p : ℕ) → Applies c 4 p → First (ShapeOffends forest) p
  only_4 p (at_4 q h) = h

  only_5 : (p : ℕ) → Applies c 5 p → First (OpcodeOffends forest) p
  only_5 p (at_5 q h) = h

  only_6 : (p : ℕ) → Applies c 6 p → TreesOffend forest p
  only_6 p (at_6 q h) = h

  only_7 : (p : ℕ) → Applies c 7 p → First (Deeper (trees_of forest) 64) p
  only_7 p (at_7 q h) = h

  only_16 : (p : ℕ) → Applies c 16 p → First (HadOtherShape forest) p
  only_16 p (at_16 q h) = h

  only_8 : (p : ℕ) → Applies c 8 p → First (OutOfPlace (trees_of forest)) p
  only_8 p (at_8 q h) = h

  only_9 : (p : ℕ) → Applies c 9 p → First (Rebinds (trees_of forest)) p
  only_9 p (at_9 q h) = h

  only_10 : (p : ℕ) → Applies c 10 p → First (Unbound (trees_of forest)) p
  only_10 p (at_10 q h) = h

  only_11 : (p : ℕ) → Applies c 11 p → TooManyReadings forest p
  only_11 p (at_11 q h) = h

  only_12 : (p : ℕ) → Applies c 12 p → TooManySymbols forest p
  only_12 p (at_12 q h) = h

  only_13 : (p : ℕ) → Applies c 13 p → (o : ℕ × State) × Interned forest o × ((p ≡ 0) × TooLarge c.room o)
  only_13 p (at_13 o d h) = (o, d, (refl, h))

  only_14 : (p : ℕ) → Applies c 14 p → (o : ℕ × State) × Interned forest o × ((p ≡ 0) × (64 < depth (tree_of o)))
  only_14 p (at_14 o d h) = (o, d, (refl, h))

  -- and no others have one
  listed : (n p : ℕ) → Applies c n p → is_in n order ≡ true
  unfolding is_in
  listed n p (at_1 h) = refl
  listed n p (at_2 h) = refl
  listed n p (at_3 q h) = refl
  listed n p (at_4 q h) = refl
  listed n p (at_5 q h) = refl
  listed n p (at_6 q h) = refl
  listed n p (at_7 q h) = refl
  listed n p (at_16 q h) = refl
  listed n p (at_8 q h) = refl
  listed n p (at_9 q h) = refl
  listed n p (at_10 q h) = refl
  listed n p (at_11 q h) = refl
  listed n p (at_12 q h) = refl
  listed n p (at_13 o d h) = refl
  listed n p (at_14 o d h) = refl

  pub applies_in : (n p : ℕ) → Applies c n p → In n order
  applies_in n p a = is_in_true n order (listed n p a)

  -- a condition whose place is 0
  at_place_0 : (n p : ℕ) → p ≡ 0 → Applies c n 0 → Applies c n p
  at_place_0 n p e h = rw e h

  -- a check that fails where C holds, for a number that says C
  case : {A C : Type 0} (n p : ℕ) → A ↔ C → (C → Applies c n p) → (Applies c n p → C) → A ↔ Applies c n p
  case n p same at only = (λ e. at (same.0 e), λ h. same.1 (only h))

  -- the same of one whose place is 0
  case_0 : {A C : Type 0} (n p : ℕ) → A ↔ ((p ≡ 0) × C) → (C → Applies c n 0) →
      (Applies c n p → (p ≡ 0) × C) → A ↔ Applies c n p
  case_0 n p same at only = case n p same (λ w. at_place_0 n p w.0 (at w.1)) only

  lent_exact : Exact (Applies c) (lent_checks c)
  unfolding lent_checks check1
  lent_exact =
      (λ p. case_0 1 p (at_0 _ p) (λ e. at_1 ((less _ _).0 e)) (λ h. let w = only_1 p h in (w.0, (less _ _).1 w.1))) next
      tt

  -- 9 and 10 are exact once 4, 6 and 8 pass, the others in any case
  forest_exact : Exact (Applies c) (checks c.forest)
  unfolding checks
  forest_exact =
      (λ p. case_0 2 p (check_2 forest p) at_2 (only_2 p)) next
      (λ p. case 3 p (check_3 forest p) (at_3 p) (only_3 p)) next (
        λ p. case 4 p (check_4 forest p) (at_4 p) (only_4 p),
        λ four.
            (λ p. case 5 p (check_5 forest p) (at_5 p) (only_5 p)) next (
              λ p. case 6 p (check_6 forest p) (at_6 p) (only_6 p),
              λ six.
                  (λ p. case 7 p (check_7 forest p) (at_7 p) (only_7 p)) next
                  (λ p. case 16 p (check_16 forest p) (at_16 p) (only_16 p)) next (
                    λ p. case 8 p (check_8 ts p) (at_8 p) (only_8 p),
                    λ eight.
                        (λ p. case 9 p (check_9 forest four six eight p) (at_9 p) (only_9 p)) next
                        (λ p. case 10 p (check_10 forest four six eight p) (at_10 p) (only_10 p)) next
                        tt,
                  ),
            ),
      )

  abbrev made : Out
  made = interning forest

  at_tree : (check : ℕ × State → Option ℕ) (Cond : ℕ × State → Type 0) (n : ℕ) →
      ((o : ℕ × State) (p : ℕ) → (check o ≡ Some p) ↔ ((p ≡ 0) × Cond o)) →
      ((o : ℕ × State) → Interned forest o → Cond o → Applies c n 0) →
      ((p : ℕ) → Applies c n p → (o : ℕ × State) × Interned forest o × ((p ≡ 0) × Cond o)) →
      (p : ℕ) → (of_tree check made ≡ Some p) ↔ Applies c n p
  at_tree check Cond n same to back p = (
    λ e. go ((of_tree_lem check made p).0 e),
    λ h. let w = back p h in
        (of_tree_lem check made p).1 (w.0, (interned_exactly forest w.0).1 w.1, (same w.0 p).1 w.2),
  )
    where
      go : (o : ℕ × State) × (made ≡ good o) × (check o ≡ Some p) → Applies c n p
      go (o, d, e) = let w = (same o p).0 e in at_place_0 n p w.0 (to o ((interned_exactly forest o).0 d) w.1)

  late_exact : Exact (Applies c) (late c.room (interning c.forest))
  unfolding tree_checks
  late_exact =
      (λ p. case 11 p (refused_at_lem 11 made p)
      (λ e. at_11 p ((reading_exactly forest p).0 e)) (λ h. (reading_exactly forest p).1 (only_11 p h))) next
      (λ p. case 12 p (refused_at_lem 12 made p)
      (λ e. at_12 p ((symbol_exactly forest p).0 e)) (λ h. (symbol_exactly forest p).1 (only_12 p h))) next
      at_tree (check13 c.room) (TooLarge c.room) 13 (check_13 c.room) at_13 only_13 next
      at_tree check14 (λ o. 64 < depth (tree_of o)) 14 check_14 at_14 only_14 next
      tt

  pub call_exact : Exact (Applies c) (call_checks c)
  call_exact =
      exact_append (Applies c) (lent_checks c) _ lent_exact λ _.
      exact_append (Applies c) (checks forest) _ forest_exact λ _. late_exact

-- ---- the call's answer

rest : ℕ → Out → Answer Written
rest room m = m >>= measured room

pub root_limited : (forest : List ℕ) → Limited (sizes (trees_of forest)) (interning forest)
unfolding intern_last ◌>>=◌
root_limited forest = go (intern_forest (trees_of forest)) (forest_limited (trees_of forest))
  where
    go : (m : Outs) → Limited (sizes (trees_of forest)) m → Limited (sizes (trees_of forest)) (intern_last m)
    go (refused n p) h = h
    go (good os) h = tt

-- where no tree is defined, no check of it fails
none_silent : (n p : ℕ) (cs : List (ℕ × (ℕ × State → Option ℕ))) → FirstAt n p (map (λ c. (c.0, None)) cs) → ⊥
none_silent n p [] f = f
none_silent n p (c ∷ cs) (inl f) = none_some f.1
none_silent n p (c ∷ cs) (inr f) = none_silent n p cs f.1

-- the checks from interning on
module _ (room : ℕ) where
  rest-first : (m : Out) (n p : ℕ) → FirstAt n p (late room m) → rest room m ≡ refused n p
  unfolding rest ◌>>=◌ measured
  rest-first (good o) n p (inl f) = none_some f.1
  rest-first (good o) n p (inr (e, inl f)) = none_some f.1
  rest-first (good o) n p (inr (e, inr (g, f))) = first-checked n p _ (written_of o) f
  rest-first (refused m q) n p f = go f
    where
      same : (k : ℕ) → k ≡ n → refused_at k (refused m q) ≡ Some p → ◌≡◌ {A = Answer Written} (refused m q) (refused n p)
      same k e f = let w = refused_parts ((refused_at_lem k (refused m q) p).0 f) in cc

      go : FirstAt n p (late room (refused m q)) → ◌≡◌ {A = Answer Written} (refused m q) (refused n p)
      go (inl f) = same 11 f.0 f.1
      go (inr (e, inl f)) = same 12 f.0 f.1
      go (inr (e, inr (g, f))) = absurd (none_silent n p (tree_checks room) f)

  rest_passes : (end : ℕ) (m : Out) → Limited end m → Passes (late room m) →
      (o : ℕ × State) × (m ≡ good o) × (rest room m ≡ good (written_of o))
  unfolding rest ◌>>=◌ measured
  rest_passes end (good o) h w = (o, refl, passes_checked _ (written_of o) w.1.1)
  rest_passes end (refused m q) (inl e, l) w =
      none_some (sym w.0 ∙ (refused_at_lem 11 (refused m q) q).1 (ap (λ (k : ℕ). refused k q) e))
  rest_passes end (refused m q) (inr e, l) w =
      none_some (sym w.1.0 ∙ (refused_at_lem 12 (refused m q) q).1 (ap (λ (k : ℕ). refused k q) e))

module _ (c : Call) where
  written_refused : (n p : ℕ) → FirstAt n p (checks c.forest) → written c ≡ refused n p
  unfolding written interned accept ◌>>=◌
  written_refused n p f = rw (first-checked n p (checks c.forest) (trees_of c.forest) f) refl

  written_accepted : Passes (checks c.forest) → written c ≡ rest c.room (interning c.forest)
  unfolding written interned accept ◌>>=◌ rest
  written_accepted h = rw (passes_checked (checks c.forest) (trees_of c.forest) h) refl

  pub call_first : (n p : ℕ) → FirstAt n p (call_checks c) → run c ≡ refused n p
  unfolding run ◌>>=◌
  call_first n p f = lent (first_split n p (lent_checks c) _ f)
    where
      after : FirstAt n p (checks c.forest) ⊎
          (Passes (checks c.forest) × FirstAt n p (late c.room (interning c.forest))) →
          written c ≡ refused n p
      after (inl f) = written_refused n p f
      after (inr w) = written_accepted w.0 ∙ rest-first c.room (interning c.forest) n p w.1

      lent : FirstAt n p (lent_checks c) ⊎ (Passes (lent_checks c) ×
          FirstAt n p (checks c.forest ++ late c.room (interning c.forest))) → run c ≡ refused n p
      lent (inl f) = rw (first-checked n p (lent_checks c) c f) refl
      lent (inr w) =
          rw (passes_checked (lent_checks c) c w.0) (after (first_split n p (checks c.forest) _ w.1))

  pub call_passes : Passes (call_checks c) →
      Passes (checks c.forest) ×
      ((o : ℕ × State) × (interning c.forest ≡ good o) × (run c ≡ good (written_of o)))
  unfolding run ◌>>=◌
  call_passes h =
      let l = passes_split (lent_checks c) (checks c.forest ++ late c.room (interning c.forest)) h in
      let w = passes_split (checks c.forest) (late c.room (interning c.forest)) l.1 in
      let v = rest_passes c.room _ (interning c.forest) (root_limited c.forest) w.1 in
      (w.0, (v.0, v.1, rw (passes_checked (lent_checks c) c l.0) (written_accepted w.0 ∙ v.2)))

-- ---- acceptance

-- an accepted forest is one that no check of acceptance stops
pub passes_accepted : (forest : List ℕ) → Passes (checks forest) → Accepted forest
passes_accepted forest h c e n p i a =
    passes_none (Applies c) (checks c.forest) (forest_exact c) (rw e h) n p
    (rw (accepting c.forest) (is_in_true n acceptance i)) a

pub accepted_passes : (forest : List ℕ) → Accepted forest → Passes (checks forest)
accepted_passes forest h = go (passes_or-first (checks forest))
  where
    go : Passes (checks forest) ⊎ ((n : ℕ) × (p : ℕ) × FirstAt n p (checks forest)) → Passes (checks forest)
    go (inl w) = w
    go (inr (n, p, f)) =
        absurd (h (ample forest) refl n p
        (in_is_in n acceptance (rw (accepting forest) at (first_in n p (checks forest) f)))
        (first_says (Applies (ample forest)) (checks forest)
        (exact_says (Applies (ample forest)) (checks forest) (forest_exact (ample forest))) n p f))

-- the definitions' acceptance is the paper's
pub accepted_exactly : (forest : List ℕ) → (accept forest ≡ good (trees_of forest)) ↔ Accepted forest
unfolding accept
accepted_exactly forest = (
  λ e. passes_accepted forest (checked_good (checks forest) (trees_of forest) (trees_of forest) e).0,
  λ h. passes_checked (checks forest) (trees_of forest) (accepted_passes forest h),
)
