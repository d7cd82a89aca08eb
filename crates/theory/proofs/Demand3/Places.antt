-- Each check up to 6 fails exactly where its number's condition holds: `check_2` to `check_6`.
-- In order: tests joined by "or"; records that fail a test; pairs; trees that do not close; the checks.
-- Assumes nothing.
use mathlib.Core.Path.{◌≡◌, refl, ap, sym, ◌∙◌, subst}
use mathlib.Core.Logic.{◌⊎◌, inl, inr, ◌↔◌, ◌≢◌}
use mathlib.Core.Bool.{Bool, true, false, not, ◌&&◌, ◌||◌}
use Rattle.std.specs.Prelude.{None, Some}
use Rattle.std.proofs.lemmas.Option.{same_Some}
use mathlib.Core.List.{List, [], ◌∷◌, map}
use Prim.Native.Nat.{ℕ, zero, suc, ◌+◌, ◌≤◌, ◌<◌}
use native.Mathlib.Omega.{arith}
use lib.Dec.{eqb, leb, ltb}
use lib.ListN.{length, get_or, take}
use borrow.Author.Tests.{eqb-false, ne_eqb, ltb-true, ltb-false, lt-ltb, le-ltb, leb-true, le-leb, not-true}
use Rattle.model.specs.Lists.{first}
use Rattle.model.specs.Answer.{at0}
use Rattle.model.specs.Tree.{Row}
use Rattle.model.specs.Shape.{Pairs, fits, agrees}
use Rattle.model.specs.Forest.{tree_count, record_count, pairs_of, rows_in, body_start, check2, bad_pairs, check3}
use Rattle.model.specs.Forest.{check4, check5, unclosed, check6}
use Rattle.laws.proofs.Apart.{none_some}
use Rattle.laws.proofs.Members.{clash, and_both, both_and}
use Rattle.laws.proofs.Header.{pair_count, row_count}
use Rattle.model.specs.Places.{First, no_record, record_at, children}
use Rattle.model.specs.ShapeRules.{IsRight, ShapeOffends}
use Rattle.model.specs.OpcodeRules.{Together, OpcodeOffends}
use Rattle.model.specs.Conditions.{InRange, HeaderOffends, start_of, PairOffends, DirectoryOffends}
use Rattle.model.specs.Conditions.{TreesOffend, directory_end}
use Rattle.theory.proofs.Demand3.Faulty.{Faulty, first_of, none_faulty}
use Rattle.theory.proofs.Demand3.ShapeRules.{fits_right}
use Rattle.theory.proofs.Demand3.OpcodeRules.{agrees_together}

-- ---- tests

pub or-true : (a b : Bool) → ((a || b) ≡ true) ↔ ((a ≡ true) ⊎ (b ≡ true))
or-true true b = (λ e. inl refl, λ h. refl)
or-true false b = (λ e. inr e, back)
  where
    back : (false ≡ true) ⊎ (b ≡ true) → b ≡ true
    back (inl e) = absurd (clash false e refl)
    back (inr e) = e

pub less : (a b : ℕ) → (ltb a b ≡ true) ↔ (a < b)
less a b = (ltb-true a b, lt-ltb a b)

pub at_0 : (b : Bool) (p : ℕ) → (at0 b ≡ Some p) ↔ ((p ≡ 0) × (b ≡ true))
at_0 true p = (λ e. (cc, refl), λ h. ap Some (sym h.0))
at_0 false p = (λ e. none_some e, λ h. absurd (clash false h.1 refl))

-- ---- records that fail a test

faulty_fails : (f : Row → Bool) (P : Row → Type 0) → ((r : Row) → (f r ≡ true) ↔ P r) → (rs : List Row) (p : ℕ) →
    Faulty (map (λ r. not (f r)) rs) p ↔ ((p < length rs) × (P (get_or rs p no_record) → ⊥))
faulty_fails f P same [] p = (λ m. absurd (clash false m refl), λ h. absurd (omega (arith, h.0)))
faulty_fails f P same (r ∷ rs) zero = (
  λ m. (omega arith, λ t. clash (f r) ((same r).1 t) (not-true (f r) m)),
  λ h. go (f r) (λ e. h.1 ((same r).0 e)),
)
  where
    go : (b : Bool) → (b ≡ true → ⊥) → not b ≡ true
    go true h = absurd (h refl)
    go false h = refl
faulty_fails f P same (r ∷ rs) (suc p) =
    let w = faulty_fails f P same rs p in
    (λ m. (omega (arith, (w.0 m).0), (w.0 m).1), λ h. w.1 (omega (arith, h.0), h.1))

-- ---- pairs

abbrev pair_at : Pairs → ℕ → ℕ × ℕ
pair_at ps p = get_or ps p (0, 0)

-- where pair p of these has to start, the first at `from`
abbrev start_in : ℕ → Pairs → ℕ → ℕ
start_in from ps zero = from
start_in from ps (suc p) = (pair_at ps p).0 + (pair_at ps p).1

-- what is wrong with a pair that has to start at `from`; `Last` says that it is the last
abbrev Wrong : ℕ → ℕ → Type 0 → ℕ × ℕ → Type 0
Wrong total from Last p = (p.0 ≢ from) ⊎ (p.1 < 5) ⊎ (Last × (p.0 + p.1 ≢ total))

wrong_same : (total a b : ℕ) (K L : Type 0) (p : ℕ × ℕ) → a ≡ b → (K → L) → Wrong total a K p → Wrong total b L p
wrong_same total a b K L p e f (inl h) = inl (λ d. h (d ∙ sym e))
wrong_same total a b K L p e f (inr (inl h)) = inr (inl h)
wrong_same total a b K L p e f (inr (inr h)) = inr (inr (f h.0, h.1))

-- the test of a pair, as check 3 makes it
abbrev pair_test : ℕ → ℕ → Bool → ℕ × ℕ → Bool
pair_test total from last p = not (eqb p.0 from) || ltb p.1 5 || (last && not (eqb (p.0 + p.1) total))

pair_test_lem : (total from : ℕ) (last : Bool) (p : ℕ × ℕ) →
    (pair_test total from last p ≡ true) ↔ Wrong total from (last ≡ true) p
pair_test_lem total from last p = (λ e. go ((or-true _ _).0 e), back)
  where
    differ : (a b : ℕ) → not (eqb a b) ≡ true → a ≢ b
    differ a b e = eqb-false a b (not-true (eqb a b) e)

    start : (not (eqb p.0 from) ≡ true) ⊎ (ltb p.1 5 ≡ true) → Wrong total from (last ≡ true) p
    start (inl e) = inl (differ p.0 from e)
    start (inr e) = inr (inl (ltb-true p.1 5 e))

    go : ((not (eqb p.0 from) || ltb p.1 5) ≡ true) ⊎ ((last && not (eqb (p.0 + p.1) total)) ≡ true) →
        Wrong total from (last ≡ true) p
    go (inl e) = start ((or-true _ _).0 e)
    go (inr e) = let w = and_both last _ e in inr (inr (w.0, differ (p.0 + p.1) total w.1))

    back : Wrong total from (last ≡ true) p → pair_test total from last p ≡ true
    back (inl h) = (or-true _ _).1 (inl ((or-true _ _).1 (inl (ap not (ne_eqb p.0 from h)))))
    back (inr (inl h)) = (or-true _ _).1 (inl ((or-true (not (eqb p.0 from)) _).1 (inr (lt-ltb p.1 5 h))))
    back (inr (inr h)) =
        (or-true (not (eqb p.0 from) || ltb p.1 5) _).1
        (inr (both_and last _ h.0 (ap not (ne_eqb (p.0 + p.1) total h.1))))

-- pair p of these offends
abbrev PairAt : ℕ → ℕ → Pairs → ℕ → Type 0
PairAt total from ps p = (p < length ps) × Wrong total (start_in from ps p) (suc p ≡ length ps) (pair_at ps p)

faulty_pairs : (total from : ℕ) (ps : Pairs) (p : ℕ) → Faulty (bad_pairs total from ps) p ↔ PairAt total from ps p
unfolding bad_pairs
faulty_pairs total from [] p = (λ m. absurd (clash false m refl), λ h. absurd (omega (arith, h.0)))
faulty_pairs total from (q ∷ []) zero =
    let w = pair_test_lem total from true q in (
      λ m. (omega arith, wrong_same total _ _ _ _ q refl (λ e. refl) (w.0 m)),
      λ h. w.1 (wrong_same total _ _ _ _ q refl (λ e. refl) h.1),
    )
faulty_pairs total from (q ∷ r ∷ ps) zero =
    let w = pair_test_lem total from false q in (
      λ m. (omega arith, wrong_same total _ _ _ _ q refl (λ e. absurd (clash false e refl)) (w.0 m)),
      λ h. w.1 (wrong_same total _ _ _ _ q refl (λ e. absurd (omega (arith, e))) h.1),
    )
faulty_pairs total from (q ∷ ps) (suc p) =
    let w = faulty_pairs total (q.0 + q.1) ps p in (
      λ m. let h =
          w.0 m in (omega (arith, h.0), wrong_same total _ _ _ _ (pair_at ps p) (starts p) (λ e. ap suc e) h.1),
      λ h. w.1 (
        omega (arith, h.0),
        wrong_same total _ _ _ _ (pair_at ps p) (sym (starts p)) (λ e. omega (arith, e)) h.1,
      ),
    )
  where
    starts : (p : ℕ) → start_in (q.0 + q.1) ps p ≡ start_in from (q ∷ ps) (suc p)
    starts zero = refl
    starts (suc p) = refl

-- ---- trees that do not close

-- with n trees to come, the first q of these records are all of them
abbrev ClosedBy : ℕ → List Row → ℕ → Type 0
ClosedBy n rs q = n + children (take q rs) ≡ q

abbrev LeftOver : ℕ → List Row → ℕ → Type 0
LeftOver n rs k = (k < length rs) × First (ClosedBy n rs) k

abbrev Lacking : ℕ → List Row → ℕ → Type 0
Lacking n rs k = (k ≡ length rs) × ((q : ℕ) → q ≤ length rs → ClosedBy n rs q → ⊥)

abbrev Unclosed : ℕ → List Row → ℕ → Type 0
Unclosed n rs k = LeftOver n rs k ⊎ Lacking n rs k

unclosed_some : (n at : ℕ) (rs : List Row) (p : ℕ) → unclosed n at rs ≡ Some p →
    (k : ℕ) × (p ≡ at + k) × Unclosed n rs k
unfolding unclosed
unclosed_some zero at [] p e = none_some e
unclosed_some (suc n) at [] p e =
    (0, omega (arith, same_Some _ _ e), inr (refl, λ q l c. omega (arith, l, c)))
unclosed_some zero at (r ∷ rs) p e =
    (0, omega (arith, same_Some _ _ e), inl (omega arith, (refl, λ q l. absurd (omega arith))))
unclosed_some (suc n) at (r ∷ rs) p e =
    let w = unclosed_some (n + r.kids) (suc at) rs p e in (suc w.0, omega (arith, w.1), next w.0 w.2)
  where
    none_lower : (k : ℕ) → ((q : ℕ) → q < k → ClosedBy (n + r.kids) rs q → ⊥) →
        (q : ℕ) → q < suc k → ClosedBy (suc n) (r ∷ rs) q → ⊥
    none_lower k h zero l c = absurd (omega (arith, c))
    none_lower k h (suc q) l c = h q (omega arith) (omega (arith, c))

    next : (k : ℕ) → Unclosed (n + r.kids) rs k → Unclosed (suc n) (r ∷ rs) (suc k)
    next k (inl h) = inl (omega (arith, h.0), (omega (arith, h.1.0), none_lower k h.1.1))
    next k (inr h) =
        inr (
          ap suc h.0,
          λ q l c. none_lower (suc (length rs)) (λ z lz cz. h.1 z (omega arith) cz) q (omega arith) c,
        )

some_unclosed : (n at : ℕ) (rs : List Row) (k : ℕ) → Unclosed n rs k → unclosed n at rs ≡ Some (at + k)
unfolding unclosed
some_unclosed zero at [] k (inl h) = absurd (omega (arith, h.0))
some_unclosed zero at [] k (inr h) = absurd (h.1 0 (omega arith) refl)
some_unclosed (suc n) at [] k (inl h) = absurd (omega (arith, h.0))
some_unclosed (suc n) at [] k (inr h) = ap Some (omega (arith, h.0))
some_unclosed zero at (r ∷ rs) zero h = ap Some (omega arith)
some_unclosed zero at (r ∷ rs) (suc k) (inl h) = absurd (h.1.1 0 (omega arith) refl)
some_unclosed zero at (r ∷ rs) (suc k) (inr h) = absurd (h.1 0 (omega arith) refl)
some_unclosed (suc n) at (r ∷ rs) zero (inl h) = absurd (omega (arith, h.1.0))
some_unclosed (suc n) at (r ∷ rs) zero (inr h) = absurd (omega (arith, h.0))
some_unclosed (suc n) at (r ∷ rs) (suc k) h = some_unclosed (n + r.kids) (suc at) rs k (next h) ∙ ap Some (omega arith)
  where
    next : Unclosed (suc n) (r ∷ rs) (suc k) → Unclosed (n + r.kids) rs k
    next (inl h) =
        inl (omega (arith, h.0), (omega (arith, h.1.0), λ q l c. h.1.1 (suc q) (omega arith) (omega (arith, c))))
    next (inr h) = inr (omega (arith, h.0), λ q l c. h.1 (suc q) (omega arith) (omega (arith, c)))

-- ---- the checks

module _ (forest : List ℕ) where
  pub check_2 : (p : ℕ) → (check2 forest ≡ Some p) ↔ ((p ≡ 0) × HeaderOffends forest)
  unfolding check2
  check_2 p = (
    λ e. let w = (at_0 _ p).0 e in (w.0, to ((or-true _ _).0 w.1)),
    λ h. (at_0 _ p).1 (h.0, back h.1),
  )
    where
      n : ℕ
      n = record_count forest

      range : Bool
      range =
          leb 1 (tree_count forest) && leb (tree_count forest) 16 && leb 1 (record_count forest) && leb
          (record_count forest) 256

      in_range : InRange forest → range ≡ true
      in_range h =
          both_and _ _ (both_and _ _ (both_and _ _ (le-leb _ _ h.0) (le-leb _ _ h.1)) (le-leb _ _ h.2))
          (le-leb _ _ h.3)

      range_in : range ≡ true → InRange forest
      range_in e =
          let a = and_both _ (leb n 256) e in
          let b = and_both _ (leb 1 n) a.0 in
          let c = and_both (leb 1 (tree_count forest)) _ b.0 in
          (leb-true _ _ c.0, leb-true _ _ c.1, leb-true _ _ b.1, leb-true _ _ a.1)

      sized : (ltb (length forest) 4 ≡ true) ⊎ (ltb 65535 (length forest) ≡ true) → HeaderOffends forest
      sized (inl e) = inl (ltb-true _ _ e)
      sized (inr e) = inr (inl (ltb-true _ _ e))

      to : ((ltb (length forest) 4 || ltb 65535 (length forest)) ≡ true) ⊎ (not range ≡ true) → HeaderOffends forest
      to (inl e) = sized ((or-true _ _).0 e)
      to (inr e) = inr (inr (λ h. clash range (in_range h) (not-true range e)))

      out_of : (b : Bool) → range ≡ b → (InRange forest → ⊥) → not b ≡ true
      out_of true e h = absurd (h (range_in e))
      out_of false e h = refl

      back : HeaderOffends forest → (ltb (length forest) 4 || ltb 65535 (length forest) || not range) ≡ true
      back (inl h) = (or-true _ _).1 (inl ((or-true _ _).1 (inl (lt-ltb _ _ h))))
      back (inr (inl h)) = (or-true _ _).1 (inl ((or-true (ltb (length forest) 4) _).1 (inr (lt-ltb _ _ h))))
      back (inr (inr h)) = (or-true (ltb (length forest) 4 || ltb 65535 (length forest)) _).1 (inr (out_of range refl h))

  pub check_3 : (p : ℕ) → (check3 forest ≡ Some p) ↔ DirectoryOffends forest p
  unfolding check3 body_start
  check_3 p = (λ e. to (ltb (length forest) (directory_end forest)) refl e, back)
    where
      tests : List Bool
      tests = bad_pairs (length forest) (directory_end forest) (pairs_of forest)

      starts : (q : ℕ) → start_in (directory_end forest) (pairs_of forest) q ≡ start_of forest q
      starts zero = refl
      starts (suc q) = refl

      same : (q : ℕ) → Faulty tests q ↔ PairOffends forest q
      same q =
          let w = faulty_pairs (length forest) (directory_end forest) (pairs_of forest) q in
          let n = pair_count forest in (
            λ m. let h = w.0 m in (
              omega (arith, h.0, n),
              wrong_same _ _ _ _ _ (pair_at (pairs_of forest) q) (starts q) (λ e. e ∙ n) h.1,
            ),
            λ h. w.1 (
              omega (arith, h.0, n),
              wrong_same _ _ _ _ _ (pair_at (pairs_of forest) q) (sym (starts q)) (λ e. e ∙ sym n) h.1,
            ),
          )

      to : (b : Bool) → ltb (length forest) (directory_end forest) ≡ b →
          elim b [ true ↦ Some 0 | false ↦ first tests ] ≡ Some p → DirectoryOffends forest p
      to true t e = inl (sym (same_Some _ _ e), ltb-true _ _ t)
      to false t e = inr (ltb-false _ _ t, (first_of (PairOffends forest) tests same p).0 e)

      back : DirectoryOffends forest p → check3 forest ≡ Some p
      back (inl h) = rw (lt-ltb _ _ h.1, check3) (ap Some (sym h.0))
      back (inr h) = rw (le-ltb _ _ h.0, check3) ((first_of (PairOffends forest) tests same p).1 h.1)

  pub check_4 : (p : ℕ) → (check4 forest ≡ Some p) ↔ First (ShapeOffends forest) p
  unfolding check4
  check_4 = first_of (ShapeOffends forest) (map (λ r. not (fits r)) (rows_in forest)) λ q.
      rw (← row_count forest) (faulty_fails fits IsRight fits_right (rows_in forest) q)

  -- where it passes, every record is right for its shape
  pub row_right : check4 forest ≡ None → (p : ℕ) → p < record_count forest → IsRight (record_at forest p)
  unfolding check4
  row_right four p l = go (fits (record_at forest p)) refl
    where
      tests : List Bool
      tests = map (λ r. not (fits r)) (rows_in forest)

      go : (b : Bool) → fits (record_at forest p) ≡ b → IsRight (record_at forest p)
      go true e = (fits_right (record_at forest p)).0 e
      go false e =
          absurd (none_faulty tests four p ((faulty_fails fits IsRight fits_right (rows_in forest) p).1
          (omega (arith, row_count forest), λ t. clash _ ((fits_right (record_at forest p)).1 t) e)))

  pub check_5 : (p : ℕ) → (check5 forest ≡ Some p) ↔ First (OpcodeOffends forest) p
  unfolding check5
  check_5 = first_of (OpcodeOffends forest) (map (λ r. not (agrees r.rec)) (rows_in forest)) λ q.
      rw (← row_count forest) (faulty_fails (λ r. agrees r.rec) (λ r. Together r.rec.opcode r.rec.shape)
      (λ r. agrees_together r.rec) (rows_in forest) q)

  pub check_6 : (p : ℕ) → (check6 forest ≡ Some p) ↔ TreesOffend forest p
  unfolding check6
  check_6 p = rw (← row_count forest) (
    λ e. let w = unclosed_some (tree_count forest) 0 (rows_in forest) p e in
        let z : w.0 ≡ p = omega (arith, w.1) in subst (Unclosed (tree_count forest) (rows_in forest)) z w.2,
    λ h. some_unclosed (tree_count forest) 0 (rows_in forest) p h ∙ ap Some (omega arith),
  )
