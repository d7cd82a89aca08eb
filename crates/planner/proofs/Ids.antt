-- The ids of symbols in words. In order: ids given one after the other; no ids; one id more; a
-- lambda's arguments numbered.
-- Assumes nothing.
use Prim.Native.Nat.{ℕ, zero, suc, ◌+◌, ◌-◌, ◌≤◌, ◌<◌}
use mathlib.Core.Path.{◌≡◌, refl, sym, ap, ◌∙◌}
use mathlib.Core.Bool.{Bool, true, false}
use Rattle.std.specs.Prelude.{Some}
use mathlib.Core.List.{List, [], ◌∷◌}
use native.Mathlib.Omega.{arith}
use native.Mathlib.Numerals.{add-one}
use lib.Dec.{eqb, ltb}
use lib.ListN.{length, get_or, set, replicate}
use lib.Seq.{sets, get_or-set_same, get_or-set_other}
use borrow.Author.Tests.{eqb-true, eqb-false, ltb-true, ltb-false}
use Rattle.model.specs.Intern.{Env, with_opts}
use Rattle.model.specs.Materialize.{id_given, arg_env}
use Rattle.laws.specs.Range.{range}
use Rattle.laws.specs.ArgLists.{ArgList}
use Rattle.laws.proofs.Ranges.{range_length, range-more, range_at}
use Rattle.laws.proofs.Numbering.{given_new, given_before, given-after}
use Rattle.laws.proofs.Runs.{sets_run, sets_before, sets_after, sets_more}
use Rattle.planner.specs.Building.{id_in, Maps}

-- ---- ids given one after the other

pub number_more : (map₀ map : List ℕ) (first last j id : ℕ) → map ≡ sets map₀ first (range (last + 1) j)
    → id ≡ last + 1 + j → set map (first + j) id ≡ sets map₀ first (range (last + 1) (j + 1))
number_more map₀ map first last j id e f =
    let l = range_length (last + 1) j in
    rw (e, f, add-one j, range-more (last + 1) j, sets_more (range (last + 1) j) map₀ first (last + 1 + j), l)

-- ---- no ids

pub replicate-zero : (n s : ℕ) → ◌≡◌ {A = ℕ} (get_or (replicate n 0) s 0) 0
replicate-zero zero zero = refl
replicate-zero zero (suc s) = refl
replicate-zero (suc n) zero = refl
replicate-zero (suc n) (suc s) = replicate-zero n s

pub maps_none : Maps (replicate 512 0) []
unfolding id_given
maps_none = record { is = λ s l. sym (ap id_in (replicate-zero 512 s)) }

-- ---- one id more

pub maps_more : (ids : List ℕ) (env : Env) (s last : ℕ) → Maps ids env → s < length ids
    → Maps (set ids s (last + 1)) ((s, suc last) ∷ env)
unfolding id_given
maps_more ids env s last h l = record { is = λ t few. go t few (eqb s t) refl }
  where
    go : (t : ℕ) → t < 512 → (b : Bool) → eqb s t ≡ b
        → elim b [ true ↦ Some (suc last) | false ↦ id_given env t ] ≡ id_in (get_or (set ids s (last + 1)) t 0)
    go t few true e =
        let f = eqb-true s t e in
        rw (← f, get_or-set_same ids s (last + 1) 0 l, add-one last)
    go t few false e = rw (get_or-set_other ids s t (last + 1) 0 (λ f. eqb-false s t e (sym f))) (h.is t few)

-- ---- a lambda's arguments

pub maps_args : (ids : List ℕ) (env : Env) (first n last : ℕ) (xs : ArgList) → length xs ≡ n → Maps ids env
    → (0 < n → first + n ≤ length ids)
    → Maps (sets ids first (range (last + 1) n)) (arg_env last (with_opts xs (range first n)) env)
maps_args ids env first n last xs count h fit =
    record { is = λ s few. go s few (ltb s first) (ltb s (first + n)) refl refl }
  where
    r : List ℕ
    r = range (last + 1) n

    len : length r ≡ n
    len = range_length (last + 1) n

    go : (s : ℕ) → s < 512 → (a b : Bool) → ltb s first ≡ a → ltb s (first + n) ≡ b
        → id_given (arg_env last (with_opts xs (range first n)) env) s ≡ id_in (get_or (sets ids first r) s 0)
    go s few true b p q =
        let l = ltb-true s first p in
        given_before first n xs count env last s l ∙ (h.is s few ∙ ap id_in (sym (sets_before r ids first s l)))
    go s few false true p q =
        let lo = ltb-false s first p in
        let hi = ltb-true s (first + n) q in
        let room = fit (omega arith) in
        let e : first + (s - first) ≡ s = omega arith in
        let v : get_or (sets ids first r) s 0 ≡ suc (last + (s - first)) =
        ap (λ (k : ℕ). get_or (sets ids first r) k 0) (sym e)
        ∙ (sets_run r ids first (s - first) (omega (arith, len)) (omega (arith, len))
        ∙ (range_at (last + 1) n (s - first) (omega arith) ∙ omega arith)) in
        given_new first n xs count env last s lo hi ∙ rw v (ap Some (omega arith))
    go s few false false p q =
        let hi = ltb-false s (first + n) q in
        given-after first n xs count env last s hi
        ∙ (h.is s few ∙ ap id_in (sym (sets_after r ids first s (omega (arith, len)))))
