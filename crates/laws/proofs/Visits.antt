-- A visit that begins where all that is reached from what was seen has been seen: it adds what a visit from the same
-- symbol holds that begins with nothing seen, less what was seen, in the same order (`visit_past`).
--
-- In order: a step for each of a list; lists without what was seen; visits that close; visits from there.
-- Assumes nothing.
use mathlib.Core.Path.{◌≡◌, refl, sym, ap, ◌∙◌}
use mathlib.Core.Logic.{◌⊎◌, inl, inr}
use mathlib.Core.Bool.{Bool, true, false}
use mathlib.Core.List.{List, [], ◌∷◌, ◌++◌, append_assoc, append-nil}
use Prim.Native.Nat.{ℕ, ◌<◌}
use Rattle.model.specs.Lists.{is_in, without}
use Rattle.model.specs.Schedule.{each, visit}
use Rattle.laws.proofs.Induction.{strong}
use Rattle.laws.specs.Members.{In, Every}
use Rattle.laws.proofs.Members.{is_in_true, is_in_false, in_is_in, not_in_is_in, in_left, in_right, in_either}
use Rattle.laws.proofs.Members.{without_keeps, without_cases}
use Rattle.laws.proofs.Falls.{Falls}
use Rattle.laws.proofs.Orders.{visited, visit_opens}

-- ---- a step for each of a list

-- what each step keeps
each_holds : (Q : List ℕ → Type 0) (f : ℕ → List ℕ → List ℕ) (ds out : List ℕ) →
    Every (λ d. (o : List ℕ) → Q o → Q (f d o)) ds → Q out → Q (each f ds out)
unfolding each
each_holds Q f [] out h q = q
each_holds Q f (d ∷ ds) out h q = each_holds Q f ds (f d out) (λ x i. h x (inr i)) (h d (inl refl) out q)

-- what each step goes through
pub each_through : (t : List ℕ → List ℕ) (f : ℕ → List ℕ → List ℕ) (ds out : List ℕ) →
    Every (λ d. (o : List ℕ) → f d (t o) ≡ t (f d o)) ds → each f ds (t out) ≡ t (each f ds out)
unfolding each
each_through t f [] out h = refl
each_through t f (d ∷ ds) out h =
    ap (each f ds) (h d (inl refl) out) ∙ each_through t f ds (f d out) (λ x i. h x (inr i))

-- ---- lists without what was seen

without_join : (xs ys seen : List ℕ) → without (xs ++ ys) seen ≡ without xs seen ++ without ys seen
unfolding without
without_join [] ys seen = refl
without_join (x ∷ xs) ys seen = go (is_in x seen) (without_join xs ys seen)
  where
    go : (b : Bool) → without (xs ++ ys) seen ≡ without xs seen ++ without ys seen →
        ◌≡◌ {A = List ℕ} (elim b [ true ↦ without (xs ++ ys) seen | false ↦ x ∷ without (xs ++ ys) seen ])
        (elim b [ true ↦ without xs seen | false ↦ x ∷ without xs seen ] ++ without ys seen)
    go true e = e
    go false e = ap (λ (l : List ℕ). x ∷ l) e

-- one more that was seen, and one that was not
without_seen : (xs : List ℕ) (s : ℕ) (seen : List ℕ) → In s seen → without (xs ++ (s ∷ [])) seen ≡ without xs seen
unfolding without
without_seen xs s seen i = without_join xs (s ∷ []) seen ∙ rw (in_is_in s seen i, without) (append-nil (without xs seen))

without_new : (xs : List ℕ) (s : ℕ) (seen : List ℕ) → (In s seen → ⊥) →
    without (xs ++ (s ∷ [])) seen ≡ without xs seen ++ (s ∷ [])
unfolding without
without_new xs s seen h = without_join xs (s ∷ []) seen ∙ rw (not_in_is_in s seen h, without)

-- what was seen, and what comes besides
abbrev pub past : List ℕ → List ℕ → List ℕ
past seen out = seen ++ without out seen

past_in : (seen out : List ℕ) (s : ℕ) → In s out → is_in s (past seen out) ≡ true
past_in seen out s i = go (is_in s seen) refl
  where
    go : (b : Bool) → is_in s seen ≡ b → is_in s (past seen out) ≡ true
    go true e = in_is_in s (past seen out) (in_left s seen (without out seen) (is_in_true s seen e))
    go false e =
        in_is_in s (past seen out)
        (in_right s seen (without out seen) (without_keeps s out seen i (is_in_false s seen e)))

past_seen : (seen out : List ℕ) (s : ℕ) → In s seen → is_in s (past seen out) ≡ true
past_seen seen out s i = in_is_in s (past seen out) (in_left s seen (without out seen) i)

past_new : (seen out : List ℕ) (s : ℕ) → (In s seen → ⊥) → (In s out → ⊥) → is_in s (past seen out) ≡ false
past_new seen out s h k = not_in_is_in s (past seen out) (λ i. go (in_either s seen (without out seen) i))
  where
    go : In s seen ⊎ In s (without out seen) → ⊥
    go (inl i) = h i
    go (inr i) = k (without_cases s out seen i).0

-- the neighbours of what was seen have been seen
abbrev pub Closed : (ℕ → List ℕ) → List ℕ → Type 0
Closed nb seen = (x : ℕ) → In x seen → Every (λ y. In y seen) (nb x)

module _ (nb : ℕ → List ℕ) (falls : Falls nb) where
  -- a visit opened, by a test whose value is known
  opened : (s : ℕ) (out : List ℕ) (b : Bool) → is_in s out ≡ b → visit nb s out ≡ visited nb s b out
  opened s out b e = visit_opens nb s out (falls s) ∙ ap (λ (z : Bool). visited nb s z out) e

  -- ---- visits that close

  visit_keeps : (x s : ℕ) (out : List ℕ) → In x out → In x (visit nb s out)
  visit_keeps x = strong (λ s. (out : List ℕ) → In x out → In x (visit nb s out)) λ s ih out i.
      go s ih out i (is_in s out) refl
    where
      go : (s : ℕ) → ((d : ℕ) → d < s → (out : List ℕ) → In x out → In x (visit nb d out)) →
          (out : List ℕ) → In x out → (b : Bool) → is_in s out ≡ b → In x (visit nb s out)
      go s ih out i true e = rw (opened s out true e) i
      go s ih out i false e =
          rw (opened s out false e) (in_left x (each (visit nb) (nb s) out) (s ∷ [])
          (each_holds (In x) (visit nb) (nb s) out (λ d k. ih d (falls s d k)) i))

  visit-has : (s : ℕ) (out : List ℕ) → In s (visit nb s out)
  visit-has s out = go (is_in s out) refl
    where
      go : (b : Bool) → is_in s out ≡ b → In s (visit nb s out)
      go true e = rw (opened s out true e) (is_in_true s out e)
      go false e = rw (opened s out false e) (in_right s (each (visit nb) (nb s) out) (s ∷ []) (inl refl))

  each-has : (ds out : List ℕ) → Every (λ d. In d (each (visit nb) ds out)) ds
  unfolding each
  each-has [] out x i = absurd i
  each-has (d ∷ ds) out x (inl e) =
      each_holds (In x) (visit nb) ds (visit nb d out) (λ y k o m. visit_keeps x y o m) (rw e (visit-has d out))
  each-has (d ∷ ds) out x (inr i) = each-has ds (visit nb d out) x i

  pub visit_closed : (s : ℕ) (out : List ℕ) → Closed nb out → Closed nb (visit nb s out)
  visit_closed = strong (λ s. (out : List ℕ) → Closed nb out → Closed nb (visit nb s out)) λ s ih out c.
      go s ih out c (is_in s out) refl
    where
      last : (s : ℕ) (l : List ℕ) → Closed nb l → Every (λ d. In d l) (nb s) → Closed nb (l ++ (s ∷ []))
      last s l c h x i y k = in_left y l (s ∷ []) (old (in_either x l (s ∷ []) i))
        where
          old : In x l ⊎ In x (s ∷ []) → In y l
          old (inl m) = c x m y k
          old (inr (inl e)) = h y (rw e at k)
          old (inr (inr m)) = absurd m

      go : (s : ℕ) → ((d : ℕ) → d < s → (out : List ℕ) → Closed nb out → Closed nb (visit nb d out)) →
          (out : List ℕ) → Closed nb out → (b : Bool) → is_in s out ≡ b → Closed nb (visit nb s out)
      go s ih out c true e = rw (opened s out true e) c
      go s ih out c false e =
          rw (opened s out false e) (last s (each (visit nb) (nb s) out)
          (each_holds (Closed nb) (visit nb) (nb s) out (λ d k. ih d (falls s d k)) c) (each-has (nb s) out))

  -- ---- visits from there

  module _ (seen : List ℕ) (closed : Closed nb seen) where
    -- from what was seen nothing new comes
    visit_seen : (s : ℕ) → In s seen → (out : List ℕ) → without (visit nb s out) seen ≡ without out seen
    visit_seen = strong (λ s. In s seen → (out : List ℕ) → without (visit nb s out) seen ≡ without out seen)
        λ s ih i out. go s ih i out (is_in s out) refl
      where
        go : (s : ℕ) →
            ((d : ℕ) → d < s → In d seen → (out : List ℕ) → without (visit nb d out) seen ≡ without out seen) →
            In s seen → (out : List ℕ) (b : Bool) → is_in s out ≡ b → without (visit nb s out) seen ≡ without out seen
        go s ih i out true e = rw (opened s out true e)
        go s ih i out false e =
            rw (opened s out false e) (without_seen (each (visit nb) (nb s) out) s seen i
            ∙ each_holds (λ o. without o seen ≡ without out seen) (visit nb) (nb s) out
            (λ d k o q. ih d (falls s d k) (closed s i d k) o ∙ q) refl)

    visit_through : (s : ℕ) (out : List ℕ) → visit nb s (past seen out) ≡ past seen (visit nb s out)
    visit_through = strong (λ s. (out : List ℕ) → visit nb s (past seen out) ≡ past seen (visit nb s out))
        λ s ih out. go s ih out (is_in s out) refl (is_in s seen) refl
      where
        go : (s : ℕ) → ((d : ℕ) → d < s → (out : List ℕ) → visit nb d (past seen out) ≡ past seen (visit nb d out)) →
            (out : List ℕ) (b : Bool) → is_in s out ≡ b → (t : Bool) → is_in s seen ≡ t →
            visit nb s (past seen out) ≡ past seen (visit nb s out)
        go s ih out true e t f =
            opened s (past seen out) true (past_in seen out s (is_in_true s out e))
            ∙ ap (past seen) (sym (opened s out true e))
        go s ih out false e true f =
            let i = is_in_true s seen f in
            opened s (past seen out) true (past_seen seen out s i)
            ∙ ap (λ (l : List ℕ). seen ++ l) (sym (visit_seen s i out))
        go s ih out false e false f =
            let new = is_in_false s seen f in
            let l = each (visit nb) (nb s) out in
            opened s (past seen out) false (past_new seen out s new (is_in_false s out e))
            ∙ (ap (λ (o : List ℕ). o ++ (s ∷ []))
            (each_through (past seen) (visit nb) (nb s) out (λ d k. ih d (falls s d k)))
            ∙ (append_assoc seen (without l seen) (s ∷ [])
            ∙ (ap (λ (o : List ℕ). seen ++ o) (sym (without_new l s seen new))
            ∙ ap (past seen) (sym (opened s out false e)))))

    pub visit_past : (s : ℕ) → visit nb s seen ≡ past seen (visit nb s [])
    unfolding without
    visit_past s = ap (visit nb s) (sym (append-nil seen)) ∙ visit_through s []
