-- The pass commutes with filling: `every_filling`. model's Template says what that is, and is read first.
-- In order: interning; the written tree and its bytes; the checks of the written tree; the numbers; the call; the theorem.
-- Assumes nothing.
use mathlib.Core.Path.{◌≡◌, refl, ap, sym, ◌∙◌, subst}
use mathlib.Core.Logic.{◌⊎◌, inl, inr}
use mathlib.Core.Bool.{Bool, true, false, ◌||◌}
use Rattle.std.specs.Prelude.{Option, None, Some}
use mathlib.Core.List.{List, [], ◌∷◌, ◌++◌}
use Prim.Native.Nat.{ℕ, ◌≤◌}
use native.Mathlib.Omega.{arith}
use lib.Dec.{ltb}
use lib.ListN.{length, length-map}
use borrow.Author.Tests.{le-ltb, ltb-false}
use Rattle.model.specs.Answer.{Answer, refused, good, ◌>>=◌, unless, checked, at0}
use Rattle.model.specs.Tree.{Tree, Trees, nil, cons, many, size, depth, root, rows, rows_of, forest_of, serialise}
use Rattle.model.specs.Forest.{rows_in, trees_of}
use Rattle.model.specs.Binding.{after}
use Rattle.model.specs.Accept.{checks, accept}
use Rattle.model.specs.Unfold.{unfolded}
use Rattle.model.specs.Intern.{State, Out, Outs, intern_last, intern_forest}
use Rattle.model.specs.Call.{Call, Written, check1, lent_checks, interned, tree_of, bytes_of, check13, check14, tree_checks}
use Rattle.model.specs.Call.{written_of, measured, written, run, numbers_of, numbers}
use Rattle.model.specs.Template.{Filling, fill_forest, fill_tree, fill_trees, Template, fill_sym, fill_interned}
use Rattle.model.specs.Template.{fill_written, map_answer, fill_unfolded, definitions, Commutes, BytesFit, CallCommutes}
use Rattle.model.specs.Template.{EveryFilling}
use Rattle.model.specs.TemplateLine.{value_of}
use Rattle.laws.proofs.Apart.{refused_good, good_inj}
use Rattle.laws.proofs.Header.{at0_none}
use Rattle.laws.proofs.Members.{or_neither, neither_or}
use Rattle.laws.proofs.Checks.{checked_good}
use Rattle.theory.specs.Checked.{CheckedIn}
use Rattle.theory.proofs.Acceptance.Checked.{checked-head, checked-tail}
use Rattle.theory.proofs.Acceptance.Accept.{accepted}
use Rattle.theory.proofs.Demand3.Order.{accepted_exactly}
use Rattle.theory.proofs.Templates.Symbols.{fill_kids}
use Rattle.theory.proofs.Templates.Walk.{size_kept, forest_fills}
use Rattle.theory.proofs.Templates.Building.{materialize_fills}
use Rattle.theory.proofs.Templates.Unfolding.{unfolded_fills}
use Rattle.theory.proofs.Templates.Checks.{rows_filled, depth_kept, definitions_kept, filled_trees, forest_filled}
use Rattle.theory.proofs.Templates.Checks.{rows_of_filled, filled_accepted}
use Rattle.theory.proofs.Templates.Values.{trees_valued}

or_none : (a b c : Bool) → b ≡ false → c ≡ false → (a || b || c) ≡ a
or_none true b c e d = refl
or_none false b c e d = neither_or b c e d

checked_maps : {A B : Type 0} (g : A → B) (cs : List (ℕ × Option ℕ)) (a : A) →
    checked cs (g a) ≡ map_answer g (checked cs a)
unfolding checked unless
checked_maps g [] a = refl
checked_maps g (c ∷ cs) a = go c.1 (checked_maps g cs a)
  where
    go : (o : Option ℕ) → checked cs (g a) ≡ map_answer g (checked cs a) →
        unless c.0 o (checked cs (g a)) ≡ map_answer g (unless c.0 o (checked cs a))
    go None h = h
    go (Some p) h = refl

module _ (f : Filling) where
  -- ---- interning

  last_filled : (m : Outs) → intern_last (map_answer (fill_kids f) m) ≡ map_answer (fill_interned f) (intern_last m)
  unfolding intern_last ◌>>=◌
  last_filled (refused n p) = refl
  last_filled (good os) = refl

  root_filled : (ts : Trees) → 1 ≤ many ts → root (fill_trees f ts) ≡ fill_tree f (root ts)
  unfolding root many
  root_filled nil l = absurd (omega arith)
  root_filled (cons t nil) l = refl
  root_filled (cons t (cons u ts)) l = root_filled (cons u ts) (omega arith)

  root_unfolds : (ts : Trees) (ids : List ℕ) → 1 ≤ many ts → CheckedIn ts false ids →
      unfolded (fill_tree f (root ts)) ≡ fill_unfolded f (unfolded (root ts))
  unfolding root many
  root_unfolds nil ids l c = absurd (omega arith)
  root_unfolds (cons t nil) ids l c = unfolded_fills f t false ids (checked-head t nil false ids c)
  root_unfolds (cons t (cons u ts)) ids l c =
      root_unfolds (cons u ts) (after t ++ ids) (omega arith) (checked-tail t (cons u ts) false ids c)

  -- ---- the written tree and its bytes

  tree_filled : (o : ℕ × State) → tree_of (fill_interned f o) ≡ fill_tree f (tree_of o)
  unfolding tree_of
  tree_filled o = materialize_fills f o.1.syms o.1.scopes o.0

  serialised : (t : Tree) → serialise (cons (fill_tree f t) nil) ≡ fill_forest f (serialise (cons t nil))
  unfolding serialise many
  serialised t =
      ap (forest_of 1) (rows_of_filled f (cons t nil)) ∙ sym (forest_filled f 1 (rows_of (cons t nil)))

  bytes_filled : (o : ℕ × State) → bytes_of (fill_interned f o) ≡ fill_forest f (bytes_of o)
  unfolding bytes_of
  bytes_filled o = ap (λ (t : Tree). serialise (cons t nil)) (tree_filled o) ∙ serialised (tree_of o)

  written_filled : (o : ℕ × State) → written_of (fill_interned f o) ≡ fill_written f (written_of o)
  unfolding written_of
  written_filled o = λ i. record {
    tree = tree_filled o i;
    bytes = bytes_filled o i;
    symbols = length-map o.1.syms (fill_sym f) i;
    readings = o.1.readings;
  }

  -- ---- the checks of the written tree

  -- 13, where the bytes fit, is by the number of records
  by_records : (room : ℕ) (o : ℕ × State) → BytesFit room (bytes_of o) → check13 room o ≡ at0 (ltb 256 (size (tree_of o)))
  unfolding check13
  by_records room o h =
      ap at0 (or_none (ltb 256 (size (tree_of o))) _ _ (le-ltb 65535 (length (bytes_of o)) h.short)
      (le-ltb room (length (bytes_of o)) h.fits_in))

  passed-fits : (room : ℕ) (o : ℕ × State) → check13 room o ≡ None → BytesFit room (bytes_of o)
  unfolding check13
  passed-fits room o e =
      let a = or_neither (ltb 256 (size (tree_of o)) || ltb 65535 (length (bytes_of o))) _ (at0_none _ e) in
      let b = or_neither (ltb 256 (size (tree_of o))) _ a.0 in
      record { short = ltb-false 65535 _ b.1; fits_in = ltb-false room _ a.1 }

  check_14_kept : (o : ℕ × State) → check14 (fill_interned f o) ≡ check14 o
  unfolding check14
  check_14_kept o = ap (λ (n : ℕ). at0 (ltb 64 n)) (ap depth (tree_filled o) ∙ depth_kept f (tree_of o))

  check_13_kept : (room more : ℕ) (o : ℕ × State) → BytesFit room (bytes_of o) → BytesFit more (fill_forest f (bytes_of o)) →
      check13 more (fill_interned f o) ≡ check13 room o
  check_13_kept room more o h k =
      by_records more (fill_interned f o) (subst (BytesFit more) (sym (bytes_filled o)) k)
      ∙ (ap (λ (n : ℕ). at0 (ltb 256 n)) (ap size (tree_filled o) ∙ size_kept f (tree_of o))
      ∙ sym (by_records room o h))

  measured_filled : (room more : ℕ) (o : ℕ × State) → BytesFit room (bytes_of o) → BytesFit more (fill_forest f (bytes_of o)) →
      measured more (fill_interned f o) ≡ map_answer (fill_written f) (measured room o)
  unfolding measured tree_checks
  measured_filled room more o h k =
      rw (check_13_kept room more o h k, check_14_kept o, written_filled o)
      (checked_maps (fill_written f) ((13, check13 room o) ∷ (14, check14 o) ∷ []) (written_of o))

  -- ---- the numbers

  -- one answer is 13, or they have the same number and place
  abbrev Alike : Answer Written → Answer Written → Type 0
  Alike a a' =
      ((numbers_of a).number ≡ 13) ⊎ ((numbers_of a').number ≡ 13) ⊎
      (((numbers_of a').number ≡ (numbers_of a).number) × ((numbers_of a').place ≡ (numbers_of a).place))

  filled_alike : (a : Answer Written) → Alike a (map_answer (fill_written f) a)
  unfolding numbers_of
  filled_alike (refused n p) = inr (inr (refl, refl))
  filled_alike (good w) = inr (inr (refl, refl))

  measured_alike : (room more : ℕ) (o : ℕ × State) → Alike (measured room o) (measured more (fill_interned f o))
  unfolding measured tree_checks checked unless numbers_of
  measured_alike room more o = go (check13 room o) (check13 more (fill_interned f o))
    where
      by : ℕ × State → Option ℕ → Answer Written
      by x e = checked ((13, e) ∷ (14, check14 x) ∷ []) (written_of x)

      deep : List (ℕ × Option ℕ)
      deep = (14, check14 o) ∷ []

      go : (x y : Option ℕ) → Alike (by o x) (by (fill_interned f o) y)
      go (Some p) y = inl refl
      go None (Some p) = inr (inl refl)
      go None None =
          rw (check_14_kept o, written_filled o)
          (subst (Alike (checked deep (written_of o))) (sym (checked_maps (fill_written f) deep (written_of o)))
          (filled_alike (checked deep (written_of o))))

  rest_alike : (room more : ℕ) (m : Out) →
      Alike (m >>= measured room) (map_answer (fill_interned f) m >>= measured more)
  unfolding ◌>>=◌ numbers_of
  rest_alike room more (refused n p) = inr (inr (refl, refl))
  rest_alike room more (good o) = measured_alike room more o

  -- ---- the call

  rest_filled : (room more : ℕ) (m : Out) →
      ((o : ℕ × State) → m ≡ good o → BytesFit room (bytes_of o) × BytesFit more (fill_forest f (bytes_of o))) →
      (map_answer (fill_interned f) m >>= measured more) ≡ map_answer (fill_written f) (m >>= measured room)
  unfolding ◌>>=◌
  rest_filled room more (refused n p) h = refl
  rest_filled room more (good o) h = let w = h o refl in measured_filled room more o w.0 w.1

  -- what a call that gives 0 has interned and written
  rest_good : (room : ℕ) (m : Out) (w : Written) → (m >>= measured room) ≡ good w → (o : ℕ × State) → m ≡ good o →
      BytesFit room (bytes_of o) × (bytes_of o ≡ w.bytes)
  unfolding ◌>>=◌ measured tree_checks written_of
  rest_good room (refused n p) w e o d = refused_good e
  rest_good room (good x) w e o d =
      let c = checked_good ((13, check13 room x) ∷ (14, check14 x) ∷ []) (written_of x) w e in
      subst (λ (z : ℕ × State). BytesFit room (bytes_of z) × (bytes_of z ≡ w.bytes)) (good_inj d)
      (passed-fits room x c.0.0, ap (λ (z : Written). z.bytes) c.1)

  module _ (c c' : Call) (lent : c'.words ≡ c.words)
      (interns : interned c'.forest ≡ map_answer (fill_interned f) (interned c.forest)) where
    abbrev BothFit : Type 0
    BothFit =
        (o : ℕ × State) → interned c.forest ≡ good o →
        BytesFit c.room (bytes_of o) × BytesFit c'.room (fill_forest f (bytes_of o))

    run_filled : BothFit → run c' ≡ map_answer (fill_written f) (run c)
    unfolding run lent_checks checked unless ◌>>=◌ written
    run_filled h = ap (λ (n : ℕ). by c' (check1 n)) lent ∙ go (check1 c.words)
      where
        by : Call → Option ℕ → Answer Written
        by x e = checked ((1, e) ∷ []) x >>= written

        go : (e : Option ℕ) → by c' e ≡ map_answer (fill_written f) (by c e)
        go None =
            ap (λ (m : Out). m >>= measured c'.room) interns
            ∙ rest_filled c.room c'.room (interned c.forest) h
        go (Some p) = refl

    zero-fits : (w : Written) → run c ≡ good w → BytesFit c'.room (fill_forest f w.bytes) → BothFit
    unfolding run lent_checks checked unless ◌>>=◌ written
    zero-fits w e k o d = go (check1 c.words) e
      where
        go : (x : Option ℕ) → (checked ((1, x) ∷ []) c >>= written) ≡ good w →
            BytesFit c.room (bytes_of o) × BytesFit c'.room (fill_forest f (bytes_of o))
        go None e =
            let z = rest_good c.room (interned c.forest) w e o d in
            (z.0, subst (λ (bs : List ℕ). BytesFit c'.room (fill_forest f bs)) (sym z.1) k)
        go (Some p) e = refused_good e

    numbers_alike : Alike (run c) (run c')
    unfolding run lent_checks checked unless ◌>>=◌ written numbers_of
    numbers_alike = subst (λ (n : ℕ). Alike (by c (check1 c.words)) (by c' (check1 n))) (sym lent) (go (check1 c.words))
      where
        by : Call → Option ℕ → Answer Written
        by x e = checked ((1, e) ∷ []) x >>= written

        go : (e : Option ℕ) → Alike (by c e) (by c' e)
        go None =
            subst (λ (m : Out). Alike (interned c.forest >>= measured c.room) (m >>= measured c'.room))
            (sym interns) (rest_alike c.room c'.room (interned c.forest))
        go (Some p) = inr (inr (refl, refl))

    only_13 : ((numbers c).number ≡ 13) ⊎ ((numbers c').number ≡ 13) ⊎
        (((numbers c').number ≡ (numbers c).number) × ((numbers c').place ≡ (numbers c).place))
    unfolding numbers
    only_13 = numbers_alike

    call_commutes : CallCommutes f c c'
    call_commutes = record {
      writes = λ w e k. run_filled (zero-fits w e k) ∙ ap (map_answer (fill_written f)) e;
      only_13 = only_13;
      by_bytes = run_filled;
    }

  -- ---- the theorem

  module _ (forest : List ℕ) (h : Template forest) (short : length (fill_forest f forest) ≤ 65535) where
    abbrev ts : Trees
    ts = trees_of forest

    reads : accept forest ≡ good ts
    reads = (accepted_exactly forest).1 h.accepted

    filled_reads : accept (fill_forest f forest) ≡ good (fill_trees f ts)
    unfolding accept
    filled_reads = filled_accepted f forest (checked_good (checks forest) ts ts reads).0 short

    interning_filled : interned (fill_forest f forest) ≡ map_answer (fill_interned f) (interned forest)
    unfolding interned ◌>>=◌
    interning_filled =
        rw (filled_reads, reads)
        (ap intern_last (forest_fills f (λ a. value_of a (rows_in forest)) ts (trees_valued forest h))
        ∙ last_filled (intern_forest ts))

    commutes : Commutes f forest
    commutes =
        let a = accepted forest ts reads in
        record {
          accepted = (accepted_exactly (fill_forest f forest)).0 (filled_reads ∙ ap good (sym (filled_trees f forest)));
          reads = filled_trees f forest;
          means =
              ap (λ (z : Trees). unfolded (root z)) (filled_trees f forest)
              ∙ (ap unfolded (root_filled ts a.1) ∙ root_unfolds ts [] a.1 a.0);
          interns = interning_filled;
          tree = tree_filled;
          records = λ o. ap rows (tree_filled o) ∙ rows_filled f (tree_of o);
          same_definitions = λ o. ap definitions (ap rows (tree_filled o) ∙ rows_filled f (tree_of o))
              ∙ definitions_kept f (rows (tree_of o));
          bytes = bytes_filled;
        }

pub every_filling : EveryFilling
every_filling f forest h short = (
  commutes f forest h short,
  λ c c' e e' lent. call_commutes f c c' lent
      (ap interned e' ∙ (interning_filled f forest h short ∙ ap (λ (z : List ℕ). map_answer (fill_interned f) (interned z)) (sym e))),
)
